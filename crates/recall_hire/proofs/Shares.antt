-- What rows are allotted where one carry goes through all of them, and what a search among them looks at.
use Rattle.std.proofs.Common.{◌≡◌, ℕ, ◌+◌, ◌-◌, ◌*◌, ◌/◌, ◌%◌, ◌<◌, ◌≤◌, eqb, cond, List, [], ◌∷◌, ◌++◌, Option, Some, None, refl, sym, ap, ◌∙◌, arith, inl, inr}
use Rattle.std.specs.List.{count_by}
use Rattle.std.proofs.Math.Arith.{digits_div, digits_mod}
use Rattle.std.proofs.Math.Nat.{mod-le, div-eq_of_lt, mod-eq_of_lt, lt-div-mul-add, zero-div, zero-mod}
use Rattle.std.proofs.lemmas.Bool.{cases_eq, cases_lt, lt-ltb, le-ltb, eq-eqb, ne_eqb}
use Rattle.market_types.specs.declared.row.Row.{Row}
use Rattle.market_types.specs.Allotment.{is_just}
use Rattle.market_types.specs.Rows.{requests}
use Rattle.market_types.proofs.RowReadings.{requests-cons}
use Rattle.recall_hire.specs.declared.rows.Staffing.{Staffing}
use Rattle.recall_hire.specs.declared.sharing.Sharing.{Sharing}
use Rattle.recall_hire.specs.declared.sharing.Sharing.TheVariants.{Carried}
use Rattle.recall_hire.specs.Staffed.{hire_in, first_in_need, searches}
use Rattle.recall_hire.specs.Shared.{row_share, row_carry, staffed, carry_after}

-- ---- one row

-- less than a worker is due: none is allotted
pub share-below : (q k d c : ℕ) → q * k + c < d → cond (eqb q 0) 0 ((q * k + c) / d) ≡ 0
share-below q k d c h =
    elim (cases_eq q 0) [
      | inl z ↦ rw (eq-eqb q 0 z) refl
      | inr n ↦ rw (ne_eqb q 0 n) (div-eq_of_lt h)
    ]

-- and all of it is carried on
pub carry-below : (q k d c : ℕ) → q * k + c < d → cond (eqb q 0) c ((q * k + c) % d) ≡ q * k + c
carry-below q k d c h =
    elim (cases_eq q 0) [
      | inl z ↦ rw (eq-eqb q 0 z) (let e : c ≡ q * k + c = rw z (omega arith) in e)
      | inr n ↦ rw (ne_eqb q 0 n) (mod-eq_of_lt h)
    ]

-- so many parts are these whole workers
pub whole-is : (n a d : ℕ) → a * d ≤ n → n - a * d < d → a ≡ n / d
whole-is n a d low few = let parts : n ≡ a * d + (n - a * d) = omega arith in sym (ap (λ m. m / d) parts ∙ digits_div a few)

-- and leave this carry
pub rest-is : (n a d : ℕ) → a * d ≤ n → n - a * d < d → n - a * d ≡ n % d
rest-is n a d low few = let parts : n ≡ a * d + (n - a * d) = omega arith in sym (ap (λ m. m % d) parts ∙ digits_mod a few)

-- where a worker is due, and its arena has the whole workers that are: so many are allotted
pub share-kept : (q k d c a : ℕ) → c < d → d ≤ q * k + c → a * d ≤ q * k + c → q * k + c - a * d < d → cond (eqb q 0) 0 ((q * k + c) / d) ≡ a
share-kept q k d c a low due kept few =
    elim (cases_eq q 0) [
      | inl z ↦ let none : d ≤ 0 * k + c = rw z at due in absurd (omega arith)
      | inr n ↦ rw (ne_eqb q 0 n) (sym (whole-is (q * k + c) a d kept few))
    ]

-- and what is left is carried on
pub carry-rest : (q k d c a : ℕ) → c < d → d ≤ q * k + c → a * d ≤ q * k + c → q * k + c - a * d < d → cond (eqb q 0) c ((q * k + c) % d) ≡ q * k + c - a * d
carry-rest q k d c a low due kept few =
    elim (cases_eq q 0) [
      | inl z ↦ let none : d ≤ 0 * k + c = rw z at due in absurd (omega arith)
      | inr n ↦ rw (ne_eqb q 0 n) (sym (rest-is (q * k + c) a d kept few))
    ]

-- ---- two lists

-- the second is staffed by the carry after the first
pub staffed-append : (s : Sharing) (seats : List (Option ℕ)) (c : ℕ) (l m : List Row)
    → staffed s seats c (l ++ m) ≡ staffed s seats c l ++ staffed s seats (carry_after s c l) m
staffed-append s seats c [] m = refl
staffed-append s seats c (x ∷ l) m =
    ap (λ rs. record { arena = x.arena; allotted = row_share s c x; active = count_by (is_just x.arena) seats } ∷ rs) (staffed-append s seats (row_carry s c x) l m)

pub carry-append : (s : Sharing) (c : ℕ) (l m : List Row) → carry_after s c (l ++ m) ≡ carry_after s (carry_after s c l) m
carry-append s c [] m = refl
carry-append s c (x ∷ l) m = carry-append s (row_carry s c x) l m

-- ---- a search

-- nobody in need in the first: it goes on in the second
pub need-later : (l m : List Staffing) → first_in_need l ≡ None → first_in_need (l ++ m) ≡ first_in_need m
need-later [] m e = refl
need-later (r ∷ l) m e =
    elim (cases_lt 0 (hire_in r)) [
      | inl p ↦ let f : Some r.arena ≡ None = rw (lt-ltb 0 (hire_in r) p) at e in cc
      | inr p ↦
          let rest : first_in_need l ≡ None = rw (le-ltb 0 (hire_in r) p) at e in
          rw (le-ltb 0 (hire_in r) p) (need-later l m rest)
    ]

-- somebody: it ends there
pub need-first : (l m : List Staffing) (a : ℕ) → first_in_need l ≡ Some a → first_in_need (l ++ m) ≡ Some a
need-first [] m a e = cc
need-first (r ∷ l) m a e =
    elim (cases_lt 0 (hire_in r)) [
      | inl p ↦ rw (lt-ltb 0 (hire_in r) p) (rw (lt-ltb 0 (hire_in r) p) at e)
      | inr p ↦
          let rest : first_in_need l ≡ Some a = rw (le-ltb 0 (hire_in r) p) at e in
          rw (le-ltb 0 (hire_in r) p) (need-first l m a rest)
    ]

-- so many rows are looked at in both
pub searches-later : (l m : List Staffing) → first_in_need l ≡ None → searches (l ++ m) ≡ searches l + searches m
searches-later [] m e = omega arith
searches-later (r ∷ l) m e =
    elim (cases_lt 0 (hire_in r)) [
      | inl p ↦ let f : Some r.arena ≡ None = rw (lt-ltb 0 (hire_in r) p) at e in cc
      | inr p ↦
          let rest : first_in_need l ≡ None = rw (le-ltb 0 (hire_in r) p) at e in
          elim (cases_eq r.allotted 0) [
            | inl z ↦ rw (eq-eqb r.allotted 0 z) (searches-later l m rest)
            | inr n ↦ rw (ne_eqb r.allotted 0 n, le-ltb 0 (hire_in r) p) (omega (arith, searches-later l m rest))
          ]
    ]

-- or in the first alone
pub searches-first : (l m : List Staffing) (a : ℕ) → first_in_need l ≡ Some a → searches (l ++ m) ≡ searches l
searches-first [] m a e = cc
searches-first (r ∷ l) m a e =
    elim (cases_lt 0 (hire_in r)) [
      | inl p ↦ rw (ne_eqb r.allotted 0 (λ n. absurd (omega arith)), lt-ltb 0 (hire_in r) p) refl
      | inr p ↦
          let rest : first_in_need l ≡ Some a = rw (le-ltb 0 (hire_in r) p) at e in
          elim (cases_eq r.allotted 0) [
            | inl z ↦ rw (eq-eqb r.allotted 0 z) (searches-first l m a rest)
            | inr n ↦ rw (ne_eqb r.allotted 0 n, le-ltb 0 (hire_in r) p) (ap (λ k. k + 1) (searches-first l m a rest))
          ]
    ]

-- a row without a worker is not looked at
need-idle : (r : Staffing) (l : List Staffing) → r.allotted ≡ 0 → first_in_need (r ∷ l) ≡ first_in_need l
need-idle r l z = rw (le-ltb 0 (hire_in r) (omega arith)) refl

searches-idle : (r : Staffing) (l : List Staffing) → r.allotted ≡ 0 → searches (r ∷ l) ≡ searches l
searches-idle r l z = rw (eq-eqb r.allotted 0 z) refl

-- one that has enough is passed by, and counts once if it is allotted some
pub need-enough : (r : Staffing) (l : List Staffing) → r.allotted ≤ r.active → first_in_need (r ∷ l) ≡ first_in_need l
need-enough r l h = rw (le-ltb 0 (hire_in r) (omega arith)) refl

pub searches-enough : (r : Staffing) (l : List Staffing) → r.allotted ≤ r.active → (searches l ≤ searches (r ∷ l)) × (searches (r ∷ l) ≤ searches l + 1)
searches-enough r l h =
    elim (cases_eq r.allotted 0) [
      | inl z ↦ rw (eq-eqb r.allotted 0 z) (omega arith, omega arith)
      | inr n ↦ rw (ne_eqb r.allotted 0 n, le-ltb 0 (hire_in r) (omega arith)) (omega arith, omega arith)
    ]

-- one that has too few ends the search
pub need-lacks : (r : Staffing) (l : List Staffing) → r.active < r.allotted → first_in_need (r ∷ l) ≡ Some r.arena
need-lacks r l h = rw (lt-ltb 0 (hire_in r) (omega arith)) refl

pub searches-lacks : (r : Staffing) (l : List Staffing) → r.active < r.allotted → searches (r ∷ l) ≡ 1
searches-lacks r l h = rw (ne_eqb r.allotted 0 (λ n. absurd (omega arith)), lt-ltb 0 (hire_in r) (omega arith)) refl

searches-some : (r : Staffing) (l : List Staffing) → 0 < r.allotted → 1 ≤ searches (r ∷ l)
searches-some r l h =
    elim (cases_lt 0 (hire_in r)) [
      | inl p ↦ rw (ne_eqb r.allotted 0 (λ n. absurd (omega arith)), lt-ltb 0 (hire_in r) p) (omega arith)
      | inr p ↦ rw (ne_eqb r.allotted 0 (λ n. absurd (omega arith)), le-ltb 0 (hire_in r) p) (omega arith)
    ]

-- ---- rows as a whole

-- a row beside what it is allotted and has
abbrev pub row_at : ℕ → ℕ → List (Option ℕ) → ℕ → Row → Staffing
row_at k d seats c x = record { arena = x.arena; allotted = row_share (Carried k d) c x; active = count_by (is_just x.arena) seats }

-- nobody among them is allotted a worker
pub record AreIdle (k d : ℕ) (seats : List (Option ℕ)) (c : ℕ) (rows : List Row) : Type 0 where
  pub need : first_in_need (staffed (Carried k d) seats c rows) ≡ None
  pub none : searches (staffed (Carried k d) seats c rows) ≡ 0
  pub carry : carry_after (Carried k d) c rows ≡ c + k * requests rows

-- so they are where less than a worker is due to all of them
pub idle : (k d : ℕ) (seats : List (Option ℕ)) (c : ℕ) (rows : List Row) → c + k * requests rows < d → AreIdle k d seats c rows
idle k d seats c [] h = record { need = refl; none = refl; carry = omega arith }
idle k d seats c (x ∷ rows) h =
    let q : ℕ = x.request in
    let all : c + k * (q + requests rows) < d = rw (requests-cons x rows) at h in
    let here : q * k + c < d = omega (arith, all) in
    let rest : AreIdle k d seats (q * k + c) rows = idle k d seats (q * k + c) rows (omega (arith, all)) in
    let on : row_carry (Carried k d) c x ≡ q * k + c = carry-below q k d c here in
    let unserved : row_share (Carried k d) c x ≡ 0 = share-below q k d c here in
    let sums : q * k + c + k * requests rows ≡ c + k * (q + requests rows) = omega arith in
    record {
      need = need-idle (row_at k d seats c x) (staffed (Carried k d) seats (row_carry (Carried k d) c x) rows) unserved ∙ ap (λ n. first_in_need (staffed (Carried k d) seats n rows)) on ∙ rest.need;
      none = searches-idle (row_at k d seats c x) (staffed (Carried k d) seats (row_carry (Carried k d) c x) rows) unserved ∙ ap (λ n. searches (staffed (Carried k d) seats n rows)) on ∙ rest.none;
      carry = ap (λ n. carry_after (Carried k d) n rows) on ∙ rest.carry ∙ sums ∙ ap (λ n. c + k * n) (sym (requests-cons x rows));
    }

-- where a worker is due to them, somebody among them is allotted one
some-share : (q k d c : ℕ) → c < d → d ≤ q * k + c → 0 < cond (eqb q 0) 0 ((q * k + c) / d)
some-share q k d c low h =
    elim (cases_eq q 0) [
      | inl z ↦ let none : d ≤ 0 * k + c = rw z at h in absurd (omega arith)
      | inr n ↦
          let some : q * k + c < (q * k + c) / d * d + d = lt-div-mul-add (omega arith) in
          rw (ne_eqb q 0 n) (elim (cases_eq ((q * k + c) / d) 0) [
            | inl z ↦ let less : q * k + c < 0 * d + d = rw z at some in absurd (omega arith)
            | inr m ↦ omega arith
          ])
    ]

pub looked-at : (k d : ℕ) (seats : List (Option ℕ)) (c : ℕ) (rows : List Row) → c < d → d ≤ c + k * requests rows → 1 ≤ searches (staffed (Carried k d) seats c rows)
looked-at k d seats c [] low h = absurd (omega arith)
looked-at k d seats c (x ∷ rows) low h =
    let q : ℕ = x.request in
    let all : d ≤ c + k * (q + requests rows) = rw (requests-cons x rows) at h in
    let later : List Staffing = staffed (Carried k d) seats (row_carry (Carried k d) c x) rows in
    elim (cases_lt (q * k + c) d) [
      | inl here ↦
          let on : row_carry (Carried k d) c x ≡ q * k + c = carry-below q k d c here in
          let rest : 1 ≤ searches (staffed (Carried k d) seats (q * k + c) rows) = looked-at k d seats (q * k + c) rows here (omega (arith, all)) in
          let same : searches (row_at k d seats c x ∷ later) ≡ searches (staffed (Carried k d) seats (q * k + c) rows) =
          searches-idle (row_at k d seats c x) later (share-below q k d c here) ∙ ap (λ n. searches (staffed (Carried k d) seats n rows)) on in
          omega (arith, same, rest)
      | inr here ↦ searches-some (row_at k d seats c x) later (some-share q k d c low here)
    ]

-- ---- a level that is assigned no worker

idle-share : (q k d : ℕ) → k ≡ 0 → cond (eqb q 0) 0 ((q * k + 0) / d) ≡ 0
idle-share q k d z =
    let none : q * k + 0 ≡ 0 = rw z (omega arith) in
    elim (cases_eq q 0) [
      | inl e ↦ rw (eq-eqb q 0 e) refl
      | inr n ↦ rw (ne_eqb q 0 n) (ap (λ m. m / d) none ∙ zero-div d)
    ]

idle-carry : (q k d : ℕ) → k ≡ 0 → cond (eqb q 0) 0 ((q * k + 0) % d) ≡ 0
idle-carry q k d z =
    let none : q * k + 0 ≡ 0 = rw z (omega arith) in
    elim (cases_eq q 0) [
      | inl e ↦ rw (eq-eqb q 0 e) refl
      | inr n ↦ rw (ne_eqb q 0 n) (ap (λ m. m % d) none ∙ zero-mod d)
    ]

pub nobody-needs : (k d : ℕ) (seats : List (Option ℕ)) (rows : List Row) → k ≡ 0 → first_in_need (staffed (Carried k d) seats 0 rows) ≡ None
nobody-needs k d seats [] z = refl
nobody-needs k d seats (x ∷ rows) z =
    need-idle (row_at k d seats 0 x) (staffed (Carried k d) seats (row_carry (Carried k d) 0 x) rows) (idle-share x.request k d z)
    ∙ ap (λ c. first_in_need (staffed (Carried k d) seats c rows)) (idle-carry x.request k d z) ∙ nobody-needs k d seats rows z

pub nobody-searched : (k d : ℕ) (seats : List (Option ℕ)) (rows : List Row) → k ≡ 0 → searches (staffed (Carried k d) seats 0 rows) ≡ 0
nobody-searched k d seats [] z = refl
nobody-searched k d seats (x ∷ rows) z =
    searches-idle (row_at k d seats 0 x) (staffed (Carried k d) seats (row_carry (Carried k d) 0 x) rows) (idle-share x.request k d z)
    ∙ ap (λ c. searches (staffed (Carried k d) seats c rows)) (idle-carry x.request k d z) ∙ nobody-searched k d seats rows z

-- ---- the carry

-- no more is carried on than was due
pub after-le : (k d c : ℕ) (rows : List Row) → carry_after (Carried k d) c rows ≤ c + k * requests rows
after-le k d c [] = omega arith
after-le k d c (x ∷ rows) = omega (arith, after-le k d (row_carry (Carried k d) c x) rows, row-le, ap (λ n. k * n) (requests-cons x rows))
  where
    row-le : row_carry (Carried k d) c x ≤ x.request * k + c
    row-le = elim (cases_eq x.request 0) [
      | inl z ↦ rw (eq-eqb x.request 0 z) (omega arith)
      | inr n ↦ rw (ne_eqb x.request 0 n) (mod-le (x.request * k + c) d)
    ]
