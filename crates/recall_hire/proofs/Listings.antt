-- What a walk over a level's rows lists.
use Rattle.std.proofs.Common.{◌≡◌, ℕ, ◌+◌, ◌-◌, ◌*◌, ◌^◌, ◌<◌, ◌≤◌, max, true, false, cond, eqb, List, [], ◌∷◌, ◌++◌, map, length, length-append, append-nil, Option, None, refl, sym, ap, subst, ◌∙◌, arith, inl, inr, append_assoc}
use Rattle.std.specs.Prelude.{nat_lt}
use Rattle.std.specs.List.{filter, count_by}
use Rattle.std.proofs.lemmas.Bool.{cases_eq, cases_lt, lt-ltb, le-ltb, eq-eqb, ne_eqb}
use Rattle.std.proofs.lemmas.List.{map-append}
use Rattle.std.proofs.lemmas.List.Elements.{filter-append}
use Rattle.std.proofs.lemmas.List.Sums.{sum_by-cons, sum_by-append, count_by-le-length}
use Rattle.market_types.specs.declared.row.Row.{Row}
use Rattle.market_types.specs.Allotment.{is_just}
use Rattle.market_types.specs.Counts.{Counts}
use Rattle.market_types.specs.Rows.{requests}
use Rattle.market_types.proofs.RowReadings.{requests-cons, requests-append}
use Rattle.wide_rows.specs.Passed.{IsPassed}
use Rattle.recall_hire.specs.declared.rows.Staffing.{Staffing}
use Rattle.recall_hire.specs.declared.sharing.Sharing.{Sharing}
use Rattle.recall_hire.specs.declared.sharing.Sharing.TheVariants.{Carried, Picked}
use Rattle.recall_hire.specs.Staffed.{recall_in, hire_in, above_zero_in, counts_in, imbalances, looks, actives}
use Rattle.recall_hire.specs.Shared.{CanShareAll, IsListed, IsLow, IsOver, IsWalk, row_share, row_carry, staffed, carry_after}
use Rattle.recall_hire.proofs.Shares.{share-below, carry-below, staffed-append, carry-append}

-- a row beside what its arena is allotted and has
abbrev pub at-row : Sharing → List (Option ℕ) → ℕ → Row → Staffing
at-row s seats c x = record { arena = x.arena; allotted = row_share s c x; active = count_by (is_just x.arena) seats }

-- ---- the carry on the way

-- fewer rows can share too, by any carry that is low
pub share-part : (s : Sharing) (c n a b : ℕ) → CanShareAll s c a → b ≤ a → IsLow s n → CanShareAll s n b
share-part (Carried k d) c n a b h less low = (h.0, (h.1.0, (omega (arith, less, h.1.1.0), λ some. omega (arith, some, less, h.1.1.0, low))))
share-part (Picked o w) c n a b h less low = tt

-- a carry is small while it is low
pub carry-bound : (s : Sharing) (c n : ℕ) → CanShareAll s c n → IsLow s c → c < 2 ^ 32
carry-bound (Carried k d) c n h low = omega (arith, h.1.0, low)
carry-bound (Picked o w) c n h low = omega (arith, low)

-- it stays low past a row
low-row : (s : Sharing) (c : ℕ) (x : Row) → CanShareAll s c x.request → IsLow s c → IsLow s (row_carry s c x)
low-row (Carried k d) c x h low =
    elim (cases_eq x.request 0) [
      | inl z ↦ rw (eq-eqb x.request 0 z) low
      | inr m ↦ let some : 0 < d = omega (arith, h.1.1.0, m) in rw (ne_eqb x.request 0 m) (omega arith)
    ]
low-row (Picked o w) c x h low = low

-- and past many
low-after : (s : Sharing) (c : ℕ) (rows : List Row) → CanShareAll s c (requests rows) → IsLow s c → IsLow s (carry_after s c rows)
low-after s c [] h low = low
low-after s c (x ∷ rows) h low =
    let here : IsLow s (row_carry s c x) = low-row s c x (share-part s c c (requests (x ∷ rows)) x.request h (omega (arith, requests-cons x rows)) low) low in
    low-after s (row_carry s c x) rows (share-part s c (row_carry s c x) (requests (x ∷ rows)) (requests rows) h (omega (arith, requests-cons x rows)) here) here

-- ---- the lists

above_zero-append : (count : Staffing → ℕ) (xs ys : List Staffing) → above_zero_in count (xs ++ ys) ≡ above_zero_in count xs ++ above_zero_in count ys
above_zero-append count xs ys =
    let f : Staffing → ℕ × ℕ = λ r. (r.arena, count r) in
    let p : ℕ × ℕ → _ = λ e. nat_lt 0 e.1 in
    ap (filter p) (map-append f xs ys) ∙ filter-append p (map f xs) (map f ys)

pub listed-append : (xs ys : List Staffing) (a b c : Counts) → IsListed xs a b → IsListed ys b c → IsListed (xs ++ ys) a c
listed-append xs ys a b c f g =
    record {
      recalls = g.recalls ∙ ap (λ zs. zs ++ above_zero_in recall_in ys) f.recalls ∙ append_assoc a.recalls (above_zero_in recall_in xs) (above_zero_in recall_in ys)
          ∙ ap (λ zs. a.recalls ++ zs) (sym (above_zero-append recall_in xs ys));
      hires = g.hires ∙ ap (λ zs. zs ++ above_zero_in hire_in ys) f.hires ∙ append_assoc a.hires (above_zero_in hire_in xs) (above_zero_in hire_in ys)
          ∙ ap (λ zs. a.hires ++ zs) (sym (above_zero-append hire_in xs ys));
    }

-- rows of two parts
pub staffed-parts : (s : Sharing) (seats : List (Option ℕ)) (rows l r : List Row) (c n : ℕ) → rows ≡ l ++ r → n ≡ carry_after s c l → staffed s seats c rows ≡ staffed s seats c l ++ staffed s seats n r
staffed-parts s seats rows l r c n e i = ap (staffed s seats c) e ∙ staffed-append s seats c l r ∙ ap (λ k. staffed s seats c l ++ staffed s seats k r) (sym i)

-- where nothing is listed of two lists, nothing is of either
append-none : {A : Type 0} (xs ys : List A) → xs ++ ys ≡ [] → (xs ≡ []) × (ys ≡ [])
append-none [] ys e = (refl, e)
append-none (x ∷ xs) ys e = cc

pub none-listed : (xs ys : List Staffing) → counts_in (xs ++ ys) ≡ record { recalls = []; hires = [] } → (counts_in xs ≡ record { recalls = []; hires = [] }) × (counts_in ys ≡ record { recalls = []; hires = [] })
none-listed xs ys e =
    let recalls = append-none (above_zero_in recall_in xs) (above_zero_in recall_in ys) (sym (above_zero-append recall_in xs ys) ∙ ap (λ (c : Counts). c.recalls) e) in
    let hires = append-none (above_zero_in hire_in xs) (above_zero_in hire_in ys) (sym (above_zero-append hire_in xs ys) ∙ ap (λ (c : Counts). c.hires) e) in
    (cc (recalls.0, hires.0), cc (recalls.1, hires.1))

-- ---- a walk

imbalances-append : (xs ys : List Staffing) → imbalances (xs ++ ys) ≡ imbalances xs + imbalances ys
imbalances-append xs ys =
    let recalls = ap length (above_zero-append recall_in xs ys) ∙ length-append (above_zero_in recall_in xs) (above_zero_in recall_in ys) in
    let hires = ap length (above_zero-append hire_in xs ys) ∙ length-append (above_zero_in hire_in xs) (above_zero_in hire_in ys) in
    omega (arith, recalls, hires)

actives-append : (xs ys : List Staffing) → actives (xs ++ ys) ≡ actives xs + actives ys
actives-append xs ys = sum_by-append (λ (r : Staffing). r.active) xs ys

-- a row is listed once at most
listed-once : (r : Staffing) → imbalances (r ∷ []) ≤ 1
listed-once r =
    elim (cases_lt 0 (recall_in r)) [
      | inl p ↦ rw (lt-ltb 0 (recall_in r) p, le-ltb 0 (hire_in r) (omega arith)) (omega arith)
      | inr p ↦ elim (cases_lt 0 (hire_in r)) [
        | inl q ↦ rw (le-ltb 0 (recall_in r) p, lt-ltb 0 (hire_in r) q) (omega arith)
        | inr q ↦ rw (le-ltb 0 (recall_in r) p, le-ltb 0 (hire_in r) q) (omega arith)
      ]
    ]

-- at most one look for each
looks-once : (u : ℕ) (r : Staffing) → looks u (r ∷ []) ≤ 1
looks-once u r = elim (eqb (r.allotted + u) 0) as (λ b. 0 + cond b 0 1 ≤ 1) [ true ↦ omega arith | false ↦ omega arith ]

-- the looks at two parts
pub looks-append : (u : ℕ) (xs ys : List Staffing) → looks u (xs ++ ys) ≡ looks u xs + looks (u - actives xs) ys
looks-append u [] ys = omega (arith, ap (λ n. looks n ys) (let all : u - 0 ≡ u = omega arith in all))
looks-append u (r ∷ xs) ys =
    let later = looks-append (u - r.active) xs ys in
    let same : u - r.active - actives xs ≡ u - actives (r ∷ xs) = omega (arith, sum_by-cons (λ (s : Staffing). s.active) r xs) in
    omega (arith, later, ap (λ n. looks n ys) same)

-- none where nobody is allotted a worker and all seats are met
looks-nothing : (u : ℕ) (rows : List Staffing) → u ≡ 0 → counts_in rows ≡ record { recalls = []; hires = [] } → actives rows ≡ 0 → looks u rows ≡ 0
looks-nothing u [] met none nobody = refl
looks-nothing u (r ∷ rows) met none nobody =
    let parts = sum_by-cons (λ (s : Staffing). s.active) r rows in
    let both = none-listed (r ∷ []) rows none in
    let hires = ap (λ (k : Counts). length k.hires) both.0 in
    elim (cases_lt 0 (hire_in r)) [
      | inl some ↦ absurd (let one : length (above_zero_in hire_in (r ∷ [])) ≡ 1 = rw (lt-ltb 0 (hire_in r) some) refl in omega (arith, one, hires))
      | inr idle ↦
          let still : r.allotted + u ≡ 0 = omega (arith, idle, met, nobody, parts) in
          rw (eq-eqb (r.allotted + u) 0 still) (omega (arith, looks-nothing (u - r.active) rows (omega (arith, met)) both.1 (omega (arith, nobody, parts))))
    ]

-- rows of which none is listed, and where nobody is placed
pub walk-nothing : (s : Sharing) (seats : List (Option ℕ)) (c after u v : ℕ) (b : Counts) (rows : List Row)
    → counts_in (staffed s seats c rows) ≡ record { recalls = []; hires = [] } → after ≡ carry_after s c rows → actives (staffed s seats c rows) ≡ 0
    → looks u (staffed s seats c rows) ≡ 0 → IsWalk s seats rows c after u u v v b b
walk-nothing s seats c after u v b rows none carry nobody unseen =
    let recalls : above_zero_in recall_in (staffed s seats c rows) ≡ [] = ap (λ (k : Counts). k.recalls) none in
    let hires : above_zero_in hire_in (staffed s seats c rows) ≡ [] = ap (λ (k : Counts). k.hires) none in
    record {
      listed = record {
        recalls = sym (ap (λ xs. b.recalls ++ xs) recalls ∙ append-nil b.recalls);
        hires = sym (ap (λ xs. b.hires ++ xs) hires ∙ append-nil b.hires);
      };
      carried = carry;
      met = omega (arith, nobody);
      looked = omega (arith, ap length recalls, ap length hires);
      met_first = omega (arith, unseen);
      once = omega arith;
    }

-- no rows
pub walk-ends : (s : Sharing) (seats : List (Option ℕ)) (c u v w : ℕ) (b : Counts) (rows : List Row) → rows ≡ [] → w ≡ v → IsWalk s seats rows c c u u v w b b
walk-ends s seats c u v w b rows e same = rw (e, same) (walk-nothing s seats c c u v b [] refl refl refl refl)

-- some rows, and then others
pub walk-append : (s : Sharing) (seats : List (Option ℕ)) (rows l r : List Row) (c n after u t left v w end : ℕ) (b0 b1 b2 : Counts)
    → rows ≡ l ++ r → IsWalk s seats l c n u t v w b0 b1 → IsWalk s seats r n after t left w end b1 b2 → IsWalk s seats rows c after u left v end b0 b2
walk-append s seats rows l r c n after u t left v w end b0 b1 b2 e f g =
    let L : List Staffing = staffed s seats c l in
    let R : List Staffing = staffed s seats n r in
    let parts : staffed s seats c rows ≡ L ++ R = staffed-parts s seats rows l r c n e f.carried in
    record {
      listed = subst (λ xs. IsListed xs b0 b2) (sym parts) (listed-append L R b0 b1 b2 f.listed g.listed);
      carried = g.carried ∙ ap (λ k. carry_after s k r) f.carried ∙ sym (ap (carry_after s c) e ∙ carry-append s c l r);
      met = omega (arith, f.met, g.met, ap actives parts ∙ actives-append L R);
      looked = omega (arith, f.looked, g.looked, ap imbalances parts ∙ imbalances-append L R);
      met_first =
          let left_is : u - actives L ≡ t = omega (arith, f.met) in
          omega (arith, f.met_first, g.met_first, ap (looks u) parts ∙ looks-append u L R, ap (λ n. looks n R) left_is);
      once = omega (arith, f.once, g.once, ap length e ∙ length-append l r);
    }

-- a row that is looked at
pub walk-row : (s : Sharing) (seats : List (Option ℕ)) (x : Row) (c n u t v w : ℕ) (b0 b1 : Counts) → w ≡ v + 1
    → IsListed (staffed s seats c (x ∷ [])) b0 b1 → n ≡ row_carry s c x → u ≡ t + actives (staffed s seats c (x ∷ [])) → IsWalk s seats (x ∷ []) c n u t v w b0 b1
walk-row s seats x c n u t v w b0 b1 counted here carry met =
    record {
      listed = here;
      carried = carry;
      met = met;
      looked = omega (arith, counted, listed-once (at-row s seats c x));
      met_first = omega (arith, counted, looks-once u (at-row s seats c x));
      once = omega (arith, counted);
    }

-- rows have no more seats than there are, each
actives-most : (s : Sharing) (seats : List (Option ℕ)) (c : ℕ) (rows : List Row) → length seats ≤ 255 → actives (staffed s seats c rows) ≤ 255 * length rows
actives-most s seats c [] h = omega arith
actives-most s seats c (x ∷ rows) h =
    omega (
      arith,
      sum_by-cons (λ (r : Staffing). r.active) (at-row s seats c x) (staffed s seats (row_carry s c x) rows),
      count_by-le-length (is_just x.arena) seats,
      actives-most s seats (row_carry s c x) rows h,
    )

pub few_actives : (s : Sharing) (seats : List (Option ℕ)) (c : ℕ) (rows : List Row) (unmet : ℕ) → length seats ≤ 255 → length rows ≤ 1024 → 255 * 1024 ≤ unmet → actives (staffed s seats c rows) ≤ unmet
few_actives s seats c rows unmet h k m = omega (arith, actives-most s seats c rows h)

-- ---- what may be passed over

abbrev IsNothing : Sharing → List (Option ℕ) → ℕ → ℕ → List Row → Type 0
IsNothing s seats c after rows = (counts_in (staffed s seats c rows) ≡ record { recalls = []; hires = [] }) × (after ≡ carry_after s c rows)

-- an arena that is allotted nobody, and has nobody
row-none : (r : Staffing) (l : List Staffing) → r.allotted ≡ 0 → r.active ≡ 0 → counts_in l ≡ record { recalls = []; hires = [] } → counts_in (r ∷ l) ≡ record { recalls = []; hires = [] }
row-none r l a b e = rw (le-ltb 0 (recall_in r) (omega arith), le-ltb 0 (hire_in r) (omega arith)) e

idle-row : (s : Sharing) (seats : List (Option ℕ)) (c after : ℕ) (x : Row) (rows : List Row) → row_share s c x ≡ 0 → actives (staffed s seats c (x ∷ rows)) ≡ 0
    → (actives (staffed s seats (row_carry s c x) rows) ≡ 0 → IsNothing s seats (row_carry s c x) after rows) → IsNothing s seats c after (x ∷ rows)
idle-row s seats c after x rows idle nobody rest =
    let later : List Staffing = staffed s seats (row_carry s c x) rows in
    let here : Staffing = at-row s seats c x in
    let parts : actives (here ∷ later) ≡ here.active + actives later = sum_by-cons (λ (r : Staffing). r.active) here later in
    let none : actives (here ∷ later) ≡ 0 = nobody in
    let more : IsNothing s seats (row_carry s c x) after rows = rest (omega (arith, parts, none)) in
    (row-none here later idle (omega (arith, parts, none)) more.0, more.1)

-- where less than a worker is due to all of them
pub due-below : (k d : ℕ) (seats : List (Option ℕ)) (c after : ℕ) (rows : List Row) → c + k * requests rows < d → after ≡ c + k * requests rows → actives (staffed (Carried k d) seats c rows) ≡ 0 → IsNothing (Carried k d) seats c after rows
due-below k d seats c after [] h e nobody = (refl, omega (arith, e))
due-below k d seats c after (x ∷ rows) h e nobody =
    let q : ℕ = x.request in
    let all : c + k * (q + requests rows) < d = rw (requests-cons x rows) at h in
    let sum : after ≡ c + k * (q + requests rows) = e ∙ ap (λ n. c + k * n) (requests-cons x rows) in
    let here : q * k + c < d = omega (arith, all) in
    let on : row_carry (Carried k d) c x ≡ q * k + c = carry-below q k d c here in
    let rest : actives (staffed (Carried k d) seats (q * k + c) rows) ≡ 0 → IsNothing (Carried k d) seats (q * k + c) after rows =
    due-below k d seats (q * k + c) after rows (omega (arith, all)) (omega (arith, sum)) in
    idle-row (Carried k d) seats c after x rows (share-below q k d c here) nobody
    (subst (λ n. actives (staffed (Carried k d) seats n rows) ≡ 0 → IsNothing (Carried k d) seats n after rows) (sym on) rest)

-- where none of them asks for a worker
pub none-asks : (k d : ℕ) (seats : List (Option ℕ)) (c : ℕ) (rows : List Row) → requests rows ≡ 0 → actives (staffed (Carried k d) seats c rows) ≡ 0 → IsNothing (Carried k d) seats c c rows
none-asks k d seats c [] z nobody = (refl, refl)
none-asks k d seats c (x ∷ rows) z nobody =
    let q : ℕ = x.request in
    let none : q ≡ 0 = omega (arith, requests-cons x rows, z) in
    let idle : row_share (Carried k d) c x ≡ 0 = rw (eq-eqb q 0 none) refl in
    let on : row_carry (Carried k d) c x ≡ c = rw (eq-eqb q 0 none) refl in
    idle-row (Carried k d) seats c c x rows idle nobody
    (subst (λ n. actives (staffed (Carried k d) seats n rows) ≡ 0 → IsNothing (Carried k d) seats n c rows) (sym on) (none-asks k d seats c rows (omega (arith, requests-cons x rows, z))))

-- where no arena is served
pub none-picked : (w : ℕ) (seats : List (Option ℕ)) (c : ℕ) (rows : List Row) → actives (staffed (Picked None w) seats c rows) ≡ 0 → IsNothing (Picked None w) seats c c rows
none-picked w seats c [] nobody = (refl, refl)
none-picked w seats c (x ∷ rows) nobody = idle-row (Picked None w) seats c c x rows refl nobody (none-picked w seats c rows)

-- ---- on the way through rows

-- what a walk has to know of the rows that are left: that they can share, by a carry that is low, and that their seats are yet to be met
pub record IsReady (s : Sharing) (seats : List (Option ℕ)) (rows : List Row) (c u : ℕ) : Type 0 where
  pub shared : CanShareAll s c (requests rows)
  pub low : IsLow s c
  pub unmet : actives (staffed s seats c rows) ≤ u

-- it is so of the first part
pub ready-front : (s : Sharing) (seats : List (Option ℕ)) (rows l r : List Row) (c u : ℕ) → rows ≡ l ++ r → IsReady s seats rows c u → IsReady s seats l c u
ready-front s seats rows l r c u e h =
    let parts : staffed s seats c rows ≡ staffed s seats c l ++ staffed s seats (carry_after s c l) r = staffed-parts s seats rows l r c (carry_after s c l) e refl in
    record {
      shared = share-part s c c (requests rows) (requests l) h.shared (omega (arith, ap requests e ∙ requests-append l r)) h.low;
      low = h.low;
      unmet = omega (arith, h.unmet, ap actives parts ∙ actives-append (staffed s seats c l) (staffed s seats (carry_after s c l) r));
    }

-- and of the rest, once that is walked through
pub ready-after : (s : Sharing) (seats : List (Option ℕ)) (rows l r : List Row) (c n u t : ℕ) → rows ≡ l ++ r → n ≡ carry_after s c l → u ≡ t + actives (staffed s seats c l) → IsReady s seats rows c u → IsReady s seats r n t
ready-after s seats rows l r c n u t e i met h =
    let parts : staffed s seats c rows ≡ staffed s seats c l ++ staffed s seats n r = staffed-parts s seats rows l r c n e i in
    let sums : requests rows ≡ requests l + requests r = ap requests e ∙ requests-append l r in
    let low : IsLow s n = subst (IsLow s) (sym i) (low-after s c l (ready-front s seats rows l r c u e h).shared h.low) in
    record {
      shared = share-part s c n (requests rows) (requests r) h.shared (omega (arith, sums)) low;
      low = low;
      unmet = omega (arith, h.unmet, met, ap actives parts ∙ actives-append (staffed s seats c l) (staffed s seats n r));
    }

abbrev pub ListsNothing : Sharing → List (Option ℕ) → ℕ → List Row → Type 0
ListsNothing s seats c rows = counts_in (staffed s seats c rows) ≡ record { recalls = []; hires = [] }

-- where nothing is listed, nothing is of the first part
pub none-front : (s : Sharing) (seats : List (Option ℕ)) (rows l r : List Row) (c : ℕ) → rows ≡ l ++ r → ListsNothing s seats c rows → ListsNothing s seats c l
none-front s seats rows l r c e none =
    (none-listed (staffed s seats c l) (staffed s seats (carry_after s c l) r) (ap counts_in (sym (staffed-parts s seats rows l r c (carry_after s c l) e refl)) ∙ none)).0

-- nor of the rest
pub none-after : (s : Sharing) (seats : List (Option ℕ)) (rows l r : List Row) (c n : ℕ) → rows ≡ l ++ r → n ≡ carry_after s c l → ListsNothing s seats c rows → ListsNothing s seats n r
none-after s seats rows l r c n e i none =
    (none-listed (staffed s seats c l) (staffed s seats n r) (ap counts_in (sym (staffed-parts s seats rows l r c n e i)) ∙ none)).1

-- ---- past rows that are passed over

-- the rows that are left
module _ (s : Sharing) (seats : List (Option ℕ)) (rows rest : List Row) (c e u : ℕ) (o : IsOver s seats rows rest c e u) where
  over : (v : ℕ) (b : Counts) → IsWalk s seats o.passed c e u u v v b b
  over = o.walked

  pub ready-past : IsReady s seats rows c u → IsReady s seats rest e u
  ready-past h =
      let walked = over 0 (record { recalls = []; hires = [] }) in
      ready-after s seats rows o.passed rest c e u u o.rows_are walked.carried walked.met h

  pub none-past : ListsNothing s seats c rows → ListsNothing s seats e rest
  none-past none = none-after s seats rows o.passed rest c e o.rows_are (over 0 (record { recalls = []; hires = [] })).carried none

  -- with as many visits as rows, at most
  pub walk-past : (after left v w end : ℕ) (b0 b1 : Counts) → v ≤ w → w + length rest ≤ v + length rows → IsWalk s seats rest e after u left w end b0 b1 → IsWalk s seats rows c after u left v end b0 b1
  walk-past after left v w end b0 b1 more once g =
      let none = over v b0 in
      let passed : IsWalk s seats o.passed c e u u v w b0 b0 =
      record { listed = none.listed; carried = none.carried; met = none.met; looked = omega (arith, none.looked, more); met_first = omega (arith, none.met_first, more); once = omega (arith, once, ap length o.rows_are ∙ length-append o.passed rest) } in
      walk-append s seats rows o.passed rest c e after u u left v w end b0 b0 b1 o.rows_are passed g

-- ---- what is passed over, as the code finds it

nothing-over : (s : Sharing) (seats : List (Option ℕ)) (rows passed rest : List Row) (c e u : ℕ) → u ≡ 0 → rows ≡ passed ++ rest → IsNothing s seats c e passed → actives (staffed s seats c passed) ≡ 0 → IsOver s seats rows rest c e u
nothing-over s seats rows passed rest c e u met is none nobody = record {
  passed = passed;
  rows_are = is;
  walked = λ visits lists. walk-nothing s seats c e u visits lists passed none.0 none.1 nobody (looks-nothing u (staffed s seats c passed) met none.0 nobody);
}

due-over : (k d : ℕ) (seats : List (Option ℕ)) (rows rest : List Row) (c e u : ℕ) → u ≡ 0 → IsPassed k (max d 1) rows rest c e → IsReady (Carried k d) seats rows c u → IsOver (Carried k d) seats rows rest c e u
due-over k d seats rows rest c e u met p h =
    let front : IsReady (Carried k d) seats p.passed c u = ready-front (Carried k d) seats rows p.passed rest c u p.rows_are h in
    let nobody : actives (staffed (Carried k d) seats c p.passed) ≡ 0 = omega (arith, met, front.unmet) in
    let low : e < max d 1 = p.below h.low in
    elim (cases_eq (requests p.passed) 0) [
      | inl z ↦
          let same : e ≡ c = p.carried ∙ ap (λ n. c + k * n) z ∙ omega arith in
          nothing-over (Carried k d) seats rows p.passed rest c e u met p.rows_are (subst (λ n. IsNothing (Carried k d) seats c n p.passed) (sym same) (none-asks k d seats c p.passed z nobody)) nobody
      | inr some ↦
          let asked : 0 < d = omega (arith, some, front.shared.1.1.0) in
          nothing-over (Carried k d) seats rows p.passed rest c e u met p.rows_are (due-below k d seats c e p.passed (omega (arith, asked, low, p.carried)) p.carried nobody) nobody
    ]

-- those whom no worker is due to, once all seats are met
pub passed-over : (s : Sharing) (k d : ℕ) (seats : List (Option ℕ)) (rows rest : List Row) (c e u : ℕ) → s ≡ Carried k d → u ≤ 0 → IsPassed k (max d 1) rows rest c e → IsReady s seats rows c u → IsOver s seats rows rest c e u
passed-over s k d seats rows rest c e u is met p = subst (λ t. IsReady t seats rows c u → IsOver t seats rows rest c e u) (sym is) (due-over k d seats rows rest c e u (omega (arith, met)) p)

-- all, where nobody is served
pub all-over : (s : Sharing) (picked : Option ℕ) (w : ℕ) (seats : List (Option ℕ)) (rows : List Row) (c u : ℕ) → s ≡ Picked picked w → picked ≡ None → u ≤ 0 → IsReady s seats rows c u → IsOver s seats rows [] c c u
all-over s picked w seats rows c u is unserved met h =
    let nobody : actives (staffed s seats c rows) ≡ 0 = omega (arith, met, h.unmet) in
    subst (λ t. actives (staffed t seats c rows) ≡ 0 → IsOver t seats rows [] c c u) (sym (is ∙ ap (λ p. Picked p w) unserved))
    (λ idle. nothing-over (Picked None w) seats rows rows [] c c u (omega (arith, met)) (sym (append-nil rows)) (none-picked w seats c rows idle) idle) nobody
