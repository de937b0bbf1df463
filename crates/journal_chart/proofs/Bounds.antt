-- An arena's allotment is a share of what its level is given, which may be told or covered.
use Rattle.std.specs.Prelude.{◌&&◌, ◌||◌}
use Rattle.std.proofs.Common.{◌≡◌, ℕ, zero, suc, ◌+◌, ◌*◌, ◌/◌, ◌%◌, ◌<◌, ◌≤◌, Bool, true, false, cond, eqb, leb, ltb, List, [], ◌∷◌, ◌++◌, None, Some, refl, sym, ap, ◌∙◌, subst, arith, inl, inr}
use Rattle.std.specs.List.{flat_map, list_any, range_with_len, All}
use Rattle.std.proofs.lemmas.Bool.{cases_Bool}
use Rattle.std.proofs.lemmas.Bool.Decides.{nat_tests}
use Rattle.std.proofs.lemmas.List.Elements.{All-cons, All-head, All-nil, All-tail}
use Rattle.std.proofs.lemmas.List.Sums.{sum_by-cons}
use Rattle.std.proofs.lemmas.Nat.{div-mul-add, mod_below, div_below, le-div}
use Rattle.std.proofs.Math.Nat.{mul_comm}
use Rattle.market_types.specs.State.{Arena, State}
use Rattle.market_types.specs.Claims.{request_of}
use Rattle.market_types.specs.Allotment.{all_to, allotment_of, assigned, at_level, bound_of, carried, carry_after, carry_past, count_at, demand, in_order, levels_of, limit_of, mandatory_pick, share_of, total_request}
use Rattle.std.specs.Bool.{⊤}
use Rattle.market_types.specs.Step.{arena_at}
use Rattle.journal_chart.specs.declared.covered.Covered.{Covered}
use Rattle.journal_chart.specs.Covering.{covers, exactly}

-- ---- a share

-- this is what an arena is allotted that asks for so many workers of a level that is given so many of what it asks for, by some carry
pub record IsShare (request given asked number : ℕ) : Type 0 where
  pub carry : ℕ
  pub less : 0 < request → carry < asked
  pub is : number ≡ cond (eqb request 0) 0 ((request * given + carry) / asked)

-- a level that is given nothing leaves nothing but the carry
nothing-given : (r g d c : ℕ) → eqb g 0 ≡ true → c < d → (r * g + c) / d ≡ 0
nothing-given r g d c none less =
    let zero_ : g ≡ 0 = grind (arith, nat_tests) in
    let sum : r * g + c ≡ 0 * d + c = ap (λ k. r * k + c) zero_ ∙ omega arith in
    ap (λ n. n / d) sum ∙ div-mul-add 0 d c less

-- one that is given all that it asks for gives each arena what it asks for
all-given : (r g d c : ℕ) → eqb g d ≡ true → c < d → (r * g + c) / d ≡ r
all-given r g d c same less =
    let whole : g ≡ d = grind (arith, nat_tests) in
    ap (λ k. (r * k + c) / d) whole ∙ div-mul-add r d c less

asks-some : (r : ℕ) → eqb r 0 ≡ false → 0 < r
asks-some r some = grind (arith, nat_tests)

pub both : (a b : Bool) → (a && b) ≡ true → (a ≡ true) × (b ≡ true)
both true true h = (refl, refl)
both true false h = absurd (cc)
both false b h = absurd (cc)

-- covered numbers are those of the share
covered-none : (from below n : ℕ) → n ≡ 0 → (eqb from 0 && ltb 0 below) ≡ true → (from ≤ n) × (n < below)
covered-none from below n none h =
    let g = both (eqb from 0) (ltb 0 below) h in
    let zero_ : from ≡ 0 = let e = g.0 in grind (arith, nat_tests) in
    let some : 0 < below = let e = g.1 in grind (arith, nat_tests) in
    (omega (arith, none, zero_), omega (arith, none, some))

covered-part : (from below p d c n : ℕ) → c < d → n ≡ (p + c) / d → (leb (from * d) p && leb (p + d) (below * d)) ≡ true → (from ≤ n) × (n < below)
covered-part from below p d c n less is h =
    let g = both (leb (from * d) p) (leb (p + d) (below * d)) h in
    let low : from * d ≤ p = let e = g.0 in grind (arith, nat_tests) in
    let high : p + d ≤ below * d = let e = g.1 in grind (arith, nat_tests) in
    let some : 0 < d = omega (arith, less) in
    let least : from ≤ (p + c) / d = le-div from (p + c) d some (omega (arith, low)) in
    let most : (p + c) / d < below = div_below (p + c) d below some (omega (arith, high, less)) in
    (omega (arith, is, least), omega (arith, is, most))

-- an arena that asks for nobody is allotted nobody
covered-nobody : (from below p d n : ℕ) → n ≡ 0 → p ≡ 0 → 0 < d → (leb (from * d) p && leb (p + d) (below * d)) ≡ true → (from ≤ n) × (n < below)
covered-nobody from below p d n none idle some h =
    let sum : p + 0 ≡ 0 * d + 0 = omega (arith, idle) in
    covered-part from below p d 0 n some (none ∙ sym (ap (λ q. q / d) sum ∙ div-mul-add 0 d 0 some)) h

covered-share-if : (from below r g d c n : ℕ) (idle asks : Bool) → eqb d 0 ≡ idle → eqb r 0 ≡ asks → (0 < r → c < d) → n ≡ cond asks 0 ((r * g + c) / d)
    → cond idle (eqb from 0 && ltb 0 below) (leb (from * d) (r * g) && leb (r * g + d) (below * d)) ≡ true → (from ≤ n) × (n < below)
covered-share-if from below r g d c n true true e none less is h = covered-none from below n is h
covered-share-if from below r g d c n true false e some less is h =
    let zero_ : d ≡ 0 = grind (arith, nat_tests) in
    let within : c < d = less (asks-some r some) in
    absurd (omega (arith, zero_, within))
covered-share-if from below r g d c n false true e none less is h =
    let any : 0 < d = grind (arith, nat_tests) in
    let zero_ : r ≡ 0 = grind (arith, nat_tests) in
    let idle : r * g ≡ 0 = ap (λ k. k * g) zero_ ∙ omega arith in
    covered-nobody from below (r * g) d n is idle any h
covered-share-if from below r g d c n false false e some less is h = covered-part from below (r * g) d c n (less (asks-some r some)) is h

pub covered-share : (k : Covered) (r g d n : ℕ) → IsShare r g d n → covers k r g d ≡ true → (k.from ≤ n) × (n < k.below)
covered-share k r g d n share h = covered-share-if k.from k.below r g d share.carry n (eqb d 0) (eqb r 0) refl refl share.less share.is h

-- an arena that alone asks at its level is given all that the level is
alone-given : (r g d c : ℕ) → eqb r d ≡ true → c < d → (r * g + c) / d ≡ g
alone-given r g d c alone less =
    let same : r ≡ d = grind (arith, nat_tests) in
    let product : r * g ≡ d * g = ap (λ k. k * g) same in
    let turned : d * g ≡ g * d = mul_comm d g in
    let sum : r * g + c ≡ g * d + c = omega (arith, product, turned) in
    ap (λ n. n / d) sum ∙ div-mul-add g d c less

-- where the numbers alone tell the share
exact-share-if : (r g d c n v : ℕ) (asks given all alone : Bool) → eqb r 0 ≡ asks → eqb g 0 ≡ given → eqb g d ≡ all → eqb r d ≡ alone → (0 < r → c < d)
    → n ≡ cond asks 0 ((r * g + c) / d) → cond (asks || given) (Some 0) (cond all (Some r) (cond alone (Some g) None)) ≡ Some v → n ≡ v
exact-share-if r g d c n v true given all alone none e same only less is h = let zero_ : 0 ≡ v = cc in is ∙ zero_
exact-share-if r g d c n v false true all alone some e same only less is h = let zero_ : 0 ≡ v = cc in is ∙ nothing-given r g d c e (less (asks-some r some)) ∙ zero_
exact-share-if r g d c n v false false true alone some e same only less is h = let all_ : r ≡ v = cc in is ∙ all-given r g d c same (less (asks-some r some)) ∙ all_
exact-share-if r g d c n v false false false true some e same only less is h = let share : g ≡ v = cc in is ∙ alone-given r g d c only (less (asks-some r some)) ∙ share
exact-share-if r g d c n v false false false false some e same only less is h = absurd (cc)

pub exact-share : (r g d n v : ℕ) → IsShare r g d n → exactly r g d ≡ Some v → n ≡ v
exact-share r g d n v share h =
    exact-share-if r g d share.carry n v (eqb r 0) (eqb g 0) (eqb g d) (eqb r d) refl refl refl refl share.less share.is h

-- of a level that is given nothing nobody is allotted any
pub share-of-nothing : (r g d n : ℕ) → IsShare r g d n → eqb g 0 ≡ true → n ≡ 0
share-of-nothing r g d n share none = go (eqb r 0) refl share.is
  where
    go : (asks : Bool) → eqb r 0 ≡ asks → n ≡ cond asks 0 ((r * g + share.carry) / d) → n ≡ 0
    go true nobody is = is
    go false some is = is ∙ nothing-given r g d share.carry none (share.less (asks-some r some))

-- of a level that is given all each is allotted what it asks for
pub share-of-all : (r g d n : ℕ) → IsShare r g d n → eqb g d ≡ true → n ≡ r
share-of-all r g d n share all = go (eqb r 0) refl share.is
  where
    go : (asks : Bool) → eqb r 0 ≡ asks → n ≡ cond asks 0 ((r * g + share.carry) / d) → n ≡ r
    go true nobody is = let zero_ : r ≡ 0 = grind (arith, nat_tests) in is ∙ sym zero_
    go false some is = is ∙ all-given r g d share.carry all (share.less (asks-some r some))

-- ---- arenas in order

-- an arena of this number is none of these
abbrev pub Missing : ℕ → List Arena → Type 0
Missing n xs = arena_at n xs ≡ None

-- the arena of this number is found among these
abbrev pub Finds : ℕ → List Arena → Arena → Type 0
Finds n xs row = arena_at n xs ≡ Some row

missing-head : (n : ℕ) (x : Arena) (xs : List Arena) → Missing n (x ∷ xs) → (eqb x.number n ≡ false) × Missing n xs
missing-head n x xs none =
    elim (cases_Bool (eqb x.number n)) [
      | inl here ↦ let is : Some x ≡ None = rw here at none in absurd (cc)
      | inr not ↦ (not, rw not at none)
    ]

-- arenas of other numbers only carry
count-past : (n : ℕ) (K D : ℕ → ℕ) (c : ℕ) (xs ys : List Arena) → Missing n xs
    → count_at n (carried K D c (xs ++ ys)) ≡ count_at n (carried K D (carry_after K D c xs) ys)
count-past n K D c [] ys none = refl
count-past n K D c (x ∷ xs) ys none =
    let h = missing-head n x xs none in
    rw h.0 (count-past n K D (carry_past K D c x) xs ys h.1)

-- what stands behind the arena does not matter
count-front : (n : ℕ) (K D : ℕ → ℕ) (c : ℕ) (xs ys : List Arena) (row : Arena) → Finds n xs row
    → count_at n (carried K D c (xs ++ ys)) ≡ count_at n (carried K D c xs)
count-front n K D c [] ys row found = absurd (cc)
count-front n K D c (x ∷ xs) ys row found =
    elim (cases_Bool (eqb x.number n)) [
      | inl here ↦ rw here refl
      | inr not ↦ rw not (count-front n K D (carry_past K D c x) xs ys row (rw not at found))
    ]

-- a carry that an arena of this level meets
abbrev Carry : (ℕ → ℕ) → ℕ → ℕ → Type 0
Carry D level c = 0 < D level → c < D level

carry-on : (K D : ℕ → ℕ) (level c : ℕ) (x : Arena) → x.level ≡ level → Carry D level c → Carry D level (carry_past K D c x)
carry-on K D level c x is h =
    elim (cases_Bool (eqb (request_of x.claim) 0)) [
      | inl none ↦ rw none h
      | inr some ↦ rw some (λ any.
          let rest : (request_of x.claim * K x.level + c) % D x.level < D x.level = mod_below _ (D x.level) (subst (λ l. 0 < D l) (sym is) any) in
          subst (λ l. (request_of x.claim * K x.level + c) % D x.level < D l) is rest)
    ]

-- ---- arenas of one level

-- all of these are at this level
abbrev pub At : ℕ → List Arena → Type 0
At level xs = All (λ (a : Arena). a.level ≡ level) xs

-- a level whose demand holds each request gives each arena a share
in-level : (n : ℕ) (K D : ℕ → ℕ) (level c : ℕ) (xs : List Arena) (row : Arena) → At level xs → Carry D level c → (0 < request_of row.claim → 0 < D level)
    → Finds n xs row → IsShare (request_of row.claim) (K level) (D level) (count_at n (carried K D c xs))
in-level n K D level c [] row at carry some found = absurd (cc)
in-level n K D level c (x ∷ xs) row at carry some found =
    let P : Arena → Type 0 = λ (a : Arena). a.level ≡ level in
    let is : x.level ≡ level = All-head P x xs at in
    elim (cases_Bool (eqb x.number n)) [
      | inl here ↦
          let which : Some x ≡ Some row = rw here at found in
          let same : row ≡ x = cc in
          rw here (subst (λ l. IsShare (request_of row.claim) (K level) (D level) (share_of K D c l)) same
          (subst (λ l. IsShare (request_of row.claim) (K level) (D level) (cond (eqb (request_of row.claim) 0) 0 ((request_of row.claim * K l + c) / D l))) (sym (ap (λ (a : Arena). a.level) same ∙ is))
          (record { carry = c; less = λ any. carry (some any); is = refl })))
      | inr not ↦
          rw not (in-level n K D level (carry_past K D c x) xs row (All-tail P x xs at) (carry-on K D level c x is carry) some (rw not at found))
    ]

-- what an arena of a level has, by what the level is given and asks for alone
pub same-carried : (n : ℕ) (K D K' D' : ℕ → ℕ) (level c : ℕ) (xs : List Arena) → At level xs → K level ≡ K' level → D level ≡ D' level
    → count_at n (carried K D c xs) ≡ count_at n (carried K' D' c xs)
same-carried n K D K' D' level c [] at given asked = refl
same-carried n K D K' D' level c (x ∷ xs) at given asked =
    let P : Arena → Type 0 = λ (a : Arena). a.level ≡ level in
    let is : x.level ≡ level = All-head P x xs at in
    let k : K x.level ≡ K' x.level = ap K is ∙ given ∙ sym (ap K' is) in
    let d : D x.level ≡ D' x.level = ap D is ∙ asked ∙ sym (ap D' is) in
    let r : ℕ = request_of x.claim in
    (λ i. cond (eqb x.number n) (cond (eqb r 0) 0 ((r * k i + c) / d i)) (count_at n (carried K D (cond (eqb r 0) c ((r * k i + c) % d i)) xs)))
    ∙ ap (cond (eqb x.number n) (share_of K' D' c x)) (same-carried n K D K' D' level (carry_past K' D' c x) xs (All-tail P x xs at) given asked)

-- ---- all levels

-- each number stands once
abbrev pub Once : List Arena → Type 0
Once [] = ⊤
Once (x ∷ xs) = Missing x.number xs × Once xs

missing-filter : (n k : ℕ) (xs : List Arena) → Missing n xs → Missing n (at_level k xs)
missing-filter n k [] none = refl
missing-filter n k (x ∷ xs) none =
    let h = missing-head n x xs none in
    elim (cases_Bool (eqb x.level k)) [
      | inl here ↦ rw here (rw h.0 (missing-filter n k xs h.1))
      | inr other ↦ rw other (missing-filter n k xs h.1)
    ]

pub found-own : (n : ℕ) (xs : List Arena) (row : Arena) → Finds n xs row → Finds n (at_level row.level xs) row
found-own n [] row found = absurd (cc)
found-own n (x ∷ xs) row found =
    elim (cases_Bool (eqb x.number n)) [
      | inl here ↦
          let which : Some x ≡ Some row = rw here at found in
          let same : x ≡ row = cc in
          let level : eqb x.level row.level ≡ true = ap (λ (a : Arena). eqb x.level a.level) (sym same) ∙ eqb-self x.level in
          rw level (rw here which)
      | inr not ↦
          elim (cases_Bool (eqb x.level row.level)) [
            | inl level ↦ rw level (rw not (found-own n xs row (rw not at found)))
            | inr other ↦ rw other (found-own n xs row (rw not at found))
          ]
    ]
  where
    eqb-self : (k : ℕ) → eqb k k ≡ true
    eqb-self k = grind (arith, nat_tests)

missing-other : (n k : ℕ) (xs : List Arena) (row : Arena) → Once xs → Finds n xs row → eqb k row.level ≡ false → Missing n (at_level k xs)
missing-other n k [] row once found other = absurd (cc)
missing-other n k (x ∷ xs) row once found other =
    elim (cases_Bool (eqb x.number n)) [
      | inl here ↦
          let which : Some x ≡ Some row = rw here at found in
          let same : x ≡ row = cc in
          let number : x.number ≡ n = grind (arith, nat_tests) in
          let is : x.level ≡ row.level = ap (λ (a : Arena). a.level) same in
          let level : eqb x.level k ≡ false = grind (arith, nat_tests) in
          rw level (missing-filter n k xs (ap (λ m. arena_at m xs) (sym number) ∙ once.0))
      | inr not ↦
          elim (cases_Bool (eqb x.level k)) [
            | inl level ↦ rw level (rw not (missing-other n k xs row once.1 (rw not at found) other))
            | inr level ↦ rw level (missing-other n k xs row once.1 (rw not at found) other)
          ]
    ]

pub at-level : (k : ℕ) (xs : List Arena) → At k (at_level k xs)
at-level k [] = All-nil (λ (a : Arena). a.level ≡ k)
at-level k (x ∷ xs) =
    elim (cases_Bool (eqb x.level k)) [
      | inl here ↦
          let is : x.level ≡ k = grind (arith, nat_tests) in
          rw here (All-cons (λ (a : Arena). a.level ≡ k) x (at_level k xs) is (at-level k xs))
      | inr other ↦ rw other (at-level k xs)
    ]

-- an arena asks for no more than all of them
within-total : (n : ℕ) (xs : List Arena) (row : Arena) → Finds n xs row → request_of row.claim ≤ total_request xs
within-total n [] row found = absurd (cc)
within-total n (x ∷ xs) row found =
    let sum = sum_by-cons (λ (a : Arena). request_of a.claim) x xs in
    elim (cases_Bool (eqb x.number n)) [
      | inl here ↦
          let which : Some x ≡ Some row = rw here at found in
          let same : x ≡ row = cc in
          let asks : request_of x.claim ≡ request_of row.claim = ap (λ (a : Arena). request_of a.claim) same in
          omega (arith, sum, asks)
      | inr not ↦ let rest = within-total n xs row (rw not at found) in omega (arith, sum, rest)
    ]

-- a level's arenas leave no carry, as the crate `allotment` promises
abbrev pub Whole : Type 0
Whole = (s : State) (given : ℕ → ℕ) (level : ℕ) → carry_after given (demand s) 0 (at_level level s.arenas) ≡ 0

in-levels : (whole : Whole) (n : ℕ) (s : State) (row : Arena) (levels : List ℕ) → Once s.arenas → Finds n s.arenas row → list_any (λ level. eqb level row.level) levels ≡ true
    → count_at n (carried (assigned s) (demand s) 0 (flat_map (λ level. at_level level s.arenas) levels)) ≡ count_at n (carried (assigned s) (demand s) 0 (at_level row.level s.arenas))
in-levels whole n s row [] once found there = absurd (cc)
in-levels whole n s row (k ∷ ks) once found there =
    let f : ℕ → List Arena = λ level. at_level level s.arenas in
    let K : ℕ → ℕ = assigned s in
    let D : ℕ → ℕ = demand s in
    elim (cases_Bool (eqb k row.level)) [
      | inl own ↦
          let is : row.level ≡ k = grind (arith, nat_tests) in
          let here : Finds n (f k) row = subst (λ l. Finds n (f l) row) is (found-own n s.arenas row found) in
          count-front n K D 0 (f k) (flat_map f ks) row here ∙ ap (λ l. count_at n (carried K D 0 (f l))) (sym is)
      | inr other ↦
          let none : Missing n (f k) = missing-other n k s.arenas row once found other in
          let later : list_any (λ level. eqb level row.level) ks ≡ true = rw other at there in
          count-past n K D 0 (f k) (flat_map f ks) none
          ∙ ap (λ c. count_at n (carried K D c (flat_map f ks))) (whole s K k)
          ∙ in-levels whole n s row ks once found later
    ]

in-range : (level from n : ℕ) → from ≤ level → level < from + n → list_any (λ k. eqb k level) (range_with_len from n) ≡ true
in-range level from zero low high = absurd (omega arith)
in-range level from (suc n) low high =
    elim (cases_Bool (eqb from level)) [
      | inl here ↦ rw here refl
      | inr other ↦
          let less : from + 1 ≤ level = grind (arith, nat_tests) in
          rw other (in-range level (from + 1) n less (omega arith))
    ]

cond-yes : (b : Bool) (x y : ℕ) → b ≡ true → cond b x y ≡ x
cond-yes true x y e = refl
cond-yes false x y e = absurd (cc)

-- where some worker may be active, an arena has its share of what its level is given
pub allotment-level : (whole : Whole) (n : ℕ) (s : State) (row : Arena) → Once s.arenas → 0 < limit_of s → Finds n s.arenas row → 1 ≤ row.level → row.level ≤ s.levels
    → allotment_of s n ≡ count_at n (carried (assigned s) (demand s) 0 (at_level row.level s.arenas))
allotment-level whole n s row once some found low high =
    let there = in-range row.level 1 s.levels low (omega arith) in
    let any : ltb 0 (limit_of s) ≡ true = grind (arith, nat_tests) in
    cond-yes (ltb 0 (limit_of s)) (count_at n (carried (assigned s) (demand s) 0 (in_order s))) (all_to (mandatory_pick s) (bound_of s) n) any
    ∙ in-levels whole n s row (levels_of s) once found there

pub allotment-share : (whole : Whole) (n : ℕ) (s : State) (row : Arena) → Once s.arenas → 0 < limit_of s → Finds n s.arenas row → 1 ≤ row.level → row.level ≤ s.levels
    → IsShare (request_of row.claim) (assigned s row.level) (demand s row.level) (allotment_of s n)
allotment-share whole n s row once some found low high =
    let own : Finds n (at_level row.level s.arenas) row = found-own n s.arenas row found in
    let asks : 0 < request_of row.claim → 0 < demand s row.level = λ any. omega (arith, within-total n (at_level row.level s.arenas) row own, any) in
    subst (IsShare (request_of row.claim) (assigned s row.level) (demand s row.level)) (sym (allotment-level whole n s row once some found low high))
    (in-level n (assigned s) (demand s) row.level 0 (at_level row.level s.arenas) row (at-level row.level s.arenas) (λ any. any) asks own)
