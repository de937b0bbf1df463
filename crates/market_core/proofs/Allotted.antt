-- What one arena is allotted.
use Rattle.std.proofs.Common.{◌≡◌, ◌≢◌, ℕ, zero, suc, ◌+◌, ◌-◌, ◌<◌, ◌≤◌, Bool, true, false, cond, eqb, ltb, List, [], ◌∷◌, ◌++◌, length, Option, Some, None, refl, sym, ap, subst, ◌∙◌, arith, inl, inr, append_assoc}
use Rattle.std.specs.Prelude.{slice_index}
use Rattle.std.specs.List.{All, find, flat_map, list_any, range_with_len}
use Rattle.std.proofs.lemmas.Bool.{cases_eq, ne_eqb, eq-eqb, cases_Bool, cases_lt, lt-ltb, le-ltb}
use Rattle.std.proofs.lemmas.List.{get_or_past}
use Rattle.std.proofs.lemmas.List.Elements.{All-nil, All-cons, All-append, All-filter, All-head, All-tail, filter-append}
use Rattle.std.proofs.lemmas.List.Sums.{sum_by-cons, sum_by-append}
use Rattle.market_types.specs.State.{Arena, State}
use Rattle.market_types.specs.Claims.{request_of, is_mandated}
use Rattle.market_types.specs.Allotment.{total_request, at_level, share_of, carry_past, carry_after, carried, count_at, assigned, demand, allotment_of, all_to, bound_of, limit_of, mandatory_pick, in_order, levels_of, is_just}
use Rattle.market_types.specs.Step.{arena_at}
use Rattle.allotment.specs.Levels.{AreDemandsOf, IsLeveled, number_of}
use Rattle.arena_store.specs.Arenas.{has_number, newer, older, IsMissing, IsFound}

-- ---- levels

-- its own level, and every other one
pub at_level-own : (xs ys : List Arena) (row : Arena) → at_level row.level (xs ++ row ∷ ys) ≡ at_level row.level xs ++ row ∷ at_level row.level ys
at_level-own xs ys row =
    let p : Arena → Bool = λ (a : Arena). eqb a.level row.level in
    filter-append p xs (row ∷ ys) ∙ ap (λ zs. at_level row.level xs ++ zs) (rw (eq-eqb row.level row.level refl) refl)

pub at_level-other : (k : ℕ) (xs ys : List Arena) (row : Arena) → row.level ≢ k → at_level k (xs ++ row ∷ ys) ≡ at_level k xs ++ at_level k ys
at_level-other k xs ys row n =
    let p : Arena → Bool = λ (a : Arena). eqb a.level k in
    filter-append p xs (row ∷ ys) ∙ ap (λ zs. at_level k xs ++ zs) (rw (ne_eqb row.level k n) refl)

-- no arena is above the levels
pub at_level-above : (levels level : ℕ) (arenas : List Arena) → All (λ (a : Arena). (1 ≤ a.level) × (a.level ≤ levels)) arenas → levels < level → at_level level arenas ≡ []
at_level-above levels level [] h above = refl
at_level-above levels level (a ∷ arenas) h above =
    let P : Arena → Type 0 = λ (b : Arena). (1 ≤ b.level) × (b.level ≤ levels) in
    let here : P a = All-head P a arenas h in
    rw (ne_eqb a.level level (λ e. omega (arith, here.1, e))) (at_level-above levels level arenas (All-tail P a arenas h) above)

-- the sums of all 8 levels are the demands of those that there are
pub are-demands : (s : State) (demands : List ℕ) → IsLeveled s → s.levels ≤ 8 → length demands ≡ 8
    → ((level : ℕ) → 1 ≤ level → level ≤ 8 → slice_index demands (level - 1) ≡ total_request (at_level level s.arenas)) → AreDemandsOf s demands
are-demands s demands leveled most size exact =
    record {
      levels = λ level low high. exact level low (omega arith);
      above = λ place past. elim (cases_lt place 8) [
        | inl within ↦
            ap (slice_index demands) (omega arith) ∙ exact (place + 1) (omega arith) (omega arith)
            ∙ ap total_request (at_level-above s.levels (place + 1) s.arenas leveled (omega arith))
        | inr out ↦ get_or_past demands place 0 (omega arith)
      ];
    }

pub level-in-range : (level from n : ℕ) → from ≤ level → level < from + n → list_any (λ k. eqb k level) (range_with_len from n) ≡ true
level-in-range level from zero low high = absurd (omega arith)
level-in-range level from (suc n) low high =
    elim (cases_eq from level) [
      | inl e ↦ rw (eq-eqb from level e) refl
      | inr m ↦ rw (ne_eqb from level m) (level-in-range level (from + 1) n (omega arith) (omega arith))
    ]

-- ---- where workers may be active

-- arenas of other numbers only carry
count_at-past : (a : ℕ) (K D : ℕ → ℕ) (carry : ℕ) (xs ys : List Arena) → IsMissing a xs
    → count_at a (carried K D carry (xs ++ ys)) ≡ count_at a (carried K D (carry_after K D carry xs) ys)
count_at-past a K D carry [] ys h = refl
count_at-past a K D carry (x ∷ xs) ys h =
    let e : has_number a x ≡ false = All-head (λ (y : Arena). has_number a y ≡ false) x xs h in
    rw e (count_at-past a K D (carry_past K D carry x) xs ys (All-tail (λ (y : Arena). has_number a y ≡ false) x xs h))

count_at-missing : (a : ℕ) (K D : ℕ → ℕ) (carry : ℕ) (xs : List Arena) → IsMissing a xs → count_at a (carried K D carry xs) ≡ 0
count_at-missing a K D carry [] h = refl
count_at-missing a K D carry (x ∷ xs) h =
    rw (All-head (λ (y : Arena). has_number a y ≡ false) x xs h) (count_at-missing a K D (carry_past K D carry x) xs (All-tail (λ (y : Arena). has_number a y ≡ false) x xs h))

-- an arena gets its share, by the carry of the arenas of its level before it
pub count_at-found : (K D : ℕ → ℕ) (n : ℕ) (row : Arena) (arenas : List Arena) (levels : List ℕ) (f : IsFound n row arenas)
    → ((level : ℕ) → carry_after K D 0 (at_level level arenas) ≡ 0) → list_any (λ level. eqb level row.level) levels ≡ true
    → count_at n (carried K D 0 (flat_map (λ level. at_level level arenas) levels)) ≡ share_of K D (carry_after K D 0 (at_level row.level (newer row.stamp arenas))) row
count_at-found K D n row arenas [] f whole e = cc
count_at-found K D n row arenas (k ∷ ks) f whole e =
    let P : Arena → Type 0 = λ (x : Arena). has_number n x ≡ false in
    let xs = newer row.stamp arenas in
    let ys = older row.stamp arenas in
    let rest = flat_map (λ level. at_level level arenas) ks in
    elim (cases_eq k row.level) [
      | inl same ↦
          let own : at_level k arenas ++ rest ≡ at_level row.level xs ++ (row ∷ at_level row.level ys ++ rest) =
          ap (λ zs. zs ++ rest) (ap (λ l. at_level l arenas) same ∙ ap (at_level row.level) f.split ∙ at_level-own xs ys row)
          ∙ append_assoc (at_level row.level xs) (row ∷ at_level row.level ys) rest in
          ap (λ zs. count_at n (carried K D 0 zs)) own
          ∙ count_at-past n K D 0 (at_level row.level xs) (row ∷ at_level row.level ys ++ rest) (All-filter (λ (x : Arena). eqb x.level row.level) P xs f.missing_before)
          ∙ rw (eq-eqb row.number n f.number) refl
      | inr other ↦
          let apart : row.level ≢ k = λ g. other (sym g) in
          let others : at_level k arenas ≡ at_level k xs ++ at_level k ys = ap (at_level k) f.split ∙ at_level-other k xs ys row apart in
          let none : All P (at_level k arenas) =
          subst (All P) (sym others) (All-append P (at_level k xs) (at_level k ys) (All-filter (λ (x : Arena). eqb x.level k) P xs f.missing_before) (All-filter (λ (x : Arena). eqb x.level k) P ys f.missing_after)) in
          let later : list_any (λ level. eqb level row.level) ks ≡ true = rw (ne_eqb k row.level other) at e in
          count_at-past n K D 0 (at_level k arenas) rest none
          ∙ ap (λ c. count_at n (carried K D c rest)) (whole k)
          ∙ count_at-found K D n row arenas ks f whole later
    ]

cond-yes : (b : Bool) (x y : ℕ) → b ≡ true → cond b x y ≡ x
cond-yes true x y e = refl
cond-yes false x y e = cc

cond-no : (b : Bool) (x y : ℕ) → b ≡ false → cond b x y ≡ y
cond-no true x y e = cc
cond-no false x y e = refl

pub allotment_of-shared : (s : State) (n : ℕ) → 0 < limit_of s → allotment_of s n ≡ count_at n (carried (assigned s) (demand s) 0 (in_order s))
allotment_of-shared s n some =
    cond-yes (ltb 0 (limit_of s)) (count_at n (carried (assigned s) (demand s) 0 (in_order s))) (all_to (mandatory_pick s) (bound_of s) n) (lt-ltb 0 (limit_of s) some)

pub allotment_of-picked : (s : State) (n : ℕ) → limit_of s ≡ 0 → allotment_of s n ≡ all_to (mandatory_pick s) (bound_of s) n
allotment_of-picked s n none =
    cond-no (ltb 0 (limit_of s)) (count_at n (carried (assigned s) (demand s) 0 (in_order s))) (all_to (mandatory_pick s) (bound_of s) n) (le-ltb 0 (limit_of s) (omega arith))

pub allotment_of-found : (s : State) (n : ℕ) (row : Arena) → IsFound n row s.arenas → (1 ≤ row.level) × (row.level ≤ s.levels) → 0 < limit_of s
    → ((level : ℕ) → carry_after (assigned s) (demand s) 0 (at_level level s.arenas) ≡ 0)
    → allotment_of s n ≡ share_of (assigned s) (demand s) (carry_after (assigned s) (demand s) 0 (at_level row.level (newer row.stamp s.arenas))) row
allotment_of-found s n row f level some whole =
    allotment_of-shared s n some
    ∙ count_at-found (assigned s) (demand s) n row s.arenas (levels_of s) f whole (level-in-range row.level 1 s.levels level.0 (omega (arith, level.1)))

-- an arena asks for no more than its level, the arenas before it included
pub request-within : (n : ℕ) (row : Arena) (arenas : List Arena) → IsFound n row arenas
    → total_request (at_level row.level (newer row.stamp arenas)) + request_of row.claim ≤ total_request (at_level row.level arenas)
request-within n row arenas f =
    let q : Arena → ℕ = λ (a : Arena). request_of a.claim in
    let xs = newer row.stamp arenas in
    let ys = older row.stamp arenas in
    let sums : total_request (at_level row.level arenas) ≡ total_request (at_level row.level xs) + (request_of row.claim + total_request (at_level row.level ys)) =
    ap (λ zs. total_request (at_level row.level zs)) f.split ∙ ap total_request (at_level-own xs ys row)
    ∙ sum_by-append q (at_level row.level xs) (row ∷ at_level row.level ys)
    ∙ ap (λ n. total_request (at_level row.level xs) + n) (sum_by-cons q row (at_level row.level ys)) in
    omega arith

-- ---- where no arena has the number

pub missing-at : (n : ℕ) (arenas : List Arena) → arena_at n arenas ≡ None → IsMissing n arenas
missing-at n [] e = All-nil (λ (b : Arena). has_number n b ≡ false)
missing-at n (b ∷ bs) e =
    elim (cases_Bool (has_number n b)) [
      | inl t ↦ let h : Some b ≡ None = rw t at e in absurd (some-none b h)
      | inr f ↦ All-cons (λ (b : Arena). has_number n b ≡ false) b bs f (missing-at n bs (rw f at e))
    ]
  where
    some-none : (b : Arena) → Some b ≡ None → ⊥
    some-none b h = cc

missing-levels : (n : ℕ) (arenas : List Arena) (levels : List ℕ) → IsMissing n arenas → IsMissing n (flat_map (λ level. at_level level arenas) levels)
missing-levels n arenas [] h = All-nil (λ (b : Arena). has_number n b ≡ false)
missing-levels n arenas (k ∷ ks) h =
    All-append (λ (b : Arena). has_number n b ≡ false) (at_level k arenas) (flat_map (λ level. at_level level arenas) ks)
    (All-filter (λ (b : Arena). eqb b.level k) (λ (b : Arena). has_number n b ≡ false) arenas h) (missing-levels n arenas ks h)

all_to-missing : (n w : ℕ) (p : Arena → Bool) (xs : List Arena) → IsMissing n xs → all_to (find p xs) w n ≡ 0
all_to-missing n w p [] h = refl
all_to-missing n w p (x ∷ xs) h =
    elim (cases_Bool (p x)) [
      | inl t ↦ rw t (rw (All-head (λ (b : Arena). has_number n b ≡ false) x xs h) refl)
      | inr f ↦ rw f (all_to-missing n w p xs (All-tail (λ (b : Arena). has_number n b ≡ false) x xs h))
    ]

pub allotment_of-missing : (s : State) (n : ℕ) → arena_at n s.arenas ≡ None → allotment_of s n ≡ 0
allotment_of-missing s n e =
    let none : IsMissing n (in_order s) = missing-levels n s.arenas (levels_of s) (missing-at n s.arenas e) in
    elim (cases_lt 0 (limit_of s)) [
      | inl some ↦ allotment_of-shared s n some ∙ count_at-missing n (assigned s) (demand s) 0 (in_order s) none
      | inr zero_limit ↦ allotment_of-picked s n (omega arith) ∙ all_to-missing n (bound_of s) (λ (a : Arena). is_mandated a.claim) (in_order s) none
    ]

-- ---- where no worker may be active

-- all to the picked one, by its number
abbrev pub all_to_number : Option ℕ → ℕ → ℕ → ℕ
all_to_number None w n = 0
all_to_number (Some m) w n = cond (eqb m n) w 0

pub all_to-number : (picked : Option Arena) (w n : ℕ) → all_to picked w n ≡ all_to_number (number_of picked) w n
all_to-number None w n = refl
all_to-number (Some a) w n = refl

pub just-all : (o : Option ℕ) (w n : ℕ) → cond (is_just n o) w 0 ≡ all_to_number o w n
just-all None w n = refl
just-all (Some m) w n = refl
