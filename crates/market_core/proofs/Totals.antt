-- What all arenas are allotted together, and that none is allotted more than it asks for.
use Rattle.std.proofs.Common.{◌≡◌, ℕ, zero, suc, ◌+◌, ◌-◌, ◌*◌, ◌<◌, ◌≤◌, Bool, true, false, cond, eqb, ltb, ℤ, pos, negsuc, List, [], ◌∷◌, get_or, map, Option, Some, None, refl, sym, ap, ◌∙◌, arith, inl, inr, zero-add}
use Rattle.std.specs.Prelude.{◌==◌, ◌&&◌, min}
use Rattle.std.specs.List.{All, count_by, filter, sum_by, find, flat_map, range_with_len}
use Rattle.std.proofs.lemmas.Bool.{both_ways, cases_eq, cases_lt, cases_Bool, ne_eqb, eq-eqb, lt-ltb, le-ltb, ltb-true, and_parts}
use Rattle.std.proofs.lemmas.List.Elements.{All-nil, All-cons, All-head, All-tail, All-append, All-filter, All-weaker}
use Rattle.std.proofs.lemmas.List.Sums.{sum_by-cons}
use Rattle.market_types.specs.State.{Claim, Arena, State}
use Rattle.market_types.specs.Claims.{cap_of, clamp_total, request_of, is_mandated}
use Rattle.market_types.specs.Allotment.{at_level, share_of, carry_past, carry_after, assigned_to, carried, count_at, assigned, demand, allotment_of, all_to, bound_of, limit_of, effective_limit_of, has_mandatory, mandatory_pick, in_order, levels_of}
use Rattle.allotment.specs.Levels.{workers_of, IsLeveled}
use Rattle.arena_store.specs.Arenas.{has_number, newer, older, IsMissing, IsFound, StandOnce}
use Rattle.market_core.specs.Allotted.{IsWithin, total_allotment}
use Rattle.market_core.proofs.Allotted.{allotment_of-found, allotment_of-picked}
use Rattle.market_core.proofs.Numbers.{All-found}
use Rattle.market_core.proofs.Order.{sum-in_levels}
use Rattle.market_types.specs.Step.{arena_at}

-- ---- a number is used once

pub count-yes : (n : ℕ) (x : Arena) (xs : List Arena) → has_number n x ≡ true → count_by (has_number n) (x ∷ xs) ≡ 1 + count_by (has_number n) xs
count-yes n x xs e = sum_by-cons (λ (y : Arena). cond (has_number n y) 1 0) x xs ∙ rw e refl

count-no : (n : ℕ) (x : Arena) (xs : List Arena) → has_number n x ≡ false → count_by (has_number n) (x ∷ xs) ≡ count_by (has_number n) xs
count-no n x xs e = sum_by-cons (λ (y : Arena). cond (has_number n y) 1 0) x xs ∙ rw e (zero-add (count_by (has_number n) xs))

pub count-missing : (n : ℕ) (xs : List Arena) → IsMissing n xs → count_by (has_number n) xs ≡ 0
count-missing n [] h = refl
count-missing n (x ∷ xs) h =
    count-no n x xs (All-head (λ (b : Arena). has_number n b ≡ false) x xs h) ∙ count-missing n xs (All-tail (λ (b : Arena). has_number n b ≡ false) x xs h)

missing-count : (n : ℕ) (xs : List Arena) → count_by (has_number n) xs ≡ 0 → IsMissing n xs
missing-count n [] e = All-nil (λ (b : Arena). has_number n b ≡ false)
missing-count n (x ∷ xs) e =
    elim (cases_Bool (has_number n x)) [
      | inl t ↦ absurd (let some : 0 ≡ 1 + count_by (has_number n) xs = sym e ∙ count-yes n x xs t in omega arith)
      | inr f ↦ All-cons (λ (b : Arena). has_number n b ≡ false) x xs f (missing-count n xs (sym (count-no n x xs f) ∙ e))
    ]

-- no more arenas of a number stand among some of them
pub count-filter : (n : ℕ) (p : Arena → Bool) (xs : List Arena) → count_by (has_number n) (filter p xs) ≤ count_by (has_number n) xs
count-filter n p [] = omega arith
count-filter n p (x ∷ xs) =
    elim (cases_Bool (p x)) [
      | inl t ↦ rw t (omega (arith, count-cons n x (filter p xs), count-cons n x xs, count-filter n p xs))
      | inr f ↦ rw f (omega (arith, count-cons n x xs, count-filter n p xs))
    ]
  where
    count-cons : (n : ℕ) (x : Arena) (xs : List Arena) → count_by (has_number n) (x ∷ xs) ≡ cond (has_number n x) 1 0 + count_by (has_number n) xs
    count-cons n x xs = sum_by-cons (λ (y : Arena). cond (has_number n y) 1 0) x xs

-- ---- allotments by number, and in order

-- another number's count is found behind an entry
count_at-behind : (number workers : ℕ) (rest : List (ℕ × ℕ)) (arenas : List Arena) → IsMissing number arenas
    → sum_by (λ (a : Arena). count_at a.number ((number, workers) ∷ rest)) arenas ≡ sum_by (λ (a : Arena). count_at a.number rest) arenas
count_at-behind number workers rest [] h = refl
count_at-behind number workers rest (a ∷ arenas) h =
    let P : Arena → Type 0 = λ (b : Arena). has_number number b ≡ false in
    let apart : eqb number a.number ≡ false = ne_eqb number a.number (λ e. both_ways (eqb a.number number) (All-head P a arenas h) (eq-eqb a.number number (sym e))) in
    let here : count_at a.number ((number, workers) ∷ rest) ≡ count_at a.number rest = rw apart refl in
    omega (
      arith,
      here,
      sum_by-cons (λ (b : Arena). count_at b.number ((number, workers) ∷ rest)) a arenas,
      sum_by-cons (λ (b : Arena). count_at b.number rest) a arenas,
      count_at-behind number workers rest arenas (All-tail P a arenas h),
    )

-- arenas of different numbers are allotted what stands beside their numbers
pub sum-counts : (K D : ℕ → ℕ) (carry : ℕ) (arenas : List Arena) → ((n : ℕ) → count_by (has_number n) arenas ≤ 1)
    → sum_by (λ (a : Arena). count_at a.number (carried K D carry arenas)) arenas ≡ sum_by workers_of (carried K D carry arenas)
sum-counts K D carry [] h = refl
sum-counts K D carry (a ∷ arenas) h =
    let own = share_of K D carry a in
    let rest = carried K D (carry_past K D carry a) arenas in
    let others : IsMissing a.number arenas = missing-count a.number arenas (omega (arith, h a.number, count-yes a.number a arenas (eq-eqb a.number a.number refl))) in
    let fewer : (n : ℕ) → count_by (has_number n) arenas ≤ 1 = λ n. omega (arith, h n, sum_by-cons (λ (b : Arena). cond (has_number n b) 1 0) a arenas) in
    let here : count_at a.number ((a.number, own) ∷ rest) ≡ own = rw (eq-eqb a.number a.number refl) refl in
    omega (
      arith,
      here,
      sum_by-cons (λ (b : Arena). count_at b.number ((a.number, own) ∷ rest)) a arenas,
      sum_by-cons workers_of (a.number, own) rest,
      count_at-behind a.number own rest arenas others,
      sum-counts K D (carry_past K D carry a) arenas fewer,
    )

-- where workers may be active, all allotments together are what is carried through all arenas
pub total-carried : (s : State) → StandOnce s.arenas → IsLeveled s → 0 < limit_of s → total_allotment s ≡ sum_by workers_of (carried (assigned s) (demand s) 0 (in_order s))
total-carried s stand leveled some =
    let f : Arena → ℕ = λ a. allotment_of s a.number in
    let given = carried (assigned s) (demand s) 0 (in_order s) in
    let distinct : (n : ℕ) → count_by (has_number n) (in_order s) ≤ 1 =
    λ n. omega (arith, stand.once n, sum-in_levels (λ (a : Arena). cond (has_number n a) 1 0) s.levels s.arenas leveled) in
    sym (sum-in_levels f s.levels s.arenas leveled)
    ∙ ap (λ b. sum_by (λ (a : Arena). cond b (count_at a.number given) (all_to (mandatory_pick s) (bound_of s) a.number)) (in_order s)) (lt-ltb 0 (limit_of s) some)
    ∙ sum-counts (assigned s) (demand s) 0 (in_order s) distinct

-- ---- where no worker may be active

pub cond-most : (b : Bool) → cond b 1 0 ≤ 1
cond-most true = omega arith
cond-most false = omega arith

pub bound-one : (s : State) → limit_of s ≡ 0 → bound_of s ≤ 1
bound-one s none =
    let zero_limit : effective_limit_of s ≡ cond (has_mandatory s.arenas) 1 0 = rw (le-ltb 0 (limit_of s) (omega arith)) refl in
    omega (arith, zero_limit, cond-most (has_mandatory s.arenas))

pub sum-picked : (m w : ℕ) (xs : List Arena) → sum_by (λ (a : Arena). cond (eqb m a.number) w 0) xs ≡ count_by (has_number m) xs * w
sum-picked m w [] = omega arith
sum-picked m w (x ∷ xs) =
    let f : Arena → ℕ = λ a. cond (eqb m a.number) w 0 in
    elim (cases_eq x.number m) [
      | inl e ↦
          let here : f x ≡ w = rw (eq-eqb m x.number (sym e)) refl in
          let count = count-yes m x xs (eq-eqb x.number m e) in
          sum_by-cons f x xs ∙ ap (λ n. n + sum_by f xs) here ∙ ap (λ n. w + n) (sum-picked m w xs) ∙ (let more : w + count_by (has_number m) xs * w ≡ (1 + count_by (has_number m) xs) * w = omega arith in more) ∙ ap (λ n. n * w) (sym count)
      | inr g ↦
          let here : f x ≡ 0 = rw (ne_eqb m x.number (λ e. g (sym e))) refl in
          sum_by-cons f x xs ∙ ap (λ n. n + sum_by f xs) here ∙ zero-add (sum_by f xs) ∙ sum-picked m w xs ∙ ap (λ n. n * w) (sym (count-no m x xs (ne_eqb x.number m g)))
    ]

few-times : (k w : ℕ) → k ≤ 1 → w ≤ 1 → k * w ≤ 1
few-times zero w p q = omega arith
few-times (suc zero) w p q = omega arith
few-times (suc (suc k)) w p q = absurd (omega arith)

sum-all_to : (picked : Option Arena) (w : ℕ) (xs : List Arena) → StandOnce xs → w ≤ 1 → sum_by (λ (a : Arena). all_to picked w a.number) xs ≤ 1
sum-all_to None w xs stand few = sum-zero xs
  where
    sum-zero : (xs : List Arena) → sum_by (λ (a : Arena). 0) xs ≤ 1
    sum-zero [] = omega arith
    sum-zero (x ∷ xs) = omega (arith, sum_by-cons (λ (a : Arena). 0) x xs, sum-zero xs)
sum-all_to (Some p) w xs stand few = omega (arith, sum-picked p.number w xs, few-times (count_by (has_number p.number) xs) w (stand.once p.number) few)

pub sum-same : (f g : Arena → ℕ) (xs : List Arena) → ((a : Arena) → f a ≡ g a) → sum_by f xs ≡ sum_by g xs
sum-same f g [] h = refl
sum-same f g (x ∷ xs) h = omega (arith, sum_by-cons f x xs, sum_by-cons g x xs, h x, sum-same f g xs h)

-- at most one worker is allotted
pub total-one : (s : State) → StandOnce s.arenas → limit_of s ≡ 0 → total_allotment s ≤ 1
total-one s stand none =
    let same = sum-same (λ (a : Arena). allotment_of s a.number) (λ (a : Arena). all_to (mandatory_pick s) (bound_of s) a.number) s.arenas (λ a. allotment_of-picked s a.number none) in
    omega (arith, same, sum-all_to (mandatory_pick s) (bound_of s) s.arenas stand (bound-one s none))

-- ---- no more than asked for

found-same : (n : ℕ) (row : Arena) (arenas : List Arena) → IsFound n row arenas → All (λ (b : Arena). has_number n b ≡ true → b ≡ row) arenas
found-same n row arenas f =
    let P : Arena → Type 0 = λ (b : Arena). has_number n b ≡ true → b ≡ row in
    let other : (b : Arena) → has_number n b ≡ false → P b = λ b unlike like. absurd (both_ways (has_number n b) unlike like) in
    rw f.split (All-append P (newer row.stamp arenas) (row ∷ (older row.stamp arenas)) (All-weaker (λ (b : Arena). has_number n b ≡ false) P other (newer row.stamp arenas) f.missing_before)
    (All-cons P row (older row.stamp arenas) (λ _. refl) (All-weaker (λ (b : Arena). has_number n b ≡ false) P other (older row.stamp arenas) f.missing_after)))

All-levels : (P : Arena → Type 0) (arenas : List Arena) (levels : List ℕ) → All P arenas → All P (flat_map (λ level. at_level level arenas) levels)
All-levels P arenas [] h = All-nil P
All-levels P arenas (k ∷ ks) h =
    All-append P (at_level k arenas) (flat_map (λ level. at_level level arenas) ks) (All-filter (λ (b : Arena). eqb b.level k) P arenas h) (All-levels P arenas ks h)

all_to-few : (n w : ℕ) (row : Arena) (xs : List Arena) → w ≤ 1 → All (λ (b : Arena). has_number n b ≡ true → b ≡ row) xs → all_to (find (λ (a : Arena). is_mandated a.claim) xs) w n ≤ request_of row.claim
all_to-few n w row [] few h = omega arith
all_to-few n w row (x ∷ xs) few h =
    let P : Arena → Type 0 = λ (b : Arena). has_number n b ≡ true → b ≡ row in
    elim (cases_Bool (is_mandated x.claim)) [
      | inl t ↦ rw t (picked n w row x few t (All-head P x xs h))
      | inr f ↦ rw f (all_to-few n w row xs few (All-tail P x xs h))
    ]
  where
    picked : (n w : ℕ) (row x : Arena) → w ≤ 1 → is_mandated x.claim ≡ true → (has_number n x ≡ true → x ≡ row) → all_to (Some x) w n ≤ request_of row.claim
    picked n w row x few t same =
        elim (cases_Bool (has_number n x)) [
          | inl e ↦
              let asks : 0 < request_of x.claim = ltb-true 0 (request_of x.claim) (and_parts (ltb 0 (request_of x.claim)) (ltb 0 x.claim.mandatory) t).0 in
              let asks' : 0 < request_of row.claim = rw (same e) at asks in
              rw e (omega arith)
          | inr g ↦ rw g (omega arith)
        ]

picked-few : (s : State) (n : ℕ) (row : Arena) → IsFound n row s.arenas → limit_of s ≡ 0 → allotment_of s n ≤ request_of row.claim
picked-few s n row f none =
    omega (
      arith,
      allotment_of-picked s n none,
      all_to-few n (bound_of s) row (in_order s) (bound-one s none)
          (All-levels (λ (b : Arena). has_number n b ≡ true → b ≡ row) s.arenas (levels_of s) (found-same n row s.arenas f)),
    )

clamp-within : (z : ℤ) (cap : ℕ) → clamp_total z cap ≤ cap
clamp-within (pos n) cap = omega arith
clamp-within (negsuc n) cap = omega arith

cond-within : (b : Bool) (x y n : ℕ) → x ≤ n → y ≤ n → cond b x y ≤ n
cond-within true x y n p q = p
cond-within false x y n p q = q

cap-usable : (c : Claim) → cap_of c ≤ c.slots
cap-usable c =
    elim (cases_eq c.slots 1) [
      | inl e ↦ cond-within (c.slots == 1 && c.reserved == 1 && ltb 0 c.mandatory) 1 (c.slots - c.reserved) c.slots (omega arith) (omega arith)
      | inr n ↦ rw (ne_eqb c.slots 1 n) (omega arith)
    ]

-- a level is assigned no more than it asks for
assigned_to-few : (ds : List ℕ) (m i : ℕ) → get_or (assigned_to ds m) i 0 ≤ get_or ds i 0
assigned_to-few [] m i = omega arith
assigned_to-few (d ∷ ds) m zero = omega arith
assigned_to-few (d ∷ ds) m (suc i) = assigned_to-few ds (m - min d m) i

level-at : (D : ℕ → ℕ) (from n i : ℕ) → i < n → get_or (map D (range_with_len from n)) i 0 ≡ D (from + i)
level-at D from zero i h = absurd (omega arith)
level-at D from (suc n) zero h = ap D (omega arith)
level-at D from (suc n) (suc i) h = level-at D (from + 1) n i (omega arith) ∙ ap D (omega arith)

assigned-few : (s : State) (level : ℕ) → 1 ≤ level → level ≤ s.levels → assigned s level ≤ demand s level
assigned-few s level low high =
    let asked : get_or (map (demand s) (levels_of s)) (level - 1) 0 ≡ demand s level = level-at (demand s) 1 s.levels (level - 1) (omega arith) ∙ ap (demand s) (omega arith) in
    omega (arith, asked, assigned_to-few (map (demand s) (levels_of s)) (bound_of s) (level - 1))

-- the law of shares: none is above its request
abbrev pub SharesAreFew : Type 0
SharesAreFew =
    (given asked : ℕ → ℕ) (before : List Arena) (a : Arena) → given a.level ≤ asked a.level
    → share_of given asked (carry_after given asked 0 (at_level a.level before)) a ≤ request_of a.claim

pub within : (s : State) (a : Arena) → StandOnce s.arenas → IsLeveled s → SharesAreFew → ((level : ℕ) → carry_after (assigned s) (demand s) 0 (at_level level s.arenas) ≡ 0)
    → arena_at a.number s.arenas ≡ Some a → IsWithin s a
within s a stand leveled law whole there =
    let found = stand.found a.number a there in
    let level = All-found (λ (b : Arena). (1 ≤ b.level) × (b.level ≤ s.levels)) a.number s.arenas a there leveled in
    let few : allotment_of s a.number ≤ request_of a.claim = elim (cases_lt 0 (limit_of s)) [
      | inl some ↦
          omega (
            arith,
            allotment_of-found s a.number a found level some whole,
            law (assigned s) (demand s) (newer a.stamp s.arenas) a (assigned-few s a.level level.0 level.1),
          )
      | inr none ↦ picked-few s a.number a found (omega arith)
    ] in
    record { allotted = few; asked = clamp-within a.claim.wanted (cap_of a.claim); usable = cap-usable a.claim }
