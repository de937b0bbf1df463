-- A level's list, under each change of the arenas, and what it says of them.
use Rattle.std.proofs.Common.{◌≡◌, ◌≢◌, ℕ, ◌+◌, ◌<◌, ◌≤◌, Bool, true, cond, eqb, ltb, not, List, [], ◌∷◌, length, map, Option, Some, None, refl, sym, ap, ◌∙◌, arith, inl, inr}
use Rattle.std.specs.List.{All, filter, find, sum_by}
use Rattle.std.specs.Option.{option_map}
use Rattle.std.proofs.lemmas.Bool.{cases_eq, cases_Bool, eq-eqb, ne_eqb}
use Rattle.std.proofs.lemmas.List.Elements.{All-head, All-tail, All-filter, All-map}
use Rattle.std.proofs.lemmas.List.{length-map}
use Rattle.std.proofs.lemmas.List.Folds.{fold-map}
use Rattle.std.proofs.lemmas.List.Sums.{length-filter, count_by-le-length}
use Rattle.market_types.specs.declared.row.Row.{Row}
use Rattle.market_types.specs.State.{Claim, Arena}
use Rattle.market_types.specs.Claims.{request_of, is_mandated}
use Rattle.market_types.specs.Allotment.{at_level, total_request}
use Rattle.market_types.specs.Step.{arena_at, without, with_claim}
use Rattle.arena_store.specs.Arenas.{has_number, level_row, level_rows, newer}
use Rattle.arena_store.proofs.ByStamp.{IsOlder}

-- the arena has the number where it has the stamp
abbrev pub Matches : ℕ → ℕ → Arena → Type 0
Matches n t b = has_number n b ≡ eqb b.stamp t

-- the arena is at this level if it has the number
abbrev pub LevelsAt : ℕ → ℕ → Arena → Type 0
LevelsAt n level b = has_number n b ≡ true → b.level ≡ level

-- ---- a claim changes

pub level_rows-with_claim : (k n t : ℕ) (c : Claim) (arenas : List Arena) → All (Matches n t) arenas
    → level_rows k (with_claim n c arenas) ≡ map (λ (r : Row). cond (eqb r.stamp t) (record r { request = request_of c; mandated = is_mandated c }) r) (level_rows k arenas)
level_rows-with_claim k n t c [] h = refl
level_rows-with_claim k n t c (b ∷ bs) h =
    let here : has_number n b ≡ eqb b.stamp t = All-head (Matches n t) b bs h in
    let rest = level_rows-with_claim k n t c bs (All-tail (Matches n t) b bs h) in
    elim (cases_eq b.level k) [
      | inl e ↦
          elim (cases_Bool (has_number n b)) [
            | inl f ↦ rw (f, eq-eqb b.level k e, sym here ∙ f) (ap (λ xs. level_row (record b { claim = c }) ∷ xs) rest)
            | inr g ↦ rw (g, eq-eqb b.level k e, sym here ∙ g) (ap (λ xs. level_row b ∷ xs) rest)
          ]
      | inr m ↦
          elim (cases_Bool (has_number n b)) [
            | inl f ↦ rw (f, ne_eqb b.level k m) rest
            | inr g ↦ rw (g, ne_eqb b.level k m) rest
          ]
    ]

pub level_rows-with_claim_other : (k n level : ℕ) (c : Claim) (arenas : List Arena) → All (LevelsAt n level) arenas → level ≢ k → level_rows k (with_claim n c arenas) ≡ level_rows k arenas
level_rows-with_claim_other k n level c [] h apart = refl
level_rows-with_claim_other k n level c (b ∷ bs) h apart =
    let rest = level_rows-with_claim_other k n level c bs (All-tail (LevelsAt n level) b bs h) apart in
    elim (cases_Bool (has_number n b)) [
      | inl f ↦
          let m : b.level ≢ k = λ e. apart (sym (All-head (LevelsAt n level) b bs h f) ∙ e) in
          rw (f, ne_eqb b.level k m) rest
      | inr g ↦
          elim (cases_eq b.level k) [
            | inl e ↦ rw (g, eq-eqb b.level k e) (ap (λ xs. level_row b ∷ xs) rest)
            | inr m ↦ rw (g, ne_eqb b.level k m) rest
          ]
    ]

-- ---- an arena goes

pub level_rows-without : (k n t : ℕ) (arenas : List Arena) → All (Matches n t) arenas
    → level_rows k (without n arenas) ≡ filter (λ (r : Row). not (eqb r.stamp t)) (level_rows k arenas)
level_rows-without k n t [] h = refl
level_rows-without k n t (b ∷ bs) h =
    let here : has_number n b ≡ eqb b.stamp t = All-head (Matches n t) b bs h in
    let rest = level_rows-without k n t bs (All-tail (Matches n t) b bs h) in
    elim (cases_eq b.level k) [
      | inl e ↦
          elim (cases_Bool (has_number n b)) [
            | inl f ↦ rw (f, eq-eqb b.level k e, sym here ∙ f) rest
            | inr g ↦ rw (g, eq-eqb b.level k e, sym here ∙ g) (ap (λ xs. level_row b ∷ xs) rest)
          ]
      | inr m ↦
          elim (cases_Bool (has_number n b)) [
            | inl f ↦ rw (f, ne_eqb b.level k m) rest
            | inr g ↦ rw (g, ne_eqb b.level k m) rest
          ]
    ]

pub level_rows-without_other : (k n level : ℕ) (arenas : List Arena) → All (LevelsAt n level) arenas → level ≢ k → level_rows k (without n arenas) ≡ level_rows k arenas
level_rows-without_other k n level [] h apart = refl
level_rows-without_other k n level (b ∷ bs) h apart =
    let rest = level_rows-without_other k n level bs (All-tail (LevelsAt n level) b bs h) apart in
    elim (cases_Bool (has_number n b)) [
      | inl f ↦
          let m : b.level ≢ k = λ e. apart (sym (All-head (LevelsAt n level) b bs h f) ∙ e) in
          rw (f, ne_eqb b.level k m) rest
      | inr g ↦
          elim (cases_eq b.level k) [
            | inl e ↦ rw (g, eq-eqb b.level k e) (ap (λ xs. level_row b ∷ xs) rest)
            | inr m ↦ rw (g, ne_eqb b.level k m) rest
          ]
    ]

-- ---- what is found in a level's list

pub find-map : {X Y : Type 0} (p : Y → Bool) (g : X → Y) (xs : List X) → find p (map g xs) ≡ option_map g (find (λ x. p (g x)) xs)
find-map p g [] = refl
find-map p g (x ∷ xs) = elim (cases_Bool (p (g x))) [ inl t ↦ rw t refl | inr f ↦ rw f (find-map p g xs) ]

pub filter-map : {X Y : Type 0} (p : Y → Bool) (g : X → Y) (xs : List X) → filter p (map g xs) ≡ map g (filter (λ x. p (g x)) xs)
filter-map p g [] = refl
filter-map p g (x ∷ xs) = elim (cases_Bool (p (g x))) [ inl t ↦ rw t (ap (λ ys. g x ∷ ys) (filter-map p g xs)) | inr f ↦ rw f (filter-map p g xs) ]

-- tests in either order
pub filter-filter : {X : Type 0} (p q : X → Bool) (xs : List X) → filter p (filter q xs) ≡ filter q (filter p xs)
filter-filter p q [] = refl
filter-filter p q (x ∷ xs) =
    let rest = filter-filter p q xs in
    elim (cases_Bool (p x)) [
      | inl t ↦ elim (cases_Bool (q x)) [ inl u ↦ rw (t, u) (rw t (ap (λ ys. x ∷ ys) rest)) | inr v ↦ rw (t, v) rest ]
      | inr f ↦ elim (cases_Bool (q x)) [ inl u ↦ rw (f, u) (rw f rest) | inr v ↦ rw (f, v) rest ]
    ]

-- the arena with the number is found among those of its level
arena_at-level : (n : ℕ) (arenas : List Arena) (a : Arena) → arena_at n arenas ≡ Some a → arena_at n (at_level a.level arenas) ≡ Some a
arena_at-level n [] a e = cc
arena_at-level n (b ∷ bs) a e =
    elim (cases_Bool (has_number n b)) [
      | inl f ↦
          let same : Some b ≡ Some a = rw f at e in
          let level : b.level ≡ a.level = ap (λ (o : Option Arena). elim o [ None ↦ a.level | Some x ↦ x.level ]) same in
          rw (eq-eqb b.level a.level level, f) same
      | inr g ↦
          let later : arena_at n bs ≡ Some a = rw g at e in
          elim (cases_eq b.level a.level) [
            | inl l ↦ rw (eq-eqb b.level a.level l, g) (arena_at-level n bs a later)
            | inr m ↦ rw (ne_eqb b.level a.level m) (arena_at-level n bs a later)
          ]
    ]

find-agree : (p q : Arena → Bool) (xs : List Arena) → All (λ x. p x ≡ q x) xs → find p xs ≡ find q xs
find-agree p q [] h = refl
find-agree p q (x ∷ xs) h =
    let here : p x ≡ q x = All-head (λ x. p x ≡ q x) x xs h in
    elim (cases_Bool (q x)) [
      | inl t ↦ rw (t, here ∙ t) refl
      | inr f ↦ rw (f, here ∙ f) (find-agree p q xs (All-tail (λ x. p x ≡ q x) x xs h))
    ]

pub level_row-at : (n t : ℕ) (arenas : List Arena) (a : Arena) → All (Matches n t) arenas → arena_at n arenas ≡ Some a
    → find (λ (r : Row). eqb r.stamp t) (level_rows a.level arenas) ≡ Some (level_row a)
level_row-at n t arenas a h e =
    let level : Arena → Bool = λ (b : Arena). eqb b.level a.level in
    find-map (λ (r : Row). eqb r.stamp t) level_row (at_level a.level arenas)
    ∙ ap (option_map level_row) (sym (find-agree (has_number n) (λ (b : Arena). eqb b.stamp t) (at_level a.level arenas) (All-filter level (Matches n t) arenas h)) ∙ arena_at-level n arenas a e)

pub level_rows-older : (k t : ℕ) (arenas : List Arena) → All (IsOlder t) arenas → All (λ (r : Row). r.stamp < t) (level_rows k arenas)
level_rows-older k t arenas h = All-map (λ (r : Row). r.stamp < t) level_row (at_level k arenas) (All-filter (λ (b : Arena). eqb b.level k) (IsOlder t) arenas h)

-- ---- sums over a level's list

pub level_rows-demand : (k : ℕ) (arenas : List Arena) → sum_by (λ (r : Row). r.request) (level_rows k arenas) ≡ total_request (at_level k arenas)
level_rows-demand k arenas = fold-map (λ (n : ℕ) (r : Row). n + r.request) level_row 0 (at_level k arenas)

pub level_rows-newer : (k t : ℕ) (arenas : List Arena) → filter (λ (r : Row). ltb t r.stamp) (level_rows k arenas) ≡ level_rows k (newer t arenas)
level_rows-newer k t arenas =
    filter-map (λ (r : Row). ltb t r.stamp) level_row (at_level k arenas)
    ∙ ap (map level_row) (filter-filter (λ (b : Arena). ltb t b.stamp) (λ (b : Arena). eqb b.level k) arenas)

pub level_rows-before : (k t : ℕ) (arenas : List Arena) → sum_by (λ (r : Row). r.request) (filter (λ (r : Row). ltb t r.stamp) (level_rows k arenas)) ≡ total_request (at_level k (newer t arenas))
level_rows-before k t arenas = ap (sum_by (λ (r : Row). r.request)) (level_rows-newer k t arenas) ∙ level_rows-demand k (newer t arenas)

pub level_rows-mandated : (k : ℕ) (arenas : List Arena) → find (λ (r : Row). r.mandated) (level_rows k arenas) ≡ option_map level_row (find (λ (a : Arena). is_mandated a.claim) (at_level k arenas))
level_rows-mandated k arenas = find-map (λ (r : Row). r.mandated) level_row (at_level k arenas)

pub length-level_rows : (k : ℕ) (arenas : List Arena) → length (level_rows k arenas) ≤ length arenas
length-level_rows k arenas =
    let p : Arena → Bool = λ (b : Arena). eqb b.level k in
    omega (arith, length-map (at_level k arenas) level_row, length-filter p arenas, count_by-le-length p arenas)
