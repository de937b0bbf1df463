-- What the arenas of a level are allotted together.
use Rattle.std.proofs.Common.{◌≡◌, ℕ, ◌+◌, ◌-◌, ◌*◌, ◌<◌, ◌≤◌, true, false, cond, eqb, Bool, List, [], ◌∷◌, ◌++◌, get_or, Option, Some, None, refl, sym, ap, ◌∙◌, arith, inl, inr, zero-add}
use Rattle.std.specs.Prelude.{slice_index}
use Rattle.std.specs.List.{All, count_by, sum_by}
use Rattle.std.proofs.lemmas.Bool.{cases_eq, cases_lt, eq-eqb, eqb-true, ne_eqb}
use Rattle.std.proofs.lemmas.List.{append-nil}
use Rattle.std.proofs.lemmas.List.Elements.{All-filter, All-head, All-tail, filter_passes}
use Rattle.std.proofs.lemmas.List.Sums.{sum_by-append, sum_by-cons}
use Rattle.std.proofs.lemmas.Option.{slice_get-get_or}
use Rattle.market_types.specs.State.{Arena, State}
use Rattle.market_types.specs.Allotment.{at_level, carried, carry_after, count_at, assigned, demand, allotment_of, bound_of, limit_of, in_order, levels_of, mandatory_pick}
use Rattle.market_types.specs.Step.{arena_at}
use Rattle.allotment.specs.Levels.{workers_of, pick_of, IsLeveled}
use Rattle.market_core.specs.Allotted.{level_allotment}
use Rattle.market_core.specs.declared.division.Division.{Division}
use Rattle.market_core.specs.Divided.{IsDivisionOf}
use Rattle.arena_store.specs.Arenas.{has_number, newer, older, IsFound, StandOnce}
use Rattle.market_core.proofs.Numbers.{All-found}
use Rattle.market_core.proofs.Allotted.{allotment_of-shared, allotment_of-picked, all_to_number, all_to-number, at_level-above, at_level-own, at_level-other, count_at-found, level-in-range, missing-at}
use Rattle.market_core.proofs.Totals.{count-missing, count-yes, sum-counts, sum-picked, sum-same, count-filter}

-- ---- the arenas of a level

-- each is found by its number
level-members : (level : ℕ) (arenas : List Arena) → StandOnce arenas → All (λ (a : Arena). arena_at a.number arenas ≡ Some a) (at_level level arenas)
level-members level arenas stand =
    λ k d within. (stand.in_level level k (get_or (at_level level arenas) k d) (slice_get-get_or (at_level level arenas) k d within)).by_number

-- sums of counts that are the same for each of some arenas
sum-members : (f g : Arena → ℕ) (xs : List Arena) → All (λ (a : Arena). f a ≡ g a) xs → sum_by f xs ≡ sum_by g xs
sum-members f g [] h = refl
sum-members f g (x ∷ xs) h =
    let P : Arena → Type 0 = λ (a : Arena). f a ≡ g a in
    omega (arith, sum_by-cons f x xs, sum_by-cons g x xs, All-head P x xs h, sum-members f g xs (All-tail P x xs h))

-- ---- where workers may be active

-- no level leaves a carry, so an arena has the same count in its level as among all
level-count : (s : State) (K D : ℕ → ℕ) (a : Arena) → IsFound a.number a s.arenas → (1 ≤ a.level) × (a.level ≤ s.levels)
    → ((level : ℕ) → carry_after K D 0 (at_level level s.arenas) ≡ 0)
    → count_at a.number (carried K D 0 (in_order s)) ≡ count_at a.number (carried K D 0 (at_level a.level s.arenas))
level-count s K D a f level whole =
    count_at-found K D a.number a s.arenas (levels_of s) f whole (level-in-range a.level 1 s.levels level.0 (omega (arith, level.1)))
    ∙ sym (count_at-found K D a.number a s.arenas (a.level ∷ []) f whole (rw (eq-eqb a.level a.level refl) refl))
    ∙ ap (λ xs. count_at a.number (carried K D 0 xs)) (append-nil (at_level a.level s.arenas))

-- so its arenas are allotted what is carried through the level alone
level-carried : (s : State) (level : ℕ) → StandOnce s.arenas → IsLeveled s → 0 < limit_of s
    → ((level : ℕ) → carry_after (assigned s) (demand s) 0 (at_level level s.arenas) ≡ 0)
    → level_allotment s level ≡ sum_by workers_of (carried (assigned s) (demand s) 0 (at_level level s.arenas))
level-carried s level stand leveled some whole =
    let K = assigned s in
    let D = demand s in
    let xs = at_level level s.arenas in
    let given : Arena → ℕ = λ a. count_at a.number (carried K D 0 xs) in
    let same : All (λ (a : Arena). allotment_of s a.number ≡ given a) xs =
    λ k d within.
    let a = get_or xs k d in
    let there : arena_at a.number s.arenas ≡ Some a = level-members level s.arenas stand k d within in
    let here : a.level ≡ level = eqb-true a.level level (filter_passes (λ (a : Arena). eqb a.level level) s.arenas k d within) in
    let leveled' : (1 ≤ a.level) × (a.level ≤ s.levels) = All-found (λ (a : Arena). (1 ≤ a.level) × (a.level ≤ s.levels)) a.number s.arenas a there leveled in
    allotment_of-shared s a.number some ∙ level-count s K D a (stand.found a.number a there) leveled' whole
    ∙ ap (λ l. count_at a.number (carried K D 0 (at_level l s.arenas))) here in
    sum-members (λ (a : Arena). allotment_of s a.number) given xs same
    ∙ sum-counts K D 0 xs (λ n. omega (arith, stand.once n, count-filter n (λ (a : Arena). eqb a.level level) s.arenas))

pub level-shared : (s : State) (level : ℕ) → StandOnce s.arenas → IsLeveled s → 0 < limit_of s
    → ((level : ℕ) → carry_after (assigned s) (demand s) 0 (at_level level s.arenas) ≡ 0)
    → sum_by workers_of (carried (assigned s) (demand s) 0 (at_level level s.arenas)) ≡ assigned s level
    → level_allotment s level ≡ assigned s level
level-shared s level stand leveled some whole given = level-carried s level stand leveled some whole ∙ given

-- what a division assigns to a level, also above the market's levels, where there is no arena
pub division-assigned : (s : State) (d : Division) (level : ℕ) → IsDivisionOf s d → IsLeveled s → 1 ≤ level
    → sum_by workers_of (carried (assigned s) (demand s) 0 (at_level level s.arenas)) ≡ assigned s level
    → slice_index d.assigned.values (level - 1) ≡ assigned s level
division-assigned s d level divided leveled low given =
    elim (cases_lt s.levels level) [
      | inl above ↦
          let none : assigned s level ≡ 0 = sym given ∙ ap (λ xs. sum_by workers_of (carried (assigned s) (demand s) 0 xs)) (at_level-above s.levels level s.arenas leveled above) in
          omega (arith, none, divided.within (level - 1), divided.demands.above (level - 1) (omega arith))
      | inr within ↦ divided.assigned level low within
    ]

-- ---- where no worker may be active

-- the arena counts once at its level, and at no other
count-at_level : (n level : ℕ) (row : Arena) (arenas : List Arena) → IsFound n row arenas → count_by (has_number n) (at_level level arenas) ≡ cond (eqb row.level level) 1 0
count-at_level n level row arenas f =
    let P : Arena → Type 0 = λ (b : Arena). has_number n b ≡ false in
    let one : Arena → ℕ = λ b. cond (has_number n b) 1 0 in
    let xs = at_level level (newer row.stamp arenas) in
    let ys = at_level level (older row.stamp arenas) in
    let front : count_by (has_number n) xs ≡ 0 = count-missing n xs (All-filter (λ (b : Arena). eqb b.level level) P (newer row.stamp arenas) f.missing_before) in
    let back : count_by (has_number n) ys ≡ 0 = count-missing n ys (All-filter (λ (b : Arena). eqb b.level level) P (older row.stamp arenas) f.missing_after) in
    ap (λ zs. count_by (has_number n) (at_level level zs)) f.split
    ∙ elim (cases_eq row.level level) [
      | inl e ↦
          let own : at_level level ((newer row.stamp arenas) ++ row ∷ (older row.stamp arenas)) ≡ xs ++ row ∷ ys = rw (← e) (at_level-own (newer row.stamp arenas) (older row.stamp arenas) row) in
          let here : count_by (has_number n) (row ∷ ys) ≡ 1 + count_by (has_number n) ys = count-yes n row ys (eq-eqb row.number n f.number) in
          ap (count_by (has_number n)) own ∙ sum_by-append one xs (row ∷ ys) ∙ rw (eq-eqb row.level level e) (omega arith)
      | inr m ↦ ap (count_by (has_number n)) (at_level-other level (newer row.stamp arenas) (older row.stamp arenas) row m) ∙ sum_by-append one xs ys ∙ rw (ne_eqb row.level level m) (omega arith)
    ]

level-all_to : (s : State) (level : ℕ) → limit_of s ≡ 0 → level_allotment s level ≡ sum_by (λ (a : Arena). all_to_number (pick_of s) (bound_of s) a.number) (at_level level s.arenas)
level-all_to s level none =
    sum-same (λ (a : Arena). allotment_of s a.number) (λ (a : Arena). all_to_number (pick_of s) (bound_of s) a.number) (at_level level s.arenas)
    (λ a. allotment_of-picked s a.number none ∙ all_to-number (mandatory_pick s) (bound_of s) a.number)

-- where enqueued work is served, the arena counts as often as it is at the level
level-served : (s : State) (level n : ℕ) → limit_of s ≡ 0 → pick_of s ≡ Some n → level_allotment s level ≡ count_by (has_number n) (at_level level s.arenas) * bound_of s
level-served s level n none picked =
    level-all_to s level none ∙ ap (λ (o : Option ℕ). sum_by (λ (a : Arena). all_to_number o (bound_of s) a.number) (at_level level s.arenas)) picked
    ∙ sum-picked n (bound_of s) (at_level level s.arenas)

pub level-picked : (s : State) (level n : ℕ) (row : Arena) → StandOnce s.arenas → limit_of s ≡ 0 → pick_of s ≡ Some n → arena_at n s.arenas ≡ Some row → level_allotment s level ≡ cond (eqb row.level level) (bound_of s) 0
level-picked s level n row stand none picked there =
    level-served s level n none picked
    ∙ ap (λ k. k * bound_of s) (count-at_level n level row s.arenas (stand.found n row there))
    ∙ times (eqb row.level level) (bound_of s)
  where
    times : (b : Bool) (w : ℕ) → cond b 1 0 * w ≡ cond b w 0
    times true w = omega arith
    times false w = omega arith

pub level-missing : (s : State) (level n : ℕ) → limit_of s ≡ 0 → pick_of s ≡ Some n → arena_at n s.arenas ≡ None → level_allotment s level ≡ 0
level-missing s level n none picked missing =
    level-served s level n none picked
    ∙ ap (λ k. k * bound_of s) (count-missing n (at_level level s.arenas) (All-filter (λ (b : Arena). eqb b.level level) (λ (b : Arena). has_number n b ≡ false) s.arenas (missing-at n s.arenas missing)))
    ∙ (let nothing : 0 * bound_of s ≡ 0 = omega arith in nothing)

pub level-unserved : (s : State) (level : ℕ) → limit_of s ≡ 0 → pick_of s ≡ None → level_allotment s level ≡ 0
level-unserved s level none picked =
    level-all_to s level none ∙ ap (λ (o : Option ℕ). sum_by (λ (a : Arena). all_to_number o (bound_of s) a.number) (at_level level s.arenas)) picked ∙ nothing (at_level level s.arenas)
  where
    nothing : (xs : List Arena) → sum_by (λ (a : Arena). 0) xs ≡ 0
    nothing [] = refl
    nothing (x ∷ xs) = sum_by-cons (λ (a : Arena). 0) x xs ∙ zero-add (sum_by (λ (a : Arena). 0) xs) ∙ nothing xs
