-- What is written of a line, of a level's arenas, and of the levels.
use Rattle.std.proofs.Common.{◌≡◌, ℕ, zero, suc, ◌+◌, ◌-◌, ◌<◌, true, false, eqb, ltb, List, [], ◌∷◌, ◌++◌, drop, codes, Option, None, Some, option_map, Result, Ok, Err, OnOk, refl, sym, ap, ◌∙◌, arith, inl, inr, append_assoc, append-nil}
use Rattle.std.specs.Prelude.{slice_get}
use Rattle.std.specs.List.{sum_by, range_with_len}
use Rattle.std.proofs.Math.Seq.{drop-cons}
use Rattle.std.proofs.lemmas.Bool.{cases_Bool}
use Rattle.std.proofs.lemmas.Bool.Decides.{nat_tests}
use Rattle.std.proofs.lemmas.List.{drop_all}
use Rattle.std.proofs.lemmas.Option.{slice_get_within, get_or_from_slice_get}
use Rattle.market_types.specs.declared.reply.ArenaView.{ArenaView}
use Rattle.market_types.specs.State.{Arena, State}
use Rattle.market_types.specs.Claims.{request_of}
use Rattle.market_types.specs.Allotment.{at_level, demand, limit_of, bound_of, assigned, carry_past, carry_after}
use Rattle.market_types.specs.Step.{view_of}
use Rattle.market_core.specs.Allotted.{level_allotment}
use Rattle.explainer.specs.declared.line.CarryStep.{CarryStep}
use Rattle.explainer.specs.declared.line.LevelView.{LevelView}
use Rattle.explainer.specs.Columns.{level_line, arena_line}
use Rattle.explainer.specs.Explanation.{left_after, level_view, step_of, arena_lines, level_lines}
use Rattle.explainer.proofs.Divided.{sum-more}

-- one text after the other
pushed : (a b c x y : List ℕ) → b ≡ a ++ x → c ≡ b ++ y → c ≡ a ++ (x ++ y)
pushed a b c x y e f = f ∙ ap (λ t. t ++ y) e ∙ append_assoc a x y

pushed-last : {T E : Type 0} (r : Result T E) (a b c x y : List ℕ) → b ≡ a ++ x → OnOk r (c ≡ b ++ y) → OnOk r (c ≡ a ++ (x ++ y))
pushed-last (Ok v) a b c x y e f = pushed a b c x y e f
pushed-last (Err v) a b c x y e f = tt

-- six columns, one after the other
pub six-columns : {T E : Type 0} (r : Result T E) (o a b c d e f u v w x y z : List ℕ) → a ≡ o ++ u → b ≡ a ++ v → c ≡ b ++ w → d ≡ c ++ x → e ≡ d ++ y → OnOk r (f ≡ e ++ z)
    → OnOk r (f ≡ o ++ (u ++ (v ++ (w ++ (x ++ (y ++ z))))))
six-columns r o a b c d e f u v w x y z p q s t k l =
    pushed-last r o a f u (v ++ (w ++ (x ++ (y ++ z)))) p
    (pushed-last r a b f v (w ++ (x ++ (y ++ z))) q
    (pushed-last r b c f w (x ++ (y ++ z)) s
    (pushed-last r c d f x (y ++ z) t
    (pushed-last r d e f y z k l))))

-- ---- a level's arenas

-- the carry after a step
abbrev pub carry_left : ℕ → Option CarryStep → ℕ
carry_left carry None = carry
carry_left carry (Some step) = step.rest

-- where no worker may be active, no carry is shown
lines-unshared : (s : State) (c d : ℕ) (arenas : List Arena) → ltb 0 (limit_of s) ≡ false → arena_lines s c arenas ≡ arena_lines s d arenas
lines-unshared s c d [] none = refl
lines-unshared s c d (a ∷ arenas) none =
    let here : step_of s c a ≡ step_of s d a = rw none refl in
    let rest = lines-unshared s (carry_past (assigned s) (demand s) c a) (carry_past (assigned s) (demand s) d a) arenas none in
    λ i. arena_line (view_of s a) (here i) ++ (codes "\n" ++ rest i)

-- an arena without a step leaves the carry that it was left
next-lines : (s : State) (carry : ℕ) (a : Arena) (arenas : List Arena)
    → arena_lines s (carry_left carry (step_of s carry a)) arenas ≡ arena_lines s (carry_past (assigned s) (demand s) carry a) arenas
next-lines s carry a arenas =
    elim (cases_Bool (ltb 0 (limit_of s))) [
      | inl some ↦ elim (cases_Bool (ltb 0 (request_of a.claim))) [
        | inl asks ↦ let asked : eqb (request_of a.claim) 0 ≡ false = grind (arith, nat_tests) in rw (some, asks, asked) refl
        | inr none ↦ let asked : eqb (request_of a.claim) 0 ≡ true = grind (arith, nat_tests) in rw (some, none, asked) refl
      ]
      | inr none ↦
          let step : step_of s carry a ≡ None = rw none refl in
          ap (λ o. arena_lines s (carry_left carry o) arenas) step ∙ lines-unshared s carry (carry_past (assigned s) (demand s) carry a) arenas none
    ]

drop-at : (arenas : List Arena) (i : ℕ) (a : Arena) → slice_get arenas i ≡ Some a → drop i arenas ≡ a ∷ drop (i + 1) arenas
drop-at arenas i a found =
    let next : suc i ≡ i + 1 = omega arith in
    drop-cons arenas i a (slice_get_within arenas i a found)
    ∙ (λ j. get_or_from_slice_get arenas i a a found j ∷ drop (next j) arenas)

-- one arena more is written
pub arena-written : (s : State) (carry i : ℕ) (arenas : List Arena) (a : Arena) (out out' whole : List ℕ) → slice_get arenas i ≡ Some a
    → out ++ arena_lines s carry (drop i arenas) ≡ whole → out' ≡ out ++ (arena_line (view_of s a) (step_of s carry a) ++ codes "\n")
    → out' ++ arena_lines s (carry_left carry (step_of s carry a)) (drop (i + 1) arenas) ≡ whole
arena-written s carry i arenas a out out' whole found so_far more =
    let line : List ℕ = arena_line (view_of s a) (step_of s carry a) in
    let left : List ℕ = arena_lines s (carry_left carry (step_of s carry a)) (drop (i + 1) arenas) in
    ap (λ t. t ++ left) more
    ∙ append_assoc out (line ++ codes "\n") left
    ∙ ap (λ t. out ++ t) (append_assoc line (codes "\n") left)
    ∙ ap (λ t. out ++ (line ++ (codes "\n" ++ t))) (next-lines s carry a (drop (i + 1) arenas))
    ∙ ap (λ xs. out ++ arena_lines s carry xs) (sym (drop-at arenas i a found))
    ∙ so_far

-- all are
pub arenas-written : (s : State) (carry i : ℕ) (arenas : List Arena) (out whole : List ℕ) → slice_get arenas i ≡ None
    → out ++ arena_lines s carry (drop i arenas) ≡ whole → out ≡ whole
arenas-written s carry i arenas out whole none so_far =
    let past : drop i arenas ≡ [] = drop-none arenas i none in
    sym (append-nil out) ∙ ap (λ xs. out ++ arena_lines s carry xs) (sym past) ∙ so_far
  where
    drop-none : (xs : List Arena) (i : ℕ) → slice_get xs i ≡ None → drop i xs ≡ []
    drop-none [] i none = drop_all i [] (omega arith)
    drop-none (x ∷ xs) zero none = cc
    drop-none (x ∷ xs) (suc i) none = drop-none xs i none

-- what a row of the market is
pub row-some : (s : State) (o : Option Arena) (v : ArenaView) → Some v ≡ option_map (view_of s) o → (a : Arena) × (o ≡ Some a) × (v ≡ view_of s a)
row-some s None v is = absurd (cc)
row-some s (Some a) v is = (a, refl, cc)

pub row-none : (s : State) (o : Option Arena) → None ≡ option_map (view_of s) o → o ≡ None
row-none s None is = refl
row-none s (Some a) is = cc

-- ---- the levels

-- one level more is written
pub level-written : (s : State) (i : ℕ) (v : LevelView) (out mid out' whole : List ℕ) → i < s.levels
    → out ++ level_lines s 0 (range_with_len (i + 1) (s.levels - i)) ≡ whole
    → v ≡ level_view s (i + 1)
    → mid ≡ out ++ (level_line s.levels v ++ codes "\n")
    → out' ≡ mid ++ arena_lines s 0 (at_level (i + 1) s.arenas)
    → carry_after (assigned s) (demand s) 0 (at_level (i + 1) s.arenas) ≡ 0
    → out' ++ level_lines s 0 (range_with_len (i + 1 + 1) (s.levels - (i + 1))) ≡ whole
level-written s i v out mid out' whole more so_far view line arenas none =
    let rest : List ℕ = range_with_len (i + 1 + 1) (s.levels - (i + 1)) in
    let left : List ℕ = level_lines s 0 rest in
    let first : List ℕ = level_line s.levels (level_view s (i + 1)) in
    let those : List ℕ = arena_lines s 0 (at_level (i + 1) s.arenas) in
    let count : s.levels - i ≡ suc (s.levels - (i + 1)) = omega arith in
    ap (λ t. t ++ left) (arenas ∙ ap (λ t. t ++ those) (line ∙ ap (λ u. out ++ (level_line s.levels u ++ codes "\n")) view))
    ∙ append_assoc (out ++ (first ++ codes "\n")) those left
    ∙ append_assoc out (first ++ codes "\n") (those ++ left)
    ∙ ap (λ t. out ++ t) (append_assoc first (codes "\n") (those ++ left))
    ∙ ap (λ n. out ++ (first ++ (codes "\n" ++ (those ++ level_lines s n rest)))) (sym none)
    ∙ ap (λ n. out ++ level_lines s 0 (range_with_len (i + 1) n)) (sym count)
    ∙ so_far

-- what a level leaves
pub left-more : (s : State) (i left : ℕ) → left ≡ bound_of s - sum_by (level_allotment s) (range_with_len 1 i) → left - level_allotment s (i + 1) ≡ left_after s (i + 1)
left-more s i left is =
    let next : i + 1 ≡ suc i = omega arith in
    let same : 1 + i ≡ i + 1 = omega arith in
    let more = sum-more (level_allotment s) 1 i in
    let longer : sum_by (level_allotment s) (range_with_len 1 (i + 1)) ≡ sum_by (level_allotment s) (range_with_len 1 (suc i)) = ap (λ n. sum_by (level_allotment s) (range_with_len 1 n)) next in
    omega (arith, ap (level_allotment s) same)
