-- What is so of every chronicle: what is not kept of it, and how many of its seats are placed.
use Rattle.std.proofs.Common.{◌≡◌, ℕ, ◌≤◌, arith, cond, List, [], ◌∷◌, length, Option, Some, None, is_some, refl}
use Rattle.std.specs.List.{count_by}
use Rattle.std.proofs.lemmas.List.Sums.{sum_by-cons}
use Rattle.edit_history.specs.declared.keeping.Keeping.{Keeping}
use Rattle.edit_history.specs.declared.keeping.Keeping.TheVariants.{Everything, InParts, Nothing}
use Rattle.market_lock.specs.Forgetting.{forgotten}

-- what is not kept does not change by being told again
pub forgotten-again : (q : Keeping) (calls cut from : ℕ) → from ≡ forgotten q calls cut → from ≡ forgotten q calls from
forgotten-again Everything calls cut from is = is
forgotten-again InParts calls cut from is = refl
forgotten-again Nothing calls cut from is = is

pub few-placed : (l : List (Option ℕ)) → count_by is_some l ≤ length l
few-placed [] = omega arith
few-placed (None ∷ ys) = omega (arith, sum_by-cons (λ (p : Option ℕ). cond (is_some p) 1 0) None ys, few-placed ys)
few-placed (Some a ∷ ys) = omega (arith, sum_by-cons (λ (p : Option ℕ). cond (is_some p) 1 0) (Some a) ys, few-placed ys)
