use Rattle.std.proofs.Common.{ℕ, ◌≤◌}
use Rattle.market_drive.specs.Servable.{IsUnservable}
use Rattle.market_drive.proofs.servable.unservable.Given as goal

abbrev pub invariant-loop-index : goal.invariant-loop-index
invariant-loop-index l = (a : ℕ) → 1 ≤ a → a ≤ l.index → IsUnservable l.plan a → ⊥
