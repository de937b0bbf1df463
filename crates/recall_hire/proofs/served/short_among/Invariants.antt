use Rattle.std.proofs.Common.{ℕ, ◌+◌, ◌^◌, ◌<◌, length, Option}
use Rattle.recall_hire.specs.Shared.{IsLook}
use Rattle.recall_hire.proofs.served.short_among.Given as goal

-- a look at the rest is one at all
abbrev pub invariant-loop-row : goal.invariant-loop-row
invariant-loop-row l = record {
  few : l.visits + length l.rest < 2 ^ 31;
  goes : (demand : ℕ) → 0 < demand → (end : ℕ) (found : Option ℕ) → IsLook demand demand l.roster l.rest 0 0 l.visits end found → IsLook demand demand l.roster l.fn.rows 0 0 l.fn.visits end found;
}

abbrev pub decreases-loop-row : goal.decreases-loop-row
decreases-loop-row l = length l.rest
