use Rattle.std.proofs.Common.{◌≡◌, ℕ, ◌+◌, ◌*◌, ◌^◌, ◌<◌, ◌≤◌, length, Option}
use Rattle.market_types.specs.Rows.{requests}
use Rattle.market_types.specs.Bits.{bits}
use Rattle.recall_hire.specs.Shared.{IsSearch}
use Rattle.recall_hire.proofs.served.first_short.Given as goal

-- a search through the rest is one through all
abbrev pub invariant-loop-left : goal.invariant-loop-left
invariant-loop-left l = record {
  nothing : l.carry ≡ 0;
  left_is : l.left ≡ requests l.rest;
  few : l.visits + length l.rest < 2 ^ 30;
  fewer : length l.rest ≤ length l.fn.rows;
  goes : (demand : ℕ) → 0 < demand → (end : ℕ) (found : Option ℕ) → IsSearch demand demand l.roster (l.rest, 2 * bits (length l.fn.rows)) 0 l.visits end found → IsSearch demand demand l.roster (l.fn.rows, 2 * bits (length l.fn.rows)) 0 l.fn.visits end found;
}

abbrev pub decreases-loop-left : goal.decreases-loop-left
decreases-loop-left l = length l.rest
