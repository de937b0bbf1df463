use Rattle.std.proofs.Common.{◌+◌, ◌-◌, ◌*◌, ◌≤◌, length}
use Rattle.wide_rows.specs.Shelves.{leaf_at}
use Rattle.wide_rows.specs.Storeys.{lanes}
use Rattle.wide_rows.proofs.Gathered.{IsBegun}
use Rattle.wide_rows.proofs.storeys.block_of.Given as goal

abbrev pub invariant-loop-place : goal.invariant-loop-place
invariant-loop-place l = record {
  from : 16 * l.block ≤ l.place;
  to : l.place ≤ 16 * l.block + lanes (length l.leaves.items) l.block;
  begun : IsBegun l.index (leaf_at l.leaves.items) l.block (l.place - 16 * l.block);
}

abbrev pub decreases-loop-place : goal.decreases-loop-place
decreases-loop-place l = 16 * l.block + 16 - l.place
