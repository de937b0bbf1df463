use Rattle.std.proofs.Common.{◌≡◌, ℕ, ◌/◌, ◌<◌, length, get_or}
use Rattle.wide_rows.specs.Shelves.{leaf_at}
use Rattle.wide_rows.specs.Storeys.{IsStorey, IsBlock, block_at, block_rows}
use Rattle.wide_rows.proofs.storeys.Storeys.rebuild.Given as goal

abbrev pub invariant-loop-block : goal.invariant-loop-block
invariant-loop-block l = record {
  wide : length l.self.blocks ≡ 10;
  written : (block : ℕ) → block < l.block → IsBlock (block_at l.self.blocks block) (leaf_at l.leaves.items) (length l.leaves.items) block;
  beyond : (block : ℕ) → length l.leaves.items / 16 < block → block < 10 → IsBlock (block_at l.self.blocks block) (leaf_at l.leaves.items) (length l.leaves.items) block;
}

abbrev pub invariant-loop-at : goal.invariant-loop-at
invariant-loop-at l = record {
  wide : length l.self.blocks ≡ 10;
  written : (block : ℕ) → block < 10 → IsBlock (block_at l.self.blocks block) (leaf_at l.leaves.items) (length l.leaves.items) block;
  storey : IsStorey l.self.top (block_rows (leaf_at l.leaves.items)) l.at;
  same : (block : ℕ) → block < l.at → get_or l.self.top.oldest block 0 ≡ get_or (block_at l.self.blocks block).oldest 0 0;
}
