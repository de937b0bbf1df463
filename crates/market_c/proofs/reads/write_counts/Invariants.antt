use Rattle.std.proofs.Common.{◌≡◌, ◌≤◌, length, map, take, drop}
use Rattle.market_c.specs.Views.{counts_of}
use Rattle.market_c.proofs.reads.write_counts.Given as goal

-- the first ones are written, and the rest is as it was
abbrev pub invariant-loop-index : goal.invariant-loop-index
invariant-loop-index l = (l.index ≤ length l.from) × (take l.index l.to ≡ map counts_of (take l.index l.from)) × (drop l.index l.to ≡ drop l.index l.initial.to)
