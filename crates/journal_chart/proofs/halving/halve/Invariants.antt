use Rattle.std.proofs.Common.{◌*◌, ◌≤◌, length}
use Rattle.journal_chart.proofs.Thinned.{IsHalved}
use Rattle.journal_chart.proofs.halving.halve.Given as goal

abbrev pub invariant-loop-place : goal.invariant-loop-place
invariant-loop-place g l = IsHalved g.C.Joins.both g.C.Joins.nothing l.fn.things l.things l.place

abbrev pub invariant-loop-place-2 : goal.invariant-loop-place-2
invariant-loop-place-2 g l = IsHalved g.C.Joins.both g.C.Joins.nothing l.fn.things l.things l.place × (length l.things ≤ 2 * l.place)
