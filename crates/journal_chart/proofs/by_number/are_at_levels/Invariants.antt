use Rattle.std.specs.Prelude.{ℕ, ◌<◌}
use Rattle.std.proofs.Common.{get_or}
use Rattle.journal_chart.specs.Rows.{Row}
use Rattle.journal_chart.specs.Unkept.{IsAtLevel}
use Rattle.journal_chart.proofs.by_number.are_at_levels.Given as goal

abbrev pub invariant-loop-index : goal.invariant-loop-index
invariant-loop-index l = (j : ℕ) (d : Row) → j < l.index → IsAtLevel (get_or l.rows j d).stands
