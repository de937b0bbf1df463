use Rattle.std.proofs.Common.{◌≡◌, ◌+◌, ◌*◌, ◌≤◌, ◌^◌}
use Rattle.journal_chart.specs.Picture.{levels_end}
use Rattle.journal_chart.proofs.picture.levels_end.Given as goal

abbrev pub invariant-loop-level : goal.invariant-loop-level
invariant-loop-level l = record { exact : l.y ≡ levels_end l.rows l.level; low : l.y ≤ 120 + l.level * (40 * 2 ^ 32) }
