use Rattle.std.specs.Prelude.{◌*◌}
use Rattle.std.proofs.Common.{◌≡◌, ◌≤◌}
use Rattle.journal_chart.specs.Shares.{apart}
use Rattle.journal_chart.proofs.shares.apart.Given as goal

-- what was added up so far is how much so many levels differ, by no more each than one can ask for
abbrev pub invariant-loop-place : goal.invariant-loop-place
invariant-loop-place l = record {
  exact : l.apart ≡ apart l.place l.asked l.other;
  few : l.apart ≤ l.place * (1024 * 65535);
}
