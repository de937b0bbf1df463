use Rattle.std.proofs.Common.{◌≡◌}
use Rattle.thread_tests.proofs.office.offices.visit_often.Given as goal

-- the pass is of this office still
abbrev pub invariant-loop : goal.invariant-loop
invariant-loop g l = l.pass.table ≡ l.fn.office.table
