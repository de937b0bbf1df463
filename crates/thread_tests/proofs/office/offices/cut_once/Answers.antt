use Rattle.std.proofs.Common.{ap, arith}
use Rattle.edit_history.specs.declared.terms.Terms.{Terms}
use Rattle.thread_tests.proofs.office.offices.cut_once.Goals as goal

pub cut_between-requires-clause-three : goal.cut_between-requires-clause-three
cut_between-requires-clause-three g c = (omega (arith, c.in_ok-office.passes.ok.0, c.in_ok-office.ensures.one_for_each), ap (λ (t : Terms). t.opening.seats) c.in_ok-office.ensures.terms)
