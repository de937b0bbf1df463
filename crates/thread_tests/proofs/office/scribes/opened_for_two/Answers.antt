use Rattle.std.proofs.Common.{ap, arith}
use Rattle.edit_history.specs.declared.terms.Terms.{Terms}
use Rattle.thread_tests.proofs.office.scribes.opened_for_two.Goals as goal

pub two_scribes-requires-clause-two : goal.two_scribes-requires-clause-two
two_scribes-requires-clause-two g c = (omega (arith, c.in_ok-office.passes.ok.0, c.in_ok-office.ensures.one_for_each), ap (λ (t : Terms). t.opening.seats) c.in_ok-office.ensures.terms)
