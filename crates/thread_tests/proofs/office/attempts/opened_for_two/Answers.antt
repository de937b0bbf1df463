use Rattle.std.proofs.Common.{ap, arith}
use Rattle.edit_history.specs.declared.terms.Terms.{Terms}
use Rattle.thread_tests.proofs.office.attempts.opened_for_two.Goals as goal

pub each_at_once-requires-clause-two : goal.each_at_once-requires-clause-two
each_at_once-requires-clause-two g c = (omega (arith, c.in_ok-office.passes.ok.0, c.in_ok-office.ensures.one_for_each), ap (λ (t : Terms). t.opening.seats) c.in_ok-office.ensures.terms)
