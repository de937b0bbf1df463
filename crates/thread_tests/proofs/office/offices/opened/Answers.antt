use Rattle.std.proofs.Common.{ap, arith}
use Rattle.edit_history.specs.declared.terms.Terms.{Terms}
use Rattle.thread_tests.proofs.office.offices.opened.Goals as goal

pub worked-requires-clause-three : goal.worked-requires-clause-three
worked-requires-clause-three g c =
    (omega (arith, c.in-Ok-open.passes.ok.0, c.in-Ok-open.ensures.one_for_each), ap (λ (t : Terms). t.opening.seats) c.in-Ok-open.ensures.terms)
