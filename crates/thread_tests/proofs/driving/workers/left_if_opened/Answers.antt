use Rattle.std.proofs.Common.{ap, arith}
use Rattle.edit_history.specs.declared.terms.Terms.{Terms}
use Rattle.thread_tests.proofs.driving.workers.left_if_opened.Goals as goal

pub close-requires-clause-all : goal.close-requires-clause-all
close-requires-clause-all g c =
    let seats = ap (λ (t : Terms). t.opening.seats) c.in-Ok.ensures.terms in
    omega (arith, seats, c.in-Ok.ensures.one_for_each, c.in-Ok.opened.1.ok.0, c.in-Some.ensures.len, c.push_reserved.ensures.len, c.new-3.ensures.len)
