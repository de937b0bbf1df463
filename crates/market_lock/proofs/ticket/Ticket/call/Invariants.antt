use Rattle.std.proofs.Common.{◌≡◌}
use Rattle.market_lock.proofs.ticket.Ticket.call.Given as goal

abbrev pub invariant-loop : goal.invariant-loop
invariant-loop g l = l.self ≡ l.initial.self
