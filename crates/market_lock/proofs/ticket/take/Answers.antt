use Rattle.std.proofs.Common.{rules, arith}
use Rattle.std.proofs.lemmas.Bool.Decides.{nat_tests}
use Rattle.market_lock.specs.Seen.{known_of}
use Rattle.market_lock.proofs.Steps.{takes_it}
use Rattle.market_lock.proofs.ticket.take.Goals as goal

pub compare_exchange-requires : goal.compare_exchange-requires
compare_exchange-requires c = (search rules, search rules, takes_it _ _ _ _ (known_of c.args.seat.now.me.0) c.requires.seat)

pub returns-clause-taken : goal.returns-clause-taken
returns-clause-taken c is = (c.compare_exchange.ensures.2 (known_of c.args.seat.now.me.0) c.requires.seat).0 (grind (arith, nat_tests))

pub returns-clause-away : goal.returns-clause-away
returns-clause-away c is = (c.compare_exchange.ensures.2 (known_of c.args.seat.now.me.0) c.requires.seat).1 (grind (arith, nat_tests))
