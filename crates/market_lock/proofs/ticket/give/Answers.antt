use Rattle.std.proofs.Common.{rules}
use Rattle.market_lock.specs.Views.{same_cuts}
use Rattle.market_lock.specs.Seen.{known_of}
use Rattle.market_lock.proofs.Steps.{gives_it}
use Rattle.market_lock.proofs.ticket.give.Goals as goal

pub store-requires : goal.store-requires
store-requires c =
    let h = c.requires.desk in
    (search rules, search rules, gives_it _ same_cuts _ _ _ (known_of c.args.seat.now.me.0) h.0 h.1 c.requires.table.2 h.2 h.3)

pub returns-clause-seat : goal.returns-clause-seat
returns-clause-seat c =
    let h = c.requires.desk in
    (h.0, h.1, h.2, c.store.ensures.2 (known_of c.args.seat.now.me.0) h.0 h.1 h.2)
