use Rattle.std.proofs.Common.{rules, ◌≡◌, [], Option, sym, subst}
use Rattle.edit_history.specs.declared.part.Part.{Part}
use Rattle.market_lock.specs.declared.view.View.TheVariants.{Outside}
use Rattle.market_lock.specs.declared.view.Known.{Known}
use Rattle.market_lock.specs.Views.{more_cuts, next_cuts, shown}
use Rattle.market_lock.specs.Rule.{Follows}
use Rattle.market_lock.specs.Seen.{known_of}
use Rattle.market_lock.proofs.Steps.{gives_it}
use Rattle.market_lock.proofs.ticket.give_cut.Goals as goal

pub store-requires : goal.store-requires
store-requires c =
    let h = c.requires.desk in
    let k : Known = known_of c.args.seat.now.me.0 in
    let follows = subst (λ (r : Option Part). Follows k h.0 h.1 (next_cuts r k h.0)) c.in-Some.is h.3 in
    (search rules, search rules, gives_it _ more_cuts _ _ _ k h.0 h.1 c.requires.table.2 h.2 follows)

pub returns-in-Some-clause-seat : goal.returns-in-Some-clause-seat
returns-in-Some-clause-seat c =
    let h = c.requires.desk in
    let k : Known = known_of c.args.seat.now.me.0 in
    (h.0, h.1, h.2, subst (λ (r : Option Part). c.store.new.seat.me ≡ (Outside (shown k h.0 h.1 (next_cuts r k h.0)), [])) (sym c.in-Some.is) (c.store.ensures.2 k h.0 h.1 h.2))
