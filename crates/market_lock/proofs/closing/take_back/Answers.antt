use Rattle.std.proofs.Common.{rules, sym, subst, ap, ◌∙◌}
use Rattle.atomic_table.specs.Table.{Me, Joins}
use Rattle.edit_history.specs.Chronicled.{Chronicled}
use Rattle.market_lock.specs.declared.view.View.{View}
use Rattle.market_lock.specs.declared.view.View.TheVariants.{Spent}
use Rattle.market_lock.specs.Views.{joined}
use Rattle.market_lock.specs.Rule.{Kept}
use Rattle.market_lock.specs.Held.{kept_of}
use Rattle.market_lock.specs.Seen.{known_of}
use Rattle.market_lock.proofs.Steps.{joins_it}
use Rattle.market_lock.proofs.closing.take_back.Goals as goal

pub join_seat-requires : goal.join_seat-requires
join_seat-requires c =
    let key = c.args.table.now.shared.key in
    let id = c.args.seat.now.id in
    let other = c.ticket.inside.seat.id in
    let theirs = c.ticket.invariant.0 in
    let mine = c.requires.seat in (
      c.requires.table.0,
      ap (λ p. p.table) c.ticket.view_is ∙ c.requires.table.2,
      ap (λ (m : Me Chronicled View). m.1) theirs,
      search rules,
      subst (λ (z : Me Chronicled View × Me Chronicled View). Joins (Kept key) id z.0.0 other z.1.0 (joined z.0.0 z.1.0) Spent) (λ i. (sym mine i, sym theirs i))
          (joins_it key id other key (kept_of c.args.seat.now.me.0) (known_of c.ticket.inside.seat.me.0)),
    )
