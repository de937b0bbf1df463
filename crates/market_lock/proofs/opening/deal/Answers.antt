use Rattle.std.proofs.Common.{rules, sym, subst}
use Rattle.atomic_table.specs.Table.{Me, Splits}
use Rattle.edit_history.specs.Chronicled.{Chronicled}
use Rattle.market_lock.specs.declared.view.View.{View}
use Rattle.market_lock.specs.Views.{one_more, next_pass}
use Rattle.market_lock.specs.Rule.{Kept}
use Rattle.market_lock.proofs.Steps.{splits_it}
use Rattle.market_lock.proofs.opening.deal.Goals as goal

pub split_seat-own-requires : goal.split_seat-own-requires
split_seat-own-requires c =
    let key = c.args.table.now.shared.key in
    (search rules, search rules, subst (λ (m : Me Chronicled View). Splits (Kept key) c.args.seat.now.id m.0 (one_more m.0) (next_pass m.0)) (sym c.requires.seat) (splits_it key key c.args.number c.args.seat.now.id c.requires.number))
