use Rattle.std.proofs.Common.{rules, ◌≡◌, [], ◌∷◌, List, ap, sym, ◌∙◌, subst}
use Rattle.atomic_table.specs.Table.{opening}
use Rattle.edit_history.specs.Chronicled.{Chronicled}
use Rattle.market_lock.specs.declared.view.View.TheVariants.{Opener}
use Rattle.market_lock.specs.Rule.{Kept}
use Rattle.market_lock.specs.Views.{chronicle_from}
use Rattle.market_lock.proofs.Steps.{begins}
use Rattle.market_lock.proofs.opening.furnish.Goals as goal

pub new-requires-2 : goal.new-requires-2
new-requires-2 c =
    let key = c.args.terms.now in
    let items : c.push_reserved.new.self.items ≡ c.new.result ∷ [] = search rules in
    subst (λ (xs : List Chronicled). Kept key (opening (0 ∷ []) xs (Opener key 0))) (sym items) (let is = c.new.ensures.exact ∙ c.requires.chronicle in let from = ap (λ (d : Chronicled). d.from) is in begins key c.new.result (is ∙ ap (chronicle_from key []) (sym from)) from)
