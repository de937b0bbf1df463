use Rattle.std.proofs.Common.{◌≡◌, ℕ, Option, ap, sym, ◌∙◌}
use Rattle.market_types.specs.Allotment.{mandatory_pick, bound_of}
use Rattle.allotment.specs.Levels.{pick_of}
use Rattle.market_core.proofs.Allotted.{allotment_of-picked, all_to_number, all_to-number, just-all}
use Rattle.market_core.proofs.market.Market.served_to.Goals as goal

pub returns-clause-exact : goal.returns-clause-exact
returns-clause-exact c =
    let s = c.args.self.now in
    let d = c.divide.result in
    let n : ℕ = c.args.arena in
    let picked : all_to_number d.picked d.bound n ≡ all_to_number (pick_of s) d.bound n = ap (λ (o : Option ℕ). all_to_number o d.bound n) (c.divide.ensures.exact.picked c.requires.none) in
    let bound : all_to_number (pick_of s) d.bound n ≡ all_to_number (pick_of s) (bound_of s) n = ap (λ (k : ℕ). all_to_number (pick_of s) k n) c.divide.ensures.exact.bound in
    c.mandatory_workers.ensures ∙ just-all d.picked d.bound n ∙ picked ∙ bound
    ∙ sym (allotment_of-picked s n c.requires.none ∙ all_to-number (mandatory_pick s) (bound_of s) n)
