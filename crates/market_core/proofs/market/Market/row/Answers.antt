use Rattle.std.proofs.Common.{arith, sym, eqb, List}
use Rattle.std.proofs.lemmas.List.Sums.{length-filter, count_by-le-length}
use Rattle.std.proofs.lemmas.Option.{slice_get_within}
use Rattle.market_types.specs.State.{Arena}
use Rattle.market_types.specs.Allotment.{at_level}
use Rattle.market_core.proofs.market.Market.row.Goals as goal

pub returns-clause-few : goal.returns-clause-few
returns-clause-few c =
    let arenas : List Arena = c.self.inside.arenas in
    let here = slice_get_within (at_level c.args.level arenas) c.args.index c.in_ok-stored.stored (sym c.in_ok-stored.ensures.exact) in
    omega (arith, length-filter (λ (a : Arena). eqb a.level c.args.level) arenas, count_by-le-length (λ (a : Arena). eqb a.level c.args.level) arenas)
