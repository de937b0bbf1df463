use Rattle.std.proofs.Common.{◌+◌, ◌*◌, ◌<◌, ◌≤◌, [], ◌∷◌, None, refl}
use Rattle.market_types.specs.Bits.{bits}
use Rattle.recall_hire.proofs.Searches.{next-only, only-idle, only-ends, look-ends, look-finds, look-goes-on, search-finds}
use Rattle.recall_hire.proofs.walk.Search.only_needing.Goals as goal

pub returns-then-self-from : goal.returns-then-self-from
returns-then-self-from c =
    let w = c.args.self.now in
    let less : w.workers * c.args.row.request < w.demand = rw c.from.ensures at c.if-self-from.true in
    only-idle w.workers w.demand w.roster.now c.args.row c.args.visits.now c.requires.shared.carried less

pub returns-then-lacks : goal.returns-then-lacks
returns-then-lacks c =
    let w = c.args.self.now in
    let x = c.args.row in
    let v = c.args.visits.now in
    let after = c.lacks.new.carry in
    let due : w.demand ≤ w.workers * x.request = rw c.from.ensures at c.if-self-from.false in
    search-finds w.workers w.demand w.roster.now (x ∷ []) (x ∷ []) [] (2 * bits 1) 0 0 after v v (v + 1) x.arena (next-only w.workers w.demand x v c.requires.shared.carried due)
    (look-finds w.workers w.demand w.roster.now (x ∷ []) x [] 0 after v (v + 1) refl refl c.if-lacks.ensures.yes)

pub returns : goal.returns
returns c =
    let w = c.args.self.now in
    let x = c.args.row in
    let v = c.args.visits.now in
    let after = c.lacks.new.carry in
    let due : w.demand ≤ w.workers * x.request = rw c.from.ensures at c.if-self-from.false in
    let e = c.if-lacks.ensures in
    only-ends w.workers w.demand w.roster.now x after v (v + 1) (next-only w.workers w.demand x v c.requires.shared.carried due)
    (look-goes-on w.workers w.demand w.roster.now (x ∷ []) x [] 0 after after v (v + 1) (v + 1) None refl refl e.no e.carry
    (look-ends w.workers w.demand w.roster.now [] after (v + 1) (v + 1) e.low refl refl))
