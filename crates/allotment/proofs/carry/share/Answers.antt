use Rattle.std.proofs.Common.{◌≡◌, ℕ, ◌+◌, ◌-◌, ◌*◌, ◌/◌, ◌%◌, ◌<◌, ap, ◌∙◌, arith}
use Rattle.std.proofs.Math.Arith.{digits_div}
use Rattle.allotment.proofs.Carries.{share-carried, quotient-few, share-workers}
use Rattle.allotment.proofs.carry.share.Goals as goal

-- so many parts of a whole
parts-of : (n d : ℕ) → 0 < d → d * n / d ≡ n
parts-of n d some = let turned : d * n ≡ n * d + 0 = omega arith in ap (λ m. m / d) turned ∙ digits_div n some

-- what a level that gets all that it asks for gives an arena
all-asked : (a d b q : ℕ) → 0 < d → a ≡ d → q ≡ a * (b + q) / d - a * b / d
all-asked a d b q some same = rw same (omega (arith, parts-of (b + q) d some, parts-of b d some))

pub returns-then-assigned-demand-clause-difference : goal.returns-then-assigned-demand-clause-difference
returns-then-assigned-demand-clause-difference c = all-asked c.args.assigned c.args.demand c.args.before c.args.request c.requires.some_demand c.if-assigned-demand.true

pub returns-then-assigned-demand-clause-carried : goal.returns-then-assigned-demand-clause-carried
returns-then-assigned-demand-clause-carried c =
    all-asked c.args.assigned c.args.demand c.args.before c.args.request c.requires.some_demand c.if-assigned-demand.true
    ∙ share-carried c.args.assigned c.args.demand c.args.before c.args.request c.requires.some_demand

pub returns-then-assigned-demand-clause-workers_of : goal.returns-then-assigned-demand-clause-workers_of
returns-then-assigned-demand-clause-workers_of c = λ given asked others a asks before.
    all-asked c.args.assigned c.args.demand c.args.before c.args.request c.requires.some_demand c.if-assigned-demand.true
    ∙ share-workers given asked others a c.args.assigned c.args.demand c.args.before c.args.request asks before c.requires.some_demand

pub returns-clause-carried : goal.returns-clause-carried
returns-clause-carried c = share-carried c.args.assigned c.args.demand c.args.before c.args.request c.requires.some_demand

pub returns-clause-no_more_than_asked : goal.returns-clause-no_more_than_asked
returns-clause-no_more_than_asked c =
    rw (share-carried c.args.assigned c.args.demand c.args.before c.args.request c.requires.some_demand)
    (quotient-few c.args.request c.args.assigned c.args.demand (c.args.assigned * c.args.before % c.args.demand) c.requires.within_demand (omega arith))

pub returns-clause-workers_of : goal.returns-clause-workers_of
returns-clause-workers_of c = λ given asked others a asks before. share-workers given asked others a c.args.assigned c.args.demand c.args.before c.args.request asks before c.requires.some_demand
