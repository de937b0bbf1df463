use Rattle.std.proofs.Common.{arith}
use Rattle.recall_hire.proofs.Single.{one-lacks, one-has}
use Rattle.recall_hire.proofs.walk.Search.only_due_among.Goals as goal

pub returns-then-active-eq0 : goal.returns-then-active-eq0
returns-then-active-eq0 c =
    let w = c.args.self.now in
    let e = c.reaching-arena.ensures in
    one-lacks w.workers w.demand w.roster.now c.args.rows c.args.carry.now c.args.past c.reaching-arena.result c.args.carry.now c.args.visits.now c.reaching-arena.new.visits e.reached c.requires.one c.requires.low e.counted
    (omega (arith, c.active.ensures.exact, c.if-active-eq0.true))

pub returns : goal.returns
returns c =
    let w = c.args.self.now in
    let e = c.reaching-arena.ensures in
    one-has w.workers w.demand w.roster.now c.args.rows c.args.carry.now c.args.past c.reaching-arena.result c.args.visits.now c.reaching-arena.new.visits e.reached c.requires.one c.requires.low e.counted
    (omega (arith, c.active.ensures.exact, c.if-active-eq0.false))
