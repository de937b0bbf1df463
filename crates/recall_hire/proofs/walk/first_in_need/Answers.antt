use Rattle.std.proofs.Common.{sym, arith}
use Rattle.recall_hire.proofs.Shares.{nobody-needs, nobody-searched}
use Rattle.recall_hire.proofs.walk.first_in_need.Goals as goal

pub returns-then-workers-eq0-clause-exact : goal.returns-then-workers-eq0-clause-exact
returns-then-workers-eq0-clause-exact c = sym (nobody-needs c.args.workers c.args.demand c.args.roster.now c.args.rows.now.0 c.if-workers-eq0.true)

pub returns-then-workers-eq0-clause-looked : goal.returns-then-workers-eq0-clause-looked
returns-then-workers-eq0-clause-looked c = omega (arith, nobody-searched c.args.workers c.args.demand c.args.roster.now c.args.rows.now.0 c.if-workers-eq0.true)
