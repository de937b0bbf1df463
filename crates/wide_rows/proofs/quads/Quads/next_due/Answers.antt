use Rattle.std.proofs.Common.{List, sym, subst}
use Rattle.market_types.specs.declared.row.Row.{Row}
use Rattle.wide_rows.specs.Passed.{AreQuadsPassed, AllQuadsPassed, rows_of_quads}
use Rattle.wide_rows.proofs.Passing.{quads_passed, all_quads_passed}
use Rattle.wide_rows.proofs.quads.Quads.next_due.Goals as goal

pub returns-in_default-clause-counted_all : goal.returns-in_default-clause-counted_all
returns-in_default-clause-counted_all c =
    let d = c.self.inside in
    subst (λ (rows : List Row). AllQuadsPassed rows c.args.visits.now c.pass-found.new.visits) c.self.view_is
    (all_quads_passed d.columns.now d.sums d.left c.args.visits.now c.pass-found.new.visits c.self.invariant c.in_default.ensures.counted_all)

pub returns-clause-counted : goal.returns-clause-counted
returns-clause-counted c =
    let d = c.self.inside in
    let to = c.pass-found.new.left in
    subst (λ (rows : List Row). AreQuadsPassed rows c.new.result (rows_of_quads d.columns.now to) c.args.visits.now c.pass-found.new.visits) c.self.view_is
    (subst (λ (next : List Row). AreQuadsPassed (rows_of_quads d.columns.now d.left) next (rows_of_quads d.columns.now to) c.args.visits.now c.pass-found.new.visits) (sym c.new.ensures.rows)
    (quads_passed d.columns.now d.sums d.left to c.args.visits.now c.pass-found.new.visits c.self.invariant c.in-Some.ensures.left c.in-Some.ensures.counted))
