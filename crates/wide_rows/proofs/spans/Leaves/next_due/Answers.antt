use Rattle.std.proofs.Common.{◌≡◌, List, length, sym, ap, subst, ◌∙◌, arith}
use Rattle.market_types.specs.declared.row.Row.{Row}
use Rattle.wide_rows.specs.Joined.{joined_below}
use Rattle.wide_rows.specs.Shelves.{leaf_at}
use Rattle.wide_rows.specs.Passed.{IsDue, AreRowsPassed}
use Rattle.wide_rows.proofs.OfShelves.{leaf_there}
use Rattle.wide_rows.proofs.LeavesPassed.{rows_passed, more_leaves}
use Rattle.wide_rows.proofs.spans.Leaves.next_due.Goals as goal

pub returns-clause-due : goal.returns-clause-due
returns-clause-due c =
    let leaves = c.self.inside.leaves.now.items in
    let left = c.pass-found.new.left in
    let there = leaf_there leaves left c.index.result.now c.index.result.now (omega (arith, c.if-not-found.ensures.left, c.self.invariant.within)) c.index.ensures in
    let same : leaf_at leaves left ≡ c.quads.result = sym (c.quads.ensures ∙ c.deref.ensures ∙ there) in
    subst (λ (rows : List Row). IsDue c.args.workers c.args.demand rows c.quads.result (joined_below (leaf_at leaves) left) c.args.carry.now c.pass-found.new.carry) c.self.view_is
    (subst (λ (next : List Row). IsDue c.args.workers c.args.demand (joined_below (leaf_at leaves) c.self.inside.left) next (joined_below (leaf_at leaves) left) c.args.carry.now c.pass-found.new.carry) same c.if-not-found.ensures.due)

pub returns-clause-some : goal.returns-clause-some
returns-clause-some c =
    let leaves = c.self.inside.leaves.now.items in
    let left = c.pass-found.new.left in
    let there = leaf_there leaves left c.index.result.now c.index.result.now (omega (arith, c.if-not-found.ensures.left, c.self.invariant.within)) c.index.ensures in
    omega (arith, ap length (c.quads.ensures ∙ c.deref.ensures ∙ there), c.self.invariant.sound.some left (omega (arith, c.if-not-found.ensures.left, c.self.invariant.within)))

pub returns-clause-counted : goal.returns-clause-counted
returns-clause-counted c =
    let leaves = c.self.inside.leaves.now.items in
    let left = c.pass-found.new.left in
    let there = leaf_there leaves left c.index.result.now c.index.result.now (omega (arith, c.if-not-found.ensures.left, c.self.invariant.within)) c.index.ensures in
    let same : leaf_at leaves left ≡ c.quads.result = sym (c.quads.ensures ∙ c.deref.ensures ∙ there) in
    subst (λ (rows : List Row). AreRowsPassed rows c.quads.result (joined_below (leaf_at leaves) left) c.args.visits.now c.pass-found.new.visits) c.self.view_is
    (subst (λ (next : List Row). AreRowsPassed (joined_below (leaf_at leaves) c.self.inside.left) next (joined_below (leaf_at leaves) left) c.args.visits.now c.pass-found.new.visits) same
    (rows_passed leaves c.self.invariant.sound c.self.inside.left left c.args.visits.now c.pass-found.new.visits c.self.invariant.within c.if-not-found.ensures.counted))

pub returns-then-not-found-clause-most : goal.returns-then-not-found-clause-most
returns-then-not-found-clause-most c =
    let leaves = c.self.inside.leaves.now.items in
    omega (arith, c.if-not-found.ensures.most, more_leaves leaves c.self.invariant.sound 0 c.self.inside.left (omega arith) c.self.invariant.within, ap (λ (rows : List Row). length rows) c.self.view_is)
