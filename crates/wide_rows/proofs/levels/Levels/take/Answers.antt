use Rattle.std.proofs.Common.{◌∙◌, sym, arith, get_or}
use Rattle.wide_rows.proofs.OneLevel.{without_length}
use Rattle.wide_rows.proofs.EightLevels.{AreMoved, IsPart, part, taken, missed, newest-set}
use Rattle.wide_rows.proofs.levels.Levels.take.Goals as goal
use Rattle.wide_rows.proofs.levels.Levels.take.Goals.{After-take-row}

moved : (c : After-take-row) → AreMoved (get_or c.self.inside.levels c.args.level c.index-self-level.result) c.take-row.new.self c.self.inside.spare c.take-row.new.spare
moved c = record { leaves = c.take-row.ensures.leaves; shelves = c.take-row.ensures.shelves; made_leaves = c.take-row.ensures.made_leaves; made_shelves = c.take-row.ensures.made_shelves }

pub invariant_of-self : goal.invariant_of-self
invariant_of-self c =
    missed c.args.level c.args.stamp c.index-self-level.result c.take-row.new.self c.take-row.new.spare c.self.invariant c.requires.level c.take-row.ensures.sound c.take-row.ensures.rows
    (moved (goal.at.invariant_of-self c).After-take-row) (sym c.take-row.ensures.taken ∙ c.in_default.is)

pub returns-in_default-clause-newest_first : goal.returns-in_default-clause-newest_first
returns-in_default-clause-newest_first c = newest-set c.self.inside.levels c.args.level _ (omega (arith, c.self.invariant.eight, c.requires.level)) c.take-row.ensures.sound

pub overflow_sub-self : goal.overflow_sub-self
overflow_sub-self c =
    let x = get_or c.self.inside.levels c.args.level c.index-self-level.result in
    let p : IsPart x c.self.inside.spare c.self.inside.rows = part c.args.level c.index-self-level.result c.self.invariant c.requires.level in
    omega (arith, p.rows, without_length c.args.stamp x.rows c.in-Some.row p.sound.newest_first (sym c.take-row.ensures.taken ∙ c.in-Some.is))

pub invariant_of-self-2 : goal.invariant_of-self-2
invariant_of-self-2 c =
    taken c.args.level c.args.stamp c.index-self-level.result c.take-row.new.self c.take-row.new.spare c.in-Some.row c.self.invariant c.requires.level c.take-row.ensures.sound c.take-row.ensures.rows
    (moved (goal.at.invariant_of-self-2 c).After-take-row) (sym c.take-row.ensures.taken ∙ c.in-Some.is)

pub returns-clause-newest_first : goal.returns-clause-newest_first
returns-clause-newest_first c = newest-set c.self.inside.levels c.args.level _ (omega (arith, c.self.invariant.eight, c.requires.level)) c.take-row.ensures.sound
