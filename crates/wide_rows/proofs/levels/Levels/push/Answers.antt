use Rattle.std.proofs.Common.{◌+◌, ◌<◌, length, ap, arith}
use Rattle.wide_rows.specs.Leveled.{AreLevels, total_rows}
use Rattle.wide_rows.proofs.EightLevels.{grown, changed, leaf-spare, shelf-spare, newest-set}
use Rattle.wide_rows.proofs.levels.Levels.push.Goals as goal
use Rattle.wide_rows.proofs.levels.Levels.push.Goals.{After-reserve}

-- the levels after boxes were made
kept : (c : After-reserve) → AreLevels c.self.inside.levels c.reserve.new.self c.self.inside.rows
kept c = grown c.reserve.new.self c.self.invariant c.reserve.ensures.leaves c.reserve.ensures.shelves c.reserve.ensures.more_leaves c.reserve.ensures.more_shelves

pub push-requires-clause-leaf : goal.push-requires-clause-leaf
push-requires-clause-leaf c = leaf-spare (kept (goal.at.push-requires-clause-leaf c).After-reserve) (omega (arith, c.in_ok-reserve.ensures.enough_leaves))

pub push-requires-clause-shelf : goal.push-requires-clause-shelf
push-requires-clause-shelf c long lacks =
    shelf-spare (kept (goal.at.push-requires-clause-shelf c).After-reserve) (omega (arith, c.in_ok-reserve.ensures.enough_shelves)) c.args.level c.index-self-level.result c.requires.level long lacks

pub invariant_of-self-2 : goal.invariant_of-self-2
invariant_of-self-2 c =
    let room : c.self.inside.rows < 1024 = omega (arith, c.self.invariant.counted, ap total_rows c.self.view_is, c.requires.room) in
    changed c.args.level c.index-self-level.result c.push.new.self c.push.new.spare (c.self.inside.rows + 1) (kept (goal.at.invariant_of-self-2 c).After-reserve) c.requires.level c.push.ensures.sound
    (record { leaves = c.push.ensures.leaves; shelves = c.push.ensures.shelves; made_leaves = c.push.ensures.made_leaves; made_shelves = c.push.ensures.made_shelves })
    (omega (arith, ap length c.push.ensures.rows)) (omega arith)
    (omega (arith, c.in_ok-reserve.ensures.enough_leaves)) c.in_ok-reserve.ensures.enough_shelves

pub returns-clause-newest_first : goal.returns-clause-newest_first
returns-clause-newest_first c = newest-set c.self.inside.levels c.args.level _ (omega (arith, c.self.invariant.eight, c.requires.level)) c.push.ensures.sound
