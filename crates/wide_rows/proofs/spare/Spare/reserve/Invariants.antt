use Rattle.std.proofs.Common.{◌≡◌, ◌+◌, ◌-◌, ◌≤◌}
use Rattle.wide_rows.specs.Leveled.{Boxes, leaves_for, shelves_for}
use Rattle.wide_rows.proofs.spare.Spare.reserve.Given as goal

-- what was made is spare, and nothing else has changed
pub record IsGrown (old new : Boxes) : Type 0 where
  pub leaves : new.leaves + old.made_leaves ≡ old.leaves + new.made_leaves
  pub shelves : new.shelves + old.made_shelves ≡ old.shelves + new.made_shelves
  pub more_leaves : old.made_leaves ≤ new.made_leaves
  pub more_shelves : old.made_shelves ≤ new.made_shelves

abbrev pub invariant-loop-self : goal.invariant-loop-self
invariant-loop-self l = IsGrown l.initial.self l.self

abbrev pub decreases-loop-self : goal.decreases-loop-self
decreases-loop-self l = leaves_for l.rows + 1 - l.self.made_leaves

abbrev pub invariant-loop-self-2 : goal.invariant-loop-self-2
invariant-loop-self-2 l = IsGrown l.fn.self l.self × (leaves_for l.rows + 1 ≤ l.self.made_leaves)

abbrev pub decreases-loop-self-2 : goal.decreases-loop-self-2
decreases-loop-self-2 l = shelves_for l.rows - l.self.made_shelves
