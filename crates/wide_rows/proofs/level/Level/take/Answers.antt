use Rattle.std.proofs.Common.{◌≡◌, ap, ◌∙◌, sym, arith, Some, None}
use Rattle.market_types.specs.Rows.{requests, row_at}
use Rattle.market_types.proofs.RowReadings.{request-within}
use Rattle.wide_rows.specs.Leveled.{IsLevel}
use Rattle.wide_rows.specs.Forms.{leveled}
use Rattle.wide_rows.proofs.OneLevel.{level_without, without_missing, without_requests}
use Rattle.wide_rows.proofs.level.Level.take.Goals as goal
use Rattle.wide_rows.proofs.level.Level.take.Goals.{After-take_from}

sound : (c : After-take_from) → IsLevel (leveled c.take_from.new.form)
sound c = level_without (leveled c.self.inside.form) (leveled c.take_from.new.form) c.args.stamp c.self.invariant.sound c.take_from.ensures.rows c.take_from.ensures.boxes

pub invariant_of-self : goal.invariant_of-self
invariant_of-self c =
    let missing : row_at c.args.stamp (leveled c.self.inside.form).rows ≡ None = sym c.take_from.ensures.taken ∙ c.in_err-row.was in
    record {
      sound = sound (goal.at.invariant_of-self c).After-take_from;
      summed = c.self.invariant.summed ∙ ap requests (sym (c.take_from.ensures.rows ∙ without_missing c.args.stamp (leveled c.self.inside.form).rows missing));
    }

pub returns-in_err-row-clause-sound : goal.returns-in_err-row-clause-sound
returns-in_err-row-clause-sound c = sound (goal.at.returns-in_err-row-clause-sound c).After-take_from

pub overflow_sub-self : goal.overflow_sub-self
overflow_sub-self c =
    let found : row_at c.args.stamp (leveled c.self.inside.form).rows ≡ Some c.in_ok-row.row = sym c.take_from.ensures.taken ∙ c.in_ok-row.was in
    omega (arith, c.self.invariant.summed, request-within c.args.stamp (leveled c.self.inside.form).rows c.in_ok-row.row found)

pub invariant_of-self-2 : goal.invariant_of-self-2
invariant_of-self-2 c =
    let old = leveled c.self.inside.form in
    let found : row_at c.args.stamp old.rows ≡ Some c.in_ok-row.row = sym c.take_from.ensures.taken ∙ c.in_ok-row.was in
    let left = without_requests c.args.stamp old.rows c.in_ok-row.row c.self.invariant.sound.newest_first found in
    record {
      sound = sound (goal.at.invariant_of-self-2 c).After-take_from;
      summed = omega (arith, c.self.invariant.summed, left, ap requests c.take_from.ensures.rows);
    }

pub returns-clause-sound : goal.returns-clause-sound
returns-clause-sound c = sound (goal.at.returns-clause-sound c).After-take_from
