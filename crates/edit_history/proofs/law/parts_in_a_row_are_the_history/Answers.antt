use Rattle.edit_history.proofs.Rows.{row-is-all}
use Rattle.edit_history.proofs.law.parts_in_a_row_are_the_history.Goals as goal

pub returns : goal.returns
returns c = row-is-all
