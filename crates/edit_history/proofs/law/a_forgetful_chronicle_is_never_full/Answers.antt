use Rattle.edit_history.proofs.Placed.{never-full}
use Rattle.edit_history.proofs.law.a_forgetful_chronicle_is_never_full.Goals as goal

pub returns : goal.returns
returns c = never-full
