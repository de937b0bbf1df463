use Rattle.job_queue.proofs.Later.{left_later}
use Rattle.job_queue.proofs.law.what_is_left_was_stored_later.Goals as goal

pub returns : goal.returns
returns g c = left_later
