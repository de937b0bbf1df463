use Rattle.std.proofs.Common.{◌≡◌}
use Rattle.crossbeam_queue.specs.Passes.{view, IsPassOf}
use Rattle.job_queue.specs.declared.view.View.TheVariants.{Opener}
use Rattle.job_queue.proofs.dealing.promise_takers.Given as goal

abbrev pub invariant-loop-n : goal.invariant-loop-n
invariant-loop-n g l = IsPassOf l.ring l.maker × (view l.maker ≡ Opener l.feeders l.n 0)
