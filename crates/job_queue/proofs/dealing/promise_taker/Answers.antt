use Rattle.std.proofs.Common.{◌+◌, sym, subst}
use Rattle.crossbeam_queue.specs.Fifo.{Forks}
use Rattle.job_queue.specs.declared.view.View.{View}
use Rattle.job_queue.specs.Views.{taker_promised, spent}
use Rattle.job_queue.specs.Rule.{Kept}
use Rattle.job_queue.proofs.Steps.{promises_it}
use Rattle.job_queue.proofs.dealing.promise_taker.Goals as goal

pub another-more-requires-clause-rule : goal.another-more-requires-clause-rule
another-more-requires-clause-rule g c =
    let port = c.args.maker.now.id in
    subst (λ (v : View g.row.J.Denot). Forks Kept port v (taker_promised v) spent) (sym c.requires.view) (promises_it port c.args.feeders c.args.takers c.args.feeders (c.args.takers + 1))
