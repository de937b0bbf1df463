use Rattle.std.proofs.Common.{sym, subst}
use Rattle.crossbeam_queue.specs.Fifo.{Forks}
use Rattle.job_queue.specs.declared.view.View.{View}
use Rattle.job_queue.specs.Views.{dealt, next_pass}
use Rattle.job_queue.specs.Rule.{Kept}
use Rattle.job_queue.proofs.Steps.{deals_it}
use Rattle.job_queue.proofs.dealing.deal.Goals as goal

pub another-requires-clause-rule : goal.another-requires-clause-rule
another-requires-clause-rule g c =
    let port = c.args.maker.now.id in
    let v = c.requires.view in
    subst (λ (v : View g.row.J.Denot). Forks Kept port v (dealt v) (next_pass v)) (sym v.0) (deals_it port c.args.feeders c.args.takers c.args.number v.1)
