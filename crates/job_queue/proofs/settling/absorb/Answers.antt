use Rattle.std.proofs.Common.{sym, subst}
use Rattle.crossbeam_queue.specs.Fifo.{Merges}
use Rattle.crossbeam_queue.specs.Passes.{view}
use Rattle.job_queue.specs.declared.view.View.{View}
use Rattle.job_queue.specs.Views.{records_of, joined, spent}
use Rattle.job_queue.specs.Rule.{Kept}
use Rattle.job_queue.proofs.Steps.{joins_it}
use Rattle.job_queue.proofs.settling.absorb.Goals as goal

pub absorb-requires-clause-rule : goal.absorb-requires-clause-rule
absorb-requires-clause-rule g c =
    let v = c.requires.views in
    let port = c.args.hand.now.id in
    let other = c.args.other.id in
    subst (λ (z : View g.row.J.Denot × View g.row.J.Denot). Merges Kept port z.0 other z.1 (joined z.0 z.1) spent) (λ i. (sym v.0 i, sym v.1 i))
    (joins_it port (records_of (view c.args.hand.now)) other (records_of (view c.args.other)))
