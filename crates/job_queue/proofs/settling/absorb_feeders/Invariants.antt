use Rattle.std.proofs.Common.{◌≡◌, ◌<◌, ◌++◌, map, vec_len, All}
use Rattle.crossbeam_queue.specs.Passes.{view, IsPassOf}
use Rattle.job_queue.specs.Views.{records_of}
use Rattle.job_queue.specs.declared.view.View.TheVariants.{Records}
use Rattle.job_queue.specs.Seen.{OfFeeder}
use Rattle.job_queue.specs.Records.{feeder_known}
use Rattle.job_queue.proofs.settling.absorb_feeders.Given as goal

abbrev pub invariant-loop-feeder : goal.invariant-loop-feeder
invariant-loop-feeder g l =
    IsPassOf l.ring l.hand
    × (view l.hand ≡ Records (records_of (view l.hand)))
    × (map feeder_known l.left.items ++ records_of (view l.hand) ≡ map feeder_known l.fn.feeders.items ++ records_of (view l.fn.hand))
    × All (λ (f : OfFeeder g.row.J.Denot). f.queue.table ≡ l.ring.table.shared.table_id) l.left.items
    × (All (λ (f : OfFeeder g.row.J.Denot). f.number < f.queue.feeders) l.left.items → All (λ (f : OfFeeder g.row.J.Denot). f.number < f.queue.feeders) l.fn.feeders.items)

abbrev pub decreases-loop-feeder : goal.decreases-loop-feeder
decreases-loop-feeder g l = vec_len l.left
