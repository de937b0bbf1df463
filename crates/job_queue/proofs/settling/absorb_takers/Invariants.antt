use Rattle.std.proofs.Common.{◌≡◌, ◌≤◌, ◌++◌, map, vec_len, All}
use Rattle.crossbeam_queue.specs.Passes.{view, IsPassOf}
use Rattle.job_queue.specs.Views.{records_of}
use Rattle.job_queue.specs.declared.view.View.TheVariants.{Records}
use Rattle.job_queue.specs.Seen.{OfTaker}
use Rattle.job_queue.specs.Records.{taker_known}
use Rattle.job_queue.proofs.settling.absorb_takers.Given as goal

abbrev pub invariant-loop-taker : goal.invariant-loop-taker
invariant-loop-taker g l =
    IsPassOf l.ring l.hand
    × (view l.hand ≡ Records (records_of (view l.hand)))
    × (map taker_known l.left.items ++ records_of (view l.hand) ≡ map taker_known l.fn.takers.items ++ records_of (view l.fn.hand))
    × All (λ (t : OfTaker g.row.J.Denot). t.queue.table ≡ l.ring.table.shared.table_id) l.left.items
    × (All (λ (t : OfTaker g.row.J.Denot). t.queue.feeders ≤ t.number) l.left.items → All (λ (t : OfTaker g.row.J.Denot). t.queue.feeders ≤ t.number) l.fn.takers.items)

abbrev pub decreases-loop-taker : goal.decreases-loop-taker
decreases-loop-taker g l = vec_len l.left
