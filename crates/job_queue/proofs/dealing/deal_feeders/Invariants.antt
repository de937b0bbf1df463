use Rattle.std.proofs.Common.{◌≡◌, map, vec_len, vec_capacity}
use Rattle.std.specs.List.{range_with_len}
use Rattle.crossbeam_queue.specs.Passes.{view, IsPassOf}
use Rattle.job_queue.specs.declared.view.View.TheVariants.{Opener}
use Rattle.job_queue.specs.Seen.{queue_id, fresh_feeder}
use Rattle.job_queue.proofs.dealing.deal_feeders.Given as goal

abbrev pub invariant-loop-n : goal.invariant-loop-n
invariant-loop-n g l =
    IsPassOf l.ring l.maker
    × (view l.maker ≡ Opener l.feeders l.takers l.n)
    × (vec_len l.dealt ≡ l.n)
    × (vec_capacity l.dealt ≡ l.feeders)
    × (l.dealt.items ≡ map (fresh_feeder (queue_id l.ring.table.shared.table_id l.feeders l.takers)) (range_with_len 0 l.n))
