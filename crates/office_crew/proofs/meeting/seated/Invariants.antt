use Rattle.std.proofs.Common.{◌≡◌, ◌+◌, ◌≤◌, vec_len, vec_capacity, All}
use Rattle.market_lock.specs.Seen.{OfPass}
use Rattle.office_crew.specs.Members.{AreSeated}
use Rattle.office_crew.proofs.meeting.seated.Given as goal

abbrev pub invariant-loop-task : goal.invariant-loop-task
invariant-loop-task g l =
    All (λ (p : OfPass). p.table ≡ g.B.Room.table) l.passes.items
    × (vec_len l.tasks ≤ vec_len l.passes)
    × (vec_len l.members + vec_len l.tasks ≡ vec_len l.fn.tasks)
    × (vec_len l.passes + vec_len l.fn.tasks ≡ vec_len l.fn.passes + vec_len l.tasks)
    × (vec_len l.fn.tasks ≤ vec_capacity l.members)
    × (vec_capacity l.passes ≡ vec_capacity l.fn.passes)
    × (vec_capacity l.tasks ≡ vec_capacity l.fn.tasks)
    × AreSeated l.fn.passes.items l.passes.items l.fn.tasks.items l.tasks.items l.members.items

abbrev pub decreases-loop-task : goal.decreases-loop-task
decreases-loop-task g l = vec_len l.tasks
