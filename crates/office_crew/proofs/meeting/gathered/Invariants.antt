use Rattle.std.proofs.Common.{◌≡◌, ◌+◌, ◌≤◌, ◌++◌, reverse, vec_len, vec_capacity, All}
use Rattle.market_lock.specs.Seen.{OfPass, OfPlaced}
use Rattle.office_crew.specs.Members.{free_of, tasks_of, working_of}
use Rattle.office_crew.proofs.meeting.gathered.Given as goal

abbrev pub invariant-loop-member : goal.invariant-loop-member
invariant-loop-member g l =
    All (λ (p : OfPass). p.table ≡ g.B.Room.table) l.passes.items
    × All (λ (p : OfPlaced). p.who.table ≡ g.B.Room.table) l.placed.items
    × ((vec_len l.left + vec_len l.passes) + vec_len l.placed ≡ (vec_len l.fn.passes + vec_len l.fn.placed) + vec_len l.fn.members)
    × (vec_len l.passes + vec_len l.left ≤ vec_capacity l.passes)
    × (vec_len l.placed + vec_len l.left ≤ vec_capacity l.placed)
    × (vec_len l.tasks + vec_len l.left ≤ vec_capacity l.tasks)
    × (vec_len l.tasks + vec_len l.left ≡ vec_len l.fn.tasks + vec_len l.fn.members)
    × (vec_capacity l.passes ≡ vec_capacity l.fn.passes)
    × (vec_capacity l.placed ≡ vec_capacity l.fn.placed)
    × (l.tasks.items ++ tasks_of (reverse l.left.items) ≡ l.fn.tasks.items ++ tasks_of (reverse l.fn.members.items))
    × (l.passes.items ++ free_of (reverse l.left.items) ≡ l.fn.passes.items ++ free_of (reverse l.fn.members.items))
    × (l.placed.items ++ working_of (reverse l.left.items) ≡ l.fn.placed.items ++ working_of (reverse l.fn.members.items))

abbrev pub decreases-loop-member : goal.decreases-loop-member
decreases-loop-member g l = vec_len l.left
