use Rattle.std.proofs.Common.{◌≡◌, ℕ, ◌<◌, ◌≤◌, get_or}
use Rattle.office_crew.specs.Members.{OfMember, HasDone}
use Rattle.office_crew.proofs.member.work_slice_in_turn.Given as goal

abbrev pub invariant-loop-place : goal.invariant-loop-place
invariant-loop-place g l =
    ((k : ℕ) (d : OfMember g.row.T.Denot) → l.place ≤ k → get_or l.members k d ≡ get_or l.fn.members k d)
    × ((k : ℕ) (d : OfMember g.row.T.Denot) → k < l.place → HasDone g.T.Task.worked (get_or l.fn.members k d) (get_or l.members k d))
