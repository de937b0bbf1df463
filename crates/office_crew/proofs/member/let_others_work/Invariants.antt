use Rattle.std.proofs.Common.{true, All, take}
use Rattle.office_crew.proofs.member.let_others_work.Given as goal

abbrev pub invariant-loop-member : goal.invariant-loop-member
invariant-loop-member g l = All (λ m. g.T.Task.lets m.task true) (take l.member-index l.members)
