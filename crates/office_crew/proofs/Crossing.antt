-- A member of a crew may cross threads, where its task may.
use denote.RattleType.{RattleType}
use denote.Param.Send.{IsSend, sendable}
use Rattle.std.proofs.Crossing.{crosses}
use Rattle.market_lock.proofs.Crossing.{pass_send, placed_send}
use Rattle.office_crew.specs.declared.member.Room as Room
use Rattle.office_crew.specs.contracts.member.Member as Member

pub member_send : (B T : RattleType) (b : Room.Ghosts B.Denot) → IsSend T → IsSend (Member.the_row B T b)
member_send B T b s = search (crosses, sendable, pass_send, placed_send) depth 60
