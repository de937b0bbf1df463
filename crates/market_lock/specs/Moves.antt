-- What the calls that move a seat give, and a call that is not answered (own).
use Rattle.std.specs.Prelude.{◌≡◌, ◌≤◌}
use Rattle.market_types.specs.declared.command.Cmd.{Cmd}
use Rattle.market_types.specs.declared.command.Cmd.TheVariants.{Join, Stay}
use Rattle.market_types.specs.declared.reply.Reply.{Reply}
use Rattle.market_types.specs.declared.reply.Reply.TheVariants.{Placed as PlacedAt, Idle as IdleNow, Stays as StaysAt, Recalled as RecalledFrom}
use Rattle.market_types.specs.History.{IsLegal}
use Rattle.edit_history.specs.declared.fault.CallFault.{CallFault}
use Rattle.edit_history.specs.declared.fault.CallFault.TheVariants.{HistoryFull}
use Rattle.edit_history.specs.Places.{LacksPlaces}
use Rattle.market_lock.specs.declared.pass.Joined.{Joined}
use Rattle.market_lock.specs.declared.pass.Joined.TheVariants as joined
use Rattle.market_lock.specs.declared.pass.Stayed.{Stayed}
use Rattle.market_lock.specs.declared.pass.Stayed.TheVariants as stayed
use Rattle.market_lock.specs.Views.{opening_of, chronicle_cut}
use Rattle.market_lock.specs.Seen.{OfPass, OfPlaced, Extends, Looks, IsSamePass, OthersCut}

-- the caller knows more of one legal history, and its call is in it; no entry is kept again, and in an office in parts what others cut meanwhile is all that is kept no more
abbrev pub Called : OfPass → Cmd → Reply → OfPass → Type 0
Called p cmd reply q = IsSamePass p q × IsLegal (opening_of q.terms) q.seen × Extends p cmd reply q × (p.from ≤ q.from) × OthersCut p q

-- nothing was called, and more of the legal history was seen; it is full exactly where it has no places for the call
abbrev pub Fails : OfPass → Cmd → CallFault → OfPass → Type 0
Fails p cmd fault q =
    IsSamePass p q × IsLegal (opening_of q.terms) q.seen × Looks p q
    × (fault ≡ HistoryFull → LacksPlaces (chronicle_cut q.terms q.seen q.from) q.seat cmd)
    × (LacksPlaces (chronicle_cut q.terms q.seen q.from) q.seat cmd → fault ≡ HistoryFull)
    × (p.from ≤ q.from)
    × OthersCut p q

abbrev pub HasJoined : OfPass → Joined OfPass OfPlaced → Type 0
HasJoined p (joined.Placed q) = Called p Join (PlacedAt q.arena) q.who
HasJoined p (joined.Idle q) = Called p Join IdleNow q
HasJoined p (joined.Failed q fault) = Fails p Join fault q

abbrev pub HasStayed : OfPlaced → Stayed OfPass OfPlaced → Type 0
HasStayed p (stayed.Stays q) = (q.arena ≡ p.arena) × Called p.who Stay (StaysAt p.arena) q.who
HasStayed p (stayed.Recalled q) = Called p.who Stay (RecalledFrom p.arena) q
HasStayed p (stayed.Failed q fault) = (q.arena ≡ p.arena) × Fails p.who Stay fault q.who
