-- The turns of a worker, and the calls that they are (own).
use Rattle.std.specs.Prelude.{◌≡◌, ℕ, ◌==◌, Bool, false, pos, neg_ℤ, List, [], ◌∷◌, ◌++◌, replicate, All, Contains, count_by, flat_map}
use Rattle.market_types.specs.declared.command.Cmd.{Cmd}
use Rattle.market_types.specs.declared.command.Cmd.TheVariants.{Request, Join, Stay, Leave}
use Rattle.market_types.specs.declared.reply.Entry.{Entry}
use Rattle.market_types.specs.declared.reply.Reply.{Reply}
use Rattle.market_types.specs.declared.reply.Reply.TheVariants.{Placed, Idle, Stays, Recalled, Left}
use Rattle.edit_history.specs.Chronicled.{entry}
use Rattle.worker_main.specs.declared.station.Station.{Station}

-- gives a station's request back: so many workers less, and so much enqueued work less
abbrev pub give_back : Station → Cmd
give_back s = Request s.arena (neg_ℤ (pos s.wanted)) (neg_ℤ (pos s.mandatory))

-- how a turn ends: its arena recalls the worker; or the station's queue is empty, and the worker gives the request back, is
-- answered so, and leaves
pub data TurnEnd : Type 0 where
  recalled : TurnEnd
  emptied : Reply → TurnEnd

-- a turn: at which station, how many Stays were answered that the worker stays, and how it ended
pub record Turn : Type 0 where
  pub station : Station
  pub stays : ℕ
  pub end : TurnEnd

-- ---- the calls of a turn

abbrev pub joined : ℕ → Station → Entry
joined seat s = entry seat Join (Placed s.arena)

abbrev pub stayed : ℕ → Station → Entry
stayed seat s = entry seat Stay (Stays s.arena)

abbrev pub ending : ℕ → Station → TurnEnd → List Entry
ending seat s recalled = entry seat Stay (Recalled s.arena) ∷ []
ending seat s (emptied reply) = entry seat (give_back s) reply ∷ entry seat Leave (Left s.arena) ∷ []

-- once it is placed: it stays so many times, and then the turn ends
abbrev pub rest_of : ℕ → Turn → List Entry
rest_of seat t = replicate t.stays (stayed seat t.station) ++ ending seat t.station t.end

abbrev pub entries_of : ℕ → Turn → List Entry
entries_of seat t = joined seat t.station ∷ rest_of seat t

-- these are the entries of one turn at one of the stations
abbrev pub IsTurnOf : List Station → ℕ → List Entry → Type 0
IsTurnOf stations seat added = (t : Turn) × Contains stations t.station × (added ≡ entries_of seat t)

-- this is a Join that places the seat nowhere
abbrev pub IsLastJoin : ℕ → List Entry → Type 0
IsLastJoin seat added = added ≡ entry seat Join Idle ∷ []

-- these are the entries of turns at the stations, one after another
abbrev pub AreWhole : List Station → ℕ → List Entry → Type 0
AreWhole stations seat added =
    (turns : List Turn) × All (λ (t : Turn). Contains stations t.station) turns × (added ≡ flat_map (entries_of seat) turns)

-- these are the entries of turns at the stations, one after another, and then a Join that places the seat nowhere
abbrev pub AreTurnsOf : List Station → ℕ → List Entry → Type 0
AreTurnsOf stations seat added =
    (turns : List Turn) × All (λ (t : Turn). Contains stations t.station) turns × (added ≡ flat_map (entries_of seat) turns ++ entry seat Join Idle ∷ [])

-- ---- counts

-- a Stay of a worker of this arena, that was answered so or recalled
abbrev pub is_stay : ℕ → Cmd → Reply → Bool
is_stay arena Stay (Stays a) = a == arena
is_stay arena Stay (Recalled a) = a == arena
is_stay arena cmd reply = false

abbrev pub is_request : ℕ → Cmd → Bool
is_request arena (Request a wanted mandatory) = a == arena
is_request arena cmd = false

-- how many Stays for the arena there are among these entries, and how many Requests
abbrev pub stays_for : ℕ → List Entry → ℕ
stays_for arena entries = count_by (λ (e : Entry). is_stay arena e.call.cmd e.reply) entries

abbrev pub requests_for : ℕ → List Entry → ℕ
requests_for arena entries = count_by (λ (e : Entry). is_request arena e.call.cmd) entries
