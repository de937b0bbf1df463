-- What the desk does under the lock. No public clause has these words.
use Rattle.std.specs.Prelude.{◌≡◌, ℕ, ◌+◌, ◌<◌, ◌≤◌, [], ◌∷◌, ◌++◌, length, Result, Ok, Err, Option, Some, None}
use Rattle.market_types.specs.declared.command.Cmd.{Cmd}
use Rattle.market_types.specs.declared.reply.Reply.{Reply}
use Rattle.market_types.specs.History.{IsLegal, of_seat, place_in}
use Rattle.market_core.specs.Moves.{Answers}
use Rattle.edit_history.specs.Chronicled.{Chronicled, entry, market_of, most_forgotten}
use Rattle.edit_history.specs.Parts.{EndsWith}
use Rattle.edit_history.specs.Places.{placed, takes, LacksPlaces}
use Rattle.edit_history.specs.declared.part.Part.{Part}
use Rattle.edit_history.specs.declared.keeping.Keeping.TheVariants.{InParts}
use Rattle.edit_history.specs.declared.fault.CallFault.{CallFault}
use Rattle.edit_history.specs.declared.fault.CallFault.TheVariants.{HistoryFull}
use Rattle.market_lock.specs.Forgetting.{forgotten}

-- the desk d has the seat, whose caller has counted so many calls
abbrev pub MayServe : ℕ → Chronicled → ℕ → Type 0
MayServe seat d calls = (seat < length d.start.seats) × (calls ≡ length (of_seat seat d.log))

-- the entry and its count, m that was n; or nothing is changed
abbrev pub Done : ℕ → Cmd → Result Reply CallFault → Chronicled → Chronicled → ℕ → ℕ → Type 0
Done seat cmd (Ok reply) d e n m = Answers (place_in seat d.log) cmd reply × (e.log ≡ d.log ++ entry seat cmd reply ∷ []) × (m ≡ n + 1)
Done seat cmd (Err fault) d e n m =
    (e ≡ d) × (m ≡ n) × (fault ≡ HistoryFull → LacksPlaces d seat cmd) × (LacksPlaces d seat cmd → fault ≡ HistoryFull)
    × (takes (place_in seat d.log) cmd ≡ 0 → ⊥)

-- from the desk d and so many calls, n, to e and m
pub record Serves (seat : ℕ) (cmd : Cmd) (r : Result Reply CallFault) (d e : Chronicled) (n m : ℕ) : Type 0 where
  pub start : e.start ≡ d.start
  pub places : e.places ≡ d.places
  pub from : e.from ≡ forgotten e.keeping (length e.log) d.from
  pub found_from : d.from ≡ forgotten d.keeping (length d.log) d.from
  pub keeping : e.keeping ≡ d.keeping
  pub found : IsLegal d.start d.log
  pub legal : IsLegal e.start e.log
  pub held : e.market ≡ market_of e
  pub done : Done seat cmd r d e n m

-- the entries that were kept, and the desk that keeps none of them; or nothing is changed, where there is no room for the placed seats, or a part can't be had
abbrev pub Out : ℕ → Option Part → Chronicled → Chronicled → Type 0
Out room (Some part) d e =
    EndsWith d.log part.from part.entries.items × (part.from ≡ d.from) × (e ≡ record d { from = length d.log }) × (d.keeping ≡ InParts)
    × (length d.log ≤ most_forgotten) × (placed (market_of d) ≤ room)
Out room None d e = (e ≡ d) × (d.keeping ≡ InParts → placed (market_of d) ≤ room → length d.log ≤ most_forgotten → ⊥)

-- from the desk d to e, by a spare with so much room
pub record Cuts (room : ℕ) (r : Option Part) (d e : Chronicled) : Type 0 where
  pub found : d.from ≤ length d.log
  pub few : placed (market_of d) ≤ length d.start.seats
  pub legal : IsLegal d.start d.log
  pub out : Out room r d e
