-- What a line was read as.
use Rattle.std.specs.Prelude.{◌≡◌, ℕ, ◌<◌, Bool, true, false, Option, Some, None, ⊤}
use Rattle.serde_json.specs.Data.{Data, Members}
use Rattle.journal_replay.specs.declared.entry.Reading.{Reading}
use Rattle.journal_replay.specs.declared.entry.Reading.TheVariants.{Entry, NotEntry, NotJson}
use Rattle.journal_replay.specs.EntryFields.{HasFields}
use Rattle.journal_replay.specs.Reading.{Recorded}

-- none where it is no JSON, and else the entry that it is, if any
abbrev pub reading_of : Reading → Option (Option Recorded)
reading_of (Entry e) = Some (Some (record { seat = e.seat; cmd = e.cmd; reply = e.reply.now }))
reading_of NotEntry = Some None
reading_of NotJson = None

-- an entry's seat is below the number of seats
abbrev pub IsSeated : ℕ → Reading → Type 0
IsSeated seats (Entry e) = e.seat < seats
IsSeated seats NotEntry = ⊤
IsSeated seats NotJson = ⊤

-- whether it is JSON, and if so its fields
abbrev pub Tells : Bool → Members → Option Data → Type 0
Tells json fields None = json ≡ false
Tells json fields (Some d) = (json ≡ true) × HasFields fields d
