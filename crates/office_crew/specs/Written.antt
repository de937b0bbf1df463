-- What contracts see of a scribe (own).
use Rattle.std.specs.Prelude.{◌≡◌, ◌≢◌, List, length, Result, Ok, Err, Option, Some, None}
use Rattle.market_types.specs.declared.reply.Entry.{Entry}
use Rattle.edit_history.specs.Parts.{EndsWith}
use Rattle.edit_history.specs.declared.part.Part.{Part}
use Rattle.market_lock.specs.Cutting.{entries_of, cut_by}
use Rattle.market_lock.specs.Seen.{OfPass}
use Rattle.office_crew.specs.declared.missed.Missed.{Missed}
use Rattle.office_crew.specs.declared.missed.Missed.TheVariants.{NoPart, Elsewhere}

-- its pass, and all that it was handed, one part after the other
pub record OfScribe : Type 0 where
  pub pass : OfPass
  pub written : List Entry

-- it has written every part that its pass knows of, whoever cut it
abbrev pub HasWrittenAll : OfScribe → Type 0
HasWrittenAll s = s.written ≡ entries_of s.pass.cuts

-- its pass knows of no part that another seat cut
abbrev pub IsAlone : OfScribe → Type 0
IsAlone s = cut_by s.pass.seat s.pass.cuts ≡ s.pass.cuts

-- a part that ends what is now seen begins elsewhere than behind what was written
abbrev pub IsElsewhere : List Entry → List Entry → Missed → Type 0
IsElsewhere written seen NoPart = ⊥
IsElsewhere written seen (Elsewhere part) = EndsWith seen part.from part.entries.items × (part.from ≢ length written)

-- the part that was cut, whether it was written or not
abbrev pub part_of : Result Part Missed → Option Part
part_of (Ok part) = Some part
part_of (Err (Elsewhere part)) = Some part
part_of (Err NoPart) = None

-- there is no part, or one that begins elsewhere
abbrev pub HasMissed : List Entry → List Entry → Missed → Type 0
HasMissed written seen NoPart = Unit {0}
HasMissed written seen (Elsewhere part) = IsElsewhere written seen (Elsewhere part)
