-- What contracts see of a seat (own).
use Rattle.std.specs.Prelude.{◌≡◌, ℕ, List, [], ◌∷◌, ◌++◌, Result, Ok, Err, Option, Some, None}
use Rattle.market_types.specs.declared.reply.OpenFault.{OpenFault}
use Rattle.edit_history.specs.Chronicled.{Chronicled}
use Rattle.market_lock.specs.Seen.{OfPass, OfOffice, IsSamePass}
use Rattle.market_lock.specs.Views.{chronicle_of}
use Rattle.market_seat.specs.declared.hand.Hand.{Hand}
use Rattle.market_seat.specs.declared.hand.Hand.TheVariants.{Free, Working}

-- an office, what its caller has in hand, and the passes that were not given out or that came back
pub record OfSeat : Type 0 where
  pub office : OfOffice
  pub hand : Hand
  pub spare : List OfPass

-- the caller
abbrev pub who : Hand → OfPass
who (Free p) = p
who (Working q) = q.who

-- the arena at which the caller is placed
abbrev pub place_of : Hand → Option ℕ
place_of (Free p) = None
place_of (Working q) = Some q.arena

-- it is placed at this arena
abbrev pub HasPlace : ℕ → Hand → Type 0
HasPlace arena h = place_of h ≡ Some arena

-- all callers that a seat stands for, its own last
abbrev pub callers : OfSeat → List OfPass
callers s = s.spare ++ who s.hand ∷ []

-- it is of this office, and has the passes of others that it had
abbrev pub HasRest : OfSeat → OfSeat → Type 0
HasRest s t = (t.office ≡ s.office) × (t.spare ≡ s.spare)

-- so it is, and its caller is the same
abbrev pub IsSameSeat : OfSeat → OfSeat → Type 0
IsSameSeat s t = HasRest s t × IsSamePass (who s.hand) (who t.hand)

-- a caller of this office that has seen nothing and called nothing
abbrev pub IsFresh : OfOffice → OfPass → Type 0
IsFresh o p = (p.table ≡ o.table) × (p.terms ≡ o.terms) × (p.seen ≡ []) × (p.from ≡ 0) × (p.cuts ≡ []) × (p.mine ≡ [])

-- the chronicle that a new office keeps, or why there is none
abbrev pub kept_by_seat : Result OfSeat OpenFault → Result Chronicled OpenFault
kept_by_seat (Ok s) = Ok (chronicle_of s.office.terms [])
kept_by_seat (Err fault) = Err fault
