-- A market that C opened (own).
use Rattle.std.specs.Prelude.{◌≡◌, ℕ, None, All, if◌then◌else◌, ◌==◌}
use Rattle.edit_history.specs.declared.keeping.Keeping.{Keeping}
use Rattle.edit_history.specs.declared.keeping.Keeping.TheVariants.{Everything, InParts, Nothing}
use Rattle.market_seat.specs.Seated.{OfSeat, place_of, callers, IsFresh}
use Rattle.market_c.specs.declared.office.MarketTerms.{MarketTerms}

-- which entries are to be kept, by its number
abbrev pub keeping_of : ℕ → Keeping
keeping_of n = if n == 0 then Everything else if n == 1 then InParts else Nothing

-- it is not placed, and all callers have seen nothing and called nothing, on these terms
pub record IsOpenedOn (t : MarketTerms) (s : OfSeat) : Type 0 where
  pub base : s.office.terms.opening.base ≡ t.base
  pub hard : s.office.terms.opening.hard ≡ t.hard
  pub seats : s.office.terms.opening.seats ≡ t.seats
  pub places : s.office.terms.places ≡ t.places
  pub levels : s.office.terms.opening.levels ≡ t.levels
  pub last : s.office.terms.opening.last ≡ t.last
  pub keeping : s.office.terms.keeping ≡ keeping_of t.keeping
  pub free : place_of s.hand ≡ None
  pub fresh : All (IsFresh s.office) (callers s)
