-- What a place held before and after a call (own).
use Rattle.std.specs.Prelude.{◌≡◌, ◌≢◌, ℤ, pos, negsuc, ℕ, Option, None, IsSome, IsSomeAnd}
use Rattle.market_types.specs.declared.command.Cmd.{Cmd}
use Rattle.edit_history.specs.declared.fault.CallFault.TheVariants.{HistoryFull, Memory}
use Rattle.market_lock.specs.Seen.{OfPass}
use Rattle.market_lock.specs.Moves.{Fails}
use Rattle.market_seat.specs.Seated.{OfSeat, who, place_of, IsSameSeat}

-- the place holds the same seat still, and so its caller went from the one to the other
abbrev pub Goes : Option OfSeat → Option OfSeat → (OfPass → OfPass → Type 0) → Type 0
Goes old new P = IsSomeAnd old (λ s. IsSomeAnd new (λ t. IsSameSeat s t × P (who s.hand) (who t.hand)))

-- what a number says of a call that was not answered: another had the desk, the history is full, out of memory, no seat in the place, a bad number
pub record Tells (code : ℤ) (cmd : Cmd) (old new : Option OfSeat) : Type 0 where
  pub busy : code ≡ pos 1 → new ≡ old
  pub full : code ≡ pos 2 → Goes old new (λ p q. Fails p cmd HistoryFull q)
  pub memory : code ≡ negsuc 0 → Goes old new (λ p q. Fails p cmd Memory q)
  pub vacant : code ≡ negsuc 1 → new ≡ old
  pub number : code ≡ negsuc 2 → new ≡ old
  pub none : old ≡ None → code ≢ negsuc 2 → code ≡ negsuc 1
  pub live : code ≢ negsuc 1 → code ≢ negsuc 2 → IsSome new

-- the place holds a seat that is placed so
abbrev pub IsAt : Option OfSeat → Option ℕ → Type 0
IsAt new arena = IsSomeAnd new (λ t. place_of t.hand ≡ arena)
