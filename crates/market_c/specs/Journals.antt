-- What becomes of a journal's text (own).
use Rattle.std.specs.Prelude.{◌≡◌, ℕ, ◌≤◌, ◌<◌, List, [], ◌++◌, length, take, drop, Option, Some, None, IsSomeAnd}
use Rattle.market_types.specs.History.{IsLegal}
use Rattle.edit_history.specs.Parts.{EndsWith}
use Rattle.edit_history.specs.declared.part.Part.{Part}
use Rattle.edit_history.specs.declared.terms.Terms.{Terms}
use Rattle.market_lock.specs.Views.{opening_of}
use Rattle.market_lock.specs.Seen.{HasCut}
use Rattle.market_seat.specs.Seated.{OfSeat, who, IsSameSeat}
use Rattle.journal_replay.specs.Journal.{entry_lines}
use Rattle.journal_replay.specs.declared.header.Extent.TheVariants.{Endless}
use Rattle.journal_replay.specs.declared.header.Header.{Header}
use Rattle.journal_text.specs.Texts.{OfUnread, text_of}
use Rattle.market_c.specs.declared.journal.MarketPart.{MarketPart}

-- the header of the journal of a market on these terms
abbrev pub header_of : Terms → Header
header_of t = record { opening = t.opening; extent = Endless }

-- the part ends the legal history that the seat has then seen, its lines are put to the journal's text, and what is told of it is so
pub record IsCutInto (part : Part) (told : MarketPart) (s t : OfSeat) (u v : OfUnread) : Type 0 where
  pub same : IsSameSeat s t
  pub cut : HasCut (who s.hand) (Some part) (who t.hand)
  pub legal : IsLegal (opening_of (who t.hand).terms) (who t.hand).seen
  pub ends : EndsWith (who t.hand).seen part.from part.entries.items
  pub text : text_of v ≡ text_of u ++ entry_lines s.office.terms.opening.levels part.entries.items
  pub from : told.from ≡ part.from
  pub calls : told.calls ≡ length part.entries.items

-- a part was cut by the seat into the journal
abbrev pub CutsInto : MarketPart → Option OfSeat → Option OfSeat → Option OfUnread → Option OfUnread → Type 0
CutsInto told seat_old seat_new old new =
    IsSomeAnd seat_old (λ s. IsSomeAnd seat_new (λ t. IsSomeAnd old (λ u. IsSomeAnd new (λ v. (part : Part) × IsCutInto part told s t u v))))

-- the first n bytes of the text went to the buffer, which is else the same; none did only where there are none, or no room for one
pub record IsHandedOut (n : ℕ) (buffer_old buffer_new : List ℕ) (u v : OfUnread) : Type 0 where
  pub within : n ≤ length buffer_old
  pub given : take n buffer_new ≡ take n (text_of u)
  pub rest : drop n buffer_new ≡ drop n buffer_old
  pub left : text_of v ≡ drop n (text_of u)
  pub all : n ≡ 0 → 0 < length buffer_old → text_of u ≡ []

abbrev pub HandsOut : ℕ → List ℕ → List ℕ → Option OfUnread → Option OfUnread → Type 0
HandsOut n buffer_old buffer_new old new = IsSomeAnd old (λ u. IsSomeAnd new (λ v. IsHandedOut n buffer_old buffer_new u v))
