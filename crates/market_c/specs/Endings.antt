-- What a market leaves whose history goes to a journal (own).
use Rattle.std.specs.Prelude.{◌≡◌, ℕ, ◌≤◌, [], ◌++◌, length, Option, IsSomeAnd}
use Rattle.edit_history.specs.Chronicled.{Chronicled, most_forgotten}
use Rattle.edit_history.specs.Parts.{EndsWith}
use Rattle.edit_history.specs.declared.part.Part.{Part}
use Rattle.market_lock.specs.Headline.{IsGivenBy}
use Rattle.market_lock.specs.Seen.{AllParts}
use Rattle.market_lock.specs.Views.{opening_of, chronicle_cut}
use Rattle.market_seat.specs.Seated.{OfSeat, callers}
use Rattle.journal_replay.specs.Journal.{entry_lines}
use Rattle.journal_text.specs.Texts.{OfUnread, text_of}
use Rattle.market_c.specs.declared.journal.MarketPart.{MarketPart}

-- the part is what the history still keeps, and all of it where all is kept; its lines are put to the journal's text, and what is told of it is so
pub record IsPutInto (part : Part) (told : MarketPart) (levels : ℕ) (c : Chronicled) (u v : OfUnread) : Type 0 where
  pub ends : EndsWith c.log part.from part.entries.items
  pub kept : length c.log ≤ most_forgotten → part.from ≡ c.from
  pub whole : c.from ≡ 0 → part.entries.items ≡ c.log
  pub text : text_of v ≡ text_of u ++ entry_lines levels part.entries.items
  pub from : told.from ≡ part.from
  pub calls : told.calls ≡ length part.entries.items

-- what the office leaves: a history of as many calls, whose replies are those due; with the parts that its callers cut, what it keeps is all of that
pub record IsLeft (calls : ℕ) (s : OfSeat) (c : Chronicled) : Type 0 where
  pub given : IsGivenBy (opening_of s.office.terms) c
  pub is : c ≡ chronicle_cut s.office.terms c.log c.from
  pub parts : AllParts s.office.terms.keeping c.log c.from (callers s) []
  pub counted : calls ≡ length c.log

-- the market of the seat has ended into the journal
abbrev pub EndsInto : ℕ → MarketPart → OfSeat → OfUnread → OfUnread → Type 0
EndsInto calls told s u v = (c : Chronicled) × (part : Part) × IsLeft calls s c × IsPutInto part told s.office.terms.opening.levels c u v

abbrev pub ClosesInto : ℕ → MarketPart → Option OfSeat → Option OfUnread → Option OfUnread → Type 0
ClosesInto calls told seat old new = IsSomeAnd seat (λ s. IsSomeAnd old (λ u. IsSomeAnd new (λ v. EndsInto calls told s u v)))
