-- A seat before and after it took the desk, and the values that are taken back. No public clause has these words.
use Rattle.std.specs.Prelude.{◌≡◌, ℕ, ◌≤◌, [], ◌∷◌, ◌++◌, List, length, Option, Some, None}
use mathlib.Core.List.{IsPrefix}
use Rattle.atomic_table.specs.Table.{Me}
use Rattle.market_types.specs.declared.reply.Entry.{Entry}
use Rattle.market_types.specs.History.{IsLegal, of_seat}
use Rattle.edit_history.specs.Chronicled.{Chronicled, most_forgotten}
use Rattle.edit_history.specs.Parts.{EndsWith}
use Rattle.edit_history.specs.declared.part.Part.{Part}
use Rattle.edit_history.specs.declared.keeping.Keeping.TheVariants.{InParts}
use Rattle.edit_history.specs.declared.terms.Terms.{Terms}
use Rattle.market_lock.specs.declared.view.Cut.{Cut}
use Rattle.market_lock.specs.declared.view.Known.{Known}
use Rattle.market_lock.specs.declared.view.View.{View}
use Rattle.market_lock.specs.declared.view.View.TheVariants.{Outside, Holder, Closer}
use Rattle.market_lock.specs.Cutting.{cut_by, IsCutUp}
use Rattle.market_lock.specs.Views.{opening_of, shown, known, chronicle_from, seats_placed_after}
use Rattle.market_lock.specs.Seen.{known_of, OfPass, OfPlaced}

abbrev pub IsOutside : Me Chronicled View → Type 0
IsOutside m = m ≡ (Outside (known_of m.0), [])

-- it has the desk, with a history that begins with all that it had seen
abbrev pub HasTaken : Me Chronicled View → Me Chronicled View → Type 0
HasTaken m n = let k = known_of m.0 in
    (log : List Entry) × (from : ℕ) × (cuts : List Cut) × (n ≡ (Holder (shown k log from cuts), (0, chronicle_from k.terms log from) ∷ [])) × IsPrefix k.seen log × (of_seat k.seat log ≡ k.mine) × (k.from ≤ from)
    × IsPrefix k.cuts cuts × (cut_by k.seat cuts ≡ cut_by k.seat k.cuts) × IsCutUp k.terms.keeping log from cuts

-- the seat has the desk, of which P holds
abbrev pub HasDesk : Me Chronicled View → (Chronicled → Type 0) → Type 0
HasDesk m P = (d : Chronicled) × (m ≡ (m.0, (0, d) ∷ [])) × P d

-- it has the desk, after this history, of which P holds
abbrev pub HoldsDesk : Me Chronicled View → (Known → List Entry → ℕ → Type 0) → Type 0
HoldsDesk m P = (log : List Entry) × (from : ℕ) × (m ≡ (Holder (known_of m.0), (0, chronicle_from (known_of m.0).terms log from) ∷ [])) × P (known_of m.0) log from

-- it has given the desk back, and what was cut out since is `next` of what it knew
abbrev pub HasGiven : (Known → List Entry → List Cut) → Me Chronicled View → Me Chronicled View → Type 0
HasGiven next m n = let k = known_of m.0 in
    (log : List Entry) × (from : ℕ) × (m ≡ (Holder k, (0, chronicle_from k.terms log from) ∷ [])) × (n ≡ (Outside (shown k log from (next k log)), []))

-- who knows l, and knew k before, has a part that ends its history, of which no entry is kept then; or it has none, and could not have one by a spare with so much room
abbrev pub HasPart : Known → Known → ℕ → Option Part → Type 0
HasPart k l room (Some part) = EndsWith l.seen part.from part.entries.items × (k.from ≤ part.from) × (l.from ≡ length l.seen) × (k.terms.keeping ≡ InParts)
    × (length l.seen ≤ most_forgotten) × (seats_placed_after k.terms l.seen ≤ room)
HasPart k l room None = k.terms.keeping ≡ InParts → seats_placed_after k.terms l.seen ≤ room → length l.seen ≤ most_forgotten → ⊥

-- what is known after a cut
pub record IsSeenCut (k l : Known) (room : ℕ) (r : Option Part) : Type 0 where
  pub terms : l.terms ≡ k.terms
  pub seat : l.seat ≡ k.seat
  pub legal : IsLegal (opening_of k.terms) l.seen
  pub later : k.from ≤ l.from
  pub few : seats_placed_after k.terms l.seen ≤ k.terms.opening.seats
  pub told : HasPart k l room r

abbrev pub kept_of : View → List Known
kept_of (Closer t kept) = kept
kept_of v = []

abbrev pub known_for : OfPass → Known
known_for p = known p.terms p.seat p.seen p.from p.cuts p.mine

-- who takes passes back, with what it keeps
abbrev pub IsClosing : Terms → Me Chronicled View → List Known → Type 0
IsClosing t m kept = m ≡ (Closer t kept, [])

abbrev pub whos : List OfPlaced → List OfPass
whos [] = []
whos (p ∷ ps) = p.who ∷ whos ps

-- what they knew, the last first
abbrev pub taken_in : List OfPass → List Known
taken_in [] = []
taken_in (x ∷ xs) = taken_in xs ++ known_for x ∷ []
