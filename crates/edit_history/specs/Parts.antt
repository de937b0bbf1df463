-- Parts of a history (own).
use Rattle.std.specs.Prelude.{◌≡◌, ℕ, ◌+◌, List, [], ◌∷◌, ◌++◌, length}
use Rattle.market_types.specs.declared.reply.Entry.{Entry}
use Rattle.edit_history.specs.declared.part.Part.{Part}

-- the history ends with the part, and has so many entries before it
abbrev pub EndsWith : List Entry → ℕ → List Entry → Type 0
EndsWith history from part = (before : List Entry) × (history ≡ before ++ part) × (length before ≡ from)

-- the part stands in the history, behind as many entries as it says
abbrev pub IsPartOf : Part → List Entry → Type 0
IsPartOf p history = (before after : List Entry) × (history ≡ before ++ (p.entries.items ++ after)) × (length before ≡ p.from)

-- each part stands in the history where the one before it ends, the first behind so many entries, and the last one ends the history
abbrev pub AreInARow : ℕ → List Part → List Entry → Type 0
AreInARow from [] history = from ≡ length history
AreInARow from (p ∷ ps) history = (p.from ≡ from) × IsPartOf p history × AreInARow (from + length p.entries.items) ps history

-- the entries of the parts, one part after the other
abbrev pub joined : List Part → List Entry
joined [] = []
joined (p ∷ ps) = p.entries.items ++ joined ps
