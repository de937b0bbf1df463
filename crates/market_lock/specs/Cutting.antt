-- Parts that were cut out of an office's history (own).
use Rattle.std.specs.Prelude.{◌≡◌, ℕ, ◌==◌, ◌+◌, List, [], ◌∷◌, ◌++◌, length}
use Rattle.std.specs.List.{filter}
use Rattle.market_types.specs.declared.reply.Entry.{Entry}
use Rattle.edit_history.specs.declared.keeping.Keeping.{Keeping}
use Rattle.market_lock.specs.Forgetting.{forgotten}
use Rattle.market_lock.specs.declared.view.Cut.{Cut}

-- the entries of the parts, one part after the other
abbrev pub entries_of : List Cut → List Entry
entries_of [] = []
entries_of (c ∷ cs) = c.entries ++ entries_of cs

-- each part begins where the one before it ends, the first behind so many entries
abbrev pub EndToEnd : ℕ → List Cut → Type 0
EndToEnd from [] = Unit {0}
EndToEnd from (c ∷ cs) = (c.from ≡ from) × EndToEnd (from + length c.entries) cs

-- the parts that one seat cut, in order
abbrev pub cut_by : ℕ → List Cut → List Cut
cut_by seat cuts = filter (λ (c : Cut). c.seat == seat) cuts

-- the parts lie end to end from the first entry on, and with what is left they are the history: an office in parts keeps its entries from where the last of them ends. Of any other office
-- this says nothing of which entries are kept
pub record IsCutUp (keeping : Keeping) (history : List Entry) (from : ℕ) (cuts : List Cut) : Type 0 where
  pub in_a_row : EndToEnd 0 cuts
  pub left : List Entry
  pub whole : history ≡ entries_of cuts ++ left
  pub from_is : from ≡ forgotten keeping (length history) (length (entries_of cuts))
