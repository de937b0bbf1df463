-- The entries of a past. They exist in proofs alone, and no public clause has these words.
use Rattle.std.specs.Prelude.{◌<◌, List, [], ◌∷◌, ◌++◌, length}
use Rattle.market_types.specs.declared.reply.Entry.{Entry}
use Rattle.edit_history.specs.declared.past.Last.{Last}
use Rattle.edit_history.specs.declared.past.Last.TheVariants.{Nothing, After, AfterOne}

abbrev pub entries : Last → List Entry
entries Nothing = []
entries (After before part) = before.value ++ part.value.items
entries (AfterOne before entry) = before.value ++ entry.value ∷ []

-- each part has entries, so that a past is longer than each of those before it
abbrev pub IsGrown : Last → Type 0
IsGrown Nothing = Unit {0}
IsGrown (After before part) = 0 < length part.value.items
IsGrown (AfterOne before entry) = Unit {0}
