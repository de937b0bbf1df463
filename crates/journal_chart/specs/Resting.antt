-- Rows at the end of a chart that a moment leaves as they are. Private functions alone cite these words.
use Rattle.std.specs.Prelude.{◌≡◌, ℕ, ◌≤◌, List, false, Option, None, drop}
use Rattle.std.specs.List.{All}
use Rattle.market_types.specs.Allotment.{is_just}
use Rattle.journal_chart.specs.Rows.{Row}
use Rattle.journal_chart.specs.declared.resting.Resting.{Resting}

-- the arena of a row does not live, and has one of these numbers
pub record IsResting (resting : Resting) (r : Row) : Type 0 where
  pub nowhere : r.stands ≡ None
  pub least : resting.least ≤ r.arena
  pub most : r.arena ≤ resting.most

-- so do those of all rows from one on
abbrev pub AreResting : Resting → List Row → Type 0
AreResting resting rows = All (IsResting resting) (drop resting.before rows)

-- the arena of a row does not live, and an entry is not about it
pub record IsLeft (about : Option ℕ) (r : Row) : Type 0 where
  pub nowhere : r.stands ≡ None
  pub other : is_just r.arena about ≡ false

-- so do those of all rows from one on
abbrev pub AreLeft : ℕ → Option ℕ → List Row → Type 0
AreLeft count about rows = All (IsLeft about) (drop count rows)
