-- How much of a desk's history is no longer kept (own).
use Rattle.std.specs.Prelude.{ℕ, min}
use Rattle.edit_history.specs.Chronicled.{most_forgotten}
use Rattle.edit_history.specs.declared.keeping.Keeping.{Keeping}
use Rattle.edit_history.specs.declared.keeping.Keeping.TheVariants.{Everything, InParts, Nothing}

-- how many of the first entries are not kept after so many calls, if so many were cut out: none of them, those, or all, as long as 64 bits count the calls
abbrev pub forgotten : Keeping → ℕ → ℕ → ℕ
forgotten Everything calls cut = 0
forgotten InParts calls cut = cut
forgotten Nothing calls cut = min calls most_forgotten

-- the greatest number that 64 bits hold: no history is longer
abbrev pub most_counted : ℕ
most_counted = 18446744073709551615
