-- Markets whose arenas have numbers of their own, at levels of theirs. No public clause has these words (own).
use Rattle.std.specs.Prelude.{◌≡◌, ◌<◌, ◌≤◌, ◌==◌, false, List, [], ◌∷◌, ⊤}
use Rattle.std.specs.List.{AllByRecursion}
use Rattle.market_types.specs.State.{Arena, State}

-- no two of them have the same number
abbrev pub AreApart : List Arena → Type 0
AreApart [] = ⊤
AreApart (x ∷ xs) = AllByRecursion (λ (y : Arena). (x.number == y.number) ≡ false) xs × AreApart xs

-- each arena has a number that was given, at one of the market's levels, and no two have the same
pub record IsOrdered (s : State) : Type 0 where
  pub numbered : AllByRecursion (λ (b : Arena). b.number < s.next_arena) s.arenas
  pub leveled : AllByRecursion (λ (b : Arena). (1 ≤ b.level) × (b.level ≤ s.levels)) s.arenas
  pub apart : AreApart s.arenas
