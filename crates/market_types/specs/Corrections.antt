-- Arenas with workers too many or too few, as lists of each kind.
use denote.Enum.Bare.{sameb}
use Rattle.std.specs.Prelude.{ℕ, Bool, List, map}
use Rattle.std.specs.List.{filter}
use Rattle.market_types.specs.declared.lists.Correction.{Correction}
use Rattle.market_types.specs.contracts.lists.Correction.{the_type}
use Rattle.market_types.specs.declared.lists.Imbalance.{Imbalance}

-- the two are one
abbrev pub is_same : Correction → Correction → Bool
is_same = sameb the_type

-- the arenas that need this correction, each with its count
abbrev pub counts_to : Correction → List Imbalance → List (ℕ × ℕ)
counts_to correction arenas =
    map (λ (a : Imbalance). (a.arena, a.count)) (filter (λ (a : Imbalance). is_same a.correction correction) arenas)
