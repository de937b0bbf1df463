-- What comes before an arena at its level.
use Rattle.std.specs.Prelude.{ℕ, ◌+◌, ◌==◌, if◌then◌else◌, List, [], ◌∷◌}
use Rattle.market_types.specs.State.{Arena}
use Rattle.market_types.specs.Claims.{request_of}

-- what the arenas of a list ask for together that come before the one of this number; what all ask for, if none has it
abbrev pub asked_ahead : ℕ → List Arena → ℕ
asked_ahead a [] = 0
asked_ahead a (x ∷ xs) = if x.number == a then 0 else request_of x.claim + asked_ahead a xs
