-- Doing something again and again.
use Rattle.std.specs.Prelude.{ℕ, zero, suc, Option, Some, option_and_then}

-- so many steps, numbered from 0, each from what the one before gave; nothing where one of them gives nothing
abbrev pub repeated : {A : Type 0} → (ℕ → A → Option A) → A → ℕ → Option A
repeated step a zero = Some a
repeated step a (suc n) = option_and_then (step n) (repeated step a n)
