-- How many binary digits a number has.
use Rattle.std.specs.Prelude.{ℕ, length}
use Rattle.std.specs.Int.Digits.{digits_of}

-- the binary digits of n, none for 0
abbrev pub bits : ℕ → ℕ
bits n = length (digits_of 2 n)
