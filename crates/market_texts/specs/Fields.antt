-- A text's fields and its digits.
use Rattle.std.specs.Prelude.{ℕ, List, [], ◌∷◌, if◌then◌else◌, Option, Some, None}
use Rattle.std.specs.Borrow.{Bor}
use Rattle.std.specs.Char.{is_ascii_digit}
use Rattle.std.specs.List.{slice_split}
use Rattle.market_texts.specs.Reading.{is_space}

-- the fields of what follows a field's space; where no space follows, none
abbrev pub fields_left : Option (Bor (List ℕ)) → List (List ℕ)
fields_left None = []
fields_left (Some text) = slice_split is_space text.now

-- the digits with which a text begins
abbrev pub front_digits : List ℕ → List ℕ
front_digits [] = []
front_digits (b ∷ text) = if is_ascii_digit b then b ∷ front_digits text else []

-- what follows them
abbrev pub behind_digits : List ℕ → List ℕ
behind_digits [] = []
behind_digits (b ∷ text) = if is_ascii_digit b then behind_digits text else b ∷ text
