-- What the reader's parts answer of a text's first field. No public clause has these words.
use Rattle.std.specs.Prelude.{◌≡◌, ℕ, List, [], ◌∷◌, if◌then◌else◌, Option, Some, None}
use Rattle.std.specs.Borrow.{Bor}
use Rattle.std.specs.List.{slice_split}
use Rattle.market_texts.specs.Fields.{fields_left}
use Rattle.market_texts.specs.Reading.{is_space}

-- the bytes before the first space
abbrev pub first_field : List ℕ → List ℕ
first_field [] = []
first_field (b ∷ text) = if is_space b then [] else b ∷ first_field text

-- the fields after a space, or none at the end of the text; nothing, where the field goes on
abbrev pub follows : List ℕ → Option (List (List ℕ))
follows [] = Some []
follows (b ∷ text) = if is_space b then Some (slice_split is_space text) else None

-- a text has a first field, which reads as what is cut, and the fields behind it are left; or it reads as none
abbrev pub IsCut : {A : Type 0} → (List ℕ → Option A) → List ℕ → Option (A × Option (Bor (List ℕ))) → Type 0
IsCut read text None = (field : List ℕ) × (more : List (List ℕ)) × (slice_split is_space text ≡ field ∷ more) × (read field ≡ None)
IsCut read text (Some cut) = (field : List ℕ) × (slice_split is_space text ≡ field ∷ fields_left cut.1) × (read field ≡ Some cut.0)
