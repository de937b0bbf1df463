-- The lines of an input, as they are handed on (own).
use Rattle.std.specs.Prelude.{◌≡◌, ℕ, ◌==◌, nat_lt, if◌then◌else◌, Bool, false, List, [], ◌∷◌, ◌++◌, length, take, map}
use Rattle.std.specs.List.{All, slice_split}
use Rattle.line_engine.specs.declared.form.LineForm.{LineForm}
use Rattle.line_engine.specs.declared.form.LineForm.TheVariants.{Whole, WithoutLf, TooLong}

-- the byte LF
abbrev pub is_lf : ℕ → Bool
is_lf b = b == 10

-- the text has no LF
abbrev pub NoLf : List ℕ → Type 0
NoLf text = All (λ b. is_lf b ≡ false) text

-- all parts but the last
abbrev pub without_last : List (List ℕ) → List (List ℕ)
without_last [] = []
without_last (part ∷ []) = []
without_last (part ∷ next ∷ more) = part ∷ without_last (next ∷ more)

-- the last part
abbrev pub last_part : List (List ℕ) → List ℕ
last_part [] = []
last_part (part ∷ []) = part
last_part (part ∷ next ∷ more) = last_part (next ∷ more)

-- the lines of an input that an LF ends, without it
unfoldable pub ended_lines : List ℕ → List (List ℕ)
ended_lines input = without_last (slice_split is_lf input)

-- what follows the last LF of an input, or all of it
unfoldable pub unfinished_line : List ℕ → List ℕ
unfinished_line input = last_part (slice_split is_lf input)

-- a line as it is handed on
pub record Line : Type 0 where
  pub bytes : List ℕ
  pub form : LineForm

-- a line of at most `longest` bytes is handed on whole, a longer one as its first bytes
abbrev pub handed : ℕ → LineForm → List ℕ → Line
handed longest form bytes =
    if nat_lt longest (length bytes) then record { bytes = take longest bytes; form = TooLong }
    else record { bytes = bytes; form = form }

-- the lines that an LF ends
abbrev pub whole_lines : ℕ → List ℕ → List Line
whole_lines longest input = map (handed longest Whole) (ended_lines input)

-- what the input's end leaves unfinished is a line, unless it is empty
abbrev pub last_line : ℕ → List ℕ → List Line
last_line longest [] = []
last_line longest (byte ∷ bytes) = handed longest WithoutLf (byte ∷ bytes) ∷ []

-- the lines of an input
abbrev pub lines_of : ℕ → List ℕ → List Line
lines_of longest input = whole_lines longest input ++ last_line longest (unfinished_line input)
