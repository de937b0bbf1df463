-- What a script is answered: its lines, cut at each LF, and one reply line to each of them that is not silent.
use Rattle.std.specs.Prelude.{ℕ, ◌+◌, List, [], ◌∷◌, ◌++◌, length, slice_index, ◌==◌, ◌||◌, nat_lt, Bool, if◌then◌else◌, Option, Some, None, codes}
use Rattle.std.specs.List.{slice_split}
use Rattle.market_types.specs.declared.command.Cmd.{Cmd}
use Rattle.market_types.specs.State.{State}
use Rattle.market_types.specs.Step.{step}
use Rattle.market_texts.specs.Texts.{reply_text}
use Rattle.market_texts.specs.Reading.{line_reading}

abbrev pub is_lf : ℕ → Bool
is_lf b = b == 10

-- an empty part after the last LF is no line
abbrev pub without_last_empty : List (List ℕ) → List (List ℕ)
without_last_empty [] = []
without_last_empty (line ∷ []) = if length line == 0 then [] else line ∷ []
without_last_empty (line ∷ next ∷ more) = line ∷ without_last_empty (next ∷ more)

-- the lines of a text
unfoldable pub script_lines : List ℕ → List (List ℕ)
script_lines bytes = without_last_empty (slice_split is_lf bytes)

-- a text, how many of its lines are `unread`, and the market after it
pub record Told : Type 0 where
  pub text : List ℕ
  pub unread : ℕ
  pub last : State

-- one after the other
abbrev pub joined : Told → (State → Told) → Told
joined a f =
    record { text = a.text ++ (f a.last).text; unread = a.unread + (f a.last).unread; last = (f a.last).last }

abbrev pub nothing : State → Told
nothing s = record { text = []; unread = 0; last = s }

-- the line is empty or begins with `#` (35)
abbrev pub is_silent : List ℕ → Bool
is_silent line = (length line == 0) || (slice_index line 0 == 35)

-- the answer to a line by what it reads as
abbrev pub answer_to : State → Option (ℕ × Cmd) → Told
answer_to s None = record { text = codes "unread\n"; unread = 1; last = s }
answer_to s (Some call) =
    record {
      text = reply_text (step s call.0 call.1).0 ++ codes "\n";
      unread = 0;
      last = (step s call.0 call.1).1;
    }

-- the answer to a line: a line of more than 256 bytes reads as nothing
unfoldable pub answer_of : State → List ℕ → Told
answer_of s line =
    if is_silent line then nothing s
    else if nat_lt 256 (length line) then answer_to s None
    else answer_to s (line_reading (length s.seats) s.levels line)

abbrev pub told_lines : State → List (List ℕ) → Told
told_lines s [] = nothing s
told_lines s (line ∷ lines) = joined (answer_of s line) (λ t. told_lines t lines)

-- the whole answer to a script from this market on
unfoldable pub told : State → List ℕ → Told
told s bytes = told_lines s (script_lines bytes)
