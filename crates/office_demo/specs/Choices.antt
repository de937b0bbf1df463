-- What the words of the command line choose (own).
use Rattle.std.specs.Prelude.{ℕ, ◌^◌, ◌≤◌, Bool, ◌&&◌, ◌||◌, ◌==◌, nat_lt, cond, List, [], ◌∷◌, length, bytes_eq, codes, Option, Some, None, ⊤}
use Rattle.std.specs.Str.{all_ascii_digits}
use Rattle.std.specs.Str.Parse.{without_leading_plus, digits_value}
use Rattle.demo_callers.specs.Records.{most_callers}
use Rattle.demo_callers.specs.declared.forever.Record.{Record}
use Rattle.demo_callers.specs.declared.forever.Record.TheVariants.{Nothing, Journal}
use Rattle.office_demo.specs.declared.choice.Choice.{Choice}
use Rattle.office_demo.specs.declared.choice.Choice.TheVariants.{Work, Forever, Help, Unknown}

-- the bytes of a word
abbrev pub Word : Type 0
Word = List ℕ

-- the number of so many bits that the word spells, a plus before its digits aside
abbrev pub number_of : ℕ → Word → Option ℕ
number_of bits word =
    let digits = without_leading_plus word in
    cond (nat_lt 0 (length digits) && all_ascii_digits digits && nat_lt (digits_value 10 digits) (2 ^ bits)) (Some (digits_value 10 digits)) None

-- so many callers call so often, where there can be so many
abbrev pub work_by : Option ℕ → Option ℕ → Choice
work_by (Some callers) (Some calls) = cond (callers == 0 || nat_lt 64 callers) Unknown (Work callers calls)
work_by (Some callers) None = Unknown
work_by None calls = Unknown

-- so many callers call for so many seconds, where there can be so many
abbrev pub forever_by : Record → Option ℕ → Option ℕ → Choice
forever_by recorded (Some callers) (Some seconds) = cond (callers == 0 || nat_lt (most_callers recorded) callers) Unknown (Forever callers seconds recorded)
forever_by recorded (Some callers) None = Unknown
forever_by recorded None seconds = Unknown

-- CALLERS CALLS
abbrev pub work_of : Word → Word → Choice
work_of callers calls = work_by (number_of 8 callers) (number_of 32 calls)

-- --forever SECONDS CALLERS, and what becomes of the entries
abbrev pub forever_of : Word → Word → Record → Choice
forever_of seconds callers recorded = forever_by recorded (number_of 8 callers) (number_of 32 seconds)

abbrev pub is_help : Word → Bool
is_help word = bytes_eq word (codes "--help") || bytes_eq word (codes "-h")

-- the word is --journal, and none stands behind it
abbrev pub ends_in_journal : Word → List Word → Bool
ends_in_journal word words = bytes_eq word (codes "--journal") && (length words == 0)

-- what stands behind SECONDS CALLERS: [--journal]
abbrev pub choice_of_callers : Word → Word → List Word → Choice
choice_of_callers seconds callers [] = forever_of seconds callers Nothing
choice_of_callers seconds callers (word ∷ words) = cond (ends_in_journal word words) (forever_of seconds callers Journal) Unknown

-- what stands behind SECONDS: [CALLERS] [--journal]
abbrev pub choice_of_seconds : Word → List Word → Choice
choice_of_seconds seconds [] = forever_of seconds (codes "4") Nothing
choice_of_seconds seconds (word ∷ words) = cond (ends_in_journal word words) (forever_of seconds (codes "4") Journal) (choice_of_callers seconds word words)

-- what stands behind --forever: SECONDS [CALLERS] [--journal]
abbrev pub choice_of_time : List Word → Choice
choice_of_time [] = Unknown
choice_of_time (seconds ∷ words) = choice_of_seconds seconds words

-- what stands behind a first word that is not --forever: [CALLS]
abbrev pub choice_of_work : Word → List Word → Choice
choice_of_work word [] = cond (is_help word) Help (work_of word (codes "250"))
choice_of_work callers (calls ∷ words) = cond (length words == 0) (work_of callers calls) Unknown

-- all words behind the program's name
abbrev pub choice_of : List Word → Choice
choice_of [] = Work 4 250
choice_of (word ∷ words) = cond (bytes_eq word (codes "--forever")) (choice_of_time words) (choice_of_work word words)

-- an office can have so many callers
abbrev pub IsPossible : Choice → Type 0
IsPossible (Work callers calls) = callers ≤ 64
IsPossible (Forever callers seconds recorded) = callers ≤ most_callers recorded
IsPossible Help = ⊤
IsPossible Unknown = ⊤
