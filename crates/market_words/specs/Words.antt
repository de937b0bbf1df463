-- What the words of the command line choose.
use Rattle.std.specs.Prelude.{◌≡◌, ℕ, ◌≤◌, ⊤, Bool, List, [], ◌∷◌, bytes_eq, false, true, length, take, Option, Some, None, Ok, Err, codes, pos}
use Rattle.std.specs.List.{range_with_len}
use Rattle.std.specs.Option.{option_map_or}
use Rattle.std.specs.Str.Parse.{ParsesUnsigned}
use Rattle.clap.specs.Words.{App, Row, Rule, Text, all_of, first_of, new_app, new_rule, with_rule, with_subcommand, subcommand_of}
use Rattle.clap.specs.declared.builder.ArgAction.TheVariants.{Append, Set, SetTrue}
use Rattle.clap.specs.declared.builder.value_parser.ValueParser.TheVariants.{Signed}
use Rattle.market_words.specs.declared.words.Choice.{Choice}
use Rattle.market_words.specs.declared.words.Choice.TheVariants.{Script, Replay, Drive, Chart}
use Rattle.market_words.specs.declared.words.ChartOptions.{ChartOptions}
use Rattle.market_words.specs.declared.words.ScriptTask.{ScriptTask}
use Rattle.market_words.specs.declared.words.ScriptTask.TheVariants.{Answer, Journal, Explain}
use Rattle.market_types.specs.declared.opening.Opening.{Opening}
use Rattle.market_words.specs.declared.words.ScriptOptions.{ScriptOptions}
use Rattle.market_words.specs.declared.words.ReplayOptions.{ReplayOptions}
use Rattle.market_words.specs.declared.words.DriveOptions.{DriveOptions}

-- the option `--name` with a number from 1 to high
abbrev pub number_rule : Text → Text → ℕ → Rule
number_rule name default high = record (new_rule name) {
  long = Some name;
  value_names = 1;
  action = Some Set;
  defaults = default ∷ [];
  parser = Some (Signed (pos 1) (pos high));
}

-- a subcommand that reads a script, with the market's options
abbrev pub script_app : Text → App
script_app name = with_rule (with_rule (with_rule (with_rule (with_rule (new_app name)
    (number_rule (codes "base") (codes "8") 65536))
    (number_rule (codes "hard") (codes "64") 65535))
    (number_rule (codes "seats") (codes "4") 64))
    (number_rule (codes "levels") (codes "3") 8))
    (number_rule (codes "last") (codes "1048576") 4294967294)

-- the option `--name` without a value
abbrev pub flag_rule : Text → Rule
flag_rule name = record (new_rule name) { long = Some name; action = Some SetTrue }

-- the option that asks for progress to be reported
abbrev pub progress_rule : Rule
progress_rule = flag_rule (codes "progress")

-- the subcommand `run`
abbrev pub run_app : App
run_app = with_rule (with_rule (script_app (codes "run")) (flag_rule (codes "journal"))) progress_rule

-- the subcommand `explain`
abbrev pub explain_app : App
explain_app = with_rule (script_app (codes "explain")) progress_rule

-- the subcommand `replay`
abbrev pub replay_app : App
replay_app = with_rule (new_app (codes "replay")) progress_rule

-- the subcommand `drive`
abbrev pub drive_app : App
drive_app = with_rule (with_rule (new_app (codes "drive")) (number_rule (codes "workers") (codes "4") 16)) progress_rule

-- the option that names an arena, and may come again
abbrev pub arena_rule : Rule
arena_rule = record (new_rule (codes "arena")) {
  long = Some (codes "arena");
  value_names = 1;
  action = Some Append;
  parser = Some (Signed (pos 1) (pos 4294967294));
}

-- the subcommand `chart`
abbrev pub chart_app : App
chart_app = with_rule (with_rule (with_rule (with_rule (with_rule (new_app (codes "chart"))
    (number_rule (codes "width") (codes "112") 1792))
    (number_rule (codes "from") (codes "1") 4294967295))
    (number_rule (codes "to") (codes "4294967295") 4294967295))
    arena_rule)
    progress_rule

-- a command that tells its version, and is nothing without a subcommand
abbrev pub with_choice_asked : App → App
with_choice_asked a =
    record a { top = record a.top { has_version = true; arg_required_else_help = true; subcommand_required = true } }

-- the program's command
abbrev pub market_app : App
market_app = with_subcommand (with_subcommand (with_subcommand (with_subcommand (with_subcommand (with_choice_asked (new_app (codes "market")))
    run_app.top)
    explain_app.top)
    replay_app.top)
    drive_app.top)
    chart_app.top

-- n, from 1 to high, is the number that the option's word spells in these matches
pub record IsNumberOf (name : Text) (high : ℕ) (rows : List Row) (n : ℕ) : Type 0 where
  pub word : Text
  pub found : first_of name rows ≡ Some word
  pub number : ParsesUnsigned {E = ℕ} 32 10 word (Ok n)
  pub least : 1 ≤ n
  pub most : n ≤ high

-- the market's options are those of these matches
pub record IsMarketOf (rows : List Row) (options : Opening) : Type 0 where
  pub base : IsNumberOf (codes "base") 65536 rows options.base
  pub hard : IsNumberOf (codes "hard") 65535 rows options.hard
  pub seats : IsNumberOf (codes "seats") 64 rows options.seats
  pub levels : IsNumberOf (codes "levels") 8 rows options.levels
  pub last : IsNumberOf (codes "last") 4294967294 rows options.last

-- the option `--name` without a value is among these matches
abbrev pub asks : Text → List Row → Bool
asks name rows = option_map_or (λ word. bytes_eq word (codes "true")) (first_of name rows) false

-- the task is that of the named subcommand with these matches
abbrev pub IsTaskOf : Text × List Row → ScriptTask → Type 0
IsTaskOf found Answer = (found.0 ≡ codes "run") × (asks (codes "journal") found.1 ≡ false)
IsTaskOf found Journal = (found.0 ≡ codes "run") × (asks (codes "journal") found.1 ≡ true)
IsTaskOf found Explain = found.0 ≡ codes "explain"

-- the options of a script are those of these matches
pub record IsScriptOf (rows : List Row) (options : ScriptOptions) : Type 0 where
  pub market : IsMarketOf rows options.market
  pub progress : options.progress ≡ asks (codes "progress") rows

-- the options of `replay` are those of these matches
abbrev pub IsReplayOf : List Row → ReplayOptions → Type 0
IsReplayOf rows options = options.progress ≡ asks (codes "progress") rows

-- the options of `drive` are those of these matches
pub record IsDriveOf (rows : List Row) (options : DriveOptions) : Type 0 where
  pub workers : IsNumberOf (codes "workers") 16 rows options.workers
  pub progress : options.progress ≡ asks (codes "progress") rows

-- what a word spells as a number, if it spells one
abbrev pub Spells : Text → Option ℕ → Type 0
Spells word (Some n) = ParsesUnsigned {E = ℕ} 32 10 word (Ok n)
Spells word None = ParsesUnsigned {E = ℕ} 32 10 word (Err 0)

-- so for each of some words
abbrev pub SpellEach : List Text → List (Option ℕ) → Type 0
SpellEach [] [] = ⊤
SpellEach (word ∷ words) (n ∷ ns) = Spells word n × SpellEach words ns
SpellEach _ _ = ⊥

-- the numbers among these
abbrev pub numbers_among : List (Option ℕ) → List ℕ
numbers_among [] = []
numbers_among (None ∷ ns) = numbers_among ns
numbers_among (Some n ∷ ns) = n ∷ numbers_among ns

-- the arenas are those that the words spell, in order
pub record AreSpelled (words : List Text) (arenas : List ℕ) : Type 0 where
  pub spelled : List (Option ℕ)
  pub each : SpellEach words spelled
  pub are : arenas ≡ numbers_among spelled

-- the arenas are the 16 that are opened first
abbrev pub AreFirstArenas : List ℕ → Type 0
AreFirstArenas arenas = arenas ≡ range_with_len 1 16

-- the arenas are the first 16 that are named; where none is named the 16 that are opened first
abbrev pub AreArenasOf : Option (List Text) → List ℕ → Type 0
AreArenasOf None arenas = AreFirstArenas arenas
AreArenasOf (Some words) arenas = AreSpelled (take 16 words) arenas

-- the options of `chart` are those of these matches
pub record IsDrawingOf (rows : List Row) (options : ChartOptions) : Type 0 where
  pub width : IsNumberOf (codes "width") 1792 rows options.width
  pub from : IsNumberOf (codes "from") 4294967295 rows options.from
  pub to : IsNumberOf (codes "to") 4294967295 rows options.to
  pub arenas : AreArenasOf (all_of (codes "arena") rows) options.arenas.items
  pub few : length options.arenas.items ≤ 16
  pub progress : options.progress ≡ asks (codes "progress") rows

-- the choice is the named subcommand with these matches
abbrev pub IsChoiceOf : Text × List Row → Choice → Type 0
IsChoiceOf found (Script task options) = IsTaskOf found task × IsScriptOf found.1 options
IsChoiceOf found (Replay options) = (found.0 ≡ codes "replay") × IsReplayOf found.1 options
IsChoiceOf found (Drive options) = (found.0 ≡ codes "drive") × IsDriveOf found.1 options
IsChoiceOf found (Chart options) = (found.0 ≡ codes "chart") × IsDrawingOf found.1 options

-- the choice is that of clap's subcommand for the words, with its matches
pub record Chooses (words : List Text) (choice : Choice) : Type 0 where
  pub subcommand : Text × List Row
  pub found : subcommand_of market_app words ≡ Some subcommand
  pub chosen : IsChoiceOf subcommand choice
