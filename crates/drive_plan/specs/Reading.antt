-- What the lines of a plan say (own). Fields are separated by exactly one space; numbers and levels are those of scripts.
use Rattle.std.specs.Prelude.{ℕ, ◌^◌, ◌&&◌, List, [], ◌∷◌, nat_le, if◌then◌else◌, Option, Some, None, option_map, option_and_then, codes}
use Rattle.std.specs.Str.{bytes_eq}
use Rattle.std.specs.List.{slice_split}
use Rattle.market_texts.specs.Reading.{is_space, level, number, number_below}
use Rattle.plan_jobs.specs.declared.task.Task.{Task}
use Rattle.plan_jobs.specs.declared.task.Task.TheVariants.{Sum, Digits}
use Rattle.drive_plan.specs.declared.line.PlanLine.{PlanLine}
use Rattle.drive_plan.specs.declared.line.PlanLine.TheVariants.{Market, Arena, Control, Job}

-- ---- fields

-- a number from `least` to `most`
abbrev pub within : ℕ → ℕ → ℕ → Option ℕ
within least most n = if nat_le least n && nat_le n most then Some n else None

abbrev pub number_in : ℕ → ℕ → List ℕ → Option ℕ
number_in least most field = option_and_then (within least most) (number field)

-- a number of 64 bits
unfoldable pub long_number : List ℕ → Option ℕ
long_number field = number_below (2 ^ 64) field

-- a level of a market that has so many
abbrev pub level_in : ℕ → List ℕ → Option ℕ
level_in levels field = option_and_then (within 1 levels) (level levels field)

-- the task of a kind and its argument
abbrev pub task_of : List ℕ → List ℕ → Option Task
task_of kind field =
    if bytes_eq kind (codes "sum") then option_map (λ n. Sum n) (number_in 0 1000000 field)
    else if bytes_eq kind (codes "digits") then option_map (λ n. Digits n) (long_number field)
    else None

-- ---- lines, field by field

-- a line after which no field follows
abbrev pub alone : PlanLine → List (List ℕ) → Option PlanLine
alone line [] = Some line
alone line (field ∷ more) = None

-- market, after base and hard limit: the levels, or 3 where the line ends
abbrev pub market_levels : ℕ → ℕ → List (List ℕ) → Option PlanLine
market_levels base hard [] = Some (Market base hard 3)
market_levels base hard (field ∷ more) = option_and_then (λ levels. alone (Market base hard levels) more) (number_in 1 8 field)

-- market, after the base: the hard limit
abbrev pub market_hard : ℕ → List (List ℕ) → Option PlanLine
market_hard base [] = None
market_hard base (field ∷ more) = option_and_then (λ hard. market_levels base hard more) (number_in 1 65535 field)

-- market: the base first
abbrev pub market_line : List (List ℕ) → Option PlanLine
market_line [] = None
market_line (field ∷ more) = option_and_then (λ base. market_hard base more) (number_in 1 65536 field)

-- arena, after slots, reserved slots, level and wanted: mandatory
abbrev pub arena_mandatory : ℕ → ℕ → ℕ → ℕ → List (List ℕ) → Option PlanLine
arena_mandatory slots reserved level wanted [] = None
arena_mandatory slots reserved level wanted (field ∷ more) =
    option_and_then (λ mandatory. alone (Arena (record { slots = slots; reserved = reserved; level = level; wanted = wanted; mandatory = mandatory })) more)
    (number_in 0 65535 field)

-- arena, after slots, reserved slots and level: wanted
abbrev pub arena_wanted : ℕ → ℕ → ℕ → List (List ℕ) → Option PlanLine
arena_wanted slots reserved level [] = None
arena_wanted slots reserved level (field ∷ more) =
    option_and_then (λ wanted. arena_mandatory slots reserved level wanted more) (number_in 0 65535 field)

-- arena, after slots and reserved slots: the level
abbrev pub arena_level : ℕ → ℕ → ℕ → List (List ℕ) → Option PlanLine
arena_level levels slots reserved [] = None
arena_level levels slots reserved (field ∷ more) =
    option_and_then (λ l. arena_wanted slots reserved l more) (level_in levels field)

-- arena, after slots: reserved slots, at most the slots
abbrev pub arena_reserved : ℕ → ℕ → List (List ℕ) → Option PlanLine
arena_reserved levels slots [] = None
arena_reserved levels slots (field ∷ more) =
    option_and_then (λ reserved. arena_level levels slots reserved more) (number_in 0 slots field)

-- arena: slots first
abbrev pub arena_line : ℕ → List (List ℕ) → Option PlanLine
arena_line levels [] = None
arena_line levels (field ∷ more) = option_and_then (λ slots. arena_reserved levels slots more) (number_in 1 65535 field)

-- control: its value
abbrev pub control_line : List (List ℕ) → Option PlanLine
control_line [] = None
control_line (field ∷ more) = option_and_then (λ value. alone (Control value) more) (number_in 1 65536 field)

-- job, after arena and kind: the argument
abbrev pub job_argument : ℕ → List ℕ → List (List ℕ) → Option PlanLine
job_argument arena kind [] = None
job_argument arena kind (field ∷ more) =
    option_and_then (λ (task : Task). alone (Job (record { arena = arena; task = task })) more) (task_of kind field)

-- job, after the arena: the kind
abbrev pub job_kind : ℕ → List (List ℕ) → Option PlanLine
job_kind arena [] = None
job_kind arena (kind ∷ more) = job_argument arena kind more

-- job: its arena first, one of those before it
abbrev pub job_line : ℕ → List (List ℕ) → Option PlanLine
job_line arenas [] = None
job_line arenas (field ∷ more) = option_and_then (λ arena. job_kind arena more) (number_in 1 arenas field)

-- a line by its word and the fields after it
abbrev pub by_word : ℕ → ℕ → List (List ℕ) → Option PlanLine
by_word levels arenas [] = None
by_word levels arenas (word ∷ more) =
    if bytes_eq word (codes "market") then market_line more
    else if bytes_eq word (codes "arena") then arena_line levels more
    else if bytes_eq word (codes "control") then control_line more
    else if bytes_eq word (codes "job") then job_line arenas more
    else None

-- what a line says in a market of so many levels, after so many arenas
unfoldable pub line_of : ℕ → ℕ → List ℕ → Option PlanLine
line_of levels arenas line = by_word levels arenas (slice_split is_space line)
