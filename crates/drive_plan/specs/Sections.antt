-- Which text is a plan, by its sections, and which of its lines is the first that does not fit (own).
use Rattle.std.specs.Prelude.{◌≡◌, ◌≢◌, ◌⊎◌, ℕ, ◌+◌, ◌≤◌, not, List, [], ◌∷◌, ◌++◌, length, Some, ⊤}
use Rattle.std.specs.List.{count_by, filter}
use Rattle.line_engine.specs.Lines.{Line, is_lf, lines_of}
use Rattle.line_engine.specs.declared.form.LineForm.TheVariants.{TooLong}
use Rattle.drive_plan.specs.declared.line.PlanLine.{PlanLine}
use Rattle.drive_plan.specs.declared.line.PlanLine.TheVariants.{Market, Arena, Control, Job}
use Rattle.drive_plan.specs.declared.plan.PlannedArena.{PlannedArena}
use Rattle.plan_jobs.specs.declared.task.PlannedJob.{PlannedJob}
use Rattle.drive_plan.specs.Format.{is_passed_over, longest_line}
use Rattle.drive_plan.specs.Plans.{Planned}
use Rattle.drive_plan.specs.Reading.{line_of}

-- the lines that are not passed over
abbrev pub said : List Line → List Line
said lines = filter (λ (line : Line). not (is_passed_over line.bytes)) lines

-- a line of at most 256 bytes says this, in a market of so many levels, after so many arenas
abbrev pub Says : ℕ → ℕ → Line → PlanLine → Type 0
Says levels arenas line this = (line.form ≢ TooLong) × (line_of levels arenas line.bytes ≡ Some this)

-- ---- the lines of a section say these, one each

-- arenas, the first of them after so many
abbrev pub SayArenas : ℕ → ℕ → List Line → List PlannedArena → Type 0
SayArenas levels before [] [] = ⊤
SayArenas levels before (line ∷ lines) (a ∷ arenas) = Says levels before line (Arena a) × SayArenas levels (before + 1) lines arenas
SayArenas levels before _ _ = ⊥

abbrev pub SayControls : ℕ → ℕ → List Line → List ℕ → Type 0
SayControls levels arenas [] [] = ⊤
SayControls levels arenas (line ∷ lines) (value ∷ values) = Says levels arenas line (Control value) × SayControls levels arenas lines values
SayControls levels arenas _ _ = ⊥

abbrev pub SayJobs : ℕ → ℕ → List Line → List PlannedJob → Type 0
SayJobs levels arenas [] [] = ⊤
SayJobs levels arenas (line ∷ lines) (job ∷ jobs) = Says levels arenas line (Job job) × SayJobs levels arenas lines jobs
SayJobs levels arenas _ _ = ⊥

-- the lines are the sections of this plan, in order: its market, its arenas, its controls, which come after an arena, and its jobs; none of them has too many lines
pub record AreSections (lines : List Line) (p : Planned) : Type 0 where
  pub market : Line
  pub arenas : List Line
  pub controls : List Line
  pub jobs : List Line
  pub are : lines ≡ market ∷ (arenas ++ (controls ++ jobs))
  pub market_says : Says 3 0 market (Market p.base p.hard p.levels)
  pub arenas_say : SayArenas p.levels 0 arenas p.arenas
  pub controls_say : SayControls p.levels (length p.arenas) controls p.controls
  pub jobs_say : SayJobs p.levels (length p.arenas) jobs p.jobs
  pub arena_first : p.arenas ≡ [] → p.controls ≡ []
  pub few : (length p.arenas ≤ 64) × (length p.controls ≤ 256) × (length p.jobs ≤ 65536)

-- the text is this plan: its lines are the plan's sections, and it has an arena
abbrev pub IsTextOf : List ℕ → Planned → Type 0
IsTextOf text p = AreSections (said (lines_of longest_line text)) p × (p.arenas ≢ [])

-- a plan may begin with these lines
abbrev pub MayBegin : List Line → Type 0
MayBegin lines = (said lines ≡ []) ⊎ ((p : Planned) × AreSections (said lines) p)

-- this line, the first being line 1, is the first that does not fit: a plan may begin with the lines before it, and not with it behind them
pub record IsMisfit (text : List ℕ) (number : ℕ) : Type 0 where
  pub before : List Line
  pub line : Line
  pub behind : List Line
  pub are : lines_of longest_line text ≡ before ++ line ∷ behind
  pub number_is : number ≡ length before + 1
  pub begins : MayBegin before
  pub ends : MayBegin (before ++ line ∷ []) → ⊥

-- a plan may begin with the whole text, which has no arena yet: the line after the last that an LF ends is told
pub record EndsEarly (text : List ℕ) (number : ℕ) : Type 0 where
  pub begins : MayBegin (lines_of longest_line text)
  pub no_arena : (p : Planned) → AreSections (said (lines_of longest_line text)) p → p.arenas ≡ []
  pub number_is : number ≡ count_by is_lf text + 1
