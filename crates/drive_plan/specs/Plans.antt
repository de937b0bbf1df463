-- Plans, and which lines may follow one another in them (own).
use Rattle.std.specs.Prelude.{◌≤◌, ℕ, ◌==◌, nat_le, not, if◌then◌else◌, List, [], ◌∷◌, ◌++◌, length, Option, Some, None}
use Rattle.std.specs.List.{All}
use Rattle.plan_jobs.specs.declared.task.PlannedJob.{PlannedJob}
use Rattle.drive_plan.specs.declared.plan.PlannedArena.{PlannedArena}
use Rattle.drive_plan.specs.declared.line.PlanLine.{PlanLine}
use Rattle.drive_plan.specs.declared.line.PlanLine.TheVariants.{Market, Arena, Control, Job}

-- a plan: the market's base, hard limit and levels; its arenas and jobs, numbered from 1 in order, and its controls
pub record Planned : Type 0 where
  pub base : ℕ
  pub hard : ℕ
  pub levels : ℕ
  pub arenas : List PlannedArena
  pub controls : List ℕ
  pub jobs : List PlannedJob

-- after the `market` line
abbrev pub after_market : ℕ → ℕ → ℕ → Planned
after_market base hard levels =
    record { base = base; hard = hard; levels = levels; arenas = []; controls = []; jobs = [] }

-- an arena comes before all controls and jobs; there are at most 64
abbrev pub with_arena : Planned → PlannedArena → Option Planned
with_arena p arena =
    if not (length p.controls == 0) then None
    else if not (length p.jobs == 0) then None
    else if nat_le 64 (length p.arenas) then None
    else Some (record p { arenas = p.arenas ++ arena ∷ [] })

-- a control comes after an arena and before all jobs; there are at most 256
abbrev pub with_control : Planned → ℕ → Option Planned
with_control p value =
    if length p.arenas == 0 then None
    else if not (length p.jobs == 0) then None
    else if nat_le 256 (length p.controls) then None
    else Some (record p { controls = p.controls ++ value ∷ [] })

-- a job comes after its arena, as its line says; there are at most 65,536
abbrev pub with_job : Planned → PlannedJob → Option Planned
with_job p job =
    if nat_le 65536 (length p.jobs) then None
    else Some (record p { jobs = p.jobs ++ job ∷ [] })

-- the plan with one line more, where it may come next: there is one `market` line
abbrev pub with_line : Planned → PlanLine → Option Planned
with_line p (Market base hard levels) = None
with_line p (Arena arena) = with_arena p arena
with_line p (Control value) = with_control p value
with_line p (Job job) = with_job p job

-- ---- ranges

-- an arena's numbers are in their ranges, in a market of so many levels
abbrev pub FitsArena : ℕ → PlannedArena → Type 0
FitsArena levels a =
    (1 ≤ a.slots)
    × (a.slots ≤ 65535)
    × (a.reserved ≤ a.slots)
    × (a.level ≤ levels)
    × (a.wanted ≤ 65535)
    × (a.mandatory ≤ 65535)

abbrev pub FitsControl : ℕ → Type 0
FitsControl value = (1 ≤ value) × (value ≤ 65536)

-- the job's arena is one of so many
abbrev pub FitsJob : ℕ → PlannedJob → Type 0
FitsJob arenas job = (1 ≤ job.arena) × (job.arena ≤ arenas)

abbrev pub FitsMarket : ℕ → ℕ → ℕ → Type 0
FitsMarket base hard levels =
    (1 ≤ base) × (base ≤ 65536) × (1 ≤ hard) × (hard ≤ 65535) × (1 ≤ levels) × (levels ≤ 8)

-- a line's numbers are in their ranges, in a market of so many levels, after so many arenas (no public clause has this word, nor
-- the next, which every plan's type keeps)
abbrev pub FitsLine : ℕ → ℕ → PlanLine → Type 0
FitsLine levels arenas (Market base hard l) = FitsMarket base hard l
FitsLine levels arenas (Arena arena) = FitsArena levels arena
FitsLine levels arenas (Control value) = FitsControl value
FitsLine levels arenas (Job job) = FitsJob arenas job

-- all numbers of a plan are in their ranges
pub record IsPlan (p : Planned) : Type 0 where
  pub market : FitsMarket p.base p.hard p.levels
  pub few_arenas : length p.arenas ≤ 64
  pub arenas : All (FitsArena p.levels) p.arenas
  pub few_controls : length p.controls ≤ 256
  pub controls : All FitsControl p.controls
  pub few_jobs : length p.jobs ≤ 65536
  pub jobs : All (FitsJob (length p.arenas)) p.jobs
