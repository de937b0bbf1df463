-- Which text is which plan (own).
use Rattle.std.specs.Prelude.{◌≡◌, ◌⊎◌, ℕ, ◌+◌, ◌==◌, ◌||◌, if◌then◌else◌, Bool, List, [], length, slice_index, Option, Some, None, Result, Ok, Err}
use Rattle.std.specs.List.{count_by}
use Rattle.line_engine.specs.Lines.{Line, is_lf, lines_of}
use Rattle.line_engine.specs.Rule.{LineRule, after}
use Rattle.line_engine.specs.declared.form.LineForm.{LineForm}
use Rattle.line_engine.specs.declared.form.LineForm.TheVariants.{Whole, WithoutLf, TooLong}
use Rattle.drive_plan.specs.declared.line.PlanLine.{PlanLine}
use Rattle.drive_plan.specs.declared.line.PlanLine.TheVariants.{Market, Arena, Control, Job}
use Rattle.drive_plan.specs.declared.reader.Progress.{Progress}
use Rattle.drive_plan.specs.declared.reader.Progress.TheVariants.{Unopened, Planned as PlannedSoFar, Bad}
use Rattle.drive_plan.specs.declared.reader.PlanFault.{PlanFault}
use Rattle.drive_plan.specs.declared.reader.PlanFault.TheVariants.{BadPlan, Memory}
use Rattle.drive_plan.specs.Plans.{Planned, after_market, with_line}
use Rattle.drive_plan.specs.Reading.{line_of}

-- the most bytes of a line that does not begin with #
abbrev pub longest_line : ℕ
longest_line = 256

-- a line of no bytes, and one whose first byte is # (35)
abbrev pub is_passed_over : List ℕ → Bool
is_passed_over line = (length line == 0) || (slice_index line 0 == 35)

-- ---- one line more, by its number

-- the first line tells the market
abbrev pub opened : ℕ → Option PlanLine → Progress
opened number (Some (Market base hard levels)) = PlannedSoFar (after_market base hard levels)
opened number (Some (Arena arena)) = Bad number
opened number (Some (Control value)) = Bad number
opened number (Some (Job job)) = Bad number
opened number None = Bad number

abbrev pub begun : List ℕ → ℕ → Progress
begun line number = opened number (line_of 3 0 line)

-- the plan of the lines so far, unless the line does not fit
abbrev pub planned_or_bad : ℕ → Option Planned → Progress
planned_or_bad number None = Bad number
planned_or_bad number (Some plan) = PlannedSoFar plan

abbrev pub joined : Planned → ℕ → Option PlanLine → Progress
joined plan number None = Bad number
joined plan number (Some line) = planned_or_bad number (with_line plan line)

abbrev pub gone_on : Planned → List ℕ → ℕ → Progress
gone_on plan line number = joined plan number (line_of plan.levels (length plan.arenas) line)

-- the first line that does not fit stays
abbrev pub after_text : Progress → List ℕ → ℕ → Progress
after_text Unopened line number = begun line number
after_text (PlannedSoFar plan) line number = gone_on plan line number
after_text (Bad first) line number = Bad first

abbrev pub stopped : Progress → ℕ → Progress
stopped Unopened number = Bad number
stopped (PlannedSoFar plan) number = Bad number
stopped (Bad first) number = Bad first

-- a line of more bytes than the longest does not fit
abbrev pub by_form : Progress → LineForm → List ℕ → ℕ → Progress
by_form progress Whole bytes number = after_text progress bytes number
by_form progress WithoutLf bytes number = after_text progress bytes number
by_form progress TooLong bytes number = stopped progress number

abbrev pub after_line : Progress → Line → ℕ → Progress
after_line progress line number =
    if is_passed_over line.bytes then progress else by_form progress line.form line.bytes number

-- ---- the whole text

-- how many lines were read, and what they come to
pub record Reached : Type 0 where
  pub lines : ℕ
  pub progress : Progress

-- the first line is line 1; lines are answered by nothing
abbrev pub plan_rule : LineRule Reached
plan_rule =
    record {
      reply = λ _ _. [];
      next = λ r line. record { lines = r.lines + 1; progress = after_line r.progress line (r.lines + 1) };
    }

-- the plan, or the first line that does not fit; `early` is the line that is told where the text ends too early: it has no
-- `market` line, or no arena
abbrev pub told : Progress → ℕ → Result Planned PlanFault
told Unopened early = Err (BadPlan early)
told (PlannedSoFar plan) early = if length plan.arenas == 0 then Err (BadPlan early) else Ok plan
told (Bad line) early = Err (BadPlan line)

-- the plan that a text is, or why it is none; where it ends too early, the line after the last that an LF ends is told
abbrev pub plan_of : List ℕ → Result Planned PlanFault
plan_of text =
    told (after plan_rule (record { lines = 0; progress = Unopened }) (lines_of longest_line text)).progress (count_by is_lf text + 1)

-- the answer is the one that is due, or out of memory
abbrev pub MemoryAside : Result Planned PlanFault → Result Planned PlanFault → Type 0
MemoryAside due answer = (answer ≡ due) ⊎ (answer ≡ Err Memory)
