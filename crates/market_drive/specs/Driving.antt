-- What driving a plan answers (own).
use Rattle.std.specs.Prelude.{◌≡◌, ℕ, ◌+◌, ◌<◌, ◌≤◌, List, length, Option, Some, None, Ok, Err, ⊤}
use Rattle.market_types.specs.State.{opening_to, usual_last}
use Rattle.market_lock.specs.Headline.{IsGivenBy}
use Rattle.market_lock.specs.declared.office.Closed.{Closed}
use Rattle.drive_plan.specs.Plans.{Planned}
use Rattle.drive_plan.specs.Format.{plan_of}
use Rattle.plan_jobs.specs.Outcome.{IsOutcome}
use Rattle.plan_jobs.specs.declared.task.Done.{Done}
use Rattle.drive_plan.specs.declared.reader.PlanFault.TheVariants as plan
use Rattle.market_drive.specs.Servable.{IsUnservable, IsLeastUnservable}
use Rattle.worker_main.specs.declared.report.Ended.{Ended}
use Rattle.market_drive.specs.Causes.{AreEnds, AreTurnsIn, CanEndIn, IsOpenedBy, terms_of_plan}
use Rattle.market_drive.specs.Making.{commands_of}
use Rattle.market_drive.specs.Ending.{end_fault}
use Rattle.market_drive.specs.declared.fault.DriveFault.{DriveFault}
use Rattle.market_drive.specs.declared.fault.DriveFault.TheVariants.{BadPlan, Unservable, Unfinished, Doubled, Missing, Memory}

-- the text is this plan, and each of its arenas that has jobs would be allotted a worker if it alone asked for some
abbrev pub IsServable : List ℕ → Planned → Type 0
IsServable text p = (plan_of text ≡ Ok p) × ((a : ℕ) → IsUnservable p a → ⊥)

-- the answers are the outcome of the text's plan
abbrev pub IsDriven : List ℕ → List Done → Type 0
IsDriven text ds = (p : Planned) × IsServable text p × IsOutcome p.jobs ds

-- the office is that of the plan's market, with a seat for who gives the plan's commands and one for each of so many workers: its market,
-- with every reply, is what its history gives, which has as many calls as the callers made, and of which every entry can be read; it had
-- room for 1,048,576 entries
abbrev pub IsOfficeOf : Planned → ℕ → Closed → Type 0
IsOfficeOf p workers closed =
    IsGivenBy (opening_to p.base p.hard (1 + workers) p.levels usual_last) closed.chronicle
    × (closed.calls ≡ length closed.chronicle.log)
    × (closed.chronicle.from ≡ 0)
    × (closed.chronicle.places ≡ 1048576)

-- it is the office of the text's plan, whose commands opened its market
abbrev pub IsOfficeOfText : List ℕ → ℕ → Closed → Type 0
IsOfficeOfText text workers closed =
    (p : Planned) × (plan_of text ≡ Ok p) × IsOfficeOf p workers closed × IsOpenedBy (commands_of p) closed.chronicle.log

-- a fault of the text or of its plan is due; all others come only where none of these is. No answer is ever doubled, and a missing one is
-- that of a job of the plan
abbrev pub IsDue : List ℕ → DriveFault → Type 0
IsDue text (BadPlan line) = plan_of text ≡ Err (plan.BadPlan line)
IsDue text (Unservable a) = (p : Planned) × (plan_of text ≡ Ok p) × IsLeastUnservable p a
IsDue text Unfinished = (p : Planned) × IsServable text p
IsDue text (Doubled number) = ⊥
IsDue text (Missing number) = (p : Planned) × IsServable text p × (0 < number) × (number ≤ length p.jobs)
IsDue text Memory = ⊤

-- a fault to which a drive of the plan comes once its office was opened, or `Memory`: no answer is ever doubled
abbrev pub IsEnding : Planned → DriveFault → Type 0
IsEnding p (BadPlan line) = ⊥
IsEnding p (Unservable a) = ⊥
IsEnding p Unfinished = ⊤
IsEnding p (Doubled number) = ⊥
IsEnding p (Missing number) = (0 < number) × (number ≤ length p.jobs)
IsEnding p Memory = ⊤

-- how a drive of the plan by so many workers ended, at a gate that refuses so: the office of the plan's market, and the ends of all its
-- workers, or that its opening was not answered. They come to this
pub record HasEnded (refused : ℕ → ℕ → Type 0) (p : Planned) (workers : ℕ) (due : Option DriveFault) : Type 0 where
  pub closed : Closed
  pub office : IsOfficeOf p workers closed
  pub ended : List Ended
  pub ends : AreEnds (CanEndIn p refused) (AreTurnsIn p) (terms_of_plan p workers) (commands_of p) closed.chronicle.log workers ended
  pub due_is : end_fault ended ≡ due

-- what is said beside a fault: where it is unfinished, that a worker or the opening was broken off, and that none ended because memory
-- ran out; where an answer is missing, that all workers ended because no work was left
abbrev pub HasCause : (ℕ → ℕ → Type 0) → Planned → ℕ → DriveFault → Type 0
HasCause refused p workers Unfinished = HasEnded refused p workers (Some Unfinished)
HasCause refused p workers (Missing number) = HasEnded refused p workers None
HasCause refused p workers fault = ⊤

-- the same of the text's plan
abbrev pub HasCauseIn : (ℕ → ℕ → Type 0) → List ℕ → ℕ → DriveFault → Type 0
HasCauseIn refused text workers Unfinished = (p : Planned) × (plan_of text ≡ Ok p) × HasCause refused p workers Unfinished
HasCauseIn refused text workers (Missing number) = (p : Planned) × (plan_of text ≡ Ok p) × HasCause refused p workers (Missing number)
HasCauseIn refused text workers fault = ⊤

-- a fault of a text, or `Memory`
abbrev pub IsOfText : DriveFault → Type 0
IsOfText (BadPlan line) = ⊤
IsOfText Memory = ⊤
IsOfText fault = ⊥

-- a fault that comes only after the office was opened, or `Memory`
abbrev pub IsLate : DriveFault → Type 0
IsLate (BadPlan line) = ⊥
IsLate (Unservable a) = ⊥
IsLate fault = ⊤
