-- What driving a plan reads and writes.
use Rattle.std.specs.Prelude.{◌≡◌, ℕ, ◌≤◌, List, length, Bool, Option, Result, Ok, Err}
use Rattle.std.specs.Io.KnownBytes.{Consumes, Appends}
use Rattle.byte_devices.specs.Devices.{WritesFront}
use Rattle.line_engine.specs.Input.{longest_input}
use Rattle.drive_plan.specs.Plans.{Planned}
use Rattle.market_drive.specs.Driving.{IsServable, IsDue}
use Rattle.market_drive.specs.declared.fault.DriveFault.TheVariants as drive
use Rattle.market_prog.specs.declared.drive.DriveEnd.{DriveEnd}
use Rattle.market_prog.specs.declared.drive.DriveEnd.TheVariants.{Finished, Refused}
use Rattle.market_prog.specs.declared.fault.RunFault.{RunFault}
use Rattle.market_prog.specs.declared.fault.RunFault.TheVariants.{Open, Read, TooLong, Write, Memory, HistoryFull}
use Rattle.market_prog.specs.DriveTexts.{outcome_lines, fault_line}
use Rattle.market_prog.specs.Run.{CauseOf}

-- a plan may end so, with this text: all of its jobs with their values, or a fault that is due
abbrev pub Ends : List ℕ → DriveEnd → List ℕ → Type 0
Ends plan Finished text = (p : Planned) × IsServable plan p × (text ≡ outcome_lines 1 p.jobs)
Ends plan (Refused fault) text = IsDue plan fault × (text ≡ fault_line fault)

-- The plan was read, and the text of this end of it was written.
pub record Drives (left left' taken taken' : Option (List ℕ)) (end : DriveEnd) : Type 0 where
  pub plan : List ℕ
  pub read : Consumes left left' plan
  pub within : length plan ≤ longest_input
  pub text : List ℕ
  pub ends : Ends plan end text
  pub wrote : Appends taken taken' text

-- Of the text of an end of the plan a prefix was written.
pub record WritesPart (plan : List ℕ) (taken taken' : Option (List ℕ)) : Type 0 where
  pub end : DriveEnd
  pub text : List ℕ
  pub ends : Ends plan end text
  pub wrote : WritesFront taken taken' text

-- This much of the plan was read; a text was begun only where a write failed.
pub record StopsDriving (left left' taken taken' : Option (List ℕ)) (source_failed sink_failed : Bool) (fault : RunFault) : Type 0 where
  pub plan : List ℕ
  pub read : Consumes left left' plan
  pub cause : CauseOf fault plan source_failed sink_failed
  pub wrote : fault ≡ Write → WritesPart plan taken taken'

-- the exit status of `market drive`: 0 where all jobs are done, 1 where the plan is refused, 2 where a market was not opened, 3
-- after any other fault and where memory ran out
abbrev pub drive_status : Result DriveEnd RunFault → ℕ
drive_status (Ok Finished) = 0
drive_status (Ok (Refused (drive.BadPlan line))) = 1
drive_status (Ok (Refused (drive.Unservable arena))) = 1
drive_status (Ok (Refused drive.Unfinished)) = 1
drive_status (Ok (Refused (drive.Doubled number))) = 1
drive_status (Ok (Refused (drive.Missing number))) = 1
drive_status (Ok (Refused drive.Memory)) = 3
drive_status (Err (Open fault)) = 2
drive_status (Err Read) = 3
drive_status (Err TooLong) = 3
drive_status (Err Write) = 3
drive_status (Err Memory) = 3
drive_status (Err HistoryFull) = 3
