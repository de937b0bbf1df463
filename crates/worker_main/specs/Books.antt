-- What a worker took, what it has to show for it, and what it called (own).
use Rattle.std.specs.Prelude.{◌≡◌, ℕ, ◌+◌, ◌<◌, ◌≤◌, List, [], ◌∷◌, ◌++◌, length, map, slice_get, Some, ⊤}
use mathlib.Core.List.{IsPrefix}
use Rattle.market_types.specs.declared.reply.Entry.{Entry}
use Rattle.market_types.specs.declared.command.Cmd.{Cmd}
use Rattle.market_types.specs.declared.command.Cmd.TheVariants.{Join, Leave}
use Rattle.market_types.specs.declared.reply.Reply.TheVariants.{Placed, Left}
use Rattle.edit_history.specs.Chronicled.{entry}
use Rattle.edit_history.specs.Places.{LacksPlaces}
use Rattle.edit_history.specs.declared.fault.CallFault.TheVariants as fault
use Rattle.market_lock.specs.Views.{chronicle_cut}
use Rattle.market_lock.specs.Seen.{OfPass, IsSamePass}
use Rattle.job_queue.specs.declared.view.Fed.{Fed}
use Rattle.job_queue.specs.Seen.{OfTaker}
use Rattle.plan_jobs.specs.declared.task.Job.{Job}
use Rattle.plan_jobs.specs.declared.task.Done.{Done}
use Rattle.worker_main.specs.declared.station.Station.{Station}
use Rattle.worker_main.specs.declared.report.Ended.{Ended}
use Rattle.worker_main.specs.declared.report.Ended.TheVariants.{Idle, GateShut, NoStation, Call}
use Rattle.worker_main.specs.Turns.{stays_for, requests_for}

abbrev pub jobs_of : List (Fed Job) → List Job
jobs_of taken = map (λ (x : Fed Job). x.job) taken

-- the jobs that were run: an answer has its job's number and task
abbrev pub results : List Done → List Job
results done = map (λ (d : Done). record { number = d.number; task = d.task }) done

-- the job that was taken and not run
abbrev pub kept_back : Ended → List Job
kept_back (GateShut job) = job ∷ []
kept_back ended = []

-- what holds where it ended since no work was left, and where it was placed at an arena without a station
abbrev pub IfIdle : Ended → Type 0 → Type 0
IfIdle Idle P = P
IfIdle ended P = ⊤

abbrev pub IfNoStation : Ended → (ℕ → Type 0) → Type 0
IfNoStation (NoStation arena) P = P arena
IfNoStation ended P = ⊤

-- what holds where the gate stayed shut, and where the history was full
abbrev pub IfShut : Ended → (Job → Type 0) → Type 0
IfShut (GateShut job) P = P job
IfShut ended P = ⊤

abbrev pub IfFull : Ended → Type 0 → Type 0
IfFull (Call fault.HistoryFull) P = P
IfFull ended P = ⊤

-- a gate refused the job of this number at each of so many questions, from the first on
abbrev pub HasRefused : (ℕ → ℕ → Type 0) → ℕ → ℕ → Type 0
HasRefused refused number turns = (k : ℕ) → k < turns → refused number k

-- between the two, the history as the caller then saw it had too few free places for a call of its seat
abbrev pub HasLackedPlaces : OfPass → OfPass → Type 0
HasLackedPlaces p q =
    (m : OfPass) × (cmd : Cmd) × IsSamePass p m × IsPrefix p.seen m.seen × IsPrefix m.seen q.seen × LacksPlaces (chronicle_cut m.terms m.seen m.from) m.seat cmd

-- between the two, the caller's last two calls were a Join that placed it at this arena, and a Leave
abbrev pub WasPlacedAt : OfPass → OfPass → ℕ → Type 0
WasPlacedAt p q arena = (before : List Entry) × (q.mine ≡ p.mine ++ (before ++ entry p.seat Join (Placed arena) ∷ entry p.seat Leave (Left arena) ∷ []))

-- the same taker, after more pops
abbrev pub IsTakerAfter : OfTaker Job → OfTaker Job → Type 0
IsTakerAfter old new =
    (new.queue ≡ old.queue) × (new.number ≡ old.number) × IsPrefix old.taken new.taken × (old.empties ≤ new.empties)

-- for each station the entries have as many Stays as its taker took jobs, and as many Requests as its pops that found none
abbrev pub IsBalanced : List Station → List (OfTaker Job) → List (OfTaker Job) → List Entry → Type 0
IsBalanced stations old new added =
    (k : ℕ) (s : Station) (p q : OfTaker Job) → slice_get stations k ≡ Some s → slice_get old k ≡ Some p → slice_get new k ≡ Some q
    → (length q.taken ≡ length p.taken + stays_for s.arena added) × (q.empties ≡ p.empties + requests_for s.arena added)

-- the caller's own entries are more by some of this kind, which tell what its takers took
abbrev pub HasAdded : (ℕ → List Entry → Type 0) → List Station → List (OfTaker Job) → List (OfTaker Job) → OfPass → OfPass → Type 0
HasAdded IsKind stations old new p q = (added : List Entry) × (q.mine ≡ p.mine ++ added) × IsKind p.seat added × IsBalanced stations old new added
