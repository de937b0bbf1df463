-- What the parts of a worker's loop tell each other. No public clause has these words.
use Rattle.std.specs.Prelude.{◌≡◌, ℕ, ◌+◌, List, [], ◌∷◌, ◌++◌, length, replicate, Option, Some, None, ⊤, IsPermutation}
use mathlib.Core.List.{IsPrefix}
use Rattle.market_types.specs.declared.reply.Reply.{Reply}
use Rattle.market_lock.specs.Seen.{OfPass, IsSamePass}
use Rattle.job_queue.specs.declared.view.Fed.{Fed}
use Rattle.job_queue.specs.Seen.{OfTaker, taken_one, missed_one, all_taken}
use Rattle.plan_jobs.specs.declared.task.Job.{Job}
use Rattle.worker_main.specs.declared.station.Station.{Station}
use Rattle.worker_main.specs.declared.report.Ended.{Ended}
use Rattle.worker_main.specs.declared.report.Ended.TheVariants.{Idle, NoStation, Call}
use Rattle.worker_main.specs.declared.turn.Looked.{Looked}
use Rattle.worker_main.specs.declared.turn.Looked.TheVariants.{Ran, Empty, Shut, NoRoom}
use Rattle.worker_main.specs.Turns.{Turn, TurnEnd, recalled, emptied, stayed, ending, rest_of}
use Rattle.worker_main.specs.Books.{jobs_of, kept_back}

-- the same pass, which has seen more of the history
abbrev pub HasGoneOn : OfPass → OfPass → Type 0
HasGoneOn p q = IsSamePass p q × IsPrefix p.seen q.seen

-- the job that is held though it was not run
abbrev pub still_held : Option Ended → List Job
still_held None = []
still_held (Some ended) = kept_back ended

-- it took a job that it held then
abbrev pub HasTaken : OfTaker Job → Job → OfTaker Job → Type 0
HasTaken p job q = (x : Fed Job) × (x.job ≡ job) × (q ≡ taken_one p x)

-- what came of looking for a job, with the jobs that were run before and after
abbrev pub HasLooked : OfTaker Job → List Job → Looked → OfTaker Job → List Job → Type 0
HasLooked p ran Ran q after = (job : Job) × HasTaken p job q × (after ≡ ran ++ job ∷ [])
HasLooked p ran Empty q after = (q ≡ missed_one p) × (after ≡ ran)
HasLooked p ran (Shut job) q after = HasTaken p job q × (after ≡ ran)
HasLooked p ran NoRoom q after = (q ≡ p) × (after ≡ ran)

-- what holds where the job was not let through
abbrev pub IfShutOut : Looked → (Job → Type 0) → Type 0
IfShutOut (Shut job) P = P job
IfShutOut looked P = ⊤

-- the caller gave its station's request back, and left
abbrev pub HasGivenBack : Station → OfPass → OfPass → Type 0
HasGivenBack s p q = (reply : Reply) × (q.mine ≡ p.mine ++ ending p.seat s (emptied reply))

-- a taker after it took these jobs, and found none so many times
abbrev pub took : OfTaker Job → List (Fed Job) → ℕ → OfTaker Job
took p xs n = record { queue = p.queue; number = p.number; taken = p.taken ++ xs; empties = p.empties + n }

-- each job that was taken is one more that was held
abbrev pub HasPopped : OfTaker Job → List Job → OfTaker Job → List Job → Type 0
HasPopped p held q after = (xs : List (Fed Job)) × (n : ℕ) × (q ≡ took p xs n) × (after ≡ held ++ jobs_of xs)

-- the same of many takers
abbrev pub HasEarned : List (OfTaker Job) → List Job → List (OfTaker Job) → List Job → Type 0
HasEarned old held new after =
    (earned : List Job) × (after ≡ held ++ earned) × IsPermutation (jobs_of (all_taken new)) (jobs_of (all_taken old) ++ earned)

-- a caller that is placed at the station's arena took so many jobs there, and called a Stay after each
abbrev pub IsInside : Station → OfTaker Job → OfTaker Job → OfPass → OfPass → Type 0
IsInside s p q a b =
    (n : ℕ) × (length q.taken ≡ length p.taken + n) × (q.empties ≡ p.empties) × (b.mine ≡ a.mine ++ replicate n (stayed a.seat s))

-- how many jobs were taken in a turn, and how many pops found none
abbrev pub jobs_in : ℕ → TurnEnd → ℕ
jobs_in stays recalled = stays + 1
jobs_in stays (emptied reply) = stays

abbrev pub misses_in : TurnEnd → ℕ
misses_in recalled = 0
misses_in (emptied reply) = 1

-- a turn at the station, by a caller that was placed before
pub record HasTurned (s : Station) (p q : OfTaker Job) (a b : OfPass) : Type 0 where
  pub turn : Turn
  pub at : turn.station ≡ s
  pub mine_is : b.mine ≡ a.mine ++ rest_of a.seat turn
  pub jobs : length q.taken ≡ length p.taken + jobs_in turn.stays turn.end
  pub misses : q.empties ≡ p.empties + misses_in turn.end

-- the office did not answer
abbrev pub IsFault : Ended → Type 0
IsFault (Call fault) = ⊤
IsFault ended = ⊥

-- it is an end of a turn
abbrev pub IsBrokenOff : Ended → Type 0
IsBrokenOff Idle = ⊥
IsBrokenOff (NoStation arena) = ⊥
IsBrokenOff ended = ⊤
