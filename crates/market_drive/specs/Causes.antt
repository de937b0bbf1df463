-- How those who called at a plan's office ended (own).
use Rattle.std.specs.Prelude.{◌≡◌, ◌≢◌, ◌⊎◌, ℕ, ◌+◌, ◌<◌, List, [], ◌∷◌, ◌++◌, length, map, ⊤}
use Rattle.market_types.specs.declared.command.Cmd.{Cmd}
use Rattle.market_types.specs.declared.command.Cmd.TheVariants.{Join}
use Rattle.market_types.specs.declared.reply.Entry.{Entry}
use Rattle.market_types.specs.declared.reply.Reply.TheVariants.{Idle}
use Rattle.market_types.specs.History.{of_seat}
use Rattle.market_types.specs.State.{usual_last}
use Rattle.edit_history.specs.Chronicled.{entry}
use Rattle.edit_history.specs.declared.fault.CallFault.{CallFault}
use Rattle.edit_history.specs.declared.keeping.Keeping.TheVariants.{Everything}
use Rattle.edit_history.specs.declared.terms.Terms.{Terms}
use Rattle.market_lock.specs.Seen.{OfPass, IsSamePass, Met}
use Rattle.office_crew.specs.Works.{IsUnused}
use Rattle.drive_plan.specs.Plans.{Planned}
use Rattle.plan_jobs.specs.declared.task.Done.{Done}
use Rattle.worker_main.specs.declared.station.Station.{Station}
use Rattle.worker_main.specs.declared.report.Ended.{Ended}
use Rattle.worker_main.specs.declared.report.Ended.TheVariants.{Call}
use Rattle.worker_main.specs.Books.{IfIdle, IfFull, IfShut, IfNoStation, HasRefused, HasLackedPlaces, WasPlacedAt}
use Rattle.worker_main.specs.Stations.{IsWithout}
use Rattle.worker_main.specs.Turns.{AreTurnsOf}
use Rattle.market_drive.specs.Arenas.{AreNumbered}
use Rattle.market_drive.specs.Jobs.{HaveRequestsOf}

-- between the two a caller ended so: at Idle its last call was a Join that placed it nowhere, at a full history places were lacking, and at
-- NoStation its last Join placed it at that arena, which it left
abbrev pub HasEndedSo : OfPass → OfPass → Ended → Type 0
HasEndedSo p q ended =
    IfIdle ended ((before : List Entry) × (q.mine ≡ p.mine ++ (before ++ entry p.seat Join Idle ∷ [])))
    × IfFull ended (HasLackedPlaces p q)
    × IfNoStation ended (WasPlacedAt p q)

-- a worker at these stations, whose gate refuses so, can end so: at GateShut the gate refused the job at each of 1,000,000 questions,
-- and at NoStation none of the stations is the arena's
abbrev pub CanEndAt : List Station → (ℕ → ℕ → Type 0) → Ended → Type 0
CanEndAt stations refused ended = IfShut ended (λ job. HasRefused refused job.number 1000000) × IfNoStation ended (IsWithout stations)

-- the same of a worker of the plan: at NoStation the arena is none of the plan's
abbrev pub CanEndIn : Planned → (ℕ → ℕ → Type 0) → Ended → Type 0
CanEndIn p refused ended =
    IfShut ended (λ job. HasRefused refused job.number 1000000) × IfNoStation ended (λ arena. (k : ℕ) → k < length p.arenas → arena ≢ k + 1)

-- these are the calls, from the first on, of a worker of the plan that ended because no work was left: turns at the stations of the plan's
-- arenas, in which it gives back no request but what its arena was to ask for, and then a Join that placed it nowhere
abbrev pub AreTurnsIn : Planned → ℕ → List Entry → Type 0
AreTurnsIn p seat calls = (ss : List Station) × AreNumbered ss × HaveRequestsOf p.arenas ss × AreTurnsOf ss seat calls

-- the gate let the job of this answer through, and was told that it is done
abbrev pub WasLetThrough : (ℕ → Type 0) → (ℕ → Type 0) → Done → Type 0
WasLetThrough passed told d = passed d.number × told d.number

-- the terms of the plan's office, with a seat for who gives the plan's commands and one for each of so many workers
abbrev pub terms_of_plan : Planned → ℕ → Terms
terms_of_plan p workers = record { opening = record { base = p.base; hard = p.hard; seats = 1 + workers; levels = p.levels; last = usual_last }; places = 1048576; keeping = Everything }

-- the caller of this seat came with its new pass, and ended so; its calls are all that the office's history has of the seat, and `Turns` tells
-- of them where it ended because no work was left
abbrev pub HasEndedAt : (ℕ → List Entry → Type 0) → Terms → List Entry → ℕ → Ended → Type 0
HasEndedAt Turns terms history seat ended =
    (p : OfPass) × (q : OfPass) × IsUnused terms seat p × IsSamePass p q × Met history q × HasEndedSo p q ended × IfIdle ended (Turns seat (of_seat seat history))

-- so ended the worker of this seat, that of the next, and so on
abbrev pub AreEndsFrom : (Ended → Type 0) → (ℕ → List Entry → Type 0) → Terms → List Entry → ℕ → List Ended → Type 0
AreEndsFrom CanEnd Turns terms history seat [] = ⊤
AreEndsFrom CanEnd Turns terms history seat (e ∷ es) = (CanEnd e × HasEndedAt Turns terms history seat e) × AreEndsFrom CanEnd Turns terms history (seat + 1) es

-- who opens the market, at seat 0, was answered each of these commands, in order, and made no other call
abbrev pub IsOpenedBy : List Cmd → List Entry → Type 0
IsOpenedBy cmds history = map (λ (e : Entry). e.call.cmd) (of_seat 0 history) ≡ cmds

-- the ends of all workers, so many, at a market that these commands opened; or nobody has worked, since a command of who opens it was not
-- answered
abbrev pub AreEnds : (Ended → Type 0) → (ℕ → List Entry → Type 0) → Terms → List Cmd → List Entry → ℕ → List Ended → Type 0
AreEnds CanEnd Turns terms cmds history workers es =
    (AreEndsFrom CanEnd Turns terms history 1 es × (length es ≡ workers) × IsOpenedBy cmds history)
    ⊎ ((fault : CallFault) × (es ≡ Call fault ∷ []) × HasEndedAt Turns terms history 0 (Call fault))
