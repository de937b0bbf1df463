-- Jobs on their way, and a queue at one moment (own).
use Rattle.std.specs.Prelude.{ℕ, ◌≡◌, ◌+◌, ◌<◌, ◌≤◌, ◌==◌, List, [], ◌∷◌, ◌++◌, map, All}
use Rattle.std.specs.List.{filter}
use Rattle.job_queue.specs.declared.view.Fed.{Fed}

module _ {J : Type 0} where
  -- a job with the number of its feeder, and its place among the jobs that this feeder stored
  abbrev pub fed : ℕ → ℕ → J → Fed J
  fed feeder place job = record { feeder = feeder; place = place; job = job }

  -- the jobs that a feeder stored from this place on, each with its place
  abbrev pub fed_from : ℕ → ℕ → List J → List (Fed J)
  fed_from feeder place [] = []
  fed_from feeder place (job ∷ jobs) = fed feeder place job ∷ fed_from feeder (place + 1) jobs

  -- those of one feeder, in their order
  abbrev pub own : ℕ → List (Fed J) → List (Fed J)
  own feeder xs = filter (λ (x : Fed J). x.feeder == feeder) xs

  -- what was popped, by whomever, in order
  abbrev pub given : List (ℕ × Fed J) → List (Fed J)
  given pops = map (λ (p : ℕ × Fed J). p.1) pops

  -- what one taker popped, in order
  abbrev pub by : ℕ → List (ℕ × Fed J) → List (Fed J)
  by taker pops = given (filter (λ (p : ℕ × Fed J). p.0 == taker) pops)

  -- the places rise one by one
  abbrev pub HavePlaces : ℕ → List (Fed J) → Type 0
  HavePlaces p [] = Unit {0}
  HavePlaces p (x ∷ xs) = (x.place ≡ p) × HavePlaces (p + 1) xs

-- a queue at one moment: the pops so far in their order, each with its taker's number, and the jobs that it holds, oldest first
pub record Moment (J : Type 0) : Type 0 where
  pub pops : List (ℕ × Fed J)
  pub held : List (Fed J)

-- all that was pushed up to then, in order: what comes out comes out in the order in which it went in
abbrev pub pushed : {J : Type 0} → Moment J → List (Fed J)
pushed m = given m.pops ++ m.held

-- a moment that a queue of so many feeders and takers can have: only its feeders have pushed, each its jobs at the places 0, 1, 2 and so
-- on, and only its takers have popped
pub record IsMomentOf {J : Type 0} (feeders takers : ℕ) (m : Moment J) : Type 0 where
  pub pushes : All (λ (x : Fed J). x.feeder < feeders) (pushed m)
  pub places : (n : ℕ) → HavePlaces 0 (own n (pushed m))
  pub pops : All (λ (p : ℕ × Fed J). (feeders ≤ p.0) × (p.0 < feeders + takers)) m.pops
