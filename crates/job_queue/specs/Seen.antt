-- What contracts see of a queue and of its passes (own).
use Rattle.std.specs.Prelude.{◌≡◌, ℕ, ◌<◌, ◌+◌, List, [], ◌∷◌, ◌++◌, length, map, All}
use Rattle.std.specs.List.{flat_map, IsDistinct}
use Rattle.std.specs.Bool.{nat_eq}
use Rattle.std.specs.List.Sorted.{IsPermutation}
use Rattle.atomic_table.specs.Seated.{TableId}
use Rattle.job_queue.specs.declared.view.Fed.{Fed}
use Rattle.job_queue.specs.declared.view.Known.{Known}
use Rattle.job_queue.specs.Jobs.{fed_from, own, by, Moment, IsMomentOf, pushed}

-- which queue, and of how many feeders and takers
pub record QueueId : Type 0 where
  pub table : TableId
  pub feeders : ℕ
  pub takers : ℕ

pub record OfQueue : Type 0 where
  pub id : QueueId
  pub capacity : ℕ

-- a feeder: of which queue, its number, and the jobs that it stored, in order
pub record OfFeeder (J : Type 0) : Type 0 where
  pub queue : QueueId
  pub number : ℕ
  pub stored : List J

-- a taker: of which queue, its number, the jobs that it took, in order, and how many of its pops found none
pub record OfTaker (J : Type 0) : Type 0 where
  pub queue : QueueId
  pub number : ℕ
  pub taken : List (Fed J)
  pub empties : ℕ

abbrev pub queue_id : TableId → ℕ → ℕ → QueueId
queue_id table feeders takers = record { table = table; feeders = feeders; takers = takers }

abbrev pub queue_of : QueueId → ℕ → OfQueue
queue_of id capacity = record { id = id; capacity = capacity }

module _ {J : Type 0} where
  abbrev pub feeder_of : TableId → Known J → OfFeeder J
  feeder_of table k = record { queue = queue_id table k.feeders k.takers; number = k.number; stored = k.stored }

  abbrev pub taker_of : TableId → Known J → OfTaker J
  taker_of table k = record { queue = queue_id table k.feeders k.takers; number = k.number; taken = k.taken; empties = k.empties }

  -- passes that did nothing yet
  abbrev pub fresh_feeder : QueueId → ℕ → OfFeeder J
  fresh_feeder id number = record { queue = id; number = number; stored = [] }

  abbrev pub fresh_taker : QueueId → ℕ → OfTaker J
  fresh_taker id number = record { queue = id; number = number; taken = []; empties = 0 }

  -- the same pass, after a push that stored its job, a pop that took one, and a pop that found none
  abbrev pub stored_one : OfFeeder J → J → OfFeeder J
  stored_one f job = record { queue = f.queue; number = f.number; stored = f.stored ++ job ∷ [] }

  abbrev pub taken_one : OfTaker J → Fed J → OfTaker J
  taken_one t x = record { queue = t.queue; number = t.number; taken = t.taken ++ x ∷ []; empties = t.empties }

  abbrev pub missed_one : OfTaker J → OfTaker J
  missed_one t = record { queue = t.queue; number = t.number; taken = t.taken; empties = t.empties + 1 }

  -- at this moment: what the feeder stored is what was pushed of it, and what the taker took is what was popped by it
  abbrev pub HasStored : Moment J → OfFeeder J → Type 0
  HasStored m f = fed_from f.number 0 f.stored ≡ own f.number (pushed m)

  abbrev pub HasTaken : Moment J → OfTaker J → Type 0
  HasTaken m t = t.taken ≡ by t.number m.pops

  -- the queue was full at one moment that it can have, at which the feeder had stored what it has now
  abbrev pub WasFull : OfQueue → OfFeeder J → Type 0
  WasFull q f = (m : Moment J) × (length m.held ≡ q.capacity) × HasStored m f × IsMomentOf f.queue.feeders f.queue.takers m

  -- the queue was empty at one moment that it can have, at which the taker had taken what it has now
  abbrev pub WasEmpty : OfTaker J → Type 0
  WasEmpty t = (m : Moment J) × (m.held ≡ []) × HasTaken m t × IsMomentOf t.queue.feeders t.queue.takers m

  -- the taker took this job too, which its feeder stored after all those that the taker had of that feeder
  abbrev pub HasTakenNext : OfTaker J → J → OfTaker J → Type 0
  HasTakenNext old job new =
      (x : Fed J) × (x.job ≡ job) × (new ≡ taken_one old x)
      × All (λ (y : Fed J). y.feeder ≡ x.feeder → y.place < x.place) old.taken

  -- the jobs that all feeders stored, and those that all takers took, each with its feeder and its place
  abbrev pub all_stored : List (OfFeeder J) → List (Fed J)
  all_stored fs = flat_map (λ (f : OfFeeder J). fed_from f.number 0 f.stored) fs

  abbrev pub all_taken : List (OfTaker J) → List (Fed J)
  all_taken ts = flat_map (λ (t : OfTaker J). t.taken) ts

  -- all passes of this queue
  abbrev pub AreAllOf : QueueId → List (OfFeeder J) → List (OfTaker J) → Type 0
  AreAllOf id fs ts =
      (length fs ≡ id.feeders) × (length ts ≡ id.takers)
      × All (λ (f : OfFeeder J). f.queue ≡ id) fs × All (λ (t : OfTaker J). t.queue ≡ id) ts

  -- no two feeders have the same number, so that a number and a place name one stored job
  abbrev pub HaveOwnNumbers : List (OfFeeder J) → Type 0
  HaveOwnNumbers fs = IsDistinct nat_eq (map (λ (f : OfFeeder J). f.number) fs)

  -- the feeders and the takers meet at one moment, at which the queue holds these jobs: one order of all pushes is the order of all pops, and then of what is left
  abbrev pub Meet : List (OfFeeder J) → List (OfTaker J) → List (Fed J) → Type 0
  Meet fs ts left = (m : Moment J) × (m.held ≡ left) × All (HasStored m) fs × All (HasTaken m) ts

  -- each stored job was taken once, and nothing else was taken
  abbrev pub AllTaken : List (OfFeeder J) → List (OfTaker J) → Type 0
  AllTaken fs ts = IsPermutation (all_stored fs) (all_taken ts)

  -- each stored job was taken once or is left, and nothing else was taken or is left
  abbrev pub AllTakenBut : List (OfFeeder J) → List (OfTaker J) → List (Fed J) → Type 0
  AllTakenBut fs ts left = IsPermutation (all_stored fs) (all_taken ts ++ left)

  -- a stored job that was not taken, the first of those that the queue holds
  abbrev pub IsLeft : List (OfFeeder J) → List (OfTaker J) → J → Type 0
  IsLeft fs ts job = (x : Fed J) × (rest : List (Fed J)) × (x.job ≡ job) × AllTakenBut fs ts (x ∷ rest) × Meet fs ts (x ∷ rest)
