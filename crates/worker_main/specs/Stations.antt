-- Stations, whose they are, and who takes from them (own).
use Rattle.std.specs.Prelude.{◌≡◌, ◌≢◌, ℕ, List, slice_get, Some, All}
use Rattle.plan_jobs.specs.declared.task.Job.{Job}
use Rattle.job_queue.specs.Seen.{OfTaker}
use Rattle.worker_main.specs.declared.station.Station.{Station}

-- no station is the arena's
abbrev pub IsWithout : List Station → ℕ → Type 0
IsWithout stations arena = All (λ (s : Station). s.arena ≢ arena) stations

-- the station at this place is this one, and the arena's
abbrev pub IsStationAt : List Station → ℕ → ℕ → Station → Type 0
IsStationAt stations place arena s = (slice_get stations place ≡ Some s) × (s.arena ≡ arena)

-- two stations are not of the same arena
abbrev pub HaveOwnArenas : Station → Station → Type 0
HaveOwnArenas s t = s.arena ≢ t.arena

-- the taker takes from the station's queue
abbrev pub IsTakerOf : Station → OfTaker Job → Type 0
IsTakerOf s t = t.queue ≡ s.queue.id
