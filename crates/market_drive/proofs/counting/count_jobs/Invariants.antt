use Rattle.std.proofs.Common.{◌≡◌, ◌+◌, ◌<◌, ℕ, length, get_or, take}
use Rattle.market_drive.specs.Arenas.{count_of}
use Rattle.market_drive.proofs.counting.count_jobs.Given as goal

abbrev pub invariant-loop-job : goal.invariant-loop-job
invariant-loop-job l = (length l.counts ≡ 64) × ((k : ℕ) → k < 64 → get_or l.counts k 0 ≡ count_of (take l.job-index l.jobs) (k + 1))
