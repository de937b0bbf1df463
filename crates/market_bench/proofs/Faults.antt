-- How a fault of a turn is told.
use Rattle.std.proofs.Common.{◌≡◌, refl}
use Rattle.market_bench.specs.Faults.{told_as}
use Rattle.market_bench.specs.declared.fault.TurnFault.{TurnFault}
use Rattle.market_bench.specs.declared.fault.TurnFault.TheVariants as turn
use Rattle.market_bench.specs.declared.fault.BenchFault.TheVariants as bench

-- only a refusal is told as one
pub told_refused : (fault : TurnFault) → told_as fault ≡ bench.Refused → fault ≡ turn.Refused
told_refused turn.Memory told = cc
told_refused turn.Refused told = refl
