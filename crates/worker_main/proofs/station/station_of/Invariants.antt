use Rattle.std.proofs.Common.{◌≢◌, All, take}
use Rattle.worker_main.specs.declared.station.Station.{Station}
use Rattle.worker_main.proofs.station.station_of.Given as goal

abbrev pub invariant-loop-place : goal.invariant-loop-place
invariant-loop-place l = All (λ (s : Station). s.arena ≢ l.arena) (take l.place l.stations)
