use Rattle.std.proofs.Common.{◌≢◌, ◌≤◌, length, take, sym, arith}
use Rattle.std.proofs.lemmas.List.{take_all}
use Rattle.std.proofs.lemmas.List.Elements.{All-same}
use Rattle.worker_main.specs.declared.station.Station.{Station}
use Rattle.worker_main.proofs.station.station_of.Goals as goal

pub returns-clause-none : goal.returns-clause-none
returns-clause-none c =
    let le : length c.args.stations.now ≤ c.loop-place.place = omega arith in
    All-same (λ (s : Station). s.arena ≢ c.args.arena) c.args.stations.now (take c.loop-place.place c.args.stations.now) (sym (take_all c.loop-place.place c.args.stations.now le)) c.loop-place.invariant
