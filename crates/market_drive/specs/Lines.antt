-- The queues of a plan: the stations at which workers work, and the ends of their queues. No clause of a public call has these words (own).
use Rattle.std.specs.Prelude.{◌≡◌, ◌≤◌, List, length, map, AllPairs}
use Rattle.std.specs.List.{All}
use Rattle.job_queue.specs.Seen.{QueueId}
use Rattle.worker_main.specs.declared.station.Station.{Station}
use Rattle.worker_main.specs.Stations.{HaveOwnArenas}
use Rattle.market_drive.specs.Racks.{OfEnds}

pub record OfLines : Type 0 where
  pub stations : List Station
  pub ends : List OfEnds

-- the queues of the stations, and those of the ends
abbrev pub queues_at : List Station → List QueueId
queues_at ss = map (λ (s : Station). s.queue.id) ss

abbrev pub queues_ended : List OfEnds → List QueueId
queues_ended es = map (λ (e : OfEnds). e.queue) es

-- each station has its ends; they are numbered from 1 in order, and there are at most 64
pub record AreLines (ss : List Station) (es : List OfEnds) : Type 0 where
  pub paired : queues_ended es ≡ queues_at ss
  pub apart : AllPairs HaveOwnArenas ss
  pub below : All (λ (s : Station). s.arena ≤ length ss) ss
  pub few : length ss ≤ 64
