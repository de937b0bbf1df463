use Rattle.std.proofs.Common.{◌∙◌, ap, sym, subst, arith, List, length, All, Some}
use Rattle.std.specs.List.{sum_by}
use Rattle.std.proofs.lemmas.List.Elements.{All-pop}
use Rattle.job_queue.specs.Seen.{QueueId}
use Rattle.market_drive.specs.Racks.{AreAway, IsFor}
use Rattle.market_drive.specs.Lines.{queues_at}
use Rattle.market_drive.proofs.Queues.{paired_last, queues_last}
use Rattle.market_drive.proofs.Sums.{fed_more}
use Rattle.market_drive.proofs.lines.Lines.settle.Goals as goal

pub collect-left-requires-clause-last : goal.collect-left-requires-clause-last
collect-left-requires-clause-last g c =
    let i = c.loop-station.invariant in
    let q = queues_last c.loop-station.stations.items c.pop.new.self.items c.in-Some.station c.loop-station.ends.items c.pop-in-Some.new.self.items c.in-Some-pop.away c.in-Some.ensures.items c.in-Some-pop.ensures.items i.0 in
    (queues_at c.pop.new.self.items, subst (λ (qs : List QueueId). All (IsFor qs) c.loop-station.racks) q i.1)

pub collect-left-requires-clause-room : goal.collect-left-requires-clause-room
collect-left-requires-clause-room g c =
    let i = c.loop-station.invariant in
    let away = (All-pop (AreAway (length c.args.racks)) c.loop-station.ends.items c.pop-in-Some.new.self.items (Some c.in-Some-pop.away) c.in-Some-pop.ensures.items i.2).1 in
    let n = i.3 in
    let room = away.3 in
    (away.2, omega arith)

pub settle-requires-clause-all : goal.settle-requires-clause-all
settle-requires-clause-all g c =
    let i = c.loop-station.invariant in
    let away = (All-pop (AreAway (length c.args.racks)) c.loop-station.ends.items c.pop-in-Some.new.self.items (Some c.in-Some-pop.away) c.in-Some-pop.ensures.items i.2).1 in
    let here = c.collect-left.ensures.here in (
      ap (λ (x : QueueId). x.feeders) here.0 ∙ away.0,
      here.1 ∙ (i.3 ∙ (sym away.1 ∙ ap (λ (x : QueueId). x.takers) (sym here.0))),
    )

pub loop-station-preserved : goal.loop-station-preserved
loop-station-preserved g c =
    let i = c.loop-station.invariant in
    let all = c.loop-station.stations.items in
    let ss = c.pop.new.self.items in
    let ends = c.loop-station.ends.items in
    let es = c.pop-in-Some.new.self.items in
    let away = c.in-Some-pop.away in
    let q = queues_last all ss c.in-Some.station ends es away c.in-Some.ensures.items c.in-Some-pop.ensures.items i.0 in (
      (paired_last all ss c.in-Some.station ends es away c.in-Some.ensures.items c.in-Some-pop.ensures.items i.0).0,
      c.collect-left.ensures.others (queues_at ss) (subst (λ (qs : List QueueId). All (IsFor qs) c.loop-station.racks) q i.1),
      (All-pop (AreAway (length c.args.racks)) ends es (Some away) c.in-Some-pop.ensures.items i.2).0,
      c.collect-left.ensures.each ∙ i.3,
      λ weigh.
          let same = c.collect-left.ensures.same weigh in
          let once = c.settle.ensures.once weigh in
          let fed = fed_more weigh es ends away c.in-Some-pop.ensures.items in
          let stored = ap (sum_by weigh) c.collect-left.ensures.here.2 in
          let before = i.4 weigh in
          omega arith,
    )
