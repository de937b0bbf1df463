use Rattle.std.proofs.Common.{◌≡◌, ◌+◌, ◌∙◌, ◌∷◌, [], ap, sym, arith, List, length, vec_len}
use Rattle.std.specs.List.{sum_by}
use Rattle.std.proofs.lemmas.List.{length-append}
use Rattle.std.proofs.lemmas.List.Elements.{All-append, All-push}
use Rattle.market_drive.specs.Racks.{IsFor, OfRack}
use Rattle.market_drive.specs.Reports.{OfReports, shown}
use Rattle.market_drive.proofs.Endings.{ends_more, ends_same}
use Rattle.market_drive.proofs.Sums.{racks_more, shown_more, shown_none, shown_so}
use Rattle.market_drive.proofs.shifts.relieve.Goals as goal

pub loop-worker-preserved : goal.loop-worker-preserved
loop-worker-preserved g c =
    let i = c.loop-worker.invariant in
    let all = i.0 in
    let one : vec_len c.pop.new.self + 1 ≡ vec_len c.loop-worker.left = c.in-Some.ensures.cases in
    let long : length c.with-racks.result ≡ length c.loop-worker.racks + 1 = ap (λ (l : List OfRack). length l) c.with-racks.ensures ∙ length-append c.loop-worker.racks (c.into_shift-rack.result.rack ∷ []) in (
      omega arith,
      i.1,
      rw c.with-racks.ensures (All-push (IsFor g.Y.Yard.queues) c.loop-worker.racks c.into_shift-rack.result.rack i.2 c.into_shift-rack.ensures.rack),
      i.3,
      λ whole. ends_same c.loop-worker.reports.ended c.loop-worker.left.items c.pop.new.self.items c.in-Some.worker c.in-Some.ensures.items (sym c.into_shift-rack.ensures.ended ∙ c.in_default-ended.is) ∙ i.4 whole,
      i.5,
      λ whole weigh.
          let more = racks_more weigh c.loop-worker.racks c.with-racks.result c.into_shift-rack.result.rack c.with-racks.ensures in
          let none = shown_none weigh c.into_shift-rack.result.rack.takers c.into_shift-rack.result.done.items c.into_shift-rack.result.ended c.in_default-ended.is c.into_shift-rack.ensures.shown in
          let before = i.6 whole weigh in
          omega arith,
    )

pub loop-worker-preserved-in-Some-ended : goal.loop-worker-preserved-in-Some-ended
loop-worker-preserved-in-Some-ended g c =
    let i = c.loop-worker.invariant in
    let all = i.0 in
    let one : vec_len c.pop.new.self + 1 ≡ vec_len c.loop-worker.left = c.in-Some.ensures.cases in
    let long : length c.with-racks.result ≡ length c.loop-worker.racks + 1 = ap (λ (l : List OfRack). length l) c.with-racks.ensures ∙ length-append c.loop-worker.racks (c.into_shift-rack.result.rack ∷ []) in (
      omega arith,
      i.1,
      rw c.with-racks.ensures (All-push (IsFor g.Y.Yard.queues) c.loop-worker.racks c.into_shift-rack.result.rack i.2 c.into_shift-rack.ensures.rack),
      λ whole. i.3 (c.add.ensures.kept whole).0,
      λ whole.
          let kept = c.add.ensures.kept whole in
          let told = ap (λ (r : OfReports). r.ended) kept.1 in
          ends_more c.loop-worker.reports.ended c.add.new.self.ended c.loop-worker.left.items c.pop.new.self.items c.in-Some.worker c.in-Some-ended.ended told c.in-Some.ensures.items (sym c.into_shift-rack.ensures.ended ∙ c.in-Some-ended.is)
          ∙ i.4 kept.0,
      λ whole was.
          let kept = c.add.ensures.kept whole in
          rw (ap (λ (r : OfReports). r.done) kept.1) (All-append g.Y.Yard.answers c.loop-worker.reports.done c.into_shift-rack.result.done.items (i.5 kept.0 was) c.into_shift-rack.ensures.answers),
      λ whole weigh.
          let kept = c.add.ensures.kept whole in
          let shift = c.into_shift-rack.result in
          let more = racks_more weigh c.loop-worker.racks c.with-racks.result shift.rack c.with-racks.ensures in
          let told = ap (λ (r : OfReports). sum_by weigh (shown r)) kept.1 ∙ shown_more weigh c.loop-worker.reports shift.done.items c.in-Some-ended.ended in
          let own = shown_so weigh shift.rack.takers shift.done.items shift.ended c.in-Some-ended.ended c.in-Some-ended.is c.into_shift-rack.ensures.shown in
          let before = i.6 kept.0 weigh in
          omega arith,
    )
