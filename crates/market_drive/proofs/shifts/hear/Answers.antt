use Rattle.std.proofs.Common.{◌∙◌, ap, append-nil, arith, []}
use Rattle.std.specs.List.{sum_by}
use Rattle.worker_main.specs.declared.report.Ended.TheVariants.{Call}
use Rattle.market_drive.specs.Reports.{OfReports, shown}
use Rattle.market_drive.proofs.Endings.{faults_more, faults_same}
use Rattle.market_drive.proofs.Sums.{shown_more}
use Rattle.market_drive.proofs.shifts.hear.Goals as goal

pub loop-opener-preserved : goal.loop-opener-preserved
loop-opener-preserved c =
    let i = c.loop-opener.invariant in (
      i.0,
      λ whole. faults_same c.loop-opener.reports.ended c.loop-opener.left.items c.pop.new.self.items c.in-Some.opener c.in-Some.ensures.items c.in_default-fault.is ∙ i.1 whole,
      i.2,
      i.3,
    )

pub loop-opener-preserved-in-Some-fault : goal.loop-opener-preserved-in-Some-fault
loop-opener-preserved-in-Some-fault c =
    let i = c.loop-opener.invariant in (
      λ whole. i.0 (c.add_fault.ensures.kept whole).0,
      λ whole.
          let kept = c.add_fault.ensures.kept whole in
          let told = ap (λ (r : OfReports). r.ended) kept.1 in
          faults_more c.loop-opener.reports.ended c.add_fault.new.self.ended c.loop-opener.left.items c.pop.new.self.items c.in-Some.opener c.in-Some-fault.fault told c.in-Some.ensures.items c.in-Some-fault.is ∙ i.1 kept.0,
      λ whole.
          let kept = c.add_fault.ensures.kept whole in
          ap (λ (r : OfReports). r.done) kept.1 ∙ (append-nil c.loop-opener.reports.done ∙ i.2 kept.0),
      λ whole weigh.
          let kept = c.add_fault.ensures.kept whole in
          let told = ap (λ (r : OfReports). sum_by weigh (shown r)) kept.1 ∙ shown_more weigh c.loop-opener.reports [] (Call c.in-Some-fault.fault) in
          let before = i.3 kept.0 weigh in
          omega arith,
    )
