use Rattle.market_drive.specs.Causes.{AreTurnsIn, CanEndIn, WasLetThrough}
use Rattle.market_drive.specs.Lines.{queues_at}
use Rattle.market_drive.proofs.driving.drive_plan_of.Given as goal

abbrev pub ghosts-work_shifts : goal.ghosts-work_shifts
ghosts-work_shifts g a = record { queues = queues_at a.stations.now; ends = CanEndIn a.plan.now (g.G.Gate.refused a.gate.now); turns = AreTurnsIn a.plan.now; answers = WasLetThrough (g.G.Gate.passed a.gate.now) (g.G.Gate.told a.gate.now) }
