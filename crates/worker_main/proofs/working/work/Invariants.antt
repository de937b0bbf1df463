use Rattle.std.proofs.Common.{[], All}
use Rattle.plan_jobs.specs.declared.task.Done.{Done}
use Rattle.std.specs.List.{AllZip}
use Rattle.worker_main.specs.Turns.{AreWhole}
use Rattle.worker_main.specs.Books.{results, HasAdded, IsTakerAfter}
use Rattle.worker_main.specs.Steps.{HasGoneOn, HasEarned}
use Rattle.worker_main.proofs.working.work.Given as goal

abbrev pub invariant-loop : goal.invariant-loop
invariant-loop g l =
    HasGoneOn l.fn.pass l.pass
    × AllZip IsTakerAfter l.fn.takers.items l.takers.items
    × HasEarned l.fn.takers.items [] l.takers.items (results l.done.items)
    × HasAdded (AreWhole l.stations) l.stations l.fn.takers.items l.takers.items l.fn.pass l.pass
    × All (λ (d : Done). g.G.Gate.passed l.gate d.number × g.G.Gate.told l.gate d.number) l.done.items
