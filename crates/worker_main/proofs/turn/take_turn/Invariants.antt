use Rattle.std.proofs.Common.{◌≡◌, All}
use Rattle.plan_jobs.specs.declared.task.Done.{Done}
use Rattle.worker_main.specs.Books.{results}
use Rattle.worker_main.specs.Steps.{HasGoneOn, HasPopped, IsInside}
use Rattle.worker_main.proofs.turn.take_turn.Given as goal

abbrev pub invariant-loop : goal.invariant-loop
invariant-loop g l =
    HasGoneOn l.fn.placed.who l.placed.who
    × (l.placed.arena ≡ l.fn.placed.arena)
    × HasPopped l.fn.taker (results l.fn.done.items) l.taker (results l.done.items)
    × IsInside l.station l.fn.taker l.taker l.fn.placed.who l.placed.who
    × (All (λ (d : Done). g.G.Gate.passed l.gate d.number × g.G.Gate.told l.gate d.number) l.fn.done.items → All (λ (d : Done). g.G.Gate.passed l.gate d.number × g.G.Gate.told l.gate d.number) l.done.items)
