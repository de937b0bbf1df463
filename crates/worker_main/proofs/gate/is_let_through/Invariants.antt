use Rattle.worker_main.specs.Books.{HasRefused}
use Rattle.worker_main.proofs.gate.is_let_through.Given as goal

abbrev pub invariant-loop-asked : goal.invariant-loop-asked
invariant-loop-asked g l = HasRefused (g.G.Gate.refused l.gate) l.number l.asked
