use Rattle.queue_crew.proofs.exchanging.exchange.Given as goal

abbrev pub ghosts-met : goal.ghosts-met
ghosts-met g a = record { id = a.queue.id }
