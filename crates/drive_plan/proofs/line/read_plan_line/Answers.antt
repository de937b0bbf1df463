use Rattle.drive_plan.proofs.line.read_plan_line.Goals as goal

pub returns-then-eq-2-clause-fits : goal.returns-then-eq-2-clause-fits
returns-then-eq-2-clause-fits c = c.read_arena.ensures.fits c.args.arenas
