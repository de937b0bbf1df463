use Rattle.std.proofs.Common.{◌%◌, ap, arith}
use Rattle.recall_hire.specs.Crowds.{size_at}
use Rattle.recall_hire.proofs.Remainders.{fewer}
use Rattle.recall_hire.proofs.roster.Roster.active.Goals as goal

pub size_of-requires-clause-counted : goal.size_of-requires-clause-counted
size_of-requires-clause-counted c =
    let here = ap (size_at c.args.arena) c.deref.ensures.value in
    omega (arith, here, fewer c.args.arena c.self.inside.seats.items, c.self.invariant.sizes c.args.arena, c.self.invariant.slotted (c.args.arena % 1024))
