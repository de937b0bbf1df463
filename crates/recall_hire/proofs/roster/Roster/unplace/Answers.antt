use Rattle.std.proofs.Common.{◌≡◌, ◌%◌, ◌<◌, length, Some, ap, ◌∙◌, arith}
use Rattle.std.specs.Prelude.{slice_get}
use Rattle.recall_hire.proofs.Remainders.{fewer}
use Rattle.recall_hire.proofs.Seats.{read-seat}
use Rattle.recall_hire.proofs.roster.Roster.unplace.Goals as goal

pub shrink-requires-clause-counted : goal.shrink-requires-clause-counted
shrink-requires-clause-counted c = omega (arith, fewer c.in-Some.arena c.self.inside.seats.items, c.self.invariant.sizes c.in-Some.arena, c.self.invariant.slotted (c.in-Some.arena % 1024))

pub returns-in-Some-clause-was : goal.returns-in-Some-clause-was
returns-in-Some-clause-was c =
    let known : c.args.seat < length c.self.inside.seats.items = rw c.self.view_is c.requires.known in
    let was : slice_get c.self.inside.seats.items c.args.seat ≡ Some c.index-was.result.now = read-seat c.self.inside.seats.items c.from-index.result c.args.seat c.index-was.result.now (omega arith) known c.index-was.ensures in
    rw (← c.self.view_is) (was ∙ ap Some c.in-Some.is)

pub returns-in_default-clause-was : goal.returns-in_default-clause-was
returns-in_default-clause-was c =
    let known : c.args.seat < length c.self.inside.seats.items = rw c.self.view_is c.requires.known in
    rw (← c.self.view_is) (read-seat c.self.inside.seats.items c.from-index.result c.args.seat c.index-was.result.now (omega arith) known c.index-was.ensures)
