use Rattle.std.proofs.Common.{◌≡◌, ◌+◌, ◌%◌, ◌<◌, length, set, arith, eqb}
use Rattle.std.proofs.Math.ListN.{length-set}
use Rattle.std.specs.Prelude.{slice_get, is_some, Some, None}
use Rattle.std.specs.List.{count_by}
use Rattle.market_types.specs.Allotment.{is_just}
use Rattle.recall_hire.specs.Crowds.{one_if}
use Rattle.recall_hire.specs.Slots.{in_slot}
use Rattle.recall_hire.proofs.Remainders.{fewer}
use Rattle.recall_hire.proofs.Seats.{count-below, count-set}
use Rattle.recall_hire.proofs.roster.Roster.place.Goals as goal

pub grow-requires-clause-counted : goal.grow-requires-clause-counted
grow-requires-clause-counted c = omega (arith, fewer c.args.arena c.self.inside.seats.items, c.self.invariant.sizes c.args.arena, c.self.invariant.slotted (c.args.arena % 1024))

pub grow-requires-clause-room : goal.grow-requires-clause-room
grow-requires-clause-room c =
    let unplaced : slice_get c.self.inside.seats.items c.args.seat ≡ Some None = rw c.self.view_is c.requires.unplaced in
    let below : count_by is_some c.self.inside.seats.items < length c.self.inside.seats.items = count-below c.self.inside.seats.items c.args.seat unplaced in
    omega (arith, c.self.invariant.placed_is, c.self.invariant.total, c.self.invariant.room)

pub grow-requires-clause-few : goal.grow-requires-clause-few
grow-requires-clause-few c =
    let unplaced : slice_get c.self.inside.seats.items c.args.seat ≡ Some None = rw c.self.view_is c.requires.unplaced in
    let below : count_by is_some c.self.inside.seats.items < length c.self.inside.seats.items = count-below c.self.inside.seats.items c.args.seat unplaced in
    omega (arith, c.self.invariant.placed_is, c.self.invariant.total, c.self.invariant.few)

pub invariant_of-self : goal.invariant_of-self
invariant_of-self c =
    let seats = c.self.inside.seats.items in
    let k : c.from-index.result ≡ c.args.seat = omega arith in
    let unplaced : slice_get seats c.from-index.result ≡ Some None = rw (k, c.self.view_is) c.requires.unplaced in
    record {
      placed_is =
          let counts : count_by is_some (set seats c.from-index.result (Some c.args.arena)) + 0 ≡ count_by is_some seats + 1 = count-set is_some seats c.from-index.result None (Some c.args.arena) unplaced in
          omega (arith, c.self.invariant.placed_is);
      table = c.grow.ensures.kept;
      sizes = λ a.
          let counts : count_by (is_just a) (set seats c.from-index.result (Some c.args.arena)) + 0 ≡ count_by (is_just a) seats + one_if (eqb c.args.arena a) = count-set (is_just a) seats c.from-index.result None (Some c.args.arena) unplaced in
          omega (arith, c.grow.ensures.sizes a, c.self.invariant.sizes a);
      total = omega (arith, c.grow.ensures.total, c.self.invariant.total);
      room = omega (arith, length-set seats c.from-index.result (Some c.args.arena), c.grow.ensures.capacity, c.self.invariant.room);
      few = omega (arith, length-set seats c.from-index.result (Some c.args.arena), c.self.invariant.few);
      slotted = λ i.
          let counts : count_by (in_slot i) (set seats c.from-index.result (Some c.args.arena)) + 0 ≡ count_by (in_slot i) seats + one_if (eqb (c.args.arena % 1024) i) = count-set (in_slot i) seats c.from-index.result None (Some c.args.arena) unplaced in
          omega (arith, c.add.ensures.seats i, c.grow.ensures.slots i, c.self.invariant.slotted i);
    }
