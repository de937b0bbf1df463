use Rattle.std.proofs.Common.{arith, ◌≡◌, ◌+◌, length}
use Rattle.arena_store.proofs.InPlace.{keys-size, in_place-grown, view-grown}
use Rattle.arena_store.proofs.table.Table.grow.Goals as goal

pub invariant_of-self-2 : goal.invariant_of-self-2
invariant_of-self-2 c =
    let s = c.self.inside in
    let full = rw (← c.self.view_is) at c.requires.full in
    let last : c.len.result ≡ length s.records.items = omega (arith, c.len.ensures, c.in_ok-reserve-4.ensures.len, s.records.ok.0) in
    let size : length c.push_reserved-2.new.self.items ≡ length s.records.items + 1 =
    omega (arith, c.push_reserved-2.new.self.ok.0, c.push_reserved-2.ensures.len, c.in_ok-reserve-4.ensures.len, s.records.ok.0) in (
      rw (c.in_ok-reserve.ensures.items, c.in_ok-reserve-2.ensures.items, c.push_reserved.ensures.items, c.in_ok-reserve-3.ensures.items, c.push_reserved-2.ensures.items, c.in_ok-reserve-4.ensures.items, last)
          (in_place-grown c.self.invariant.0),
      record {
        keys = omega (arith, size, full, c.self.invariant.0.sizes, keys-size c.self.invariant.0, c.in_ok-reserve.ensures.len, c.in_ok-reserve.ensures.ok, s.keys.ok.0);
        places = omega (arith, size, full, c.self.invariant.0.sizes, c.in_ok-reserve-2.ensures.len, c.in_ok-reserve-2.ensures.ok, s.places.ok.0);
        free = omega (arith, size, c.in_ok-reserve-3.ensures.ok, c.push_reserved.ensures.capacity, c.len-more.ensures, s.records.ok.0);
      },
    )

pub returns-clause-unchanged : goal.returns-clause-unchanged
returns-clause-unchanged c =
    rw (c.in_ok-reserve-2.ensures.items, c.push_reserved-2.ensures.items, c.in_ok-reserve-4.ensures.items, ← c.self.view_is)
    (view-grown c.self.invariant.0)
