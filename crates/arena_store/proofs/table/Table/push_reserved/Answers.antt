use Rattle.std.proofs.Common.{arith, ◌≡◌, Some}
use Rattle.std.proofs.lemmas.List.{length-set}
use Rattle.arena_store.proofs.InPlace.{free-within, in_place-pushed, view-pushed}
use Rattle.arena_store.proofs.table.Table.push_reserved.Goals as goal

pub index_mut-requires : goal.index_mut-requires
index_mut-requires c =
    let s = c.self.inside in
    omega (arith, free-within c.self.invariant.0 c.pop.new.self.items c.in-Some.place c.in-Some.ensures.items, s.records.ok.0)

pub invariant_of-self : goal.invariant_of-self
invariant_of-self c =
    let s = c.self.inside in
    let number : c.get.result ≡ c.args.arena.number = cc in
    let size = length-set s.records.items c.in-Some.place (Some c.args.arena) in
    let room = c.self.invariant.1 in (
      rw (c.push_reserved.ensures.items, c.push_reserved-2.ensures.items, number)
          (in_place-pushed c.self.invariant.0 c.pop.new.self.items c.in-Some.place c.in-Some.ensures.items c.args.arena),
      record {
        keys = omega (arith, size, room.keys, c.push_reserved.ensures.capacity);
        places = omega (arith, size, room.places, c.push_reserved-2.ensures.capacity);
        free = omega (arith, size, room.free, c.in-Some.ensures.capacity);
      },
    )

pub returns : goal.returns
returns c =
    rw (c.push_reserved-2.ensures.items, ← c.self.view_is)
    (view-pushed c.self.invariant.0 c.pop.new.self.items c.in-Some.place c.in-Some.ensures.items c.args.arena)
