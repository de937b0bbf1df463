use Rattle.std.proofs.Common.{arith, Some}
use Rattle.std.proofs.lemmas.List.{length-set}
use Rattle.arena_store.proofs.InPlace.{place-within, in_place-changed, view-changed}
use Rattle.arena_store.proofs.table.Table.set.Goals as goal

pub index_mut-requires : goal.index_mut-requires
index_mut-requires c =
    let s = c.self.inside in
    let there = rw (← c.self.view_is) at c.requires.there in
    omega (arith, place-within c.self.invariant.0 c.args.place there, s.records.ok.0)

pub invariant_of-self : goal.invariant_of-self
invariant_of-self c =
    let s = c.self.inside in
    let there = rw (← c.self.view_is) at c.requires.there in
    let same = rw (← c.self.view_is) at c.requires.same in
    let size = length-set s.records.items c.args.place (Some c.args.arena) in
    let room = c.self.invariant.1 in (
      in_place-changed c.self.invariant.0 c.args.place there c.args.arena same,
      record { keys = omega (arith, size, room.keys); places = omega (arith, size, room.places); free = omega (arith, size, room.free) },
    )

pub returns : goal.returns
returns c =
    let there = rw (← c.self.view_is) at c.requires.there in
    rw (← c.self.view_is) (view-changed c.self.invariant.0 c.args.place there c.args.arena)
