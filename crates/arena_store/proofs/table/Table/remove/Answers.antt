use Rattle.std.proofs.Common.{arith, sym, ap, ◌∙◌, ◌≡◌, Option, Some, None}
use Rattle.std.specs.Option.{is_some, unwrap_or}
use Rattle.std.proofs.lemmas.Bool.{false≢true}
use Rattle.std.proofs.lemmas.List.{length-set, get_or_default}
use Rattle.market_types.specs.State.{Arena}
use Rattle.arena_store.specs.Held.{record_at, no_arena}
use Rattle.arena_store.proofs.InPlace.{gone-within, gone-some, gone-arena, in_place-removed, view-removed}
use Rattle.arena_store.proofs.table.Table.remove.Goals as goal

pub index_mut-requires : goal.index_mut-requires
index_mut-requires c =
    let s = c.self.inside in
    let inside = rw (← c.self.view_is) at c.requires in
    omega (arith, gone-within c.self.invariant.0 c.args.index c.take_out-place.result inside c.take_out-place.ensures.value, s.records.ok.0)

pub unreachable-requires : goal.unreachable-requires
unreachable-requires c =
    let inside = rw (← c.self.view_is) at c.requires in
    let taken : c.index_mut.result.now ≡ None = sym c.replace-record.ensures.value ∙ c.in_default.is in
    let none = rw taken at c.index_mut.ensures.value in
    absurd (false≢true (ap is_some none ∙ gone-some c.self.invariant.0 c.args.index c.take_out-place.result inside c.take_out-place.ensures.value))

pub invariant_of-self : goal.invariant_of-self
invariant_of-self c =
    let s = c.self.inside in
    let inside = rw (← c.self.view_is) at c.requires in
    let size = length-set {A = Option Arena} s.records.items c.take_out-place.result None in
    let room = c.self.invariant.1 in
    rw (c.take_out-number.ensures.items, c.take_out-place.ensures.items, c.push_reserved.ensures.items, c.replace-record.ensures.after) (
      in_place-removed c.self.invariant.0 c.args.index c.take_out-place.result inside c.take_out-place.ensures.value,
      record {
        keys = omega (arith, size, room.keys, c.take_out-number.ensures.capacity);
        places = omega (arith, size, room.places, c.take_out-place.ensures.capacity);
        free = omega (arith, size, room.free, c.push_reserved.ensures.capacity);
      },
    )

pub returns-clause-value : goal.returns-clause-value
returns-clause-value c =
    let s = c.self.inside in
    let inside = rw (← c.self.view_is) at c.requires in
    let within = gone-within c.self.invariant.0 c.args.index c.take_out-place.result inside c.take_out-place.ensures.value in
    let here = gone-arena c.self.invariant.0 c.args.index c.take_out-place.result inside c.take_out-place.ensures.value c.in-Some.old in
    let taken : c.index_mut.result.now ≡ Some c.in-Some.old = sym c.replace-record.ensures.value ∙ c.in-Some.is in
    let some = rw taken at c.index_mut.ensures.value in
    let read : Some c.in-Some.old ≡ record_at s.records.items c.take_out-place.result = some ∙ get_or_default s.records.items c.take_out-place.result (Some c.in-Some.old) None within in
    rw (c.arena.ensures, ← c.self.view_is) (ap (λ (r : Option Arena). unwrap_or r no_arena) read ∙ sym here)

pub returns-clause-items : goal.returns-clause-items
returns-clause-items c =
    let inside = rw (← c.self.view_is) at c.requires in
    rw (c.take_out-place.ensures.items, c.replace-record.ensures.after, ← c.self.view_is)
    (view-removed c.self.invariant.0 c.args.index c.take_out-place.result inside c.take_out-place.ensures.value)
