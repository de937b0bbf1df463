use Rattle.std.proofs.Common.{arith, sym, ap, ◌∙◌, ◌≡◌, Option, Some, None}
use Rattle.std.specs.Option.{is_some, unwrap_or}
use Rattle.std.proofs.lemmas.Bool.{false≢true}
use Rattle.std.proofs.lemmas.List.{get_or_default}
use Rattle.market_types.specs.State.{Arena}
use Rattle.arena_store.specs.Held.{record_at, no_arena}
use Rattle.arena_store.proofs.InPlace.{place-within, place-some, place-arena}
use Rattle.arena_store.proofs.table.Table.at.Goals as goal

pub index-requires : goal.index-requires
index-requires c =
    let s = c.self.inside in
    let there = rw (← c.self.view_is) at c.requires in
    omega (arith, place-within c.self.invariant.0 c.args.place there, s.records.ok.0)

pub unreachable-requires : goal.unreachable-requires
unreachable-requires c =
    let there = rw (← c.self.view_is) at c.requires in
    let none = rw c.in-None.is at c.index.ensures in
    absurd (false≢true (ap is_some none ∙ place-some c.self.invariant.0 c.args.place there))

pub returns : goal.returns
returns c =
    let s = c.self.inside in
    let there = rw (← c.self.view_is) at c.requires in
    let within = place-within c.self.invariant.0 c.args.place there in
    let some = rw c.in-Some.is at c.index.ensures in
    let read : Some c.in-Some.kept ≡ record_at s.records.items c.args.place = some ∙ get_or_default s.records.items c.args.place (Some c.in-Some.kept) None within in
    let here = place-arena c.self.invariant.0 c.args.place there c.in-Some.kept in
    rw (c.arena.ensures, ← c.self.view_is) (ap (λ (r : Option Arena). unwrap_or r no_arena) read ∙ sym here)
