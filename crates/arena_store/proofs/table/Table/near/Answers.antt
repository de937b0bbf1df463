use Rattle.std.proofs.Common.{arith, ap, ◌∙◌}
use Rattle.std.specs.Option.{is_some}
use Rattle.std.proofs.lemmas.Bool.{false≢true}
use Rattle.arena_store.proofs.InPlace.{place-within, place-some}
use Rattle.arena_store.proofs.table.Table.near.Goals as goal

pub index-requires : goal.index-requires
index-requires c =
    let s = c.self.inside in
    let there = rw (← c.self.view_is) at c.requires in
    omega (arith, place-within c.self.invariant.0 c.args.place there, s.records.ok.0)

pub unreachable-requires : goal.unreachable-requires
unreachable-requires c =
    let there = rw (← c.self.view_is) at c.requires in
    let none = rw c.in-None.is at c.index.ensures in
    absurd (false≢true (ap is_some none ∙ place-some c.self.invariant.0 c.args.place there))
