use Rattle.std.proofs.Common.{arith, sym, ap, ◌∙◌, ◌≡◌, Option, Some, None}
use Rattle.std.specs.Option.{unwrap_or}
use Rattle.market_types.specs.State.{Arena}
use Rattle.arena_store.specs.Held.{record_at, no_arena}
use Rattle.arena_store.proofs.InPlace.{hint-there, place-arena}
use Rattle.arena_store.proofs.table.Table.hinted.Goals as goal
use Rattle.arena_store.proofs.table.Table.hinted.Goals.{Then-get}

-- the arena that was read at the place
read : (c : Then-get) → record_at c.self.inside.records.items c.in_ok-hint.field-0.now ≡ Some c.in-Some-Some.kept
read c =
    let here = rw c.deref-2.ensures.value at (c.in-Some-Some.ensures.lookup.4 (omega arith) None) in
    sym here ∙ c.in-Some-Some.field-0-is

pub returns-in-Some-Some-clause-there : goal.returns-in-Some-Some-clause-there
returns-in-Some-Some-clause-there c =
    rw (← c.self.view_is) (hint-there c.self.invariant.0 c.in_ok-hint.field-0.now c.in-Some-Some.kept (read c))

pub returns-in-Some-Some-clause-found : goal.returns-in-Some-Some-clause-found
returns-in-Some-Some-clause-found c = λ d.
    let there = hint-there c.self.invariant.0 c.in_ok-hint.field-0.now c.in-Some-Some.kept (read c) in
    let here = place-arena c.self.invariant.0 c.in_ok-hint.field-0.now there d in
    let number : c.in-Some-Some.kept.number ≡ c.args.arena = cc in
    rw (← c.self.view_is) (ap (λ (a : Arena). a.number) (here ∙ ap (λ (r : Option Arena). unwrap_or r no_arena) (read c)) ∙ number)
