use Rattle.std.proofs.Common.{arith, refl, sym, ap, ◌∙◌, ◌≡◌, ◌-◌, Some}
use Rattle.std.proofs.lemmas.Option.{none-some}
use Rattle.market_types.specs.Rows.{row_at}
use Rattle.market_types.specs.State.{Arena}
use Rattle.market_types.specs.Step.{arena_at}
use Rattle.wide_rows.specs.Leveled.{rows_at, with_first, without_at}
use Rattle.arena_store.specs.Arenas.{level_row}
use Rattle.arena_store.specs.Held.{index_in}
use Rattle.arena_store.specs.Store.{by_stamp}
use Rattle.arena_store.proofs.Stored.{missing-by_stamp, index-found, found-by_stamp, row-here, promoted-newest, promoted-visits, promoted-least, promoted-alone, stored-promoted, view-promoted}
use Rattle.arena_store.proofs.store.Arenas.promote.Goals as goal
use Rattle.arena_store.proofs.store.Arenas.promote.Goals.{After-index}

-- the arena's row is in the list of its level
row-there : (c : After-index) → row_at c.stamp.result (rows_at c.index-from.result c.self.inside.lists) ≡ Some (level_row c.at-old.result)
row-there c =
    let s = c.self.inside in
    let x = c.at-old.result in
    let e = (rw c.in_ok-place.ensures.unchanged at c.at-old.ensures) in
    let from : c.index-from.result ≡ x.level - 1 = omega (arith, c.level.ensures) in
    ap (λ k. row_at k (rows_at c.index-from.result s.lists)) c.stamp.ensures
    ∙ row-here s.table.arenas s.lists s.enqueued (index_in s.table.places c.in_ok-place.place) x c.self.invariant c.in_ok-place.ensures.there e c.index-from.result from

pub promote-requires-clause-there : goal.promote-requires-clause-there
promote-requires-clause-there c = rw (row-there (goal.at.promote-requires-clause-there c).After-index) refl

pub promote-requires-clause-newest : goal.promote-requires-clause-newest
promote-requires-clause-newest c =
    let s = c.self.inside in
    let x = c.at-old.result in
    let y : Arena = record x { stamp = c.args.stamp; level = c.args.level } in
    let i = (index_in s.table.places c.in_ok-place.place) in
    let within = c.in_ok-place.ensures.there in
    let older = rw (← c.self.view_is) at c.requires.newest in
    let e = (rw c.in_ok-place.ensures.unchanged at c.at-old.ensures) in
    let from : c.index-from.result ≡ x.level - 1 = omega (arith, c.level.ensures) in
    rw c.stamp.ensures
    (promoted-newest s.table.arenas s.lists s.enqueued i x c.self.invariant within e y older (omega arith, omega arith) c.index-from.result c.index.result from (omega (arith, c.index.ensures.exact)))

pub invariant_of-self-2 : goal.invariant_of-self-2
invariant_of-self-2 c =
    let s = c.self.inside in
    let x = c.at-old.result in
    let y : Arena = record x { stamp = c.args.stamp; level = c.args.level } in
    let i = (index_in s.table.places c.in_ok-place.place) in
    let within = c.in_ok-place.ensures.there in
    let older = rw (← c.self.view_is) at c.requires.newest in
    let e = (rw c.in_ok-place.ensures.unchanged at c.at-old.ensures) in
    let from : c.index-from.result ≡ x.level - 1 = omega (arith, c.level.ensures) in
    let moved = c.promote.ensures.promoted (level_row x) (row-there (goal.at.invariant_of-self-2 c).After-index)
    ∙ ap (λ k. with_first c.index.result (level_row y) (without_at c.index-from.result k s.lists)) c.stamp.ensures in
    rw (c.set.ensures, c.in_ok-place.ensures.unchanged, c.promoted.ensures, moved)
    (stored-promoted s.table.arenas s.lists s.enqueued i x c.self.invariant within e y older (omega arith, omega arith) c.index-from.result c.index.result from (omega (arith, c.index.ensures.exact)) refl refl)

pub returns-in_err-place-clause-exact : goal.returns-in_err-place-clause-exact
returns-in_err-place-clause-exact c =
    let missing = c.in_err-place.ensures.missing in
    λ row there. absurd (none-some row (sym (missing-by_stamp c.args.arena c.self.inside.table.arenas missing) ∙ ap (arena_at c.args.arena) c.self.view_is ∙ there))

pub returns-in_err-place-clause-missing : goal.returns-in_err-place-clause-missing
returns-in_err-place-clause-missing c =
    let missing = c.in_err-place.ensures.missing in
    rw (c.from_residual.ensures, ← c.self.view_is) (missing-by_stamp c.args.arena c.self.inside.table.arenas missing)

pub returns-clause-there : goal.returns-clause-there
returns-clause-there c =
    let s = c.self.inside in
    let within = c.in_ok-place.ensures.there in
    let found = c.in_ok-place.ensures.found in
    let here : arena_at c.args.arena (by_stamp s.table.arenas) ≡ Some c.at-old.result =
    found-by_stamp c.args.arena (index_in s.table.places c.in_ok-place.place) s.table.arenas c.at-old.result c.self.invariant.by_number within (rw c.in_ok-place.ensures.unchanged at c.at-old.ensures) found in
    rw (← c.self.view_is, here) refl

pub returns-clause-exact : goal.returns-clause-exact
returns-clause-exact c =
    let s = c.self.inside in
    let x = c.at-old.result in
    let y : Arena = record x { stamp = c.args.stamp; level = c.args.level } in
    let i = (index_in s.table.places c.in_ok-place.place) in
    let within = c.in_ok-place.ensures.there in
    let found = c.in_ok-place.ensures.found in
    let older = rw (← c.self.view_is) at c.requires.newest in
    let e = (rw c.in_ok-place.ensures.unchanged at c.at-old.ensures) in
    λ row there.
    let there' : arena_at c.args.arena (by_stamp s.table.arenas) ≡ Some row = rw (← c.self.view_is) at there in
    let same : x ≡ row = index-found c.args.arena i s.table.arenas row x c.self.invariant.by_number within e found there' in
    rw (c.set.ensures, c.in_ok-place.ensures.unchanged, c.promoted.ensures, ← c.self.view_is, ← same) (view-promoted s.table.arenas s.lists s.enqueued i x c.self.invariant within e y older)

pub returns-clause-visits : goal.returns-clause-visits
returns-clause-visits c =
    let s = c.self.inside in
    let x = c.at-old.result in
    let y : Arena = record x { stamp = c.args.stamp; level = c.args.level } in
    let i = (index_in s.table.places c.in_ok-place.place) in
    let within = c.in_ok-place.ensures.there in
    let older = rw (← c.self.view_is) at c.requires.newest in
    let e = (rw c.in_ok-place.ensures.unchanged at c.at-old.ensures) in
    let from : c.index-from.result ≡ x.level - 1 = omega (arith, c.level.ensures) in
    let visits = rw c.stamp.ensures at c.promote.ensures.visits in
    rw (← c.self.view_is)
    (promoted-visits s.table.arenas s.lists s.enqueued i x c.self.invariant within e y older (omega arith, omega arith) c.index-from.result c.index.result from (omega (arith, c.index.ensures.exact))
    c.args.visits.now c.promote.new.visits visits)

pub returns-clause-least : goal.returns-clause-least
returns-clause-least c =
    let s = c.self.inside in
    let x = c.at-old.result in
    let i = (index_in s.table.places c.in_ok-place.place) in
    let there = c.in_ok-place.ensures.there in
    let found = c.in_ok-place.ensures.found in
    let e = (rw c.in_ok-place.ensures.unchanged at c.at-old.ensures) in
    let here : arena_at c.args.arena (by_stamp s.table.arenas) ≡ Some x = found-by_stamp c.args.arena i s.table.arenas x c.self.invariant.by_number there e found in
    let from : c.index-from.result ≡ x.level - 1 = omega (arith, c.level.ensures) in
    let y : Arena = record x { stamp = c.args.stamp; level = c.args.level } in
    let older = rw (← c.self.view_is) at c.requires.newest in
    let number : x.number ≡ c.args.arena = ap (λ (a : Arena). a.number) e ∙ found x in
    let least = rw c.stamp.ensures at c.promote.ensures.least in
    rw (← c.self.view_is, here, ← number)
    (promoted-least s.table.arenas s.lists s.enqueued i x c.self.invariant there e y older (omega arith, omega arith) c.index-from.result c.index.result from (omega (arith, c.index.ensures.exact))
    c.args.visits.now c.promote.new.visits least)

pub returns-clause-alone : goal.returns-clause-alone
returns-clause-alone c =
    let s = c.self.inside in
    let x = c.at-old.result in
    let i = (index_in s.table.places c.in_ok-place.place) in
    let there = c.in_ok-place.ensures.there in
    let found = c.in_ok-place.ensures.found in
    let e = (rw c.in_ok-place.ensures.unchanged at c.at-old.ensures) in
    let here : arena_at c.args.arena (by_stamp s.table.arenas) ≡ Some x = found-by_stamp c.args.arena i s.table.arenas x c.self.invariant.by_number there e found in
    let from : c.index-from.result ≡ x.level - 1 = omega (arith, c.level.ensures) in
    let y : Arena = record x { stamp = c.args.stamp; level = c.args.level } in
    let older = rw (← c.self.view_is) at c.requires.newest in
    let number : x.number ≡ c.args.arena = ap (λ (a : Arena). a.number) e ∙ found x in
    let alone = rw c.stamp.ensures at c.promote.ensures.alone in
    rw (← c.self.view_is, here, ← number)
    (promoted-alone s.table.arenas s.lists s.enqueued i x c.self.invariant there e y older (omega arith, omega arith) c.index-from.result c.index.result from (omega (arith, c.index.ensures.exact))
    c.args.visits.now c.promote.new.visits alone)
