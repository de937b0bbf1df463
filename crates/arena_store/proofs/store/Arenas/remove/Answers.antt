use Rattle.std.proofs.Common.{arith, sym, ap, ◌∙◌, ◌≡◌, ◌-◌, cond, ltb, Some, refl}
use Rattle.wide_rows.specs.Leveled.{without_at}
use Rattle.market_types.specs.State.{Claim, Arena}
use Rattle.market_types.specs.Step.{arena_at, without}
use Rattle.arena_store.specs.Store.{by_stamp}
use Rattle.arena_store.proofs.Stored.{removed-missing, missing-by_stamp, found-by_stamp, level-here, counted-within, view-removed, stored-removed, list-visits, list-least, list-alone}
use Rattle.arena_store.proofs.store.Arenas.remove.Goals as goal

pub returns-in_err-index-clause-exact : goal.returns-in_err-index-clause-exact
returns-in_err-index-clause-exact c =
    let missing = c.in_err-index.ensures.missing in
    rw (← c.self.view_is) (sym (removed-missing c.args.arena c.self.inside.table.arenas missing))

pub returns-in_err-index-clause-missing : goal.returns-in_err-index-clause-missing
returns-in_err-index-clause-missing c =
    let missing = c.in_err-index.ensures.missing in
    rw (c.from_residual.ensures, ← c.self.view_is) (missing-by_stamp c.args.arena c.self.inside.table.arenas missing)

pub returns-clause-there : goal.returns-clause-there
returns-clause-there c =
    let s = c.self.inside in
    let there = c.in_ok-index.ensures.there in
    let found = c.in_ok-index.ensures.found in
    let here : arena_at c.args.arena (by_stamp s.table.arenas) ≡ Some c.remove-old.result =
    found-by_stamp c.args.arena c.in_ok-index.index s.table.arenas c.remove-old.result c.self.invariant.by_number there c.remove-old.ensures.value found in
    rw (← c.self.view_is, here) refl

pub invariant_of-self : goal.invariant_of-self
invariant_of-self c =
    let s = c.self.inside in
    let x = c.remove-old.result in
    let i = c.in_ok-index.index in
    let there = c.in_ok-index.ensures.there in
    let index : c.index.result ≡ x.level - 1 = omega (arith, c.level.ensures) in
    let lists = c.take-taken.ensures.rows ∙ ap (λ k. without_at c.index.result k s.lists) c.stamp.ensures in
    let old : c.counted.result ≡ cond (ltb 0 x.claim.mandatory) 1 0 = c.counted.ensures ∙ ap (λ (q : Claim). cond (ltb 0 q.mandatory) 1 0) c.claim.ensures in
    rw (c.remove-old.ensures.items, lists)
    (stored-removed s.table.arenas s.lists s.enqueued i x c.self.invariant there c.remove-old.ensures.value c.index.result _ index
    (omega (arith, counted-within s.table.arenas s.lists s.enqueued i x c.self.invariant there c.remove-old.ensures.value, old)))

pub returns-clause-exact : goal.returns-clause-exact
returns-clause-exact c =
    let s = c.self.inside in
    let x = c.remove-old.result in
    let i = c.in_ok-index.index in
    let there = c.in_ok-index.ensures.there in
    let found = c.in_ok-index.ensures.found in
    let number : x.number ≡ c.args.arena = ap (λ (a : Arena). a.number) c.remove-old.ensures.value ∙ found x in
    rw (c.remove-old.ensures.items, ← c.self.view_is)
    (view-removed s.table.arenas s.lists s.enqueued i x c.self.invariant there c.remove-old.ensures.value ∙ ap (λ k. without k (by_stamp s.table.arenas)) number)

pub returns-clause-visits : goal.returns-clause-visits
returns-clause-visits c =
    let s = c.self.inside in
    let x = c.remove-old.result in
    let there = c.in_ok-index.ensures.there in
    let level : c.index.result ≡ x.level - 1 = omega (arith, c.level.ensures) in
    let within = level-here s.table.arenas s.lists s.enqueued c.in_ok-index.index x c.self.invariant there c.remove-old.ensures.value in
    rw (← c.self.view_is) (list-visits s.table.arenas s.lists s.enqueued c.self.invariant x.level c.index.result within.0 within.1 level c.args.visits.now c.take-taken.new.visits c.take-taken.ensures.visits)

pub returns-clause-least : goal.returns-clause-least
returns-clause-least c =
    let s = c.self.inside in
    let x = c.remove-old.result in
    let there = c.in_ok-index.ensures.there in
    let found = c.in_ok-index.ensures.found in
    let here : arena_at c.args.arena (by_stamp s.table.arenas) ≡ Some x = found-by_stamp c.args.arena c.in_ok-index.index s.table.arenas x c.self.invariant.by_number there c.remove-old.ensures.value found in
    let level : c.index.result ≡ x.level - 1 = omega (arith, c.level.ensures) in
    let within = level-here s.table.arenas s.lists s.enqueued c.in_ok-index.index x c.self.invariant there c.remove-old.ensures.value in
    rw (← c.self.view_is, here) (list-least s.table.arenas s.lists s.enqueued c.self.invariant x.level c.index.result within.0 within.1 level c.args.visits.now c.take-taken.new.visits c.take-taken.ensures.least)

pub returns-clause-alone : goal.returns-clause-alone
returns-clause-alone c =
    let s = c.self.inside in
    let x = c.remove-old.result in
    let there = c.in_ok-index.ensures.there in
    let found = c.in_ok-index.ensures.found in
    let here : arena_at c.args.arena (by_stamp s.table.arenas) ≡ Some x = found-by_stamp c.args.arena c.in_ok-index.index s.table.arenas x c.self.invariant.by_number there c.remove-old.ensures.value found in
    let level : c.index.result ≡ x.level - 1 = omega (arith, c.level.ensures) in
    let within = level-here s.table.arenas s.lists s.enqueued c.in_ok-index.index x c.self.invariant there c.remove-old.ensures.value in
    rw (← c.self.view_is, here) (list-alone s.table.arenas s.lists s.enqueued c.self.invariant x.level c.index.result within.0 within.1 level c.args.visits.now c.take-taken.new.visits c.take-taken.ensures.alone)
