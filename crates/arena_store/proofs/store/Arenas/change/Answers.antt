use Rattle.std.proofs.Common.{arith, sym, ap, ◌∙◌, ◌≡◌, ◌-◌, cond, ltb, set, List, Some, Err, refl}
use Rattle.std.proofs.lemmas.Result.{err_from_is_err_and}
use Rattle.market_types.specs.Rows.{set_row}
use Rattle.market_types.specs.State.{Claim, Arena}
use Rattle.market_types.specs.Step.{arena_at, with_claim}
use Rattle.market_types.specs.declared.row.Row.{Row}
use Rattle.wide_rows.specs.Leveled.{rows_at}
use Rattle.arena_store.specs.Changed.{changed}
use Rattle.arena_store.specs.Arenas.{level_row}
use Rattle.arena_store.specs.Held.{index_in}
use Rattle.arena_store.specs.Store.{by_stamp}
use Rattle.arena_store.proofs.Stored.{missing-by_stamp, found-by_stamp, row-here, level-here, counted-within, view-claimed, stored-claimed, list-visits, list-node, list-alone}
use Rattle.arena_store.proofs.store.Arenas.change.Goals as goal

pub returns-in_default-clause-fault : goal.returns-in_default-clause-fault
returns-in_default-clause-fault c =
    let missing = c.in_default.ensures.missing in
    rw (← c.self.view_is, missing-by_stamp c.args.arena c.self.inside.table.arenas missing) refl

pub returns-in_err-claim-clause-fault : goal.returns-in_err-claim-clause-fault
returns-in_err-claim-clause-fault c =
    let s = c.self.inside in
    let x = c.at-old.result in
    let there = c.in-Some.ensures.there in
    let found = c.in-Some.ensures.found in
    let here : arena_at c.args.arena (by_stamp s.table.arenas) ≡ Some x = found-by_stamp c.args.arena (index_in s.table.places c.in-Some.place) s.table.arenas x c.self.invariant.by_number there (rw c.in-Some.ensures.unchanged at c.at-old.ensures) found in
    let p = err_from_is_err_and c.from_residual.result c.from_residual.ensures.1 in
    let refused : changed c.args.change x.claim ≡ Err c.in_err-claim.field-0.0 = ap (changed c.args.change) (sym c.claim.ensures) ∙ sym c.made_to.ensures ∙ c.in_err-claim.was in
    rw (← c.self.view_is, here, p.1) (refused ∙ ap Err (sym p.2))

pub returns-clause-claim : goal.returns-clause-claim
returns-clause-claim c =
    let s = c.self.inside in
    let x = c.at-old.result in
    let there = c.in-Some.ensures.there in
    let found = c.in-Some.ensures.found in
    let here : arena_at c.args.arena (by_stamp s.table.arenas) ≡ Some x = found-by_stamp c.args.arena (index_in s.table.places c.in-Some.place) s.table.arenas x c.self.invariant.by_number there (rw c.in-Some.ensures.unchanged at c.at-old.ensures) found in
    rw (← c.self.view_is, here) (ap (changed c.args.change) (sym c.claim.ensures) ∙ sym c.made_to.ensures ∙ c.in_ok-claim.was)

pub update-requires-clause-there : goal.update-requires-clause-there
update-requires-clause-there c =
    let s = c.self.inside in
    let x = c.at-old.result in
    let there = c.in-Some.ensures.there in
    let level : c.index-level.result ≡ x.level - 1 = omega (arith, c.level.ensures) in
    let some = row-here s.table.arenas s.lists s.enqueued (index_in s.table.places c.in-Some.place) x c.self.invariant there (rw c.in-Some.ensures.unchanged at c.at-old.ensures) c.index-level.result level in
    rw c.row.ensures.exact some

pub invariant_of-self-2 : goal.invariant_of-self-2
invariant_of-self-2 c =
    let s = c.self.inside in
    let x = c.at-old.result in
    let i = (index_in s.table.places c.in-Some.place) in
    let there = c.in-Some.ensures.there in
    let index : c.index-level.result ≡ x.level - 1 = omega (arith, c.level.ensures) in
    let row = c.row-row.ensures.exact ∙ ap level_row c.with_claim-new.ensures in
    let written : Row → Row → List (List Row) =
    λ old new. set s.lists c.index-level.result (set_row old.stamp new.request new.mandated (rows_at c.index-level.result s.lists)) in
    let lists = c.update.ensures.rows ∙ ap (λ (old : Row). written old c.row-row.result) c.row.ensures.exact ∙ ap (written (level_row x)) row in
    let old : c.counted.result ≡ cond (ltb 0 x.claim.mandatory) 1 0 = c.counted.ensures ∙ ap (λ (q : Claim). cond (ltb 0 q.mandatory) 1 0) c.claim-2.ensures in
    let new : c.counted-2.result ≡ cond (ltb 0 c.in_ok-claim.claim.mandatory) 1 0 = c.counted-2.ensures in
    rw (c.set.ensures, c.in-Some.ensures.unchanged, c.with_claim-new.ensures, lists)
    (stored-claimed s.table.arenas s.lists s.enqueued i x c.self.invariant there (rw c.in-Some.ensures.unchanged at c.at-old.ensures) c.in_ok-claim.claim c.index-level.result _ index
    (omega (arith, counted-within s.table.arenas s.lists s.enqueued i x c.self.invariant there (rw c.in-Some.ensures.unchanged at c.at-old.ensures), old, new)))

pub returns-clause-next : goal.returns-clause-next
returns-clause-next c =
    let s = c.self.inside in
    let x = c.at-old.result in
    let i = (index_in s.table.places c.in-Some.place) in
    let there = c.in-Some.ensures.there in
    let found = c.in-Some.ensures.found in
    let number : x.number ≡ c.args.arena = ap (λ (a : Arena). a.number) (rw c.in-Some.ensures.unchanged at c.at-old.ensures) ∙ found x in
    rw (c.set.ensures, c.in-Some.ensures.unchanged, c.with_claim-new.ensures, ← c.self.view_is)
    (view-claimed s.table.arenas s.lists s.enqueued i x c.self.invariant there (rw c.in-Some.ensures.unchanged at c.at-old.ensures) c.in_ok-claim.claim ∙ ap (λ k. with_claim k c.in_ok-claim.claim (by_stamp s.table.arenas)) number)

pub returns-clause-visits : goal.returns-clause-visits
returns-clause-visits c =
    let s = c.self.inside in
    let x = c.at-old.result in
    let there = c.in-Some.ensures.there in
    let level : c.index-level.result ≡ x.level - 1 = omega (arith, c.level.ensures) in
    let within = level-here s.table.arenas s.lists s.enqueued (index_in s.table.places c.in-Some.place) x c.self.invariant there (rw c.in-Some.ensures.unchanged at c.at-old.ensures) in
    rw (← c.self.view_is) (list-visits s.table.arenas s.lists s.enqueued c.self.invariant x.level c.index-level.result within.0 within.1 level c.args.visits.now c.update.new.visits c.update.ensures.visits)

pub returns-clause-alone : goal.returns-clause-alone
returns-clause-alone c =
    let s = c.self.inside in
    let x = c.at-old.result in
    let there = c.in-Some.ensures.there in
    let found = c.in-Some.ensures.found in
    let at = (rw c.in-Some.ensures.unchanged at c.at-old.ensures) in
    let here : arena_at c.args.arena (by_stamp s.table.arenas) ≡ Some x = found-by_stamp c.args.arena (index_in s.table.places c.in-Some.place) s.table.arenas x c.self.invariant.by_number there at found in
    let level : c.index-level.result ≡ x.level - 1 = omega (arith, c.level.ensures) in
    let within = level-here s.table.arenas s.lists s.enqueued (index_in s.table.places c.in-Some.place) x c.self.invariant there at in
    rw (← c.self.view_is, here) (list-alone s.table.arenas s.lists s.enqueued c.self.invariant x.level c.index-level.result within.0 within.1 level c.args.visits.now c.update.new.visits c.update.ensures.alone)

pub returns-clause-least : goal.returns-clause-least
returns-clause-least c =
    let s = c.self.inside in
    let x = c.at-old.result in
    let there = c.in-Some.ensures.there in
    let found = c.in-Some.ensures.found in
    let at = (rw c.in-Some.ensures.unchanged at c.at-old.ensures) in
    let here : arena_at c.args.arena (by_stamp s.table.arenas) ≡ Some x = found-by_stamp c.args.arena (index_in s.table.places c.in-Some.place) s.table.arenas x c.self.invariant.by_number there at found in
    let level : c.index-level.result ≡ x.level - 1 = omega (arith, c.level.ensures) in
    let within = level-here s.table.arenas s.lists s.enqueued (index_in s.table.places c.in-Some.place) x c.self.invariant there at in
    rw (← c.self.view_is, here) (list-node s.table.arenas s.lists s.enqueued c.self.invariant x.level c.index-level.result within.0 within.1 level c.args.visits.now c.update.new.visits c.update.ensures.least)
