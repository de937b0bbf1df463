use Rattle.std.proofs.Common.{◌≡◌, ℕ, ◌+◌, ◌*◌, ◌/◌, ◌∙◌, length, get_or, sym, subst, arith}
use Rattle.std.proofs.lemmas.List.{get_or_past, length-set}
use Rattle.journal_chart.proofs.Pairs.{get-any}
use Rattle.journal_chart.proofs.Thinned.{IsHalved, halved-all, halved-more}
use Rattle.journal_chart.proofs.halving.halve.Goals.{then-pairs-things, else-pairs-things}
use Rattle.journal_chart.proofs.halving.halve.Goals as goal

pub loop-place-preserved : goal.loop-place-preserved
loop-place-preserved g c =
    let both = g.C.Joins.both in
    let none = g.C.Joins.nothing in
    let things = c.loop-place.things in
    let place = c.loop-place.place in
    let first = c.index-things-place.is ∙ get-any things (2 * place) c.index-things-place.result none (omega (arith, c.loop-place.invariant.same)) in
    let second = c.index-things-place-in-loop-place.is ∙ get-any things (2 * place + 1) c.index-things-place-in-loop-place.result none (omega (arith, c.loop-place.invariant.same)) in
    halved-more both none c.args.things.now things place c.both.result c.loop-place.invariant (omega (arith, c.loop-place.invariant.same))
    (c.both.ensures ∙ (λ i. both (first i) (second i)))

-- the last, where it has none beside it
pub loop-place-2-init : goal.loop-place-2-init
loop-place-2-init g c =
    let both = g.C.Joins.both in
    let none = g.C.Joins.nothing in
    let old = c.args.things.now in
    let pairs : ℕ = length old / 2 in
    let so_far : IsHalved both none old c.loop-place.things pairs =
    subst (IsHalved both none old c.loop-place.things) (omega (arith, c.loop-place.auto.place-end, c.loop-place-test.false)) c.loop-place.invariant in
    elim c.if-pairs-things.branch [
      | then-pairs-things w ↦
          let last = w.index-things-pairs.is ∙ get-any c.loop-place.things (2 * pairs) w.index-things-pairs.result none w.if-pairs-things.true in
          let past : get_or c.loop-place.things (2 * pairs + 1) none ≡ none = get_or_past c.loop-place.things (2 * pairs + 1) none (omega (arith, so_far.same)) in
          let made = halved-more both none old c.loop-place.things pairs w.both-then-pairs-things.result so_far (omega (arith, so_far.same, w.if-pairs-things.true))
          (w.both-then-pairs-things.ensures ∙ (λ i. both (last i) ((w.nothing.ensures ∙ sym past) i))) in (
            subst (IsHalved both none old c.if-pairs-things.things) (sym w.halves-is) (subst (λ things. IsHalved both none old things (pairs + 1)) (sym w.things-is) made),
            omega (arith, c.if-pairs-things.auto.things, so_far.same, w.halves-is),
          )
      | else-pairs-things w ↦ (
        subst (IsHalved both none old c.if-pairs-things.things) (sym w.halves-is) (subst (λ things. IsHalved both none old things pairs) (sym w.things-is) so_far),
        omega (arith, c.if-pairs-things.auto.things, w.if-pairs-things.false, w.halves-is),
      )
    ]

-- those behind say nothing
pub loop-place-2-preserved : goal.loop-place-2-preserved
loop-place-2-preserved g c =
    let both = g.C.Joins.both in
    let none = g.C.Joins.nothing in
    let things = c.loop-place-2.things in
    let place = c.loop-place-2.place in
    let last : _ = c.loop-place-2.invariant in
    let first : get_or things (2 * place) none ≡ none = get_or_past things (2 * place) none last.1 in
    let second : get_or things (2 * place + 1) none ≡ none = get_or_past things (2 * place + 1) none (omega (arith, last.1)) in (
      halved-more both none c.args.things.now things place c.both-in-loop-place-2.result last.0 (omega (arith, c.loop-place-2-test.true, c.loop-place-2.auto.things))
          (c.both-in-loop-place-2.ensures ∙ (λ i. both ((c.nothing-in-loop-place-2.ensures ∙ sym first) i) ((c.nothing-in-loop-place-2-2.ensures ∙ sym second) i))),
      omega (arith, last.1, length-set things place c.both-in-loop-place-2.result),
    )

pub returns : goal.returns
returns g c =
    let last : _ = c.loop-place-2.invariant in
    halved-all g.C.Joins.both g.C.Joins.nothing c.args.things.now c.loop-place-2.things c.loop-place-2.place last.0 (omega (arith, last.0.same, c.loop-place-2-test.false))
