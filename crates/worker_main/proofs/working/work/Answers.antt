use Rattle.std.proofs.Common.{All, [], sym, subst, arith, IfNone, IfSome}
use Rattle.plan_jobs.specs.declared.task.Done.{Done}
use Rattle.worker_main.specs.Turns.{IsTurnOf, IsLastJoin}
use Rattle.worker_main.specs.Books.{results, HasAdded, HasLackedPlaces, HasRefused, IfFull, IfIdle, IfNoStation, IfShut, WasPlacedAt}
use Rattle.worker_main.specs.Steps.{HasEarned}
use Rattle.worker_main.proofs.Takers.{still_of, takers_self, takers_trans, earned_nothing, earned_trans, earned_whole, earned_with, earned_from_nothing}
use Rattle.worker_main.proofs.Calls.{goes_on, goes_further, full_earlier, if_idle_then, placed_later}
use Rattle.worker_main.proofs.Steps.{starts, more_turns, ends_idle}
use Rattle.worker_main.proofs.working.work.Goals as goal

pub loop-init : goal.loop-init
loop-init g c = (
  goes_on c.args.pass,
  takers_self c.args.takers.items,
  subst (λ l. HasEarned c.args.takers.items [] c.args.takers.items (results l)) (sym c.new-done.ensures.items) (earned_nothing c.args.takers.items []),
  starts c.args.stations.now c.args.takers.items c.args.pass,
  subst (All (λ (d : Done). g.G.Gate.passed c.args.gate.now d.number × g.G.Gate.told c.args.gate.now d.number)) (sym c.new-done.ensures.items) (λ i d lt. absurd (omega arith)),
)

pub visit-next-requires-clause-takers : goal.visit-next-requires-clause-takers
visit-next-requires-clause-takers g c = still_of c.args.stations.now c.args.takers.items c.loop.takers.items c.requires.takers c.loop.invariant.1

pub loop-preserved : goal.loop-preserved
loop-preserved g c =
    let i = c.loop.invariant in
    let v = c.visit-next.ensures in
    let old = c.args.takers.items in
    let mid = c.loop.takers.items in
    let new = c.visit-next.new.takers.items in
    let ran = results c.visit-next.new.done.items in
    let next = c.visit-next.result.0 in
    let one = subst (λ e. IfNone e (HasAdded (IsTurnOf c.args.stations.now) c.args.stations.now mid new c.loop.pass next)) c.in-None-ended.is v.turn in (
      goes_further c.args.pass c.loop.pass next i.0 v.same,
      takers_trans old mid new i.1 v.takers,
      earned_trans old mid new [] (results c.loop.done.items) ran i.2 (earned_whole mid new (results c.loop.done.items) ran c.visit-next.result.1 c.in-None-ended.is v.jobs),
      more_turns c.args.stations.now old mid new c.args.pass c.loop.pass next i.1 i.0.0.2 i.3 one,
      v.gate i.4,
    )

pub returns-in-Some-ended-clause-takers : goal.returns-in-Some-ended-clause-takers
returns-in-Some-ended-clause-takers g c =
    takers_trans c.args.takers.items c.loop.takers.items c.visit-next.new.takers.items c.loop.invariant.1 c.visit-next.ensures.takers

pub returns-in-Some-ended-clause-jobs : goal.returns-in-Some-ended-clause-jobs
returns-in-Some-ended-clause-jobs g c =
    let old = c.args.takers.items in
    let mid = c.loop.takers.items in
    let new = c.visit-next.new.takers.items in
    let ran = results c.visit-next.new.done.items in
    earned_from_nothing old new _
    (earned_trans old mid new [] (results c.loop.done.items) _ c.loop.invariant.2
    (earned_with mid new (results c.loop.done.items) ran c.visit-next.result.1 c.in-Some-ended.ended c.in-Some-ended.is c.visit-next.ensures.jobs))

pub returns-in-Some-ended-clause-turns : goal.returns-in-Some-ended-clause-turns
returns-in-Some-ended-clause-turns g c =
    let i = c.loop.invariant in
    let old = c.args.takers.items in
    let mid = c.loop.takers.items in
    let new = c.visit-next.new.takers.items in
    let next = c.visit-next.result.0 in
    let last = subst (λ o. IfSome o (λ e. IfIdle e (HasAdded IsLastJoin c.args.stations.now mid new c.loop.pass next))) c.in-Some-ended.is c.visit-next.ensures.idle in
    if_idle_then c.in-Some-ended.ended (ends_idle c.args.stations.now old mid new c.args.pass c.loop.pass next i.1 i.0.0.2 i.3) last

pub returns-in-Some-ended-clause-same : goal.returns-in-Some-ended-clause-same
returns-in-Some-ended-clause-same g c =
    (goes_further c.args.pass c.loop.pass c.visit-next.result.0 c.loop.invariant.0 c.visit-next.ensures.same).0

pub returns-in-Some-ended-clause-seen : goal.returns-in-Some-ended-clause-seen
returns-in-Some-ended-clause-seen g c =
    (goes_further c.args.pass c.loop.pass c.visit-next.result.0 c.loop.invariant.0 c.visit-next.ensures.same).1

pub returns-in-Some-ended-clause-full : goal.returns-in-Some-ended-clause-full
returns-in-Some-ended-clause-full g c =
    let next = c.visit-next.result.0 in
    subst (λ o. IfSome o (λ e. IfFull e (HasLackedPlaces c.args.pass next))) c.in-Some-ended.is (full_earlier c.args.pass c.loop.pass next c.visit-next.result.1 c.loop.invariant.0 c.visit-next.ensures.full)

pub returns-in-Some-ended-clause-gate : goal.returns-in-Some-ended-clause-gate
returns-in-Some-ended-clause-gate g c = c.visit-next.ensures.gate c.loop.invariant.4

pub returns-in-Some-ended-clause-shut : goal.returns-in-Some-ended-clause-shut
returns-in-Some-ended-clause-shut g c =
    subst (λ o. IfSome o (λ e. IfShut e (λ job. HasRefused (g.G.Gate.refused c.args.gate.now) job.number c.args.turns))) c.in-Some-ended.is c.visit-next.ensures.shut

pub returns-in-Some-ended-clause-placed : goal.returns-in-Some-ended-clause-placed
returns-in-Some-ended-clause-placed g c =
    let i = c.loop.invariant in
    let next = c.visit-next.result.0 in
    let here = subst (λ o. IfSome o (λ e. IfNoStation e (WasPlacedAt c.loop.pass next))) c.in-Some-ended.is c.visit-next.ensures.placed in
    placed_later c.args.pass c.loop.pass next i.3.0 c.in-Some-ended.ended i.0.0.2 i.3.1 here
