use Rattle.std.proofs.Common.{[], ◌∷◌, ◌++◌, refl, ap, ◌∙◌, append-nil}
use Rattle.std.proofs.lemmas.Option.{IfSome_then}
use Rattle.worker_main.specs.Books.{results, HasRefused}
use Rattle.market_types.specs.declared.command.Cmd.TheVariants.{Stay}
use Rattle.worker_main.proofs.Takers.{popped_nothing, popped_one, popped_none}
use Rattle.worker_main.proofs.Calls.{goes_on, goes_further, called, failed, just_inside, stayed_on, was_recalled, was_emptied, if_none_then, fault_holds, fault_breaks, fault_passes, lacked, full_earlier}
use Rattle.worker_main.proofs.turn.take_turn.Goals as goal

pub loop-init : goal.loop-init
loop-init g c =
    (goes_on c.args.placed.who, refl, popped_nothing c.args.taker.now (results c.args.done.now.items), just_inside c.args.station.now c.args.taker.now c.args.placed.who, λ h. h)

pub loop-preserved : goal.loop-preserved
loop-preserved g c =
    let i = c.loop.invariant in
    let x = c.in-Ran.ensures.exact in
    let s = c.in-Stays.ensures.exact in (
      goes_further c.args.placed.who c.loop.placed.who c.in-Stays.stays.who i.0 (called _ _ _ _ s.1),
      s.0 ∙ i.1,
      popped_one c.args.taker.now c.loop.taker c.run_next.new.taker _ _ _ x.1.0 x.0 i.2 x.1.1 x.1.2 x.2,
      stayed_on c.args.station.now c.args.taker.now c.loop.taker c.run_next.new.taker c.args.placed.who c.loop.placed.who c.in-Stays.stays.who x.1.0 c.loop.placed.arena i.3 x.1.2 (i.1 ∙ c.requires.arena) i.0.0.2 s.1.2.3,
      λ h. c.run_next.ensures.gate (i.4 h),
    )

pub returns-in-Recalled-clause-same : goal.returns-in-Recalled-clause-same
returns-in-Recalled-clause-same g c =
    goes_further c.args.placed.who c.loop.placed.who c.in-Recalled.pass c.loop.invariant.0 (called _ _ _ _ c.in-Recalled.ensures.exact)

pub returns-in-Recalled-clause-jobs : goal.returns-in-Recalled-clause-jobs
returns-in-Recalled-clause-jobs g c =
    let x = c.in-Ran.ensures.exact in
    popped_one c.args.taker.now c.loop.taker c.run_next.new.taker _ _ _ x.1.0 x.0 c.loop.invariant.2 x.1.1 x.1.2 (append-nil (results c.run_next.new.done.items) ∙ x.2)

pub returns-in-Recalled-clause-turn : goal.returns-in-Recalled-clause-turn
returns-in-Recalled-clause-turn g c =
    let i = c.loop.invariant in
    let x = c.in-Ran.ensures.exact in
    was_recalled c.args.station.now c.args.taker.now c.loop.taker c.run_next.new.taker c.args.placed.who c.loop.placed.who c.in-Recalled.pass x.1.0 c.loop.placed.arena i.3 x.1.2 (i.1 ∙ c.requires.arena) i.0.0.2 c.in-Recalled.ensures.exact.2.3

pub returns-in-Failed-clause-jobs : goal.returns-in-Failed-clause-jobs
returns-in-Failed-clause-jobs g c =
    let x = c.in-Ran.ensures.exact in
    popped_one c.args.taker.now c.loop.taker c.run_next.new.taker _ _ _ x.1.0 x.0 c.loop.invariant.2 x.1.1 x.1.2 (append-nil (results c.run_next.new.done.items) ∙ x.2)

pub returns-in-Shut-clause-jobs : goal.returns-in-Shut-clause-jobs
returns-in-Shut-clause-jobs g c =
    let x = c.in-Shut.ensures.exact in
    popped_one c.args.taker.now c.loop.taker c.run_next.new.taker _ _ _ x.0.0 c.in-Shut.job c.loop.invariant.2 x.0.1 x.0.2 (ap (λ l. l ++ c.in-Shut.job ∷ []) x.1)

pub returns-in-Empty-clause-same : goal.returns-in-Empty-clause-same
returns-in-Empty-clause-same g c =
    goes_further c.args.placed.who c.loop.placed.who c.give_back.result.0 c.loop.invariant.0 c.give_back.ensures.same

pub returns-in-Empty-clause-jobs : goal.returns-in-Empty-clause-jobs
returns-in-Empty-clause-jobs g c =
    let x = c.in-Empty.ensures.exact in
    popped_none c.args.taker.now c.loop.taker c.run_next.new.taker _ _ _ c.loop.invariant.2 x.0
    (ap (λ l. results c.run_next.new.done.items ++ l) (fault_holds c.give_back.result.1 c.give_back.ensures.fault) ∙ (append-nil (results c.run_next.new.done.items) ∙ x.1))

pub returns-in-Empty-clause-turn : goal.returns-in-Empty-clause-turn
returns-in-Empty-clause-turn g c =
    let i = c.loop.invariant in
    let x = c.in-Empty.ensures.exact in
    if_none_then c.give_back.result.1
    (was_emptied c.args.station.now c.args.taker.now c.loop.taker c.run_next.new.taker c.args.placed.who c.loop.placed.who c.give_back.result.0 i.3 x.0 i.0.0.2) c.give_back.ensures.back

pub returns-in-Empty-clause-ended : goal.returns-in-Empty-clause-ended
returns-in-Empty-clause-ended g c = IfSome_then c.give_back.result.1 c.give_back.ensures.fault fault_breaks

pub returns-in-Shut-clause-same : goal.returns-in-Shut-clause-same
returns-in-Shut-clause-same g c =
    goes_further c.args.placed.who c.loop.placed.who c.leave.result c.loop.invariant.0 (called _ _ _ _ c.leave.ensures.exact)

pub returns-in-NoRoom-clause-same : goal.returns-in-NoRoom-clause-same
returns-in-NoRoom-clause-same g c =
    goes_further c.args.placed.who c.loop.placed.who c.leave-in-NoRoom.result c.loop.invariant.0 (called _ _ _ _ c.leave-in-NoRoom.ensures.exact)

pub returns-in-Failed-clause-same : goal.returns-in-Failed-clause-same
returns-in-Failed-clause-same g c =
    goes_further c.args.placed.who c.loop.placed.who c.leave-in-Failed.result c.loop.invariant.0
    (goes_further c.loop.placed.who c.in-Failed.worker.who c.leave-in-Failed.result (failed _ _ _ _ c.in-Failed.ensures.exact.1) (called _ _ _ _ c.leave-in-Failed.ensures.exact))

pub returns-in-Failed-clause-full : goal.returns-in-Failed-clause-full
returns-in-Failed-clause-full g c =
    lacked c.args.placed.who c.loop.placed.who c.in-Failed.worker.who c.leave-in-Failed.result Stay c.in-Failed.fault c.loop.invariant.0 c.in-Failed.ensures.exact.1 (called _ _ _ _ c.leave-in-Failed.ensures.exact)

pub returns-in-Empty-clause-full : goal.returns-in-Empty-clause-full
returns-in-Empty-clause-full g c = full_earlier c.args.placed.who c.loop.placed.who c.give_back.result.0 c.give_back.result.1 c.loop.invariant.0 c.give_back.ensures.full

pub returns-in-Empty-clause-shut : goal.returns-in-Empty-clause-shut
returns-in-Empty-clause-shut g c =
    IfSome_then c.give_back.result.1 c.give_back.ensures.fault (λ e. fault_passes e (λ job. HasRefused (g.G.Gate.refused c.args.gate.now) job.number c.args.turns))

pub returns-in-Failed-clause-gate : goal.returns-in-Failed-clause-gate
returns-in-Failed-clause-gate g c h = c.run_next.ensures.gate (c.loop.invariant.4 h)
