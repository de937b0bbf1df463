use Rattle.std.proofs.Common.{[], ◌∷◌, ◌++◌, ap, sym, subst, ◌∙◌, append-nil, arith}
use Rattle.market_types.specs.declared.command.Cmd.TheVariants.{Join}
use Rattle.market_types.specs.declared.reply.Reply.TheVariants.{Placed}
use Rattle.edit_history.specs.Chronicled.{entry}
use Rattle.worker_main.specs.Books.{results}
use Rattle.worker_main.specs.Steps.{HasEarned}
use Rattle.worker_main.specs.Stations.{IsTakerOf}
use Rattle.worker_main.proofs.Lists.{zip_read, zip_within, contains_at}
use Rattle.worker_main.proofs.Takers.{takers_self, takers_at, earned_at, earned_nothing}
use Rattle.worker_main.proofs.Calls.{goes_on, called, failed, goes_further, if_none_then, lacked, full_earlier, was_placed}
use Rattle.worker_main.proofs.Steps.{turned}
use Rattle.worker_main.proofs.working.visit.Goals as goal

pub returns-in-Idle-clause-takers : goal.returns-in-Idle-clause-takers
returns-in-Idle-clause-takers g c = takers_self c.args.takers.now.items

pub returns-in-Failed-clause-takers : goal.returns-in-Failed-clause-takers
returns-in-Failed-clause-takers g c = takers_self c.args.takers.now.items

pub returns-in_default-clause-takers : goal.returns-in_default-clause-takers
returns-in_default-clause-takers g c = takers_self c.args.takers.now.items

pub index_mut-requires : goal.index_mut-requires
index_mut-requires g c =
    let s = c.in-Some.ensures.found in
    let h = zip_within IsTakerOf c.args.stations.now c.args.takers.now.items c.in-Some.place c.in-Some.station.now c.requires.takers s.0 in
    omega (arith, h, c.args.takers.now.ok.0)

pub take_turn-requires-clause-arena : goal.take_turn-requires-clause-arena
take_turn-requires-clause-arena g c = sym (c.in-Some.ensures.found.1 ∙ c.arena-arena.ensures.exact)

pub take_turn-requires-clause-queue : goal.take_turn-requires-clause-queue
take_turn-requires-clause-queue g c =
    (zip_read IsTakerOf c.args.stations.now c.args.takers.now.items c.in-Some.place c.in-Some.station.now c.index_mut.result.now c.requires.takers c.in-Some.ensures.found.0 c.index_mut.ensures.value).1

pub returns-clause-takers : goal.returns-clause-takers
returns-clause-takers g c =
    let at = zip_read IsTakerOf c.args.stations.now c.args.takers.now.items c.in-Some.place c.in-Some.station.now c.index_mut.result.now c.requires.takers c.in-Some.ensures.found.0 c.index_mut.ensures.value in
    takers_at c.args.takers.now.items c.in-Some.place c.index_mut.result.now c.take_turn.new.taker _ _ at.0 c.take_turn.ensures.jobs

pub returns-clause-jobs : goal.returns-clause-jobs
returns-clause-jobs g c =
    let at = zip_read IsTakerOf c.args.stations.now c.args.takers.now.items c.in-Some.place c.in-Some.station.now c.index_mut.result.now c.requires.takers c.in-Some.ensures.found.0 c.index_mut.ensures.value in
    earned_at c.args.takers.now.items c.in-Some.place c.index_mut.result.now c.take_turn.new.taker _ _ at.0 c.take_turn.ensures.jobs

pub returns-clause-turn : goal.returns-clause-turn
returns-clause-turn g c =
    let s = c.in-Some.ensures.found in
    let j = c.in-Placed.ensures.exact in
    let arena = sym (s.1 ∙ c.arena-arena.ensures.exact) in
    let at = zip_read IsTakerOf c.args.stations.now c.args.takers.now.items c.in-Some.place c.in-Some.station.now c.index_mut.result.now c.requires.takers s.0 c.index_mut.ensures.value in
    if_none_then c.take_turn.result.1
    (turned c.args.stations.now c.args.takers.now.items c.in-Some.place c.in-Some.station.now c.index_mut.result.now c.take_turn.new.taker c.args.pass c.in-Placed.placed.who c.take_turn.result.0 c.requires.arenas
    (contains_at c.args.stations.now c.in-Some.place c.in-Some.station.now s.0) s.0 at.0 j.0.2 (j.2.3 ∙ ap (λ a. c.args.pass.mine ++ entry c.args.pass.seat Join (Placed a) ∷ []) arena)) c.take_turn.ensures.turn

pub returns-in-Idle-clause-same : goal.returns-in-Idle-clause-same
returns-in-Idle-clause-same g c = called _ _ _ _ c.in-Idle.ensures.exact

pub returns-in-Failed-clause-same : goal.returns-in-Failed-clause-same
returns-in-Failed-clause-same g c = failed _ _ _ _ c.in-Failed.ensures.exact

pub returns-in_default-clause-same : goal.returns-in_default-clause-same
returns-in_default-clause-same g c =
    goes_further c.args.pass c.in-Placed.placed.who c.leave.result (called _ _ _ _ c.in-Placed.ensures.exact) (called _ _ _ _ c.leave.ensures.exact)

pub returns-clause-same : goal.returns-clause-same
returns-clause-same g c =
    goes_further c.args.pass c.in-Placed.placed.who c.take_turn.result.0 (called _ _ _ _ c.in-Placed.ensures.exact) c.take_turn.ensures.same

pub returns-in-Idle-clause-jobs : goal.returns-in-Idle-clause-jobs
returns-in-Idle-clause-jobs g c =
    let ran = results c.args.done.now.items in
    subst (λ l. HasEarned c.args.takers.now.items ran c.args.takers.now.items l) (sym (append-nil ran)) (earned_nothing c.args.takers.now.items ran)

pub returns-in-Failed-clause-jobs : goal.returns-in-Failed-clause-jobs
returns-in-Failed-clause-jobs g c =
    let ran = results c.args.done.now.items in
    subst (λ l. HasEarned c.args.takers.now.items ran c.args.takers.now.items l) (sym (append-nil ran)) (earned_nothing c.args.takers.now.items ran)

pub returns-in_default-clause-jobs : goal.returns-in_default-clause-jobs
returns-in_default-clause-jobs g c =
    let ran = results c.args.done.now.items in
    subst (λ l. HasEarned c.args.takers.now.items ran c.args.takers.now.items l) (sym (append-nil ran)) (earned_nothing c.args.takers.now.items ran)

pub returns-in-Failed-clause-full : goal.returns-in-Failed-clause-full
returns-in-Failed-clause-full g c = lacked c.args.pass c.args.pass c.in-Failed.pass c.in-Failed.pass Join c.in-Failed.fault (goes_on c.args.pass) c.in-Failed.ensures.exact (goes_on c.in-Failed.pass)

pub returns-clause-full : goal.returns-clause-full
returns-clause-full g c =
    full_earlier c.args.pass c.in-Placed.placed.who c.take_turn.result.0 c.take_turn.result.1 (called _ _ _ _ c.in-Placed.ensures.exact) c.take_turn.ensures.full

pub returns-in_default-clause-placed : goal.returns-in_default-clause-placed
returns-in_default-clause-placed g c =
    let j = c.in-Placed.ensures.exact in
    was_placed c.args.pass c.in-Placed.placed.who c.leave.result _ c.in-Placed.placed.arena c.arena-arena.ensures.exact j.0.2 j.2.3 c.leave.ensures.exact.2.3
