use Rattle.std.proofs.Common.{◌≡◌, ◌∙◌, rules, to_z, of_z, w32, neg_ℤ, pos}
use Rattle.market_types.specs.declared.command.Cmd.TheVariants.{Request}
use Rattle.worker_main.proofs.Calls.{goes_on, called, failed, goes_further, gave_back, lacked}
use Rattle.worker_main.proofs.turn.give_back.Goals as goal

pub returns-clause-same : goal.returns-clause-same
returns-clause-same g c =
    goes_further c.args.placed.who c.call_placed.new.placed.who c.leave-2.result (called _ _ _ _ c.in_default.ensures.answered) (called _ _ _ _ c.leave-2.ensures.exact)

pub returns-clause-back : goal.returns-clause-back
returns-clause-back g c =
    gave_back c.args.station.now c.args.placed.who c.call_placed.new.placed.who c.leave-2.result _ c.in_default.field-0 c.call_placed.new.placed.arena
    (let e : to_z w32 (of_z w32 c.less_by.result) ≡ neg_ℤ (pos c.args.station.now.wanted) = search rules in
    let f : to_z w32 (of_z w32 c.less_by-2.result) ≡ neg_ℤ (pos c.args.station.now.mandatory) = search rules in
    λ i. Request c.args.station.now.arena (e i) (f i)) (c.call_placed.ensures.arena ∙ c.requires.arena) c.in_default.ensures.answered.0.2 c.in_default.ensures.answered.2.3 c.leave-2.ensures.exact.2.3

pub returns-in-Err-clause-same : goal.returns-in-Err-clause-same
returns-in-Err-clause-same g c =
    goes_further c.args.placed.who c.call_placed.new.placed.who c.leave.result (failed _ _ _ _ c.in-Err.ensures.failed) (called _ _ _ _ c.leave.ensures.exact)

pub returns-in-Err-clause-full : goal.returns-in-Err-clause-full
returns-in-Err-clause-full g c =
    lacked c.args.placed.who c.args.placed.who c.call_placed.new.placed.who c.leave.result _ c.in-Err.fault (goes_on c.args.placed.who) c.in-Err.ensures.failed (called _ _ _ _ c.leave.ensures.exact)
