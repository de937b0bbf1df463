use Rattle.std.proofs.Common.{arith, length, sym, ap, ◌∙◌}
use Rattle.std.proofs.lemmas.Grind.{common_steps}
use Rattle.market_types.specs.State.{State}
use Rattle.market_types.specs.Step.{step}
use Rattle.market_core.proofs.Moved.{same_seats}
use Rattle.market_core.proofs.Runs.{state_after_more}
use Rattle.market_core.proofs.calls.apply_all.Goals as goal

pub loop-call-preserved : goal.loop-call-preserved
loop-call-preserved c =
    let i = c.loop-call.call-index in
    let calls = c.args.calls.now in
    let call = c.call-item.result in
    record {
      told = grind (arith, common_steps);
      rest = grind (arith, common_steps);
      so_far =
          c.in_ok-apply.ensures.next
          ∙ ap (λ (s : State). (step s call.seat call.cmd).1) c.loop-call.invariant.so_far
          ∙ sym (state_after_more c.args.market.now calls i call c.loop-call-test.true c.call-item.is);
      seats =
          ap (λ (s : State). length s.seats) c.in_ok-apply.ensures.next
          ∙ same_seats c.loop-call.market call.seat call.cmd
          ∙ c.loop-call.invariant.seats;
      room = omega (arith, c.push_reserved.ensures.len, c.push_reserved.ensures.capacity, c.loop-call.invariant.room, c.loop-call-test.true);
    }
