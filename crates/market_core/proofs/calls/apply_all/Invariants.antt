use Rattle.std.proofs.Common.{◌≡◌, ◌++◌, ◌+◌, ◌-◌, ◌≤◌, length, take, drop}
use Rattle.std.specs.Prelude.{vec_len, vec_capacity}
use Rattle.market_types.specs.History.{replies_to, state_after}
use Rattle.market_core.proofs.calls.apply_all.Given as goal

-- the replies so far and those to what is left are those to all
abbrev pub invariant-loop-call : goal.invariant-loop-call
invariant-loop-call l =
    record {
      told : l.replies.items ++ replies_to l.market (drop l.call-index l.calls) ≡ replies_to l.fn.market l.calls;
      rest : state_after l.market (drop l.call-index l.calls) ≡ state_after l.fn.market l.calls;
      so_far : l.market ≡ state_after l.fn.market (take l.call-index l.calls);
      seats : length l.market.seats ≡ length l.fn.market.seats;
      room : vec_len l.replies + (length l.calls - l.call-index) ≤ vec_capacity l.replies;
    }
