use Rattle.std.proofs.Common.{◌≡◌, ◌≤◌, ◌-◌, ◌*◌, min}
use Rattle.market_core.specs.Divided.{asked_before}
use Rattle.market_core.proofs.market.Market.asked_before.Given as goal

abbrev pub invariant-loop-place : goal.invariant-loop-place
invariant-loop-place l = record {
  sum : l.asked ≡ asked_before l.self (min l.place (l.level - 1));
  small : l.asked ≤ l.place * (1024 * 65535);
}
