use Rattle.std.proofs.Common.{◌≡◌, ◌+◌, ◌≤◌, drop, length}
use Rattle.std.specs.Str.Parse.{digits_value_after}
use Rattle.market_texts.specs.Fields.{front_digits}
use Rattle.market_texts.proofs.field.read_digits.Given as goal

abbrev pub invariant-loop-at : goal.invariant-loop-at
invariant-loop-at l = record {
  value : digits_value_after 10 l.number (front_digits (drop l.at l.text)) ≡ digits_value_after 10 l.first (front_digits l.text);
  count : l.at + length (front_digits (drop l.at l.text)) ≡ length (front_digits l.text);
  within : l.number ≤ l.most;
}
