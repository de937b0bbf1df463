use Rattle.std.proofs.Common.{◌≡◌, false, take}
use Rattle.std.specs.List.{All}
use Rattle.market_texts.specs.Reading.{is_space}
use Rattle.market_texts.proofs.field.cut_field.Given as goal

abbrev pub invariant-loop-at : goal.invariant-loop-at
invariant-loop-at l = All (λ x. is_space x ≡ false) (take l.at l.text)
