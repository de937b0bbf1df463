use Rattle.std.proofs.Common.{◌≡◌, ◌++◌, drop}
use Rattle.market_prog.specs.DriveTexts.{answer_lines}
use Rattle.market_prog.proofs.drive_text.answer_text.Given as goal

abbrev pub invariant-loop-done : goal.invariant-loop-done
invariant-loop-done l = l.text.items ++ answer_lines (drop l.done-index l.answers) ≡ answer_lines l.answers
