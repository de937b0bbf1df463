use Rattle.std.proofs.Common.{◌≡◌, ◌≤◌, ◌++◌, length}
use Rattle.memchr.specs.Find.{is_byte, places}
use Rattle.market_prog.proofs.progress.line_ends.Given as goal

abbrev pub invariant-loop : goal.invariant-loop
invariant-loop l =
    (goal.iterator-loop).can_next l.iterator' × (goal.iterator-loop).is_finite l.iterator'
    × (l.ends ≡ length l.yielded)
    × (l.yielded ++ l.iterator' ≡ places (is_byte 10) l.piece)
    × (length (places (is_byte 10) l.piece) ≤ length l.piece)
