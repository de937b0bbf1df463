use Rattle.std.proofs.Common.{◌∷◌, []}
use Rattle.journal_replay.proofs.CutLines.{cut-same, cut-space}
use Rattle.journal_replay.proofs.cutter.after_space.Goals as goal

pub returns-then-is_space-clause-cut : goal.returns-then-is_space-clause-cut
returns-then-is_space-clause-cut c =
    let first = c.in_ok-first.first.now in
    let rest = c.in_ok-first.rest.now in
    cut-same c.args.text.now (first ∷ rest) rest [] c.in_ok-first.ensures.cases.0 (cut-space first rest c.if-is_space.ensures.white c.if-is_space.ensures.ascii)
