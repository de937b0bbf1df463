use Rattle.std.proofs.Common.{◌++◌, [], codes}
use Rattle.journal_replay.proofs.CutLines.{cut-eight, cut-same, cut-then}
use Rattle.journal_replay.proofs.cutter.skip_spaces.Goals as goal

pub loop-more-preserved : goal.loop-more-preserved
loop-more-preserved c =
    let more = c.in-Some.more.now in
    cut-then c.args.text.now c.loop-more.rest.now more [] [] c.loop-more.invariant (cut-same c.loop-more.rest.now (codes "        " ++ more) more [] c.in-Some.ensures (cut-eight more))

pub loop-more-2-preserved : goal.loop-more-2-preserved
loop-more-2-preserved c = cut-then c.args.text.now c.loop-more-2.rest.now c.in-Some-after_space.more.now [] [] c.loop-more-2.invariant c.in-Some-after_space.ensures.cut
