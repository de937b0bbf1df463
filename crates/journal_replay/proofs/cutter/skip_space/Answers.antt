use Rattle.std.proofs.Common.{[]}
use Rattle.journal_replay.proofs.CutLines.{cut-then}
use Rattle.journal_replay.proofs.cutter.skip_space.Goals as goal

pub returns : goal.returns
returns c = cut-then c.args.text.now c.in-Some.rest.now c.skip_spaces.result.now [] [] c.in-Some.ensures.cut c.skip_spaces.ensures
