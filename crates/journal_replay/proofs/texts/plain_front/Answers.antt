use Rattle.std.proofs.Common.{◌+◌, ◌≤◌, length, arith}
use Rattle.journal_replay.proofs.PlainRuns.{plain-more}
use Rattle.journal_replay.proofs.texts.plain_front.Goals as goal

pub returns-then-run-lt16-clause-plain : goal.returns-then-run-lt16-clause-plain
returns-then-run-lt16-clause-plain c =
    plain-more c.args.text.now c.loop-count.count c.plain_run-run.result (omega (arith, c.loop-count-test.true, c.plain_run-run.ensures.within)) c.loop-count.invariant.1 c.plain_run-run.ensures.plain

pub loop-count-preserved : goal.loop-count-preserved
loop-count-preserved c =
    let within : c.loop-count.count + c.plain_run-run.result ≤ length c.args.text.now = omega (arith, c.loop-count-test.true, c.plain_run-run.ensures.within) in
    (within, plain-more c.args.text.now c.loop-count.count c.plain_run-run.result within c.loop-count.invariant.1 c.plain_run-run.ensures.plain)
