use Rattle.std.proofs.Common.{◌≡◌, ◌++◌, subst}
use Rattle.byte_devices.specs.Devices.{WritesFront}
use Rattle.journal_replay.specs.Journal.{entry_lines}
use Rattle.journal_replay.proofs.Lines.{at-err, some-written}
use Rattle.journal_replay.proofs.journal.write_part.Goals as goal

pub returns-in_err-put_all-clause-prefix : goal.returns-in_err-put_all-clause-prefix
returns-in_err-put_all-clause-prefix g c =
    let text : c.new-waiting.result.items ++ entry_lines c.args.levels c.deref.result.now ≡ entry_lines c.args.levels c.args.part.now.entries.items =
    λ i. c.new-waiting.ensures.items i ++ entry_lines c.args.levels (c.deref.ensures.value i) in
    at-err _ c.from_residual-in_err-put_all.result
    (some-written _ _ _ _ _ _ text c.in_ok-write_lines.ensures.all
    (subst (λ xs. WritesFront (g.W.Sink.taken c.write_lines.new.sink) (g.W.Sink.taken c.put_all.new.sink) xs) c.deref-2.ensures.value c.in_err-put_all.ensures.prefix))
