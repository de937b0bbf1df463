use Rattle.std.proofs.lemmas.Grind.{common_steps}
use Rattle.std.proofs.Common.{subst, arith}
use Rattle.std.specs.Io.KnownBytes.{Appends}
use Rattle.byte_devices.specs.Devices.{WritesFront}
use Rattle.journal_chart.proofs.Going.{at-err}
use Rattle.journal_chart.proofs.Texts.{picture-is}
use Rattle.journal_chart.proofs.picture.write_picture.Goals as goal

pub returns-in_err-write_sheet-clause-prefix : goal.returns-in_err-write_sheet-clause-prefix
returns-in_err-write_sheet-clause-prefix g c =
    at-err _ c.from_residual-in_err-write_sheet.result
    (subst (λ text. WritesFront (g.W.Sink.taken c.args.sink.now) (g.W.Sink.taken c.write_sheet.new.sink) text)
    (picture-is c.args.before c.width.result c.moments.result c.columns.result c.lines.result.now c.args.chart.now c.width.ensures.exact c.moments.ensures c.columns.ensures c.lines.ensures)
    c.in_err-write_sheet.ensures.prefix)

pub returns-clause-written : goal.returns-clause-written
returns-clause-written g c =
    subst (λ text. Appends (g.W.Sink.taken c.args.sink.now) (g.W.Sink.taken c.write_sheet.new.sink) text)
    (picture-is c.args.before c.width.result c.moments.result c.columns.result c.lines.result.now c.args.chart.now c.width.ensures.exact c.moments.ensures c.columns.ensures c.lines.ensures)
    c.in_ok-write_sheet.ensures.written

pub write_sheet-requires-clause-size : goal.write_sheet-requires-clause-size
write_sheet-requires-clause-size c = grind (arith, common_steps)
