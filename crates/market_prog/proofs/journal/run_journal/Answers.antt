use Rattle.std.proofs.Common.{◌∙◌, ap, refl, subst}
use Rattle.std.specs.Io.KnownBytes.{Appends}
use Rattle.std.proofs.lemmas.Result.{err_from_is_err_and}
use Rattle.byte_devices.specs.Devices.{WritesFront}
use Rattle.edit_history.specs.Chronicled.{Chronicled}
use Rattle.market_types.specs.Opening.{opened_with, opening_with}
use Rattle.market_prog.proofs.Explaining.{unopened-memory}
use Rattle.market_prog.proofs.Journaling.{journal_told, journal-whole, journal-answers, journal-breaks, journal-stops, journal-unopened}
use Rattle.market_prog.proofs.journal.run_journal.Goals as goal

pub returns-in_err-chronicle-clause-stops : goal.returns-in_err-chronicle-clause-stops
returns-in_err-chronicle-clause-stops g c = λ opened.
    let p = err_from_is_err_and c.from_residual.result c.from_residual.ensures.1 in
    let a = c.args in
    let memory = unopened-memory (opened_with a.options) c.in_err-chronicle.field-0.0 opened c.in_err-chronicle.ensures.exact in
    rw (p.1, p.2, memory) (journal-unopened (opening_with a.options) (g.R.Source.left a.source.now) (g.W.Sink.taken a.sink.now) (g.R.Source.failed a.source.now) (g.W.Sink.failed a.sink.now) c.requires.source_working c.requires.sink_working)

pub returns-in_err-session-clause-stops : goal.returns-in_err-session-clause-stops
returns-in_err-session-clause-stops g c = λ opened.
    let p = err_from_is_err_and c.from_residual-in_err-session.result c.from_residual-in_err-session.ensures.1 in
    let a = c.args in
    let begun = c.new in
    let ran = c.take_lines.new in
    rw (p.1, p.2) (journal-stops (c.silence.ensures (λ now line. refl)) begun.result.chronicle (opening_with a.options) begun.result.unread (g.R.Source.left a.source.now) (g.R.Source.left ran.source) (g.W.Sink.taken a.sink.now) (g.W.Sink.taken ran.sink) (g.R.Source.failed ran.source) (g.W.Sink.failed ran.sink)
    c.in_err-session.field-0.0 (begun.ensures.chronicle ∙ c.in_ok-chronicle.ensures.opened) begun.ensures.unread c.in_err-session.ensures.stops)

pub returns-in_err-written-clause-stops : goal.returns-in_err-written-clause-stops
returns-in_err-written-clause-stops g c = λ opened.
    let p = err_from_is_err_and c.from_residual-in_err-written.result c.from_residual-in_err-written.ensures.1 in
    let a = c.args in
    let begun = c.new in
    let ran = c.take_lines.new in
    let last = c.in_ok-session.session in
    let front : WritesFront (g.W.Sink.taken ran.sink) (g.W.Sink.taken c.write_journal-written.new.sink) (journal_told last.chronicle) =
    subst (λ (x : Chronicled). WritesFront (g.W.Sink.taken ran.sink) (g.W.Sink.taken c.write_journal-written.new.sink) (journal_told x)) c.chronicle.ensures c.in_err-written.ensures.prefix in
    rw (p.1, p.2) (journal-breaks (c.silence.ensures (λ now line. refl)) begun.result.chronicle (opening_with a.options) begun.result.unread (last.chronicle, last.unread) (g.R.Source.left a.source.now) (g.R.Source.left ran.source) (g.W.Sink.taken a.sink.now) (g.W.Sink.taken ran.sink) (g.W.Sink.taken c.write_journal-written.new.sink) (g.R.Source.failed ran.source) (g.W.Sink.failed c.write_journal-written.new.sink)
    c.in_err-written.field-0.0 (begun.ensures.chronicle ∙ c.in_ok-chronicle.ensures.opened) begun.ensures.unread c.in_ok-session.ensures.all c.in_ok-session.ensures.working.0 front c.in_err-written.ensures.cause)

pub returns-clause-journals : goal.returns-clause-journals
returns-clause-journals g c =
    let a = c.args in
    let begun = c.new in
    let ran = c.take_lines.new in
    let last = c.in_ok-session.session in
    let all : Appends (g.W.Sink.taken ran.sink) (g.W.Sink.taken c.write_journal-written.new.sink) (journal_told last.chronicle) =
    subst (λ (x : Chronicled). Appends (g.W.Sink.taken ran.sink) (g.W.Sink.taken c.write_journal-written.new.sink) (journal_told x)) c.chronicle.ensures c.in_ok-written.ensures.all in
    rw c.unread-unread.ensures (journal-answers (c.silence.ensures (λ now line. refl)) begun.result.chronicle (opening_with a.options) begun.result.unread (last.chronicle, last.unread) (g.R.Source.left a.source.now) (g.R.Source.left ran.source) (g.W.Sink.taken a.sink.now) (g.W.Sink.taken ran.sink) (g.W.Sink.taken c.write_journal-written.new.sink)
    (begun.ensures.chronicle ∙ c.in_ok-chronicle.ensures.opened) begun.ensures.unread c.in_ok-session.ensures.all all)

pub write_journal-written-requires : goal.write_journal-written-requires
write_journal-written-requires g c =
    let a = c.args in
    let begun = c.new in
    let ran = c.take_lines.new in
    let last = c.in_ok-session.session in
    record {
      whole = ap (λ (x : Chronicled). x.from) c.chronicle.ensures ∙ journal-whole begun.result.chronicle (opening_with a.options) begun.result.unread (last.chronicle, last.unread) (g.R.Source.left a.source.now) (g.R.Source.left ran.source) (g.W.Sink.taken a.sink.now) (g.W.Sink.taken ran.sink)
          (begun.ensures.chronicle ∙ c.in_ok-chronicle.ensures.opened) begun.ensures.unread c.in_ok-session.ensures.all;
      working = c.in_ok-session.ensures.working.1;
    }
