use Rattle.std.proofs.Common.{ap, sym, ◌∙◌}
use Rattle.market_types.specs.State.{State}
use Rattle.market_texts.specs.Script.{answer_to}
use Rattle.edit_history.specs.Chronicled.{market_of}
use Rattle.market_prog.specs.Sessions.{answer_by}
use Rattle.market_prog.specs.Recorded.{entries_to}
use Rattle.market_prog.specs.Recording.{entries_by, call_by}
use Rattle.market_prog.proofs.Answered.{answer-heard}
use Rattle.market_prog.proofs.History.{silent-chronicle, entries-heard, recorded-chronicle}
use Rattle.market_prog.proofs.recording.RecordingSessionLineTaker.take_line.Goals as goal

pub returns-then-is_silent-clause-state : goal.returns-then-is_silent-clause-state
returns-then-is_silent-clause-state c =
    let s = c.args.self.now in silent-chronicle c.args.form s.chronicle s.unread c.args.line.now (sym c.if-is_silent.ensures)

pub returns-clause-state : goal.returns-clause-state
returns-clause-state c =
    let s = c.args.self.now in
    let new = c.record.new.self in
    let market = market_of s.chronicle in
    let call = c.call_in-call.result in
    let spelled = c.call_in-call.ensures.exact ∙ ap (λ (m : State). call_by c.args.form m c.args.line.now) c.market.ensures.exact in
    let entered = entries-heard c.args.form market c.args.line.now call (sym c.if-is_silent.ensures) c.requires.within spelled in
    let heard = answer-heard c.args.form market c.args.line.now call (sym c.if-is_silent.ensures) c.requires.within spelled in
    recorded-chronicle c.record.result new.chronicle s.chronicle new.unread s.unread (entries_to market call) (entries_by c.args.form market c.args.line.now) (answer_to market call) (answer_by c.args.form market c.args.line.now) c.record.ensures.recorded c.record.ensures.unread entered heard
