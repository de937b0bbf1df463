use Rattle.std.proofs.Common.{sym, not, eqb}
use Rattle.market_texts.specs.Script.{answer_to}
use Rattle.market_prog.specs.Sessions.{answer_by}
use Rattle.market_prog.proofs.Answered.{silent-state, silent-text, answer-heard, heard-state, heard-text}
use Rattle.market_prog.proofs.session.SessionLineTaker.take_line.Goals as goal

pub returns-then-is_silent-clause-state : goal.returns-then-is_silent-clause-state
returns-then-is_silent-clause-state g c =
    let s = c.args.self.now in silent-state c.args.form s.market s.unread c.args.line.now (sym c.if-is_silent.ensures)

pub returns-then-is_silent-clause-told : goal.returns-then-is_silent-clause-told
returns-then-is_silent-clause-told g c =
    silent-text (not (eqb g.row.ANSWERS 0)) c.args.form c.args.self.now.market c.args.line.now c.args.replies.now.items (sym c.if-is_silent.ensures)

pub returns-clause-state : goal.returns-clause-state
returns-clause-state g c =
    let s = c.args.self.now in
    let new = c.reply_to.new.self in
    let call = c.call_in-call.result in
    let heard = answer-heard c.args.form s.market c.args.line.now call (sym c.if-is_silent.ensures) c.requires.within c.call_in-call.ensures.exact in
    heard-state c.reply_to.result new.market s.market new.unread s.unread (answer_to s.market call) (answer_by c.args.form s.market c.args.line.now) c.reply_to.ensures.market c.reply_to.ensures.unread heard

pub returns-clause-told : goal.returns-clause-told
returns-clause-told g c =
    let s = c.args.self.now in
    let call = c.call_in-call.result in
    let heard = answer-heard c.args.form s.market c.args.line.now call (sym c.if-is_silent.ensures) c.requires.within c.call_in-call.ensures.exact in
    heard-text c.reply_to.result (not (eqb g.row.ANSWERS 0)) c.args.replies.now.items c.reply_to.new.replies.items (answer_to s.market call) (answer_by c.args.form s.market c.args.line.now) c.reply_to.ensures.told heard
