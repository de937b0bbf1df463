use Rattle.std.proofs.Common.{rules, ◌++◌, ◌∙◌, ap, decimal}
use Rattle.market_texts.specs.Texts.{cmd_text, reply_text}
use Rattle.journal_replay.proofs.PlainWritten.{plain-cmd, plain-reply}
use Rattle.journal_replay.proofs.PushedEntries.{grown-ok, pushed-entry}
use Rattle.journal_replay.proofs.line.push_entry.Goals as goal

pub returns : goal.returns
returns c =
    let seat = c.in_ok-push_number.ensures.ok ∙ ap (λ n. c.extend_from_slice-3.new.self.items ++ decimal n) (c.from.ensures ∙ c.get.ensures) in
    let whole = pushed-entry c.args.waiting.now.items c.extend_from_slice.new.self.items c.push_cmd.new.out.items c.extend_from_slice-2.new.self.items c.push_reply.new.out.items c.extend_from_slice-3.new.self.items c.push_number.new.out.items
    (cmd_text c.args.levels c.args.entry.now.call.cmd) (reply_text c.args.entry.now.reply) c.args.entry.now.call.seat
    (plain-cmd c.args.levels c.args.entry.now.call.cmd) (plain-reply c.args.entry.now.reply)
    (search rules) c.in_ok-push_cmd.ensures.ok (search rules) c.in_ok-push_reply.ensures.ok (search rules) seat in
    grown-ok c.extend_from_slice-4.result _ _ _ _ c.extend_from_slice-4.ensures.items whole
