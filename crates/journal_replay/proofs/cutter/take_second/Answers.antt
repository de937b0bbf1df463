use Rattle.std.proofs.Common.{codes, refl}
use Rattle.json.specs.Token.{string}
use Rattle.journal_replay.specs.Members.{members_of}
use Rattle.journal_replay.specs.declared.fields.Member.TheVariants.{Reply}
use Rattle.journal_replay.proofs.CutLines.{cut-placed, cuts-behind}
use Rattle.journal_replay.proofs.cutter.take_second.Goals as goal

pub returns-in_default : goal.returns-in_default
returns-in_default c =
    cuts-behind 44 c.args.text.now c.in_ok-after_operator.field-0.now c.take_member.result (members_of c.args.fields.now) (members_of c.take_member.new.fields) c.in_ok-after_operator.ensures.cut c.take_member.ensures

pub returns : goal.returns
returns c = record {
  next = Reply c.in_ok-reply.reply;
  cut = cut-placed 44 (codes "reply") c.args.text.now c.in-Some.rest.now c.in_ok-after_operator-2.field-0.now c.in_ok-reply.rest.now (string c.in_ok-reply.reply.now) refl refl
      c.in-Some.ensures c.in_ok-after_operator-2.ensures.cut c.in_ok-reply.ensures;
  counted = tt;
  made = c.put.ensures;
}
