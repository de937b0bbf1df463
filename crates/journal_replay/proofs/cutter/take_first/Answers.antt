use Rattle.std.proofs.Common.{codes, ◌∷◌, refl}
use Rattle.json.specs.Token.{string}
use Rattle.journal_replay.specs.Members.{members_of}
use Rattle.journal_replay.specs.declared.fields.Member.TheVariants.{Cmd}
use Rattle.journal_replay.proofs.CutLines.{cut-operator, cut-placed, cuts-behind}
use Rattle.journal_replay.proofs.cutter.take_first.Goals as goal

pub returns-in_default : goal.returns-in_default
returns-in_default c =
    cuts-behind 123 c.args.line.now c.in_ok-after_operator.field-0.now c.take_member.result (members_of c.args.fields.now) (members_of c.take_member.new.fields) c.in_ok-after_operator.ensures.cut c.take_member.ensures

pub returns : goal.returns
returns c =
    let inside = c.in-Some.rest.now in
    record {
      next = Cmd c.in_ok-cmd.cmd;
      cut = cut-placed 123 (codes "cmd") c.args.line.now (58 ∷ 34 ∷ inside) (34 ∷ inside) c.in_ok-cmd.rest.now (string c.in_ok-cmd.cmd.now) refl refl
          c.in-Some.ensures (cut-operator 58 (34 ∷ inside) refl) c.in_ok-cmd.ensures;
      counted = tt;
      made = c.put.ensures;
    }
