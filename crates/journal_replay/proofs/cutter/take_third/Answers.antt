use Rattle.std.proofs.Common.{codes, decimal, ◌∷◌, refl}
use Rattle.json.specs.Token.{number}
use Rattle.journal_replay.specs.Members.{members_of}
use Rattle.journal_replay.specs.declared.fields.Member.TheVariants.{Seat}
use Rattle.journal_replay.proofs.CutLines.{cut-operator, cut-placed, cuts-behind}
use Rattle.journal_replay.proofs.cutter.take_third.Goals as goal

pub returns-in_default : goal.returns-in_default
returns-in_default c =
    cuts-behind 44 c.args.text.now c.in_ok-after_operator.field-0.now c.take_member.result (members_of c.args.fields.now) (members_of c.take_member.new.fields) c.in_ok-after_operator.ensures.cut c.take_member.ensures

pub returns : goal.returns
returns c =
    let rest = c.in-Some.rest.now in
    record {
      next = Seat c.in_ok-seat.seat;
      cut = cut-placed 44 (codes "seat") c.args.text.now (58 ∷ rest) rest c.in_ok-seat.rest.now (number (decimal c.in_ok-seat.seat)) refl refl
          c.in-Some.ensures (cut-operator 58 rest refl) c.in_ok-seat.ensures.cut;
      counted = c.in_ok-seat.ensures.counted;
      made = c.put.ensures;
    }
