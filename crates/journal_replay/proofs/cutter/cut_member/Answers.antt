use Rattle.std.proofs.Common.{codes, decimal, [], ◌∷◌, refl}
use Rattle.json.specs.Lex.{token, colon}
use Rattle.json.specs.Token.{number, string}
use Rattle.journal_replay.proofs.CutLines.{cut-member, cut-then}
use Rattle.journal_replay.proofs.cutter.cut_member.Goals as goal

pub returns-in-Some-clause-cut : goal.returns-in-Some-clause-cut
returns-in-Some-clause-cut c =
    let value = string c.in_ok-cmd.cmd.now in
    cut-then c.args.text.now c.skip_space-text.result.now c.in_ok-cmd.rest.now [] (token (string (codes "cmd")) ∷ colon ∷ token value ∷ []) c.skip_space-text.ensures
    (cut-member (codes "cmd") c.skip_space-text.result.now c.in-Some.rest.now c.in_ok-after_operator.field-0.now c.in_ok-cmd.rest.now value refl c.in-Some.ensures c.in_ok-after_operator.ensures.cut c.in_ok-cmd.ensures)

pub returns-in-Some-behind-clause-cut : goal.returns-in-Some-behind-clause-cut
returns-in-Some-behind-clause-cut c =
    let value = string c.in_ok-reply.reply.now in
    cut-then c.args.text.now c.skip_space-text.result.now c.in_ok-reply.rest.now [] (token (string (codes "reply")) ∷ colon ∷ token value ∷ []) c.skip_space-text.ensures
    (cut-member (codes "reply") c.skip_space-text.result.now c.in-Some-behind.rest.now c.in_ok-after_operator-2.field-0.now c.in_ok-reply.rest.now value refl c.in-Some-behind.ensures c.in_ok-after_operator-2.ensures.cut c.in_ok-reply.ensures)

pub returns-clause-cut : goal.returns-clause-cut
returns-clause-cut c =
    let value = number (decimal c.in_ok-seat.seat) in
    cut-then c.args.text.now c.skip_space-text.result.now c.in_ok-seat.rest.now [] (token (string (codes "seat")) ∷ colon ∷ token value ∷ []) c.skip_space-text.ensures
    (cut-member (codes "seat") c.skip_space-text.result.now c.in_ok-rest.rest.now c.in_ok-after_operator-3.field-0.now c.in_ok-seat.rest.now value refl c.in_ok-rest.ensures c.in_ok-after_operator-3.ensures.cut c.in_ok-seat.ensures.cut)
