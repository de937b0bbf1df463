use Rattle.std.proofs.Common.{rules, ◌≡◌, ◌∷◌, [], ap, ◌∙◌}
use Rattle.json.specs.Lex.{operator_lexeme}
use Rattle.journal_replay.proofs.CutLines.{cut-operator, cut-same, cut-then}
use Rattle.journal_replay.proofs.cutter.after_operator.Goals as goal

pub returns-then-first-byte-clause-cut : goal.returns-then-first-byte-clause-cut
returns-then-first-byte-clause-cut c =
    let byte = c.args.byte in
    let rest = c.in_ok-first.rest.now in
    let is : c.in_ok-first.first.now ≡ c.args.byte = search rules in
    cut-then c.args.text.now c.skip_space.result.now rest [] (operator_lexeme byte ∷ []) c.skip_space.ensures
    (cut-same c.skip_space.result.now (byte ∷ rest) rest (operator_lexeme byte ∷ []) (c.in_ok-first.ensures.cases.0 ∙ ap (λ x. x ∷ rest) is) (cut-operator byte rest c.requires))
