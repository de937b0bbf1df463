use Rattle.std.proofs.Common.{◌≡◌, ◌+◌, ◌*◌, ◌++◌, ◌∷◌, ◌∙◌, [], ap, codes, subst, sym}
use Rattle.journal_replay.specs.Cuts.{IsInside}
use Rattle.journal_replay.proofs.Inside.{inside-escape}
use Rattle.journal_replay.proofs.texts.cut_escape.Goals as goal

pub returns-clause-inside : goal.returns-clause-inside
returns-clause-inside c = λ tail.
    let first = c.in_ok-first.first.now in
    let second = c.in_ok-second.second.now in
    let rest = c.in_ok-second.rest.now in
    let high = c.in_ok-high.ensures in
    let low = c.in_ok-low.ensures in
    let is : c.args.text.now ≡ 92 ∷ 117 ∷ 48 ∷ 48 ∷ first ∷ second ∷ rest =
    c.in_ok-behind.ensures ∙ ap (λ xs. codes "\\u00" ++ xs) (c.in_ok-first.ensures.cases.0 ∙ ap (λ xs. first ∷ xs) c.in_ok-second.ensures.cases.0) in
    subst (λ t. IsInside (t ++ tail) (rest ++ tail) ((c.in_ok-high.high * 16 + c.in_ok-low.low) ∷ [])) (sym is) (
    inside-escape first second c.in_ok-high.high c.in_ok-low.low (rest ++ tail) high.value low.value high.cases low.cases c.if-high-ge8.false)
