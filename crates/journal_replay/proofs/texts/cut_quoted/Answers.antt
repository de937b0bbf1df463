use Rattle.std.proofs.Common.{◌≡◌, ◌++◌, ◌∷◌, ◌∙◌, ap, take, subst, sym}
use Rattle.std.proofs.lemmas.List.{take-append-drop, take_rest}
use Rattle.journal_replay.specs.Cuts.{IsInside}
use Rattle.journal_replay.proofs.Inside.{cut-string, inside-plain}
use Rattle.journal_replay.proofs.texts.cut_quoted.Goals as goal

pub returns-then-first-eq34 : goal.returns-then-first-eq34
returns-then-first-eq34 c =
    let text = c.args.text.now in
    let rest = c.in_ok-first.rest.now in
    let count = c.plain_front-count.result in
    let found = take count text in
    let whole : found ++ 34 ∷ rest ≡ text =
    ap (λ x. found ++ x ∷ rest) (sym c.if-first-eq34.true) ∙ ap (λ t. found ++ t) (sym c.in_ok-first.ensures.cases.0 ∙ take_rest text count) ∙ take-append-drop count text in
    cut-string text rest found (subst (λ t. IsInside t (34 ∷ rest) found) whole (inside-plain found (34 ∷ rest) c.plain_front-count.ensures.plain))

pub returns : goal.returns
returns c =
    let rest = c.in_ok-inside.rest.now in
    let found = c.in_ok-undo.field-0.now in
    cut-string c.args.text.now rest found (subst (λ t. IsInside t (34 ∷ rest) found) (sym c.in_ok-inside.ensures.cut) (c.in_ok-undo.ensures (34 ∷ rest)))
