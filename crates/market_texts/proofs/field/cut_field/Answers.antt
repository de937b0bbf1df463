use Rattle.std.proofs.Common.{arith, ◌≡◌, ◌∷◌, ◌++◌, ◌+◌, ◌-◌, ◌∙◌, ap, drop, false, get_or, length, refl, subst, sym, take}
use Rattle.std.specs.List.{All, slice_split}
use Rattle.std.proofs.lemmas.List.{drop_more, length-drop, take-append-drop, take_all}
use Rattle.std.proofs.lemmas.Bool.{ne_eqb}
use Rattle.std.proofs.lemmas.List.Elements.{All-more}
use Rattle.std.proofs.lemmas.List.Splits.{slice_split_at, slice_split_none}
use Rattle.market_texts.specs.Reading.{is_space}
use Rattle.market_texts.proofs.field.cut_field.Goals as goal

pub loop-at-preserved : goal.loop-at-preserved
loop-at-preserved c =
    All-more (λ x. is_space x ≡ false) c.args.text.now c.loop-at.at 0 c.loop-at-test.true c.loop-at.invariant
    (ne_eqb (get_or c.args.text.now c.loop-at.at 0) 32 c.if-byte-eq32.false)

pub returns-then-byte-eq32 : goal.returns-then-byte-eq32
returns-then-byte-eq32 c =
    let text = c.args.text.now in
    let at = c.loop-at.at in
    let later = drop (at + 1) text in
    let rest : take (length text - (at + 1)) later ≡ later = take_all (length text - (at + 1)) later (search (arith, length-drop (at + 1) text)) in
    let behind : drop at text ≡ 32 ∷ later = drop_more text at 0 c.loop-at-test.true ∙ ap (λ b. b ∷ later) c.if-byte-eq32.true in
    let parts : text ≡ take at text ++ 32 ∷ later = sym (take-append-drop at text) ∙ ap (λ xs. take at text ++ xs) behind in
    rw rest (ap (slice_split is_space) parts ∙ slice_split_at is_space (take at text) 32 later c.loop-at.invariant refl)

pub returns : goal.returns
returns c =
    slice_split_none is_space c.args.text.now
    (subst (λ xs. All (λ x. is_space x ≡ false) xs) (take_all c.loop-at.at c.args.text.now c.loop-at-test.false) c.loop-at.invariant)
