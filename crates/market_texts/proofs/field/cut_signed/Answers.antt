use Rattle.std.proofs.Common.{rules, ◌≡◌, [], ◌∷◌, ◌∙◌, None, Some, ap, option_and_then, sym}
use Rattle.std.proofs.lemmas.Bool.Decides.{Decides-eqb}
use Rattle.std.proofs.lemmas.Slice.Eq.{strip_prefix_is}
use Rattle.market_texts.specs.Fields.{fields_left}
use Rattle.market_texts.specs.Reading.{negative, positive, signed}
use Rattle.market_texts.proofs.Cuts.{minus, minus_field, no_minus}
use Rattle.market_texts.proofs.field.cut_signed.Goals as goal

pub returns-in_err-number : goal.returns-in_err-number
returns-in_err-number c =
    let cut = c.in_err-number.ensures in
    rw c.from_residual.ensures (45 ∷ cut.0, cut.1, minus_field c.args.text.now c.in-Some.digits.now cut.0 cut.1 (strip_prefix_is Decides-eqb c.args.text.now (45 ∷ []) (Some c.in-Some.digits) c.in-Some.ensures.cases) cut.2, minus cut.0 ∙ ap (option_and_then negative) cut.3)

pub returns-in_err-negative : goal.returns-in_err-negative
returns-in_err-negative c =
    let cut = c.in_ok-number.ensures in
    let more = fields_left c.in_ok-number.more in
    rw c.from_residual-in_err-negative.ensures (
      45 ∷ cut.0,
      more,
      minus_field c.args.text.now c.in-Some.digits.now cut.0 more (strip_prefix_is Decides-eqb c.args.text.now (45 ∷ []) (Some c.in-Some.digits) c.in-Some.ensures.cases) cut.1,
      minus cut.0 ∙ ap (option_and_then negative) cut.2 ∙ sym c.in_err-negative.ensures,
    )

pub returns-in_ok-negative : goal.returns-in_ok-negative
returns-in_ok-negative c =
    let cut = c.in_ok-number.ensures in
    let more = fields_left c.in_ok-number.more in
    let reads : signed (45 ∷ cut.0) ≡ negative c.in_ok-number.number = minus cut.0 ∙ ap (option_and_then negative) cut.2 in
    (45 ∷ cut.0, minus_field c.args.text.now c.in-Some.digits.now cut.0 more (strip_prefix_is Decides-eqb c.args.text.now (45 ∷ []) (Some c.in-Some.digits) c.in-Some.ensures.cases) cut.1, search (rules, reads))

pub returns-in_err-number-2 : goal.returns-in_err-number-2
returns-in_err-number-2 c =
    let cut = c.in_err-number-2.ensures in
    rw c.from_residual-in_err-number-2.ensures (cut.0, cut.1, cut.2, no_minus c.args.text.now cut.0 cut.1 (strip_prefix_is Decides-eqb c.args.text.now (45 ∷ []) None c.in_default.ensures.cases) cut.2 ∙ ap (option_and_then positive) cut.3)

pub returns-in_err-positive : goal.returns-in_err-positive
returns-in_err-positive c =
    let cut = c.in_ok-number-2.ensures in
    let more = fields_left c.in_ok-number-2.more in
    rw c.from_residual-in_err-positive.ensures (
      cut.0,
      more,
      cut.1,
      no_minus c.args.text.now cut.0 more (strip_prefix_is Decides-eqb c.args.text.now (45 ∷ []) None c.in_default.ensures.cases) cut.1 ∙ ap (option_and_then positive) cut.2 ∙ sym c.in_err-positive.ensures,
    )

pub returns-in_ok-positive : goal.returns-in_ok-positive
returns-in_ok-positive c =
    let cut = c.in_ok-number-2.ensures in
    let reads : signed cut.0 ≡ positive c.in_ok-number-2.number =
    no_minus c.args.text.now cut.0 (fields_left c.in_ok-number-2.more) (strip_prefix_is Decides-eqb c.args.text.now (45 ∷ []) None c.in_default.ensures.cases) cut.1 ∙ ap (option_and_then positive) cut.2 in
    (cut.0, cut.1, search (rules, reads))
