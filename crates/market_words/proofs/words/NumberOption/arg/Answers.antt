use Rattle.std.proofs.Common.{◌≡◌, ◌∙◌, ◌<◌, ◌^◌, [], ◌∷◌, Some, pos, ap, refl, arith}
use Rattle.clap.specs.Values.{is_integer_parser}
use Rattle.clap.specs.declared.builder.ArgAction.TheVariants.{Set}
use Rattle.clap.specs.declared.builder.value_parser.ValueParser.TheVariants.{Signed}
use Rattle.market_words.specs.Words.{number_rule}
use Rattle.market_words.proofs.Commands.{rule_with_setting}
use Rattle.market_words.proofs.Numbers.{range_narrows}
use Rattle.market_words.proofs.words.NumberOption.arg.Goals as goal

pub range-requires-clause-bounds : goal.range-requires-clause-bounds
range-requires-clause-bounds c = c.new-2.ensures.exhausted

pub range-requires-clause-integer : goal.range-requires-clause-integer
range-requires-clause-integer c = ap is_integer_parser c.value_parser.ensures

pub value_parser-requires-2 : goal.value_parser-requires-2
value_parser-requires-2 c κs = (refl, tt)

pub returns-clause-rule : goal.returns-clause-rule
returns-clause-rule c =
    let option = c.args.self in
    let fits : option.high < 2 ^ 32 = omega arith in
    let narrowed = range_narrows option.high _ c.range.result _ _ _ fits c.value_parser.ensures c.new-2.ensures.start c.new-2.ensures.end c.from.ensures c.range.ensures in
    let given = c.value_parser-2.ensures.given in
    let parser : c.value_parser-2.result.value_parser ≡ Some (Signed (pos 1) (pos option.high)) =
    given.1 ∙ ap Some (given.2 ∙ narrowed) in
    let long = rule_with_setting c.new.result _ _ (λ r. record r { long = Some option.name.now }) _ c.long.ensures refl c.new.ensures.rule in
    let value_name = rule_with_setting c.long.result _ _ (λ r. record r { value_names = 1 }) _ c.value_name.ensures refl long in
    let action = rule_with_setting c.value_name.result _ _ (λ r. record r { action = Some Set }) _ c.action.ensures refl value_name in
    let default = rule_with_setting c.action.result _ _ (λ r. record r { defaults = option.default.now ∷ [] }) _ c.default_value.ensures refl action in
    let parsed = rule_with_setting c.default_value.result _ _ (λ r. record r { parser = c.value_parser-2.result.value_parser }) _ c.value_parser-2.ensures.others refl default in
    let help = rule_with_setting c.value_parser-2.result _ _ (λ r. r) _ c.help.ensures refl parsed in
    help ∙ ap (λ p. record (number_rule option.name.now option.default.now option.high) { parser = p }) parser

pub returns-clause-global : goal.returns-clause-global
returns-clause-global c =
    ap (λ a. a.global) c.help.ensures
    ∙ ap (λ a. a.global) c.value_parser-2.ensures.others
    ∙ ap (λ a. a.global) c.default_value.ensures
    ∙ ap (λ a. a.global) c.action.ensures
    ∙ ap (λ a. a.global) c.value_name.ensures
    ∙ ap (λ a. a.global) c.long.ensures
    ∙ c.new.ensures.optional.1
