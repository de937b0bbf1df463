use Rattle.std.specs.Result.{result_ok}
use Rattle.std.proofs.Common.{rules, ◌≡◌, ◌==◌, ◌||◌, false, nat_lt, Ok, Err, ap, sym, ◌∙◌}
use Rattle.std.proofs.lemmas.Bool.{cond-false}
use Rattle.demo_callers.specs.Records.{most_callers}
use Rattle.office_demo.specs.declared.choice.Choice.TheVariants.{Forever, Unknown}
use Rattle.office_demo.proofs.Numbers.{parsed, forever_of_numbers, forever_of_no_callers, forever_of_no_seconds}
use Rattle.office_demo.proofs.choice.Choice.of_forever.Goals as goal

pub returns-in_default-clause-choice : goal.returns-in_default-clause-choice
returns-in_default-clause-choice c =
    let some : c.parse.result ≡ Ok c.in_default.field-0-0 = search rules in
    let none : c.parse-2.result ≡ Err c.in_default.field-0-1 = search rules in
    let a = sym (parsed 8 c.args.callers.now c.parse.result c.parse.ensures.value.0) ∙ ap result_ok some in
    let b = sym (parsed 32 c.args.seconds.now c.parse-2.result c.parse-2.ensures.value.0) ∙ ap result_ok none in
    sym (forever_of_no_seconds c.args.seconds.now c.args.callers.now c.args.recorded c.in_default.field-0-0 a b)

pub returns-in_default-2-clause-choice : goal.returns-in_default-2-clause-choice
returns-in_default-2-clause-choice c =
    let none : c.parse.result ≡ Err c.in_default.field-0-0 = search rules in
    let a = sym (parsed 8 c.args.callers.now c.parse.result c.parse.ensures.value.0) ∙ ap result_ok none in
    sym (forever_of_no_callers c.args.seconds.now c.args.callers.now c.args.recorded a)

pub returns-clause-choice : goal.returns-clause-choice
returns-clause-choice c =
    let n = c.in-Ok-Ok.callers in
    let callers : c.parse.result ≡ Ok n = search rules in
    let calls : c.parse-2.result ≡ Ok c.in-Ok-Ok.seconds = search rules in
    let a = sym (parsed 8 c.args.callers.now c.parse.result c.parse.ensures.value.0) ∙ ap result_ok callers in
    let b = sym (parsed 32 c.args.seconds.now c.parse-2.result c.parse-2.ensures.value.0) ∙ ap result_ok calls in
    let fits : (n == 0 || nat_lt (most_callers c.args.recorded) n) ≡ false = search rules in
    sym (forever_of_numbers c.args.seconds.now c.args.callers.now c.args.recorded n c.in-Ok-Ok.seconds a b ∙ cond-false (n == 0 || nat_lt (most_callers c.args.recorded) n) Unknown (Forever n c.in-Ok-Ok.seconds c.args.recorded) fits)
