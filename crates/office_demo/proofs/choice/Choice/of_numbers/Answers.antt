use Rattle.std.specs.Result.{result_ok}
use Rattle.std.proofs.Common.{rules, ◌≡◌, ◌==◌, ◌||◌, false, nat_lt, Ok, Err, ap, sym, ◌∙◌}
use Rattle.std.proofs.lemmas.Bool.{cond-false}
use Rattle.office_demo.specs.declared.choice.Choice.TheVariants.{Work, Unknown}
use Rattle.office_demo.proofs.Numbers.{parsed, work_of_numbers, work_of_no_callers, work_of_no_calls}
use Rattle.office_demo.proofs.choice.Choice.of_numbers.Goals as goal

pub returns-in_default-clause-choice : goal.returns-in_default-clause-choice
returns-in_default-clause-choice c =
    let some : c.parse.result ≡ Ok c.in_default.field-0-0 = search rules in
    let none : c.parse-2.result ≡ Err c.in_default.field-0-1 = search rules in
    let a = sym (parsed 8 c.args.callers.now c.parse.result c.parse.ensures.value.0) ∙ ap result_ok some in
    let b = sym (parsed 32 c.args.calls.now c.parse-2.result c.parse-2.ensures.value.0) ∙ ap result_ok none in
    sym (work_of_no_calls c.args.callers.now c.args.calls.now c.in_default.field-0-0 a b)

pub returns-in_default-2-clause-choice : goal.returns-in_default-2-clause-choice
returns-in_default-2-clause-choice c =
    let none : c.parse.result ≡ Err c.in_default.field-0-0 = search rules in
    let a = sym (parsed 8 c.args.callers.now c.parse.result c.parse.ensures.value.0) ∙ ap result_ok none in
    sym (work_of_no_callers c.args.callers.now c.args.calls.now a)

pub returns-clause-choice : goal.returns-clause-choice
returns-clause-choice c =
    let n = c.in-Ok-Ok.callers in
    let callers : c.parse.result ≡ Ok n = search rules in
    let calls : c.parse-2.result ≡ Ok c.in-Ok-Ok.calls = search rules in
    let a = sym (parsed 8 c.args.callers.now c.parse.result c.parse.ensures.value.0) ∙ ap result_ok callers in
    let b = sym (parsed 32 c.args.calls.now c.parse-2.result c.parse-2.ensures.value.0) ∙ ap result_ok calls in
    let fits : (n == 0 || nat_lt 64 n) ≡ false = search rules in
    sym (work_of_numbers c.args.callers.now c.args.calls.now n c.in-Ok-Ok.calls a b ∙ cond-false (n == 0 || nat_lt 64 n) Unknown (Work n c.in-Ok-Ok.calls) fits)
