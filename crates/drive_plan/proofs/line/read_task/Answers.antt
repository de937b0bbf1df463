use Rattle.std.proofs.Common.{◌∙◌, ap, option_map}
use Rattle.plan_jobs.specs.declared.task.Task.TheVariants.{Sum, Digits}
use Rattle.drive_plan.specs.Reading.{long_number}
use Rattle.drive_plan.proofs.Tasks.{sum_left, digits_left, other_word}
use Rattle.drive_plan.proofs.line.read_task.Goals as goal

pub returns-in_err-read_in : goal.returns-in_err-read_in
returns-in_err-read_in c =
    c.from_residual.ensures ∙ ap (option_map (λ n. Sum n)) c.in_err-read_in.ensures.exact ∙ sum_left c.args.text.now c.in-Some.argument.now c.in-Some.ensures.some

pub returns-in-Some : goal.returns-in-Some
returns-in-Some c =
    ap (option_map (λ n. Sum n)) c.in_ok-read_in.ensures.exact ∙ sum_left c.args.text.now c.in-Some.argument.now c.in-Some.ensures.some

pub returns-in_err-argument : goal.returns-in_err-argument
returns-in_err-argument c =
    c.from_residual-in_err-argument.ensures ∙ other_word c.args.text.now c.in_default.ensures.none c.in_err-argument.ensures.none

pub returns-in_err-read_number_to : goal.returns-in_err-read_number_to
unfolding long_number
returns-in_err-read_number_to c =
    c.from_residual-in_err-read_number_to.ensures
    ∙ ap (option_map (λ n. Digits n)) c.in_err-read_number_to.ensures.exact ∙ digits_left c.args.text.now c.in_ok-argument.argument.now c.in_ok-argument.ensures.some

pub returns : goal.returns
unfolding long_number
returns c =
    ap (option_map (λ n. Digits n)) c.in_ok-read_number_to.ensures.exact ∙ digits_left c.args.text.now c.in_ok-argument.argument.now c.in_ok-argument.ensures.some
