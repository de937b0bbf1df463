use Rattle.std.specs.Prelude.{vec_len}
use Rattle.std.proofs.Common.{rules, ◌≡◌, ◌+◌, ap, ◌∙◌, arith}
use Rattle.demo_callers.specs.Records.{lasting}
use Rattle.demo_callers.proofs.forever.attend.Goals as goal

pub returns-clause-start : goal.returns-clause-start
returns-clause-start g c =
    let none : vec_len c.new-nobody.result ≡ 0 = search rules in
    let all : vec_len c.new-nobody.result + vec_len c.args.attendants ≡ vec_len c.args.attendants = omega arith in
    let opened : c.in_ok-closed.closed.chronicle.start ≡ lasting (vec_len c.new-nobody.result + vec_len c.args.attendants) = search rules in
    let same : c.in_ok-closed.field-0.closed.chronicle.start ≡ c.in_ok-closed.closed.chronicle.start = search rules in
    same ∙ opened ∙ ap lasting all
