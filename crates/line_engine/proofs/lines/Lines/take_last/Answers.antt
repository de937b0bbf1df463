use Rattle.std.proofs.Common.{◌≡◌, length, arith, rules, IfErr}
use Rattle.std.proofs.lemmas.Bool.Decides.{nat_tests}
use Rattle.std.proofs.lemmas.Result.{IfErr-weaker}
use Rattle.line_engine.specs.Lines.{handed, last_line}
use Rattle.line_engine.specs.Input.{StopsAt, IsLineFault}
use Rattle.line_engine.specs.declared.form.LineForm.TheVariants.{WithoutLf}
use Rattle.line_engine.proofs.Feeding.{line-fault-weaker, stops-last}
use Rattle.line_engine.proofs.lines.Lines.take_last.Goals as goal

pub returns-clause-cause : goal.returns-clause-cause
returns-clause-cause g c =
    let s = c.args.self.now in
    let t = g.A.LineTaker in
    let now = t.state s.answering.taker in
    let u = s.unfinished.items in
    let some : length u ≡ 0 → ⊥ = grind (arith, nat_tests, s.unfinished.ok.0, c.is_empty.ensures, c.if-is_empty.false) in
    let why : IfErr c.map_err.result (IsLineFault (t.stops now (handed t.LONGEST WithoutLf u))) = search rules in
    IfErr-weaker c.map_err.result (IsLineFault (t.stops now (handed t.LONGEST WithoutLf u))) (IsLineFault (StopsAt t.rule t.stops now (last_line t.LONGEST u)))
    (line-fault-weaker (t.stops now (handed t.LONGEST WithoutLf u)) (StopsAt t.rule t.stops now (last_line t.LONGEST u)) (stops-last t.rule t.LONGEST t.stops now u some)) why
