use Rattle.std.proofs.Common.{◌≡◌, [], ◌++◌, ap, ◌∙◌, arith}
use Rattle.std.proofs.lemmas.Bool.Decides.{nat_tests}
use Rattle.std.proofs.lemmas.List.{nil_from_length}
use Rattle.std.proofs.lemmas.Result.{IfErr-at_err, IfOk-at_ok, IfOk-from_err, err_from_is_err_and}
use Rattle.line_engine.specs.Lines.{handed}
use Rattle.line_engine.specs.declared.form.LineForm.TheVariants.{Whole}
use Rattle.line_engine.proofs.Handed.{handed-taken}
use Rattle.line_engine.proofs.Passing.{on_ok-passed, fault-passed}
use Rattle.line_engine.proofs.lines.Lines.end_line.Goals as goal

pub returns-then-is_empty-clause-state : goal.returns-then-is_empty-clause-state
returns-then-is_empty-clause-state g c =
    let s = c.args.self.now.unfinished in
    let none : s.items ≡ [] = nil_from_length s.items (grind (arith, nat_tests, s.ok.0, c.is_empty.ensures, c.if-is_empty.true)) in
    rw none (on_ok-passed c.hand_on.result c.map_err.result _ _ c.map_err.ensures.variant (λ x. x) c.hand_on.ensures.state)

pub returns-then-is_empty-clause-told : goal.returns-then-is_empty-clause-told
returns-then-is_empty-clause-told g c =
    let s = c.args.self.now.unfinished in
    let none : s.items ≡ [] = nil_from_length s.items (grind (arith, nat_tests, s.ok.0, c.is_empty.ensures, c.if-is_empty.true)) in
    rw none (on_ok-passed c.hand_on.result c.map_err.result _ _ c.map_err.ensures.variant (λ x. x) c.hand_on.ensures.told)

pub returns-then-is_empty-clause-few : goal.returns-then-is_empty-clause-few
returns-then-is_empty-clause-few g c = on_ok-passed c.hand_on.result c.map_err.result _ _ c.map_err.ensures.variant (λ x. x) c.hand_on.ensures.few

pub returns-then-is_empty-clause-cause : goal.returns-then-is_empty-clause-cause
returns-then-is_empty-clause-cause g c =
    let s = c.args.self.now.unfinished in
    let none : s.items ≡ [] = nil_from_length s.items (grind (arith, nat_tests, s.ok.0, c.is_empty.ensures, c.if-is_empty.true)) in
    rw none (fault-passed c.hand_on.result c.map_err.result _ c.map_err.ensures.cases c.hand_on.ensures.stops)

pub returns-in_err-keep-clause-state : goal.returns-in_err-keep-clause-state
returns-in_err-keep-clause-state g c = IfOk-from_err _ _ c.from_residual.ensures.0

pub returns-in_err-keep-clause-told : goal.returns-in_err-keep-clause-told
returns-in_err-keep-clause-told g c = IfOk-from_err _ _ c.from_residual.ensures.0

pub returns-in_err-keep-clause-few : goal.returns-in_err-keep-clause-few
returns-in_err-keep-clause-few g c = IfOk-from_err _ _ c.from_residual.ensures.0

pub returns-in_err-map_err-clause-state : goal.returns-in_err-map_err-clause-state
returns-in_err-map_err-clause-state g c = IfOk-from_err _ _ c.from_residual-in_err-map_err.ensures.0

pub returns-in_err-map_err-clause-told : goal.returns-in_err-map_err-clause-told
returns-in_err-map_err-clause-told g c = IfOk-from_err _ _ c.from_residual-in_err-map_err.ensures.0

pub returns-in_err-map_err-clause-few : goal.returns-in_err-map_err-clause-few
returns-in_err-map_err-clause-few g c = IfOk-from_err _ _ c.from_residual-in_err-map_err.ensures.0

pub returns-clause-state : goal.returns-clause-state
returns-clause-state g c =
    let t = g.A.LineTaker in
    let line = c.args.self.now.unfinished.items ++ c.args.part.now in
    let same : handed t.LONGEST Whole c.deref.result.now ≡ handed t.LONGEST Whole line = ap (handed t.LONGEST Whole) (c.deref.ensures.value ∙ c.in_ok-keep.ensures.kept) ∙ handed-taken t.LONGEST Whole line in
    let taken = IfOk-at_ok _ c.in_ok-map_err.was (on_ok-passed c.hand_on-2.result c.map_err-2.result _ _ c.map_err-2.ensures.variant (λ x. x) c.hand_on-2.ensures.state) in
    rw (← c.keep.ensures.answering, ← same) taken

pub returns-clause-told : goal.returns-clause-told
returns-clause-told g c =
    let t = g.A.LineTaker in
    let line = c.args.self.now.unfinished.items ++ c.args.part.now in
    let same : handed t.LONGEST Whole c.deref.result.now ≡ handed t.LONGEST Whole line = ap (handed t.LONGEST Whole) (c.deref.ensures.value ∙ c.in_ok-keep.ensures.kept) ∙ handed-taken t.LONGEST Whole line in
    let told = IfOk-at_ok _ c.in_ok-map_err.was (on_ok-passed c.hand_on-2.result c.map_err-2.result _ _ c.map_err-2.ensures.variant (λ x. x) c.hand_on-2.ensures.told) in
    rw (← c.keep.ensures.answering, ← same) told

pub returns-clause-few : goal.returns-clause-few
returns-clause-few g c =
    let few = IfOk-at_ok _ c.in_ok-map_err.was (on_ok-passed c.hand_on-2.result c.map_err-2.result _ _ c.map_err-2.ensures.variant (λ x. x) c.hand_on-2.ensures.few) in
    rw (← c.keep.ensures.answering) few

pub returns-in_err-keep-clause-cause : goal.returns-in_err-keep-clause-cause
returns-in_err-keep-clause-cause g c =
    let p = err_from_is_err_and c.from_residual.result c.from_residual.ensures.1 in
    rw (p.1, p.2) tt

pub returns-in_err-map_err-clause-cause : goal.returns-in_err-map_err-clause-cause
returns-in_err-map_err-clause-cause g c =
    let t = g.A.LineTaker in
    let line = c.args.self.now.unfinished.items ++ c.args.part.now in
    let same : handed t.LONGEST Whole c.deref.result.now ≡ handed t.LONGEST Whole line = ap (handed t.LONGEST Whole) (c.deref.ensures.value ∙ c.in_ok-keep.ensures.kept) ∙ handed-taken t.LONGEST Whole line in
    let why = IfErr-at_err _ c.in_err-map_err.was (fault-passed c.hand_on-2.result c.map_err-2.result _ c.map_err-2.ensures.cases c.hand_on-2.ensures.stops) in
    let p = err_from_is_err_and c.from_residual-in_err-map_err.result c.from_residual-in_err-map_err.ensures.1 in
    rw (p.1, p.2, ← c.keep.ensures.answering, ← same) why
