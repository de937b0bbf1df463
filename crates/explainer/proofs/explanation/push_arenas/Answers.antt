use Rattle.std.specs.Prelude.{slice_get}
use Rattle.std.proofs.Common.{◌≡◌, ◌+◌, ◌++◌, List, drop, sym, ap, ◌∙◌, codes, arith}
use Rattle.market_types.specs.declared.reply.ArenaView.{ArenaView}
use Rattle.market_types.specs.State.{Arena, State}
use Rattle.market_types.specs.Claims.{request_of}
use Rattle.market_types.specs.Allotment.{at_level}
use Rattle.explainer.specs.Columns.{arena_line}
use Rattle.explainer.specs.Explanation.{step_of, arena_lines}
use Rattle.explainer.proofs.Divided.{level-at, request-at}
use Rattle.explainer.proofs.Lines.{carry_left, arena-written, arenas-written, row-some, row-none}
use Rattle.explainer.proofs.explanation.push_arenas.Goals as goal
use Rattle.explainer.proofs.explanation.push_arenas.Goals.{in-Some-step, in_default-step}

pub carry_step-step-requires-clause-asked : goal.carry_step-step-requires-clause-asked
carry_step-step-requires-clause-asked c =
    let s : State = c.args.market.now in
    let here = row-some s (slice_get (at_level c.args.level s.arenas) c.loop-view.index) c.in-Some.view (sym c.in-Some.is ∙ c.row.ensures.exact) in
    omega (arith, ap (λ (v : ArenaView). v.request) here.2, request-at c.args.level s.arenas c.loop-view.index here.0 here.1)

pub loop-view-preserved : goal.loop-view-preserved
loop-view-preserved c =
    let s : State = c.args.market.now in
    let arenas : List Arena = at_level c.args.level s.arenas in
    let here = row-some s (slice_get arenas c.loop-view.index) c.in-Some.view (sym c.in-Some.is ∙ c.row.ensures.exact) in
    let a : Arena = here.0 in
    let asks : request_of a.claim ≡ c.in-Some.view.request = sym (ap (λ (v : ArenaView). v.request) here.2) in
    let step : c.carry_step-step.result ≡ step_of s c.loop-view.carry a = c.carry_step-step.ensures.exact a (level-at c.args.level s.arenas c.loop-view.index a here.1) asks in
    let more = c.in_ok-push_arena_line.ensures ∙ (λ i. c.loop-view.out.items ++ (arena_line (here.2 i) (step i) ++ codes "\n")) in
    let written = arena-written s c.loop-view.carry c.loop-view.index arenas a c.loop-view.out.items c.push_arena_line.new.out.items _ here.1 c.loop-view.invariant.lines more in
    elim c.match-step.branch [
      | in-Some-step w ↦
          let left : c.match-step.carry ≡ carry_left c.loop-view.carry (step_of s c.loop-view.carry a) = w.carry-is ∙ ap (carry_left c.loop-view.carry) (sym w.in-Some-step.is ∙ step) in
          record {
            lines = ap (λ n. c.push_arena_line.new.out.items ++ arena_lines s n (drop (c.loop-view.index + 1) arenas)) left ∙ written;
            carried = λ some. omega (arith, w.in-Some-step.ensures.carried);
          }
      | in_default-step w ↦
          let left : c.match-step.carry ≡ carry_left c.loop-view.carry (step_of s c.loop-view.carry a) = w.carry-is ∙ ap (carry_left c.loop-view.carry) (sym w.in_default-step.is ∙ step) in
          record {
            lines = ap (λ n. c.push_arena_line.new.out.items ++ arena_lines s n (drop (c.loop-view.index + 1) arenas)) left ∙ written;
            carried = λ some. omega (arith, c.loop-view.invariant.carried some);
          }
    ]

pub returns : goal.returns
returns c =
    let s : State = c.args.market.now in
    let arenas : List Arena = at_level c.args.level s.arenas in
    arenas-written s c.loop-view.carry c.loop-view.index arenas c.loop-view.out.items _ (row-none s (slice_get arenas c.loop-view.index) (sym c.in_default.is ∙ c.row.ensures.exact)) c.loop-view.invariant.lines
