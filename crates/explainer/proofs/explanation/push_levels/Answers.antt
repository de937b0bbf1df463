use Rattle.std.proofs.Common.{◌≡◌, ◌+◌, ◌-◌, ◌++◌, ap, ◌∙◌, codes, arith}
use Rattle.market_types.specs.State.{State}
use Rattle.market_types.specs.Allotment.{assigned, at_level, demand}
use Rattle.market_core.specs.Allotted.{level_allotment}
use Rattle.explainer.specs.declared.line.LevelView.{LevelView}
use Rattle.explainer.specs.Columns.{level_line}
use Rattle.explainer.specs.Explanation.{left_after, level_view, arena_lines}
use Rattle.explainer.proofs.Lines.{level-written, left-more}
use Rattle.explainer.proofs.explanation.push_levels.Goals as goal

pub loop-index-preserved : goal.loop-index-preserved
loop-index-preserved c =
    let s : State = c.args.market.now in
    let level : c.from_index-level.result ≡ c.loop-index.index + 1 = c.from_index-level.ensures in
    let asks : c.demand-demand.result ≡ demand s (c.loop-index.index + 1) = c.demand-demand.ensures.exact ∙ ap (demand s) level in
    let given : c.assigned-assigned.result ≡ level_allotment s (c.loop-index.index + 1) = c.assigned-assigned.ensures.exact ∙ ap (level_allotment s) level in
    let left : c.saturating_sub-left.result ≡ left_after s (c.loop-index.index + 1) = c.saturating_sub-left.ensures ∙ (λ i. c.loop-index.left - given i) ∙ left-more s c.loop-index.index c.loop-index.left c.loop-index.invariant.left in
    let view : LevelView = record { level = c.from_index-level.result; demand = c.demand-demand.result; assigned = c.assigned-assigned.result; left = c.saturating_sub-left.result } in
    let is : view ≡ level_view s (c.loop-index.index + 1) = λ i. record { level = level i; demand = asks i; assigned = given i; left = left i } in
    let line = c.in_ok-push_level_line.ensures ∙ ap (λ n. c.loop-index.out.items ++ (level_line n view ++ codes "\n")) c.levels.ensures.exact in
    let arenas = c.in_ok-push_arenas.ensures ∙ ap (λ n. c.push_level_line.new.out.items ++ arena_lines s 0 (at_level n s.arenas)) level in
    record {
      lines = level-written s c.loop-index.index view c.loop-index.out.items c.push_level_line.new.out.items c.push_arenas.new.out.items _ (omega arith) c.loop-index.invariant.lines is line arenas
          (c.no_carry_to_keep.ensures.after_a_level s (assigned s) (c.loop-index.index + 1));
      left = left;
    }
