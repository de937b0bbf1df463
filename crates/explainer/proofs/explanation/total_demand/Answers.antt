use Rattle.std.proofs.Common.{◌≡◌, suc, ◌+◌, ap, ◌∙◌, arith}
use Rattle.std.specs.List.{sum_by, range_with_len}
use Rattle.market_types.specs.State.{State}
use Rattle.market_types.specs.Allotment.{demand}
use Rattle.explainer.proofs.Divided.{sum-more, demands-total}
use Rattle.explainer.proofs.explanation.total_demand.Goals as goal

pub loop-index-preserved : goal.loop-index-preserved
loop-index-preserved c =
    let s : State = c.args.market.now in
    let level : c.from_index.result ≡ 1 + c.loop-index.index = omega (arith, c.from_index.ensures) in
    let asks : c.demand-total.result ≡ demand s (1 + c.loop-index.index) = c.demand-total.ensures.exact ∙ ap (demand s) level in
    let next : c.loop-index.index + 1 ≡ suc c.loop-index.index = omega arith in
    (omega (arith, asks, sum-more (demand s) 1 c.loop-index.index, ap (λ n. sum_by (demand s) (range_with_len 1 n)) next), omega arith)

pub returns : goal.returns
returns c =
    let s : State = c.args.market.now in
    let all : c.loop-index.index ≡ s.levels = omega arith in
    record {
      exact = c.loop-index.invariant.0
          ∙ ap (λ n. sum_by (demand s) (range_with_len 1 n)) all
          ∙ demands-total s (λ demands are. c.bound_is_given_out.ensures.asked s demands c.levels-index-end.ensures.leveled are);
    }
