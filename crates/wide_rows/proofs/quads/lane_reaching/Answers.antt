use Rattle.std.proofs.Common.{◌≡◌, ℕ, ◌+◌, ◌-◌, ◌*◌, ◌^◌, ◌<◌, ◌≤◌, ◌∙◌, ap, subst, sym, arith}
use Rattle.std.proofs.lemmas.Nat.{mul-le}
use Rattle.market_types.specs.declared.row.Row.{Row}
use Rattle.market_types.specs.Rows.{requests}
use Rattle.wide_rows.specs.Leaves.{lane}
use Rattle.wide_rows.specs.Passed.{rows_from}
use Rattle.wide_rows.proofs.Reaching.{IsReaching, reaching_one, reaching_no, reaching_small}
use Rattle.wide_rows.proofs.quads.lane_reaching.Goals.{then-lane-count, else-lane-count, then-behind-demand, else-behind-demand}
use Rattle.wide_rows.proofs.quads.lane_reaching.Goals as goal

pub overflow_add-behind : goal.overflow_add-behind
overflow_add-behind c =
    let a = c.args in
    let l = c.loop-lane in
    let f : ℕ → Row = λ i. lane a.columns.now (a.first + i) in
    let most = mul-le a.workers (requests (rows_from a.columns.now a.first a.count)) (2 ^ 31) (2 ^ 32) (omega (arith, c.requires.few)) (omega (arith, c.requires.asked)) in
    elim c.if-lane-count.branch [
      | then-lane-count w ↦
          let row : c.from.result ≡ (f (l.lane - 1)).request = c.from.ensures ∙ w.request-is in
          omega (
            arith,
            most,
            c.requires.low,
            c.requires.small,
            ap (λ n. a.workers * n) row,
            reaching_small a.workers a.demand f a.count l.lane a.carry l.place l.behind (omega (arith, c.loop-lane-test.true)) w.if-lane-count.true l.invariant.sought,
          )
      | else-lane-count w ↦
          let none : c.from.result ≡ 0 = c.from.ensures ∙ w.request-is in
          omega (arith, l.auto.behind-fits, ap (λ n. a.workers * n) none)
    ]

pub loop-lane-preserved : goal.loop-lane-preserved
loop-lane-preserved c =
    let a = c.args in
    let l = c.loop-lane in
    let f : ℕ → Row = λ i. lane a.columns.now (a.first + i) in
    let place : ℕ = c.if-behind-demand.place in
    let picked : l.behind < a.demand → place ≡ l.lane - 1 = λ low. elim c.if-behind-demand.branch [
      | then-behind-demand w ↦ w.place-is
      | else-behind-demand w ↦ absurd (omega (arith, low, w.if-behind-demand.false))
    ] in
    let kept : a.demand ≤ l.behind → place ≡ l.place = λ enough. elim c.if-behind-demand.branch [
      | then-behind-demand w ↦ absurd (omega (arith, enough, w.if-behind-demand.true))
      | else-behind-demand w ↦ w.place-is
    ] in
    record {
      few = omega (arith, l.invariant.few);
      sought = elim c.if-lane-count.branch [
        | then-lane-count w ↦
            let row : (f (l.lane - 1)).request ≡ c.from.result = sym (c.from.ensures ∙ w.request-is) in
            subst (λ n. IsReaching a.workers a.demand f a.count (l.lane - 1) a.carry place (l.behind + a.workers * n)) row
            (reaching_one a.workers a.demand f a.count l.lane a.carry l.place place l.behind (omega (arith, c.loop-lane-test.true)) w.if-lane-count.true picked kept l.invariant.sought)
        | else-lane-count w ↦
            reaching_no a.workers a.demand f a.count l.lane a.carry l.place place l.behind c.from.result (omega (arith, w.if-lane-count.false)) kept (c.from.ensures ∙ w.request-is) l.invariant.sought
      ];
    }
