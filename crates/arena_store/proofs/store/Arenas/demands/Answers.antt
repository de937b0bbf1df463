use Rattle.std.proofs.Common.{arith, ap, sym, inl, inr, ◌≡◌, ◌∙◌, ◌+◌, get_or, set}
use Rattle.std.proofs.lemmas.Bool.{cases_eq}
use Rattle.std.proofs.lemmas.List.{get_or-set_same, get_or-set_other, length-set}
use Rattle.market_types.specs.Allotment.{total_request, at_level}
use Rattle.arena_store.proofs.store.Arenas.demands.Goals as goal

pub loop-index-preserved : goal.loop-index-preserved
loop-index-preserved c =
    let i = c.loop-index.index in
    let ds = c.loop-index.demands in
    let here : get_or (set ds i c.demand.result) i 0 ≡ c.demand.result = get_or-set_same ds i c.demand.result 0 (let size = c.loop-index.invariant.size in let below = c.loop-index-test.true in omega arith) in
    record {
      size = length-set ds i c.demand.result ∙ c.loop-index.invariant.size;
      exact = λ k below. elim (cases_eq k i) [
        | inl e ↦ ap (λ n. get_or (set ds i c.demand.result) n 0) e ∙ here ∙ c.demand.ensures.exact ∙ ap (λ n. total_request (at_level n c.args.self.now)) (c.from_index.ensures ∙ ap (λ n. n + 1) (sym e))
        | inr m ↦ get_or-set_other ds i k c.demand.result 0 m ∙ c.loop-index.invariant.exact k (omega arith)
      ];
      small = λ k. elim (cases_eq k i) [
        | inl e ↦ let same = ap (λ n. get_or (set ds i c.demand.result) n 0) e ∙ here in omega (arith, same, c.demand.ensures.small)
        | inr m ↦ let same = get_or-set_other ds i k c.demand.result 0 m in omega (arith, same, c.loop-index.invariant.small k)
      ];
    }
