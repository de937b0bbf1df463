use Rattle.std.specs.List.{range_with_len}
use Rattle.std.proofs.Common.{◌≡◌, ℕ, ◌+◌, [], ◌∷◌, ◌++◌, length, get_or, take, refl, sym, ap, ◌∙◌, arith}
use Rattle.std.proofs.lemmas.List.{map-id, take_all, take_more}
use Rattle.std.proofs.lemmas.List.FromFn.{map-range_with_len_more}
use Rattle.journal_chart.proofs.numbering.numbering.Goals as goal

-- one number more
range-more : (a n : ℕ) → range_with_len a (n + 1) ≡ range_with_len a n ++ (a + n) ∷ []
range-more a n =
    sym (map-id (range_with_len a (n + 1))) ∙ map-range_with_len_more (λ k. k) a n (a + n) refl ∙ ap (λ ns. ns ++ (a + n) ∷ []) (map-id (range_with_len a n))

pub loop-index-preserved : goal.loop-index-preserved
loop-index-preserved c =
    let i = c.loop-index.index in
    let first = c.get-first.result in
    let here : get_or c.args.arenas.now i c.index-arenas-index.result ≡ first + i =
    omega (arith, c.index-arenas-index.is, c.if-from-index.false, c.from.ensures, c.get.ensures, c.from-in-loop-index.ensures) in
    take_more c.args.arenas.now i c.index-arenas-index.result (omega arith)
    ∙ (λ j. c.loop-index.invariant j ++ here j ∷ [])
    ∙ sym (range-more first i)

pub returns : goal.returns
returns c =
    let n : ℕ = length c.args.arenas.now in
    let all : c.loop-index.index ≡ n = omega arith in
    sym (take_all n c.args.arenas.now (omega arith)) ∙ (λ j. take (sym all j) c.args.arenas.now) ∙ c.loop-index.invariant ∙ ap (range_with_len c.get-first.result) all
