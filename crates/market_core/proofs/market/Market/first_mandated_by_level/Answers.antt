use Rattle.std.proofs.Common.{rules, ℕ, ◌+◌, ◌<◌, ◌≤◌, ◌≡◌, Option, None, List, length, get_or, set, inl, inr, arith, ap, sym, ◌∙◌}
use Rattle.std.specs.List.{find}
use Rattle.std.proofs.lemmas.Bool.{cases_eq}
use Rattle.std.proofs.lemmas.List.{get_or-set_same, get_or-set_other}
use Rattle.market_types.specs.State.{State, Arena}
use Rattle.market_types.specs.Claims.{is_mandated}
use Rattle.allotment.specs.Levels.{number_of}
use Rattle.market_types.specs.Allotment.{at_level}
use Rattle.market_core.specs.Visits.{least_picked}
use Rattle.market_core.proofs.Meters.{node-alone, picked-next, picked-alone}
use Rattle.market_core.proofs.market.Market.first_mandated_by_level.Goals as goal

-- one level more has its pick
next-pick : (picks : List (Option ℕ)) (i : ℕ) (o : Option ℕ) (P : ℕ → Option ℕ) → i < length picks → ((k : ℕ) → k < i → get_or picks k None ≡ P k) → o ≡ P i → (k : ℕ) → k < i + 1 → get_or (set picks i o) k None ≡ P k
next-pick picks i o P within so_far here k l = elim (cases_eq k i) [
  | inl e ↦ ap (λ j. get_or (set picks i o) j None) e ∙ get_or-set_same picks i o None within ∙ here ∙ ap P (sym e)
  | inr ne ↦ get_or-set_other picks i k o None ne ∙ so_far k (omega (arith, l, ne))
]

pub loop-index-preserved : goal.loop-index-preserved
loop-index-preserved c =
    let arenas = c.self.inside.arenas in
    let i = c.loop-index.invariant in
    let here = c.first_mandated-pick.ensures in
    let index = c.loop-index.index in
    record {
      exact =
          let within : index < length c.loop-index.picks = search rules in
          next-pick c.loop-index.picks index c.first_mandated-pick.result (λ k. number_of (find (λ (a : Arena). is_mandated a.claim) (at_level (k + 1) arenas))) within i.exact
          (here.exact ∙ ap (λ level. number_of (find (λ (a : Arena). is_mandated a.claim) (at_level level arenas))) c.from_index.ensures);
      above = search rules;
      least = picked-next arenas index c.from_index.result c.loop-index.visits c.first_mandated-pick.new.visits c.from_index.ensures i.least here.entered;
      alone = λ few.
          let short : length (at_level c.from_index.result arenas) ≤ 12 = few c.from_index.result in
          let counted = here.alone short in
          picked-alone arenas index c.from_index.result c.loop-index.visits c.first_mandated-pick.new.visits c.from_index.ensures (i.alone few) (omega (arith, counted, node-alone (length (at_level c.from_index.result arenas)) short));
      visits = search rules;
      few = search rules;
    }

pub returns-clause-alone : goal.returns-clause-alone
returns-clause-alone c few =
    let s = c.args.self.now in
    let arenas : c.self.inside.arenas ≡ s.arenas = ap (λ (t : State). t.arenas) c.self.view_is in
    let levels : c.self.inside.opening.levels ≡ s.levels = ap (λ (t : State). t.levels) c.self.view_is in
    let all : c.loop-index.index ≡ s.levels = omega (arith, levels, c.loop-index-test.false, c.loop-index.auto.index-end) in
    c.loop-index.invariant.alone (rw arenas few) ∙ ap (λ xs. least_picked xs c.loop-index.index) arenas ∙ ap (least_picked s.arenas) all
