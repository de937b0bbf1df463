use Rattle.std.specs.Prelude.{slice_index}
use Rattle.std.proofs.Common.{◌-◌, ap, arith, sym, ◌∙◌, ◌≡◌, ◌≤◌, ℕ, Some}
use Rattle.market_types.specs.State.{Arena, State}
use Rattle.market_types.specs.Step.{arena_at}
use Rattle.market_core.proofs.Allotted.{allotment_of-missing}
use Rattle.market_core.proofs.Numbers.{All-found}
use Rattle.market_core.proofs.market.Market.allotment_by.Goals as goal

pub returns-in_default : goal.returns-in_default
returns-in_default c =
    let missing = sym c.get.ensures.exact ∙ c.in_default.is in
    sym (allotment_of-missing c.args.self.now c.args.arena (ap (λ (s : State). arena_at c.args.arena s.arenas) (sym c.self.view_is) ∙ missing))

pub carried_to-requires-clause-shared : goal.carried_to-requires-clause-shared
carried_to-requires-clause-shared c =
    let s : State = c.args.self.now in
    let d = c.args.division.now in
    let row : Arena = c.in-Some.stored in
    let there : arena_at row.number s.arenas ≡ Some row =
    ap (λ n. arena_at n s.arenas) c.in-Some.ensures.number ∙ ap (λ (t : State). arena_at c.args.arena t.arenas) (sym c.self.view_is) ∙ sym c.get.ensures.exact ∙ c.in-Some.is in
    let level : (1 ≤ row.level) × (row.level ≤ s.levels) = All-found (λ (a : Arena). (1 ≤ a.level) × (a.level ≤ s.levels)) row.number s.arenas row there c.requires.leveled in
    let place : c.level.result - 1 ≡ row.level - 1 = ap (λ (n : ℕ). n - 1) c.level.ensures in
    let given : c.share_at.result.assigned ≡ slice_index d.assigned.values (row.level - 1) = c.share_at.ensures.assigned ∙ ap (slice_index d.assigned.values) place in
    let asked : c.share_at.result.demand ≡ slice_index d.demands.values (row.level - 1) = c.share_at.ensures.demand ∙ ap (slice_index d.demands.values) place in
    record {
      once = c.requires.once;
      leveled = c.requires.leveled;
      some = omega (arith, c.requires.limit, c.if-division-eq0.false);
      low = level.0;
      high = level.1;
      assigned = given ∙ c.requires.assigned row.level level.0 level.1;
      demand = asked ∙ c.requires.demands.levels row.level level.0 level.1;
      within = omega (arith, given, asked, c.requires.within (row.level - 1));
      small = omega (arith, asked, c.requires.small (row.level - 1));
    }
