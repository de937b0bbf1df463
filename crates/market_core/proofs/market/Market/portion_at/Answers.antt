use Rattle.std.proofs.Common.{◌*◌, ◌-◌, ap, arith, eqb, min, subst, sym, ◌∙◌, ◌≡◌, ◌≢◌, ◌≤◌, Some}
use Rattle.std.proofs.lemmas.Bool.{eq-eqb, eqb-true, true≢false}
use Rattle.market_types.specs.Allotment.{assigned, at_level, demand, total_request}
use Rattle.market_types.specs.State.{Arena, State}
use Rattle.market_types.specs.Step.{arena_at}
use Rattle.arena_store.specs.Arenas.{StandOnce}
use Rattle.market_core.specs.Ahead.{asked_ahead}
use Rattle.market_core.specs.Divided.{left_after}
use Rattle.market_core.specs.Sound.{IsSound}
use Rattle.market_core.proofs.Ahead.{asked_ahead-nobody, asked_ahead-other}
use Rattle.market_core.proofs.Shares.{level-assigned}
use Rattle.market_core.proofs.market.Market.portion_at.Goals as goal
use Rattle.market_core.proofs.market.Market.portion_at.Goals.{in_default-via-in-Some+else-eq, in_default-via-in_default}

pub portion_of-requires-clause-shared : goal.portion_of-requires-clause-shared
portion_of-requires-clause-shared c =
    let s : State = c.args.self.now in
    let row : Arena = c.in-Some.own in
    let sound : IsSound s = rw c.self.view_is at c.self.invariant.sound in
    let here : row.level ≡ c.args.level = eqb-true row.level c.args.level (ap (λ l. eqb l c.args.level) (sym c.level.ensures) ∙ sym c.eq.ensures ∙ c.if-eq.true) in
    let there : arena_at row.number s.arenas ≡ Some row =
    ap (λ n. arena_at n s.arenas) c.in-Some.ensures.number ∙ ap (λ (t : State). arena_at c.args.arena t.arenas) (sym c.self.view_is) ∙ sym c.get.ensures.exact ∙ c.in-Some.is in
    let level : (1 ≤ row.level) × (row.level ≤ s.levels) = c.arenas_are_leveled.ensures row there in
    let high : c.args.level ≤ s.levels = omega (arith, here, level.1) in
    let given : c.args.given ≡ assigned s row.level = c.requires.given high ∙ ap (assigned s) (sym here) in
    let asked : c.args.asked ≡ demand s row.level = c.requires.asked high ∙ ap (demand s) (sym here) in
    let few : demand s row.level ≤ 1024 * 65535 = omega (arith, c.demand.ensures.exact, c.demand.ensures.small, ap (demand s) here) in
    let part : assigned s row.level ≡ min (demand s row.level) (left_after s (row.level - 1)) =
    level-assigned s row.level (λ demands. c.bound_is_given_out.ensures.asked s demands sound.leveled) c.requires.some level.0 level.1 in
    record {
      once = subst (λ (t : State). StandOnce t.arenas) c.self.view_is c.stand_once.ensures;
      leveled = sound.leveled;
      some = c.requires.some;
      low = level.0;
      high = level.1;
      assigned = given;
      demand = asked;
      within = omega (arith, given, asked, part);
      small = omega (arith, asked, few);
    }

pub returns-in_default-clause-before : goal.returns-in_default-clause-before
returns-in_default-clause-before c =
    let s : State = c.args.self.now in
    let once : StandOnce s.arenas = subst (λ (t : State). StandOnce t.arenas) c.self.view_is c.stand_once.ensures in
    let got : c.get.result ≡ arena_at c.args.arena s.arenas = c.get.ensures.exact ∙ ap (λ (t : State). arena_at c.args.arena t.arenas) c.self.view_is in
    let all : asked_ahead c.args.arena (at_level c.args.level s.arenas) ≡ total_request (at_level c.args.level s.arenas) =
    elim c.in_default.branch [
      | in_default-via-in-Some+else-eq w ↦
          let row : Arena = w.in-Some.own in
          let there : arena_at c.args.arena s.arenas ≡ Some row = sym got ∙ w.in-Some.is in
          let apart : row.level ≢ c.args.level =
          λ e. true≢false (sym (eq-eqb row.level c.args.level e) ∙ ap (λ l. eqb l c.args.level) (sym w.level.ensures) ∙ sym w.eq.ensures ∙ w.if-eq.false) in
          asked_ahead-other c.args.arena c.args.level row s.arenas (once.found c.args.arena row there) apart
      | in_default-via-in_default w ↦ asked_ahead-nobody c.args.arena c.args.level s.arenas (sym got ∙ w.in_default.is)
    ] in
    c.demand-in_default.ensures.exact ∙ sym all
