use Rattle.std.specs.Prelude.{◌&&◌}
use Rattle.std.proofs.Common.{◌≡◌, ◌<◌, ◌≤◌, ◌-◌, Bool, Some, true, false, ltb, refl, sym, ap, subst, ◌∙◌, arith, inl, inr}
use Rattle.std.proofs.lemmas.Bool.{cases_lt, eq-eqb, le-ltb, lt-ltb, ne_eqb}
use Rattle.market_types.specs.State.{Arena, State}
use Rattle.market_types.specs.Claims.{request_of}
use Rattle.market_types.specs.Allotment.{demand, is_just, is_top, top_level}
use Rattle.arena_store.specs.Arenas.{IsFound, StandOnce}
use Rattle.market_core.specs.Divided.{asked_before}
use Rattle.market_core.proofs.Allotted.{request-within}
use Rattle.market_core.proofs.Shares.{top-first, top-later}
use Rattle.market_core.proofs.market.Market.is_top.Goals as goal

-- an arena that asks for workers, and before whose level none does, is top priority
asks-first : (s : State) (row : Arena) → IsFound row.number row s.arenas → (1 ≤ row.level) × (row.level ≤ s.levels) → asked_before s (row.level - 1) ≡ 0 → ltb 0 (request_of row.claim) ≡ is_top s row
asks-first s row found level none = elim (cases_lt 0 (request_of row.claim)) [
  | inl asks ↦
      let some : 0 < demand s row.level = omega (arith, asks, request-within row.number row s.arenas found) in
      let top : top_level s ≡ Some row.level = top-first s (row.level - 1) row.level (omega (arith, level.0)) level.1 none some in
      let here : is_just row.level (top_level s) ≡ true = ap (is_just row.level) top ∙ eq-eqb row.level row.level refl in
      sym (rw (here, lt-ltb 0 (request_of row.claim) asks) refl)
  | inr idle ↦ rw (le-ltb 0 (request_of row.claim) idle) refl
]

and-false : (b : Bool) → (b && false) ≡ false
and-false true = refl
and-false false = refl

pub returns-then-asked-eq0 : goal.returns-then-asked-eq0
returns-then-asked-eq0 c =
    let s : State = c.args.self.now in
    let row : Arena = c.args.stored in
    let once : StandOnce s.arenas = subst (λ (t : State). StandOnce t.arenas) c.self.view_is c.stand_once.ensures in
    let none : asked_before s (row.level - 1) ≡ 0 = sym c.requires.asked ∙ c.if-asked-eq0.true in
    ap (ltb 0) (c.request.ensures.exact ∙ ap request_of c.claim.ensures)
    ∙ asks-first s row (once.found row.number row c.requires.there) (c.arenas_are_leveled.ensures row c.requires.there) none

pub returns-else-asked-eq0 : goal.returns-else-asked-eq0
returns-else-asked-eq0 c =
    let s : State = c.args.self.now in
    let row : Arena = c.args.stored in
    let level : (1 ≤ row.level) × (row.level ≤ s.levels) = c.arenas_are_leveled.ensures row c.requires.there in
    let later : is_just row.level (top_level s) ≡ false = top-later s (row.level - 1) row.level (omega (arith, level.0)) level.1 (omega (arith, c.requires.asked, c.if-asked-eq0.false)) in
    ne_eqb c.args.asked 0 c.if-asked-eq0.false ∙ sym (rw later (and-false (ltb 0 (request_of row.claim))))
