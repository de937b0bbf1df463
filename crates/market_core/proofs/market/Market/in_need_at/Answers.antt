use Rattle.std.proofs.Common.{arith, sym, ap, subst, ◌∙◌, ◌≡◌, ℕ, ◌+◌, ◌≤◌, ◌*◌, List, length}
use Rattle.std.proofs.lemmas.List.{length-map}
use Rattle.std.proofs.Math.Nat.{mul-le-mul_left}
use Rattle.market_types.specs.State.{State}
use Rattle.market_types.specs.Allotment.{assigned, at_level, total_request}
use Rattle.arena_store.specs.Arenas.{level_row, level_rows}
use Rattle.arena_store.specs.Bits.{bits}
use Rattle.recall_hire.specs.declared.rows.Staffing.{Staffing}
use Rattle.recall_hire.specs.declared.sharing.Sharing.TheVariants.{Carried}
use Rattle.recall_hire.specs.Shared.{staffed}
use Rattle.recall_hire.specs.Staffed.{first_in_need, row_of, searches}
use Rattle.market_core.specs.Divided.{rows_at}
use Rattle.market_core.proofs.LevelWalk.{Shared, walk-of}
use Rattle.market_core.proofs.InNeed.{need-rows}
use Rattle.market_core.proofs.market.Market.in_need_at.Goals as goal
use Rattle.market_core.proofs.market.Market.in_need_at.Goals.{After-first_in_need}

module _ (c : After-first_in_need) where
  shared : Shared c.args.self.now
  shared = record { stand = c.requires.shared.once; leveled = c.requires.shared.leveled; some = c.requires.shared.some; whole = c.no_carry_to_keep.ensures.after_a_level c.args.self.now (assigned c.args.self.now) }

  walk : staffed (Carried c.args.part.assigned c.args.part.demand) c.self.inside.roster 0 c.whole.result.0 ≡ rows_at c.args.self.now c.args.level
  walk =
      walk-of c.args.self.now c.args.level c.args.part.assigned c.args.part.demand c.self.inside.roster c.whole.result.0
      shared c.requires.shared.assigned c.requires.shared.demand (ap (λ (t : State). t.seats) c.self.view_is) (c.whole.ensures.rows ∙ ap (λ (t : State). level_rows c.args.level t.arenas) c.self.view_is)

pub first_in_need-requires-clause-few : goal.first_in_need-requires-clause-few
first_in_need-requires-clause-few c = c.whole.ensures.short

pub first_in_need-requires-clause-room : goal.first_in_need-requires-clause-room
first_in_need-requires-clause-room c =
    let few : length c.args.self.now.arenas ≤ 1024 = subst (λ (t : State). length t.arenas ≤ 1024) c.self.view_is c.whole.ensures.few in
    omega (arith, few, c.requires.room, c.whole.ensures.short)

same-le : (n m : ℕ) → n ≡ m → n ≤ m
same-le n m e = omega arith

pub first_in_need-requires-clause-within : goal.first_in_need-requires-clause-within
first_in_need-requires-clause-within c = c.requires.shared.within

pub first_in_need-requires-clause-small : goal.first_in_need-requires-clause-small
first_in_need-requires-clause-small c = c.requires.shared.small

pub first_in_need-requires-clause-part : goal.first_in_need-requires-clause-part
first_in_need-requires-clause-part c =
    same-le _ _ (c.whole.ensures.asked
    ∙ ap (λ (t : State). total_request (at_level c.args.level t.arenas)) c.self.view_is
    ∙ sym c.requires.shared.demand)

pub returns-clause-exact : goal.returns-clause-exact
returns-clause-exact c =
    let here = (goal.at.returns-clause-exact c).After-first_in_need in
    c.first_in_need.ensures.exact ∙ ap first_in_need (walk here) ∙ need-rows c.args.self.now (at_level c.args.level c.args.self.now.arenas)

pub returns-clause-looked : goal.returns-clause-looked
returns-clause-looked c =
    let here = (goal.at.returns-clause-looked c).After-first_in_need in
    subst (λ (rows : List Staffing). c.args.visits.now + searches rows ≤ c.first_in_need.new.visits) (walk here) c.first_in_need.ensures.looked

pub returns-clause-once : goal.returns-clause-once
returns-clause-once c =
    let arenas = at_level c.args.level c.args.self.now.arenas in
    let rows = c.whole.ensures.rows ∙ ap (λ (t : State). level_rows c.args.level t.arenas) c.self.view_is in
    subst (λ (n : ℕ). c.first_in_need.new.visits ≤ c.args.visits.now + n) (ap length rows ∙ length-map arenas level_row ∙ sym (length-map arenas (row_of c.args.self.now))) c.first_in_need.ensures.once

pub returns-clause-few : goal.returns-clause-few
returns-clause-few c = subst (λ (t : State). length t.arenas ≤ 1024) c.self.view_is c.whole.ensures.few

pub returns-clause-most : goal.returns-clause-most
returns-clause-most c =
    let here = (goal.at.returns-clause-most c).After-first_in_need in
    let looked = searches (rows_at c.args.self.now c.args.level) in
    let height : c.whole.result.1 ≤ 2 * bits (length c.args.self.now.arenas) = subst (λ (t : State). c.whole.result.1 ≤ 2 * bits (length t.arenas)) c.self.view_is c.whole.ensures.height in
    omega (arith, c.first_in_need.ensures.most, ap (λ n. c.whole.result.1 * n) (ap searches (walk here)), mul-le-mul_left looked height)
