use Rattle.std.proofs.lemmas.Option.{get_or_from_slice_get}
use Rattle.std.proofs.Common.{arith, refl, sym, ap, ◌∙◌, ◌≡◌, ◌-◌, ◌<◌, eqb, true, false, Some, None}
use Rattle.market_types.specs.State.{State}
use Rattle.market_types.specs.Allotment.{assigned, limit_of}
use Rattle.market_types.specs.Step.{arena_at}
use Rattle.market_core.proofs.Assigned.{level-shared, division-assigned, level-unserved, level-missing, level-picked}
use Rattle.market_core.proofs.market.Market.assigned.Goals as goal

pub returns-then-division-gt0-clause-assigned : goal.returns-then-division-gt0-clause-assigned
returns-then-division-gt0-clause-assigned c =
    let s = c.args.self.now in
    let d = c.divide.result in
    λ some. sym (get_or_from_slice_get d.assigned.values (c.args.level - 1) c.at.result 0 c.at.ensures.exact)
    ∙ division-assigned s d c.args.level c.divide.ensures.exact c.divide.ensures.exact.leveled (omega arith) (c.bound_is_given_out.ensures.in_a_level s c.args.level (omega arith))

pub returns-then-division-gt0-clause-exact : goal.returns-then-division-gt0-clause-exact
returns-then-division-gt0-clause-exact c =
    let s = c.args.self.now in
    let d = c.divide.result in
    let some : 0 < limit_of s = omega (arith, c.divide.ensures.exact.limit, c.if-division-gt0.true) in
    let given = c.bound_is_given_out.ensures.in_a_level s c.args.level (omega arith) in
    sym (get_or_from_slice_get d.assigned.values (c.args.level - 1) c.at.result 0 c.at.ensures.exact)
    ∙ division-assigned s d c.args.level c.divide.ensures.exact c.divide.ensures.exact.leveled (omega arith) given
    ∙ sym (level-shared s c.args.level c.divide.ensures.exact.once c.divide.ensures.exact.leveled some (c.no_carry_to_keep.ensures.after_a_level s (assigned s)) given)

pub returns-in_default-clause-exact : goal.returns-in_default-clause-exact
returns-in_default-clause-exact c =
    let s = c.args.self.now in
    let none : limit_of s ≡ 0 = omega (arith, c.divide.ensures.exact.limit, c.if-division-gt0.false) in
    sym (level-unserved s c.args.level none (sym (c.divide.ensures.exact.picked none) ∙ c.in_default.is))

pub returns-in-Some-get-clause-exact : goal.returns-in-Some-get-clause-exact
returns-in-Some-get-clause-exact c =
    let s = c.args.self.now in
    let row = c.in-Some-get.stored in
    let none : limit_of s ≡ 0 = omega (arith, c.divide.ensures.exact.limit, c.if-division-gt0.false) in
    let there : arena_at c.in-Some.picked s.arenas ≡ Some row = ap (λ (s : State). arena_at c.in-Some.picked s.arenas) (sym c.self.view_is) ∙ sym c.get.ensures.exact ∙ c.in-Some-get.is in
    let same : eqb row.level c.args.level ≡ true = ap (λ l. eqb l c.args.level) (sym c.level.ensures) ∙ sym c.eq.ensures ∙ c.if-eq.true in
    c.from.ensures ∙ c.divide.ensures.exact.bound
    ∙ sym (level-picked s c.args.level c.in-Some.picked row c.divide.ensures.exact.once none (sym (c.divide.ensures.exact.picked none) ∙ c.in-Some.is) there ∙ rw same refl)

pub returns-in_default-get-clause-exact : goal.returns-in_default-get-clause-exact
returns-in_default-get-clause-exact c =
    let s = c.args.self.now in
    let row = c.in-Some-get.stored in
    let none : limit_of s ≡ 0 = omega (arith, c.divide.ensures.exact.limit, c.if-division-gt0.false) in
    let there : arena_at c.in-Some.picked s.arenas ≡ Some row = ap (λ (s : State). arena_at c.in-Some.picked s.arenas) (sym c.self.view_is) ∙ sym c.get.ensures.exact ∙ c.in-Some-get.is in
    let other : eqb row.level c.args.level ≡ false = ap (λ l. eqb l c.args.level) (sym c.level.ensures) ∙ sym c.eq.ensures ∙ c.if-eq.false in
    sym (level-picked s c.args.level c.in-Some.picked row c.divide.ensures.exact.once none (sym (c.divide.ensures.exact.picked none) ∙ c.in-Some.is) there ∙ rw other refl)

pub returns-in_default-get-2-clause-exact : goal.returns-in_default-get-2-clause-exact
returns-in_default-get-2-clause-exact c =
    let s = c.args.self.now in
    let none : limit_of s ≡ 0 = omega (arith, c.divide.ensures.exact.limit, c.if-division-gt0.false) in
    let missing : arena_at c.in-Some.picked s.arenas ≡ None = ap (λ (s : State). arena_at c.in-Some.picked s.arenas) (sym c.self.view_is) ∙ sym c.get.ensures.exact ∙ c.in_default-get.is in
    sym (level-missing s c.args.level c.in-Some.picked none (sym (c.divide.ensures.exact.picked none) ∙ c.in-Some.is) missing)
