use Rattle.std.proofs.Common.{rules, ◌≡◌, ◌<◌, ◌++◌, [], ◌∷◌, ℕ, List, Some, subst}
use Rattle.std.proofs.lemmas.List.Elements.{All-pop}
use Rattle.std.specs.Prelude.{All}
use Rattle.market_lock.specs.Seen.{OfOffice, OfPass}
use Rattle.market_seat.specs.Seated.{IsFresh}
use Rattle.market_seat.proofs.Fresh.{all-fresh}
use Rattle.market_seat.proofs.seat.Seat.open.Goals as goal

pub invariant_of-result : goal.invariant_of-result
invariant_of-result c =
    let passes : List OfPass = c.in_ok-office.passes.items in
    let Own : OfPass → Type 0 = λ p. p.table ≡ c.in-Ok.office.value.table in
    let same : c.in_ok-office.office ≡ c.in-Ok.office.value = search rules in
    let is : passes ≡ c.pop.new.self.items ++ c.in-Some.pass ∷ [] = search rules in
    let own : All Own passes = subst (λ (o : OfOffice). All (λ (p : OfPass). p.table ≡ o.table) passes) same c.in_ok-office.ensures.own in
    let parts = All-pop Own passes c.pop.new.self.items (Some c.in-Some.pass) is own in
    let terms : c.in-Ok.office.value.terms ≡ c.args.terms = subst (λ (o : OfOffice). o.terms ≡ c.args.terms) same c.in_ok-office.ensures.terms in
    (parts.1, parts.0, terms)

pub returns-in-Some-clause-fresh : goal.returns-in-Some-clause-fresh
returns-in-Some-clause-fresh c =
    let passes = c.in_ok-office.passes.items in
    let same : c.in_ok-office.office ≡ c.in-Ok.office.value = search rules in
    let is : passes ≡ c.pop.new.self.items ++ c.in-Some.pass ∷ [] = search rules in
    let all : All (IsFresh c.in_ok-office.office) passes = all-fresh c.in_ok-office.office passes (λ k h. c.in_ok-office.ensures.passes k (subst (λ (n : ℕ). k < n) c.in_ok-office.ensures.one_for_each h)) in
    subst (λ (xs : List OfPass). All (IsFresh c.in-Ok.office.value) xs) is (subst (λ (o : OfOffice). All (IsFresh o) passes) same all)
