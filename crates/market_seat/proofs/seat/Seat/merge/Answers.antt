use Rattle.std.proofs.Common.{rules, ◌≡◌, List, ◌++◌, ◌∷◌, [], subst, sym}
use Rattle.std.proofs.lemmas.List.Elements.{All-push, All-append}
use Rattle.std.specs.Arc.{arc_value}
use Rattle.std.specs.Prelude.{All}
use Rattle.market_lock.specs.Seen.{OfPass}
use Rattle.market_seat.proofs.seat.Seat.merge.Goals as goal

pub invariant_of-self-2 : goal.invariant_of-self-2
invariant_of-self-2 c =
    let ours : List OfPass = c.self.inside.spare.items in
    let theirs : List OfPass = c.other.inside.spare.items in
    let Own : OfPass → Type 0 = λ p. p.table ≡ (arc_value c.self.inside.office).table in
    let office : arc_value c.other.inside.office ≡ arc_value c.self.inside.office = search rules in
    let own_ours : All Own ours = c.self.invariant.1 in
    let own_theirs : All Own theirs = subst (λ o. All (λ (p : OfPass). p.table ≡ o.table) theirs) office c.other.invariant.1 in
    let own_pass : Own c.in-Free.pass = search rules in
    let is : c.push_reserved.new.self.items ≡ (ours ++ theirs) ++ c.in-Free.pass ∷ [] = search rules in
    (c.self.invariant.0, subst (All Own) (sym is) (All-push Own (ours ++ theirs) c.in-Free.pass (All-append Own ours theirs own_ours own_theirs) own_pass), c.self.invariant.2)
