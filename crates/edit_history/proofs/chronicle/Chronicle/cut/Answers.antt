use Rattle.std.specs.Prelude.{vec_capacity}
use Rattle.std.proofs.Common.{◌≡◌, ℕ, ◌<◌, ◌≤◌, ◌++◌, [], List, length, refl, ap, sym, ◌∙◌, subst, arith, Vec, Global}
use Rattle.std.proofs.lemmas.List.{append-nil}
use Rattle.market_types.specs.declared.reply.Entry.{Entry}
use Rattle.edit_history.specs.Chronicled.{Chronicled, market_of, most_forgotten}
use Rattle.edit_history.specs.Places.{placed}
use Rattle.edit_history.proofs.KeptAfter.{kept-long, kept-forget}
use Rattle.edit_history.proofs.chronicle.Chronicle.cut.Goals.{After-len-end, After-placed, After-replace-entries}
use Rattle.edit_history.proofs.chronicle.Chronicle.cut.Goals as goal

not-both : (n m : ℕ) → n < m → m ≤ n → ⊥
not-both n m less most = omega arith

-- the seats that contracts see placed
placed-is : (c : After-placed) → c.placed.result ≡ placed (market_of c.args.self.now)
placed-is c = c.placed.ensures.exact ∙ ap placed (c.self.invariant.market_is ∙ ap market_of c.self.view_is)

-- nothing is kept, and the history ends where it did
none-kept : (c : After-replace-entries) → c.replace-entries.new.dest.items ≡ []
none-kept c = ap (λ (v : Vec Entry Global). v.items) c.replace-entries.ensures.after ∙ c.clear.ensures.items

from-is : (c : After-replace-entries) → c.replace-from.new.dest ≡ length (c.self.inside.past ++ c.self.inside.recent.items)
from-is c = c.replace-from.ensures.after ∙ c.len-end.ensures.exact ∙ ap (λ (d : Chronicled). length d.log) (sym c.self.view_is)

pub returns-then-end-gt-MOST_FORGOTTEN-clause-served :
    goal.returns-then-end-gt-MOST_FORGOTTEN-clause-served
returns-then-end-gt-MOST_FORGOTTEN-clause-served c =
    λ _ few. absurd (not-both _ _ (subst (λ (n : ℕ). most_forgotten < n) c.len-end.ensures.exact c.if-end-gt-MOST_FORGOTTEN.true) few)

pub returns-then-capacity-placed-clause-served : goal.returns-then-capacity-placed-clause-served
returns-then-capacity-placed-clause-served c =
    let at = (goal.at.returns-then-capacity-placed-clause-served c).After-placed in
    λ room _. absurd (not-both _ _ (subst (λ (z : ℕ × ℕ). z.0 < z.1) (λ i. (c.capacity.ensures i, placed-is at i)) c.if-capacity-placed.true) room)

pub invariant_of-self : goal.invariant_of-self
invariant_of-self c =
    let at = (goal.at.invariant_of-self c).After-replace-entries in
    let capacity : vec_capacity c.replace-entries.new.dest ≡ vec_capacity c.args.spare = ap (λ (v : Vec Entry Global). vec_capacity v) c.replace-entries.ensures.after ∙ c.clear.ensures.capacity in
    let end = c.replace-from.ensures.after in
    let held : placed c.self.inside.market ≤ vec_capacity c.replace-entries.new.dest = subst (λ (z : ℕ × ℕ). z.0 ≤ z.1) (λ i. (c.placed.ensures.exact i, (c.capacity.ensures ∙ sym capacity) i)) c.if-capacity-placed.false in
    kept-forget _ _ _ _ _ _ _ c.self.invariant _ _ _ _ c.append.ensures (none-kept at) (from-is at ∙ kept-long _ _ _ _ _ _ _ c.self.invariant) (omega (arith, end, c.if-end-gt-MOST_FORGOTTEN.false, c.self.invariant.few)) held

pub returns-clause-part : goal.returns-clause-part
returns-clause-part c =
    (c.self.inside.past, ap (λ (d : Chronicled). d.log) (sym c.self.view_is) ∙ ap (λ (v : Vec Entry Global). c.self.inside.past ++ v.items) (sym c.replace-entries.ensures.value), sym c.self.invariant.from_is ∙ sym c.replace-from.ensures.value)

pub returns-clause-from : goal.returns-clause-from
returns-clause-from c = c.replace-from.ensures.value ∙ ap (λ (d : Chronicled). d.from) c.self.view_is

pub returns-clause-cut : goal.returns-clause-cut
returns-clause-cut c =
    let at = (goal.at.returns-clause-cut c).After-replace-entries in
    let log : c.append.new.self ++ c.replace-entries.new.dest.items ≡ c.self.inside.past ++ c.self.inside.recent.items =
    ap (λ (l : List Entry). c.append.new.self ++ l) (none-kept at) ∙ append-nil c.append.new.self ∙ c.append.ensures in
    (λ i. record { start = c.self.inside.opened.value; market = c.self.inside.market; log = log i; places = c.self.inside.places; from = from-is at i; keeping = c.self.inside.keeping })
    ∙ ap (λ (d : Chronicled). record d { from = length d.log }) c.self.view_is

pub returns-clause-countable : goal.returns-clause-countable
returns-clause-countable c = subst (λ (n : ℕ). n ≤ most_forgotten) c.len-end.ensures.exact c.if-end-gt-MOST_FORGOTTEN.false

pub returns-clause-served : goal.returns-clause-served
returns-clause-served c = λ _ _. refl
