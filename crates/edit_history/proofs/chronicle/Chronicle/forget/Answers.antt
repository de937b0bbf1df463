use Rattle.std.proofs.Common.{◌≡◌, ℕ, ◌<◌, ◌≤◌, ◌++◌, List, length, refl, ap, sym, ◌∙◌, subst, arith}
use Rattle.std.proofs.lemmas.List.{append-nil}
use Rattle.market_types.specs.declared.reply.Entry.{Entry}
use Rattle.edit_history.specs.Chronicled.{Chronicled, most_forgotten}
use Rattle.edit_history.proofs.KeptAfter.{kept-long, kept-forget}
use Rattle.edit_history.proofs.chronicle.Chronicle.forget.Goals as goal

not-both : (n m : ℕ) → n < m → m ≤ n → ⊥
not-both n m less most = omega arith

pub returns-then-calls-gt-MOST_FORGOTTEN-clause-same :
    goal.returns-then-calls-gt-MOST_FORGOTTEN-clause-same
returns-then-calls-gt-MOST_FORGOTTEN-clause-same c = refl

pub returns-then-calls-gt-MOST_FORGOTTEN-clause-forgotten :
    goal.returns-then-calls-gt-MOST_FORGOTTEN-clause-forgotten
returns-then-calls-gt-MOST_FORGOTTEN-clause-forgotten c =
    λ few. absurd (not-both _ _ (subst (λ (n : ℕ). most_forgotten < n) c.len-calls.ensures.exact c.if-calls-gt-MOST_FORGOTTEN.true) few)

pub returns-then-calls-gt-MOST_FORGOTTEN-clause-late :
    goal.returns-then-calls-gt-MOST_FORGOTTEN-clause-late
returns-then-calls-gt-MOST_FORGOTTEN-clause-late c = λ _. refl

pub invariant_of-self : goal.invariant_of-self
invariant_of-self c =
    let calls : c.len-calls.result ≡ length (c.self.inside.past ++ c.self.inside.recent.items) = c.len-calls.ensures.exact ∙ ap (λ (d : Chronicled). length d.log) (sym c.self.view_is) in
    kept-forget _ _ _ _ _ _ _ c.self.invariant _ _ _ _ c.append.ensures c.clear.ensures.items (calls ∙ kept-long _ _ _ _ _ _ _ c.self.invariant)
    (omega (arith, c.if-calls-gt-MOST_FORGOTTEN.false, c.self.invariant.few)) (omega (arith, c.self.invariant.memory, c.clear.ensures.capacity))

pub returns-clause-same : goal.returns-clause-same
returns-clause-same c =
    let log : c.append.new.self ++ c.clear.new.self.items ≡ c.self.inside.past ++ c.self.inside.recent.items =
    ap (λ (l : List Entry). c.append.new.self ++ l) c.clear.ensures.items ∙ append-nil c.append.new.self ∙ c.append.ensures in
    (λ i. record { start = c.self.inside.opened.value; market = c.self.inside.market; log = log i; places = c.self.inside.places; from = c.len-calls.result; keeping = c.self.inside.keeping })
    ∙ ap (λ (d : Chronicled). record d { from = c.len-calls.result }) c.self.view_is

pub returns-clause-forgotten : goal.returns-clause-forgotten
returns-clause-forgotten c = λ _. c.len-calls.ensures.exact

pub returns-clause-late : goal.returns-clause-late
returns-clause-late c =
    λ late. absurd (not-both _ _ late (subst (λ (n : ℕ). n ≤ most_forgotten) c.len-calls.ensures.exact c.if-calls-gt-MOST_FORGOTTEN.false))
