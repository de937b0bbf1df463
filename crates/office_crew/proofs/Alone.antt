-- A seat that is the only one who cuts.
use Rattle.std.proofs.Common.{◌≡◌, ℕ, ◌==◌, ◌+◌, ◌≤◌, Bool, true, false, cond, List, [], ◌∷◌, ◌++◌, length, Result, Ok, Err, Some, refl, ap, sym, ◌∙◌, subst, arith, append_assoc, append-nil, length-append}
use Rattle.std.specs.Prelude.{IfOk, IfErr}
use mathlib.Core.List.{IsPrefix}
use Rattle.market_types.specs.declared.command.Cmd.{Cmd}
use Rattle.market_types.specs.declared.reply.Reply.{Reply}
use Rattle.edit_history.specs.Chronicled.{entry}
use Rattle.edit_history.specs.declared.part.Part.{Part}
use Rattle.edit_history.specs.declared.fault.CallFault.{CallFault}
use Rattle.market_lock.specs.declared.view.Cut.{Cut}
use Rattle.market_lock.specs.Cutting.{entries_of, EndToEnd, cut_by}
use Rattle.market_lock.specs.Views.{cut}
use Rattle.market_lock.specs.Seen.{OfPass, OthersCut, HasCut}
use Rattle.market_lock.specs.Moves.{Called, Fails}
use Rattle.market_lock.proofs.Tiles.{entries_last}

shorter_if : (b : Bool) (x : Cut) (l : List Cut) → length (cond b (x ∷ l) l) ≤ length l + 1
shorter_if true x l = omega arith
shorter_if false x l = omega arith

-- one seat cut no more parts than all
shorter : (n : ℕ) (xs : List Cut) → length (cut_by n xs) ≤ length xs
shorter n [] = omega arith
shorter n (x ∷ xs) = omega (arith, shorter n xs, shorter_if (x.seat == n) x (cut_by n xs))

empty : (xs : List Cut) → length xs ≡ 0 → xs ≡ []
empty [] e = refl
empty (x ∷ xs) e = absurd (omega (arith, e))

-- where all parts that are known now are one seat's, and it cut none since, no part came
pub none_came : (n : ℕ) (old new : List Cut) → IsPrefix old new → cut_by n new ≡ cut_by n old → cut_by n new ≡ new → new ≡ old
none_came n old new front own alone =
    let none' : front.0 ≡ [] = empty front.0 (omega (arith, ap length alone, ap length own, shorter n old, ap length front.1, length-append old front.0)) in
    sym front.1 ∙ (ap (λ l. old ++ l) none' ∙ append-nil old)

-- and where it cut one, that one came
pub one_came : (n : ℕ) (old between new : List Cut) (c : Cut) → new ≡ (old ++ between) ++ c ∷ [] → cut_by n new ≡ cut_by n old ++ c ∷ [] → cut_by n new ≡ new → new ≡ old ++ c ∷ []
one_came n old between new c is own alone =
    let none' : between ≡ [] = empty between
    (omega (arith, ap length alone, ap length own, shorter n old, ap length is, length-append (old ++ between) (c ∷ []), length-append old between, length-append (cut_by n old) (c ∷ []))) in
    is ∙ ap (λ l. l ++ c ∷ []) (ap (λ l. old ++ l) none' ∙ append-nil old)

last_begins : (from : ℕ) (cs : List Cut) (c : Cut) → EndToEnd from (cs ++ c ∷ []) → c.from ≡ from + length (entries_of cs)
last_begins from [] c row = omega (arith, row.0)
last_begins from (x ∷ xs) c row = omega (arith, last_begins (from + length x.entries) xs c row.1, length-append x.entries (entries_of xs))

module _ (p q : OfPass) (same : q.seat ≡ p.seat) (only : cut_by q.seat q.cuts ≡ q.cuts) where
  alone : cut_by p.seat q.cuts ≡ q.cuts
  alone = subst (λ (n : ℕ). cut_by n q.cuts ≡ q.cuts) same only

  pub others_none : OthersCut p q → entries_of q.cuts ≡ entries_of p.cuts
  others_none o = ap entries_of (none_came p.seat p.cuts q.cuts o.0 o.1 alone)

  came : (part : Part) → HasCut p (Some part) q → q.cuts ≡ p.cuts ++ cut p.seat part.from part.entries.items ∷ []
  came part o = one_came p.seat p.cuts o.0 q.cuts (cut p.seat part.from part.entries.items) o.1 o.2 alone

  -- its part begins where its last one ended
  pub begins_there : (part : Part) → HasCut p (Some part) q → part.from ≡ length (entries_of p.cuts)
  begins_there part o =
      let at = last_begins 0 p.cuts (cut p.seat part.from part.entries.items) (subst (EndToEnd 0) (came part o) o.3.in_a_row) in
      omega (arith, at)

  pub with_part : (part : Part) → HasCut p (Some part) q → entries_of q.cuts ≡ entries_of p.cuts ++ part.entries.items
  with_part part o = ap entries_of (came part o) ∙ entries_last p.cuts (cut p.seat part.from part.entries.items)

-- ---- after a call, answered or not
pub others_by : (p q : OfPass) (cmd : Cmd) (r : Result Reply CallFault) → IfOk r (λ x. Called p cmd x q) → IfErr r (λ f. Fails p cmd f q) → OthersCut p q
others_by p q cmd (Ok x) did failed = did.4
others_by p q cmd (Err f) did failed = failed.6

pub seen_by : (p q : OfPass) (cmd : Cmd) (r : Result Reply CallFault) → IfOk r (λ x. Called p cmd x q) → IfErr r (λ f. Fails p cmd f q) → IsPrefix p.seen q.seen
seen_by p q cmd (Ok x) did failed =
    let e = did.2 in
    (e.0 ++ entry p.seat cmd x ∷ [], sym (append_assoc p.seen e.0 (entry p.seat cmd x ∷ [])) ∙ sym e.1)
seen_by p q cmd (Err f) did failed = failed.2.0
