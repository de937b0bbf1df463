-- Parts that lie end to end: one more of them, and one seat's own.
use Rattle.std.proofs.Common.{◌≡◌, ◌≢◌, ℕ, ◌+◌, ◌==◌, Bool, true, false, cond, List, [], ◌∷◌, ◌++◌, length, drop, refl, ap, sym, ◌∙◌, arith, append_assoc, append-nil, length-append, eq-eqb, ne_eqb}
use Rattle.std.proofs.Math.Seq.{drop-append_seam}
use mathlib.Core.List.{IsPrefix}
use Rattle.market_types.specs.declared.reply.Entry.{Entry}
use Rattle.edit_history.specs.declared.keeping.Keeping.{Keeping}
use Rattle.edit_history.specs.declared.keeping.Keeping.TheVariants.{Everything, InParts, Nothing}
use Rattle.market_lock.specs.Forgetting.{forgotten}
use Rattle.market_lock.specs.declared.view.Cut.{Cut}
use Rattle.market_lock.specs.Cutting.{entries_of, EndToEnd, cut_by, IsCutUp}
use Rattle.market_lock.specs.Views.{cut}

pub entries_last : (cs : List Cut) (c : Cut) → entries_of (cs ++ c ∷ []) ≡ entries_of cs ++ c.entries
entries_last [] c = append-nil c.entries
entries_last (x ∷ xs) c = ap (λ es. x.entries ++ es) (entries_last xs c) ∙ sym (append_assoc x.entries (entries_of xs) c.entries)

one_more_part : (from : ℕ) (cs : List Cut) (c : Cut) → EndToEnd from cs → c.from ≡ from + length (entries_of cs) → EndToEnd from (cs ++ c ∷ [])
one_more_part from [] c row at = (omega (arith, at), tt)
one_more_part from (x ∷ xs) c row at = (row.0, one_more_part (from + length x.entries) xs c row.1 (omega (arith, at, length-append x.entries (entries_of xs))))

-- ---- one seat's

cons_if : (b : Bool) (x : Cut) (l m r : List Cut) → l ≡ m ++ r → cond b (x ∷ l) l ≡ cond b (x ∷ m) m ++ r
cons_if true x l m r e = ap (λ k. x ∷ k) e
cons_if false x l m r e = e

by_append : (n : ℕ) (xs ys : List Cut) → cut_by n (xs ++ ys) ≡ cut_by n xs ++ cut_by n ys
by_append n [] ys = refl
by_append n (x ∷ xs) ys = cons_if (x.seat == n) x (cut_by n (xs ++ ys)) (cut_by n xs) (cut_by n ys) (by_append n xs ys)

pub by_own : (n from : ℕ) (es : List Entry) (xs : List Cut) → cut_by n (xs ++ cut n from es ∷ []) ≡ cut_by n xs ++ cut n from es ∷ []
by_own n from es xs = by_append n xs (cut n from es ∷ []) ∙ ap (λ (b : Bool). cut_by n xs ++ cond b (cut n from es ∷ []) []) (eq-eqb n n refl)

pub by_other : (n k from : ℕ) (es : List Entry) (xs : List Cut) → n ≢ k → cut_by k (xs ++ cut n from es ∷ []) ≡ cut_by k xs
by_other n k from es xs apart =
    by_append k xs (cut n from es ∷ []) ∙ (ap (λ (b : Bool). cut_by k xs ++ cond b (cut n from es ∷ []) []) (ne_eqb n k apart) ∙ append-nil (cut_by k xs))

-- ---- what is cut up stays so

-- nothing is, of an empty history
pub none_cut : (keeping : Keeping) (from : ℕ) → from ≡ forgotten keeping 0 0 → IsCutUp keeping [] from []
none_cut keeping from is = record { in_a_row = tt; left = []; whole = refl; from_is = is }

forgotten_on : (q : Keeping) (m n from cut : ℕ) → from ≡ forgotten q m cut → forgotten q n from ≡ forgotten q n cut
forgotten_on Everything m n from cut is = refl
forgotten_on InParts m n from cut is = is
forgotten_on Nothing m n from cut is = refl

-- where the history goes on, and nothing is cut
pub still_cut : (keeping : Keeping) (log more : List Entry) (from next : ℕ) (cuts : List Cut) → IsCutUp keeping log from cuts → IsPrefix log more → next ≡ forgotten keeping (length more) from
    → IsCutUp keeping more next cuts
still_cut keeping log more from next cuts old front is = record {
  in_a_row = old.in_a_row;
  left = old.left ++ front.0;
  whole = sym front.1 ∙ (ap (λ l. l ++ front.0) old.whole ∙ append_assoc (entries_of cuts) old.left front.0);
  from_is = is ∙ forgotten_on keeping (length log) (length more) from (length (entries_of cuts)) old.from_is;
}

-- where all that is kept in parts is cut out
pub all_cut : (log : List Entry) (from seat : ℕ) (cuts : List Cut) → IsCutUp InParts log from cuts → IsCutUp InParts log (length log) (cuts ++ cut seat from (drop from log) ∷ [])
all_cut log from seat cuts old =
    let left : drop from log ≡ old.left = ap (λ n. drop n log) old.from_is ∙ (ap (drop (length (entries_of cuts))) old.whole ∙ drop-append_seam (entries_of cuts) old.left) in
    let all : entries_of (cuts ++ cut seat from (drop from log) ∷ []) ≡ log = entries_last cuts (cut seat from (drop from log)) ∙ (ap (λ l. entries_of cuts ++ l) left ∙ sym old.whole) in
    record {
      in_a_row = one_more_part 0 cuts (cut seat from (drop from log)) old.in_a_row (omega (arith, old.from_is));
      left = [];
      whole = sym (append-nil (entries_of (cuts ++ cut seat from (drop from log) ∷ [])) ∙ all);
      from_is = ap length (sym all);
    }
