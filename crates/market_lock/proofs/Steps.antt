-- Each kind of step of the lock keeps its rule.
use Rattle.std.proofs.Common.{◌≡◌, ℕ, zero, suc, ◌+◌, ◌<◌, ◌≤◌, ◌≢◌, eqb, List, [], ◌∷◌, ◌++◌, length, get_or, set, ⊎_elim, refl, ap, sym, ◌∙◌, subst, arith, length-set, length-append, get_or-set_same, eq-eqb, ne_eqb}
use Rattle.std.specs.List.{sum_by}
use mathlib.Core.Logic.{dite}
use mathlib.Core.Option.{Option, none, some, some-injective, some-ne-none}
use mathlib.Core.List.{IsPrefix}
use native.Mathlib.Decide.{ℕ_discrete}
use lib.ListN.{get_elem?}
use lib.Seq.{set-get_or}
use prog.Atomic.{either}
use Rattle.atomic_table.specs.Table.{State, Me, step, keeps, takes, gives, stepped, Allows, Splits, Joins, opening, Final, Seen}
use Rattle.atomic_table.specs.Table as table
use Rattle.atomic_table.proofs.Lists.{set_here, set_again, set_else, at_longer}
use Rattle.market_types.specs.declared.reply.Entry.{Entry}
use Rattle.market_types.specs.History.{of_seat}
use Rattle.edit_history.specs.Chronicled.{Chronicled}
use Rattle.edit_history.specs.declared.terms.Terms.{Terms}
use Rattle.market_lock.specs.Forgetting.{forgotten}
use Rattle.market_lock.specs.declared.view.Cut.{Cut}
use Rattle.market_lock.specs.declared.view.Known.{Known}
use Rattle.market_lock.specs.declared.view.View.{View}
use Rattle.market_lock.specs.declared.view.View.TheVariants.{Opener, Outside, Holder, Closer, Spent}
use Rattle.market_lock.specs.Cutting.{cut_by, IsCutUp}
use Rattle.market_lock.specs.Views.{known, shown, chronicle_from}
use Rattle.market_lock.specs.Seen.{known_of}
use Rattle.market_lock.specs.Rule.{Knows, seat_of, weight, total, parts_of, parts_of_all, parts_in, Fits, Marks, IsGone, Once, Kept, Wins, Takes, GivesAs, Enters, Follows, Fitting}
use Rattle.market_lock.proofs.Tiles.{none_cut}
use Rattle.market_lock.proofs.Fronts.{prefix_self, prefix_trans, there, at_snoc, one_set}
use Rattle.market_lock.proofs.Seats.{each_set, each_snoc, apart_set, gone_set, apart_snoc, gone_snoc, total_set, total_snoc, weights_two, parts_one}

abbrev St : Type 0
St = State Chronicled View

abbrev M : Type 0
M = Me Chronicled View

abbrev word : St → ℕ
word s = get_or s.words 0 0

module _ (terms : Terms) where
  -- while the word is 0 nobody is holder, so it may change with the holder
  free_fits : (made opener : ℕ) (log : List Entry) (cuts : List Cut) (n holder n' holder' j : ℕ) (v : View) → n ≡ 0 → Fits terms made opener log cuts n holder j v → Fits terms made opener log cuts n' holder' j v
  free_fits made opener log cuts n holder n' holder' j (Opener t m) is f = f
  free_fits made opener log cuts n holder n' holder' j (Outside k) is f = f
  free_fits made opener log cuts n holder n' holder' j (Holder k) is f = absurd (f.4 is)
  free_fits made opener log cuts n holder n' holder' j (Closer t kept) is f = f
  free_fits made opener log cuts n holder n' holder' j Spent is f = f

  -- a step that changes nothing
  unmoved : (s : St) (id : ℕ) (v : View) (cs : List (ℕ × Chronicled)) → Kept terms s → get_elem? s.views id ≡ some v → Kept terms (stepped s 0 (word s) id cs v keeps)
  unmoved s id v cs r at = subst (λ (t : List ℕ × List View). Kept terms record { words = t.0; homes = s.homes; views = t.1 }) (λ i. (sym (set-get_or s.words 0 0) i, sym (set_again s.views id v at) i)) r

  -- the desk goes out
  taken : (s : St) (r : Kept terms s) (id : ℕ) (k : Known) → get_elem? s.views id ≡ some (Outside k) → word s ≡ 0
      → Kept terms record { words = set s.words 0 1; homes = set s.homes 0 none; views = set s.views id (Holder (shown k r.log r.from r.cuts)) }
  taken s r id k at is =
      let w : View = Holder (shown k r.log r.from r.cuts) in
      let one : get_or (set s.words 0 1) 0 0 ≡ 1 = let wide = r.one_word in get_or-set_same s.words 0 1 0 (omega arith) in
      let knows : Knows terms r.made r.log r.cuts k = r.each id (Outside k) at in
      record {
        log = r.log;
        from = r.from;
        cuts = r.cuts;
        made = r.made;
        opener = r.opener;
        holder = id;
        one_word = length-set s.words 0 1 ∙ r.one_word;
        home = λ e. absurd (omega arith);
        away = λ _. (shown k r.log r.from r.cuts, set_here s.views id w (there s.views id (Outside k) at));
        each = each_set (Fits terms r.made r.opener r.log r.cuts (get_or (set s.words 0 1) 0 0) id) s.views id w
            (record { from = knows.from; below = knows.below; front = prefix_self r.log; own = refl; cut_front = prefix_self r.cuts; cut_own = refl }, refl, refl, refl, λ e. omega arith)
            (λ j v _ p. free_fits r.made r.opener r.log r.cuts (word s) r.holder (get_or (set s.words 0 1) 0 0) id j v is (r.each j v p));
        marks = each_set (λ _. Marks r.from) s.views id w refl (λ j v _ p. r.marks j v p);
        apart = apart_set s.views id (Outside k) w at (λ n e. e) r.apart;
        keeps = λ j t kept p. each_set (λ j v. v ≡ Closer t kept → (i : ℕ) (x : Known) → get_elem? kept i ≡ some x → Knows terms r.made r.log r.cuts x × IsGone (set s.views id w) x.seat) s.views id w
            (λ e. absurd cc)
            (λ j v _ q e i x h. let old = r.keeps j t kept (q ∙ ap some e) i x h in (old.0, gone_set s.views id (Outside k) w x.seat at (λ n e. e) old.1)) j (Closer t kept) p refl;
        once = λ j t kept p. each_set (λ j v. v ≡ Closer t kept → Once kept) s.views id w (λ e. absurd cc) (λ j v _ q e. r.once j t kept (q ∙ ap some e)) j (Closer t kept) p refl;
        strangers = r.strangers;
        counted = let sum = total_set weight s.views id (Outside k) w at in let old = r.counted in omega arith;
        enough = r.enough;
        cut_up = r.cut_up;
        no_parts = r.no_parts;
        parted = λ weigh. omega (arith, total_set (parts_in weigh) s.views id (Outside k) w at, r.parted weigh, ap (sum_by weigh) knows.cut_own);
      }

  -- a take, which wins or loses
  pub takes_it : (slots id : ℕ) (m : M) (k : Known) → m ≡ (Outside k, []) → Allows (Kept terms) slots id m 0 (λ n. either (eqb n 0) 1 n) (Takes (step slots 0 0 1 none) m)
  takes_it slots id m k is = subst (λ (m : M). Allows (Kept terms) slots id m 0 (λ n. either (eqb n 0) 1 n) (Takes (step slots 0 0 1 none) m)) (sym is) (λ s r wide at small. dite (ℕ_discrete (word s) 0)
      (λ free.
      let knows : Knows terms r.made r.log r.cuts k = r.each id (Outside k) at in
      let d : Chronicled = chronicle_from k.terms r.log r.from in
      let home : s.homes ≡ some d ∷ [] = r.home free ∙ ap (λ (t : Terms). some (chronicle_from t r.log r.from) ∷ []) (sym knows.from) in (
        Holder (shown k r.log r.from r.cuts),
        takes 0 d,
        ap (λ (l : List (Option Chronicled)). get_elem? l 0) home,
        subst (λ b. Kept terms (stepped s 0 (either b 1 (word s)) id [] (Holder (shown k r.log r.from r.cuts)) (takes 0 d))) (sym (eq-eqb (word s) 0 free)) (taken s r id k at free),
        λ k' e. let same : k ≡ k' = ap (λ (x : M). known_of x.0) e in subst (λ (x : Known). Wins (Outside k, []) x (word s) (Holder (shown k r.log r.from r.cuts), (0, d) ∷ [])) same
            ((λ _. (r.log, r.from, r.cuts, refl, knows.front, knows.own, r.marks id (Outside k) at, knows.cut_front, knows.cut_own, subst (λ (t : Terms). IsCutUp t.keeping r.log r.from r.cuts) (sym knows.from) r.cut_up)), λ ne. absurd (ne free)),
      ))
      (λ busy. (
        Outside k,
        keeps,
        tt,
        subst (λ b. Kept terms (stepped s 0 (either b 1 (word s)) id [] (Outside k) keeps)) (sym (ne_eqb (word s) 0 busy)) (unmoved s id (Outside k) [] r at),
        λ k' e. ((λ z. absurd (busy z)), λ _. refl),
      )))

  -- what another view knows stays so, where the history goes on without its calls
  still_knows : (made : ℕ) (log more : List Entry) (cuts plus : List Cut) (k : Known) → IsPrefix log more → of_seat k.seat more ≡ of_seat k.seat log → IsPrefix cuts plus → cut_by k.seat plus ≡ cut_by k.seat cuts
      → Knows terms made log cuts k → Knows terms made more plus k
  still_knows made log more cuts plus k front same parts alike old =
      record {
        from = old.from;
        below = old.below;
        front = prefix_trans k.seen log more old.front front;
        own = same ∙ old.own;
        cut_front = prefix_trans k.cuts cuts plus old.cut_front parts;
        cut_own = alike ∙ old.cut_own;
      }

  -- the views of the others, where the holder gives back a longer history
  others_fit : (made opener : ℕ) (log more : List Entry) (cuts plus : List Cut) (n id n' holder' j : ℕ) (me : Known) → j ≢ id → IsPrefix log more → ((x : ℕ) → x ≢ me.seat → of_seat x more ≡ of_seat x log)
      → IsPrefix cuts plus → ((x : ℕ) → x ≢ me.seat → cut_by x plus ≡ cut_by x cuts)
      → (v : View) → ((x : ℕ) → seat_of v ≡ some x → x ≢ me.seat) → Fits terms made opener log cuts n id j v → Fits terms made opener more plus n' holder' j v
  others_fit made opener log more cuts plus n id n' holder' j me ne front same parts alike (Opener t m) away f = f
  others_fit made opener log more cuts plus n id n' holder' j me ne front same parts alike (Outside k) away f =
      still_knows made log more cuts plus k front (same k.seat (away k.seat refl)) parts (alike k.seat (away k.seat refl)) f
  others_fit made opener log more cuts plus n id n' holder' j me ne front same parts alike (Holder k) away f = absurd (ne f.3)
  others_fit made opener log more cuts plus n id n' holder' j me ne front same parts alike (Closer t kept) away f = f
  others_fit made opener log more cuts plus n id n' holder' j me ne front same parts alike Spent away f = tt

  -- what another view knows of the last cut stays so, where there is a later one
  marks_after : (from more j id : ℕ) (v : View) → from ≤ more → ((k : Known) → v ≡ Holder k → ⊥) → Marks from v → Marks more v
  marks_after from more j id (Opener t m) later none' h = tt
  marks_after from more j id (Outside k) later none' h = omega (arith, h, later)
  marks_after from more j id (Holder k) later none' h = absurd (none' k refl)
  marks_after from more j id (Closer t kept) later none' h = tt
  marks_after from more j id Spent later none' h = tt

  holds_it : (made opener : ℕ) (log : List Entry) (cuts : List Cut) (n holder j : ℕ) (v : View) (k : Known) → v ≡ Holder k → Fits terms made opener log cuts n holder j v → j ≡ holder
  holds_it made opener log cuts n holder j v k is f = (subst (Fits terms made opener log cuts n holder j) is f).3

  -- the desk comes home
  given : (s : St) (r : Kept terms s) (id : ℕ) (k : Known) (log : List Entry) (from : ℕ) (cuts : List Cut) → length s.homes ≡ 1 → get_elem? s.views id ≡ some (Holder k) → Follows k log from cuts
      → Kept terms record { words = set s.words 0 0; homes = set s.homes 0 (some (chronicle_from k.terms log from)); views = set s.views id (Outside (shown k log from cuts)) }
  given s r id k log from cuts one at goes =
      let w : View = Outside (shown k log from cuts) in
      let later : r.from ≤ from = let mark : k.from ≡ r.from = r.marks id (Holder k) at in omega (arith, mark, goes.later) in
      let f : Fits terms r.made r.opener r.log r.cuts (word s) r.holder id (Holder k) = r.each id (Holder k) at in
      let zero : get_or (set s.words 0 0) 0 0 ≡ 0 = let wide = r.one_word in get_or-set_same s.words 0 0 0 (omega arith) in
      let front : IsPrefix r.log log = subst (λ (l : List Entry). IsPrefix l log) f.1 goes.front in
      let same : (x : ℕ) → x ≢ k.seat → of_seat x log ≡ of_seat x r.log = λ x ne. goes.others x ne ∙ ap (of_seat x) f.1 in
      let parts : IsPrefix r.cuts cuts = subst (λ (l : List Cut). IsPrefix l cuts) f.2 goes.cut_front in
      let alike : (x : ℕ) → x ≢ k.seat → cut_by x cuts ≡ cut_by x r.cuts = λ x ne. goes.cut_others x ne ∙ ap (cut_by x) f.2 in
      let mine : (j : ℕ) (v : View) (x : ℕ) → j ≢ id → get_elem? s.views j ≡ some v → seat_of v ≡ some x → x ≢ k.seat =
      λ j v x ne p q e. ne (r.apart j id k.seat v (Holder k) p at (q ∙ ap some e) refl) in
      record {
        log = log;
        from = from;
        cuts = cuts;
        made = r.made;
        opener = r.opener;
        holder = r.holder;
        one_word = length-set s.words 0 0 ∙ r.one_word;
        home = λ _. one_set s.homes (some (chronicle_from k.terms log from)) one ∙ ap (λ (t : Terms). some (chronicle_from t log from) ∷ []) f.0.from;
        away = λ e. absurd (e zero);
        each = each_set (Fits terms r.made r.opener log cuts (get_or (set s.words 0 0) 0 0) r.holder) s.views id w
            (record { from = f.0.from; below = f.0.below; front = prefix_self log; own = refl; cut_front = prefix_self cuts; cut_own = refl })
            (λ j v ne p. others_fit r.made r.opener r.log log r.cuts cuts (word s) id (get_or (set s.words 0 0) 0 0) r.holder j k ne front same parts alike v (λ x q. mine j v x ne p q)
            (subst (λ (h : ℕ). Fits terms r.made r.opener r.log r.cuts (word s) h j v) (sym f.3) (r.each j v p)));
        marks = each_set (λ _. Marks from) s.views id w (omega arith)
            (λ j v ne p. marks_after r.from from j id v later (λ x is. ne (holds_it r.made r.opener r.log r.cuts (word s) r.holder j v x is (r.each j v p) ∙ sym f.3)) (r.marks j v p));
        apart = apart_set s.views id (Holder k) w at (λ n e. e) r.apart;
        keeps = λ j t kept p. each_set (λ j v. v ≡ Closer t kept → (i : ℕ) (x : Known) → get_elem? kept i ≡ some x → Knows terms r.made log cuts x × IsGone (set s.views id w) x.seat) s.views id w
            (λ e. absurd cc)
            (λ j v _ q e i x h. let old = r.keeps j t kept (q ∙ ap some e) i x h in
            (still_knows r.made r.log log r.cuts cuts x front (same x.seat (λ e. old.1 id (Holder k) at (ap some (sym e)))) parts (alike x.seat (λ e. old.1 id (Holder k) at (ap some (sym e)))) old.0, gone_set s.views id (Holder k) w x.seat at (λ n e. e) old.1)) j (Closer t kept) p refl;
        once = λ j t kept p. each_set (λ j v. v ≡ Closer t kept → Once kept) s.views id w (λ e. absurd cc) (λ j v _ q e. r.once j t kept (q ∙ ap some e)) j (Closer t kept) p refl;
        strangers = λ n h. let below = f.0.below in same n (λ e. omega arith) ∙ r.strangers n h;
        counted = let sum = total_set weight s.views id (Holder k) w at in let old = r.counted in omega arith;
        enough = r.enough;
        cut_up = subst (λ (t : Terms). IsCutUp t.keeping log from cuts) f.0.from goes.cut_up;
        no_parts = λ n h. let below = f.0.below in alike n (λ e. omega arith) ∙ r.no_parts n h;
        parted = λ weigh. omega (arith, total_set (parts_in weigh) s.views id (Holder k) w at, r.parted weigh, goes.cut_weight weigh, ap (sum_by weigh) f.2);
      }

  pub gives_it : (next : Known → List Entry → List Cut) (slots id : ℕ) (m : M) (k : Known) (log : List Entry) (from : ℕ) → slots ≡ 1 → m ≡ (Holder k, (0, chronicle_from k.terms log from) ∷ []) → Follows k log from (next k log)
      → Allows (Kept terms) slots id m 0 (λ _. 0) (λ _. GivesAs next (step slots 0 0 0 none) m 0)
  gives_it next slots id m k log from one is goes = subst (λ (m : M). Allows (Kept terms) slots id m 0 (λ _. 0) (λ _. GivesAs next (step slots 0 0 0 none) m 0)) (sym is) (λ s r wide at small. (
    Outside (shown k log from (next k log)),
    gives,
    tt,
    given s r id k log from (next k log) (wide ∙ one) at goes,
    λ k' log' from' e.
        let same : k ≡ k' = ap (λ (x : M). known_of x.0) e in
        let other : log ≡ log' = ap (λ (x : M). (get_or x.1 0 (0, chronicle_from k.terms log from)).1.log) e in
        let cut : from ≡ from' = ap (λ (x : M). (get_or x.1 0 (0, chronicle_from k.terms log from)).1.from) e in
        λ i. (Outside (shown (same i) (other i) (cut i) (next (same i) (other i))), []),
  ))

  more_made : (made : ℕ) (log : List Entry) (cuts : List Cut) (k : Known) → Knows terms made log cuts k → Knows terms (made + 1) log cuts k
  more_made made log cuts k old = record { from = old.from; below = let b = old.below in omega arith; front = old.front; own = old.own; cut_front = old.cut_front; cut_own = old.cut_own }

  more_fits : (made opener : ℕ) (log : List Entry) (cuts : List Cut) (n holder j : ℕ) (v : View) → j ≢ opener → Fits terms made opener log cuts n holder j v → Fits terms (made + 1) opener log cuts n holder j v
  more_fits made opener log cuts n holder j (Opener t m) ne f = absurd (ne f.2)
  more_fits made opener log cuts n holder j (Outside k) ne f = more_made made log cuts k f
  more_fits made opener log cuts n holder j (Holder k) ne f = (more_made made log cuts k f.0, f.1, f.2, f.3, f.4)
  more_fits made opener log cuts n holder j (Closer t kept) ne f = f
  more_fits made opener log cuts n holder j Spent ne f = tt

  fits_below : (made opener : ℕ) (log : List Entry) (cuts : List Cut) (n holder j m : ℕ) (v : View) → Fits terms made opener log cuts n holder j v → seat_of v ≡ some m → m < made
  fits_below made opener log cuts n holder j m (Opener t c) f e = absurd cc
  fits_below made opener log cuts n holder j m (Outside k) f e = let same : k.seat ≡ m = some-injective k.seat m e in let b = f.below in omega arith
  fits_below made opener log cuts n holder j m (Holder k) f e = let same : k.seat ≡ m = some-injective k.seat m e in let b = f.0.below in omega arith
  fits_below made opener log cuts n holder j m (Closer t kept) f e = absurd cc
  fits_below made opener log cuts n holder j m Spent f e = absurd cc

  number_below : (s : St) (r : Kept terms s) (j m : ℕ) (v : View) → get_elem? s.views j ≡ some v → seat_of v ≡ some m → m < r.made
  number_below s r j m v p e = fits_below r.made r.opener r.log r.cuts (word s) r.holder j m v (r.each j v p) e

  one_value : (xs : List Chronicled) (d : Chronicled) → length xs ≡ 1 → get_elem? xs 0 ≡ some d → xs ≡ d ∷ []
  one_value [] d one p = absurd (omega arith)
  one_value (x ∷ []) d one p = ap (λ y. y ∷ []) (some-injective x d p)
  one_value (x ∷ y ∷ ys) d one p = absurd (omega arith)

  first_fits : (j : ℕ) (v : View) → get_elem? (Opener terms 0 ∷ []) j ≡ some v → Fits terms 0 0 [] [] 0 0 j v
  first_fits zero v p = subst (Fits terms 0 0 [] [] 0 0 0) (some-injective (Opener terms 0) v p) (refl, refl, refl)
  first_fits (suc j) v p = absurd (some-ne-none v (sym p))

  first_marks : (j : ℕ) (v : View) (from : ℕ) → get_elem? (Opener terms 0 ∷ []) j ≡ some v → Marks from v
  first_marks zero v from p = subst (Marks from) (some-injective (Opener terms 0) v p) tt
  first_marks (suc j) v from p = absurd (some-ne-none v (sym p))

  first_none : (j : ℕ) (v : View) → get_elem? (Opener terms 0 ∷ []) j ≡ some v → seat_of v ≡ none
  first_none zero v p = ap seat_of (sym (some-injective (Opener terms 0) v p))
  first_none (suc j) v p = absurd (some-ne-none v (sym p))

  first_opens : (j : ℕ) (t : Terms) (kept : List Known) → get_elem? (Opener terms 0 ∷ []) j ≡ some (Closer t kept) → ⊥
  first_opens zero t kept p = let e : Opener terms 0 ≡ Closer t kept = some-injective (Opener terms 0) (Closer t kept) p in cc
  first_opens (suc j) t kept p = some-ne-none (Closer t kept) (sym p)

  -- ---- a pass more
  module _ (t : Terms) (n : ℕ) where
    pub splits_it : (id : ℕ) → n < terms.opening.seats → Splits (Kept terms) id (Opener t n) (Opener t (n + 1)) (Outside (known t n [] 0 [] []))
    splits_it id room s r at =
        let left : View = Opener t (n + 1) in
        let right : View = Outside (known t n [] 0 [] []) in
        let f : Fits terms r.made r.opener r.log r.cuts (word s) r.holder id (Opener t n) = r.each id (Opener t n) at in
        let vs : List View = set s.views id left in
        let below : (j m : ℕ) (v : View) → get_elem? s.views j ≡ some v → seat_of v ≡ some m → m < n = λ j m v p e. subst (λ (x : ℕ). m < x) (sym f.1) (number_below s r j m v p e) in
        let new : (m : ℕ) → seat_of right ≡ some m → IsGone vs m =
        λ m e. gone_set s.views id (Opener t n) left m at (λ _ e. e) (λ j v p q. let b = below j m v p q in let same : n ≡ m = some-injective n m e in omega arith) in
        let knows : Knows terms (r.made + 1) r.log r.cuts (known t n [] 0 [] []) =
        record { from = f.0; below = let m = f.1 in omega arith; front = (r.log, refl); own = r.strangers n (let m = f.1 in omega arith); cut_front = (r.cuts, refl); cut_own = r.no_parts n (let m = f.1 in omega arith) } in
        record {
          log = r.log;
          from = r.from;
          cuts = r.cuts;
          made = r.made + 1;
          opener = r.opener;
          holder = r.holder;
          one_word = r.one_word;
          home = r.home;
          away = λ e. let h = r.away e in (
            h.0,
            at_longer vs (right ∷ []) r.holder (Holder h.0)
                (set_else s.views id r.holder left (λ same. absurd (cc (at, h.1, ap (get_elem? s.views) same))) ∙ h.1),
          );
          each = each_snoc (Fits terms (r.made + 1) r.opener r.log r.cuts (word s) r.holder) vs right knows
              (each_set (Fits terms (r.made + 1) r.opener r.log r.cuts (word s) r.holder) s.views id left (f.0, ap (λ x. x + 1) f.1, f.2) (λ j v ne p. more_fits r.made r.opener r.log r.cuts (word s) r.holder j v (λ e. ne (e ∙ sym f.2)) (r.each j v p)));
          marks = each_snoc (λ _. Marks r.from) vs right (omega arith) (each_set (λ _. Marks r.from) s.views id left tt (λ j v _ p. r.marks j v p));
          apart = apart_snoc vs right (apart_set s.views id (Opener t n) left at (λ _ e. e) r.apart) new;
          keeps = λ j u kept p. each_snoc (λ j v. v ≡ Closer u kept → (i : ℕ) (x : Known) → get_elem? kept i ≡ some x → Knows terms (r.made + 1) r.log r.cuts x × IsGone (vs ++ right ∷ []) x.seat) vs right
              (λ e. absurd cc)
              (each_set (λ j v. v ≡ Closer u kept → (i : ℕ) (x : Known) → get_elem? kept i ≡ some x → Knows terms (r.made + 1) r.log r.cuts x × IsGone (vs ++ right ∷ []) x.seat) s.views id left
              (λ e. absurd cc)
              (λ j v _ q e i x h. let old = r.keeps j u kept (q ∙ ap some e) i x h in
              (more_made r.made r.log r.cuts x old.0, gone_snoc vs right x.seat (λ e. let b = old.0.below in let same : n ≡ x.seat = some-injective n x.seat e in let m = f.1 in omega arith) (gone_set s.views id (Opener t n) left x.seat at (λ _ e. e) old.1)))) j (Closer u kept) p refl;
          once = λ j u kept p. each_snoc (λ j v. v ≡ Closer u kept → Once kept) vs right (λ e. absurd cc)
              (each_set (λ j v. v ≡ Closer u kept → Once kept) s.views id left (λ e. absurd cc) (λ j v _ q e. r.once j u kept (q ∙ ap some e))) j (Closer u kept) p refl;
          strangers = λ m h. r.strangers m (omega arith);
          counted = let one = total_set weight s.views id (Opener t n) left at in let two = total_snoc weight vs right in let old = r.counted in omega arith;
          enough = let m = f.1 in omega arith;
          cut_up = r.cut_up;
          no_parts = λ m h. r.no_parts m (omega arith);
          parted = λ weigh. omega (arith, total_set (parts_in weigh) s.views id (Opener t n) left at, total_snoc (parts_in weigh) vs right, r.parted weigh);
        }

  once_snoc : (kept : List Known) (k : Known) → Once kept → ((i : ℕ) (x : Known) → get_elem? kept i ≡ some x → x.seat ≢ k.seat) → Once (kept ++ k ∷ [])
  once_snoc kept k once new = λ i j x y p q same.
      ⊎_elim (λ (a : get_elem? kept i ≡ some x).
      ⊎_elim (λ (b : get_elem? kept j ≡ some y). once i j x y a b same)
      (λ (b : (j ≡ length kept) × (k ≡ y)). absurd (new i x a (same ∙ ap (λ (z : Known). z.seat) (sym b.1))))
      (at_snoc kept k y j q))
      (λ (a : (i ≡ length kept) × (k ≡ x)).
      ⊎_elim (λ (b : get_elem? kept j ≡ some y). absurd (new j y b (sym same ∙ ap (λ (z : Known). z.seat) (sym a.1))))
      (λ (b : (j ≡ length kept) × (k ≡ y)). a.0 ∙ sym b.0)
      (at_snoc kept k y j q))
      (at_snoc kept k x i p)

  -- ---- who closes
  pub enters_it : (slots : ℕ) → table.Enters (Kept terms) slots 0 (λ n w. Enters (step slots 0 0 0 none) (Opener terms 0, []) n (w, []))
  enters_it slots s r wide small =
      let w : View = Closer terms [] in (
        w,
        record {
          log = r.log;
          from = r.from;
          cuts = r.cuts;
          made = r.made;
          opener = r.opener;
          holder = r.holder;
          one_word = r.one_word;
          home = r.home;
          away = λ e. let h = r.away e in (h.0, at_longer s.views (w ∷ []) r.holder (Holder h.0) h.1);
          each = each_snoc (Fits terms r.made r.opener r.log r.cuts (word s) r.holder) s.views w refl r.each;
          marks = each_snoc (λ _. Marks r.from) s.views w tt r.marks;
          apart = apart_snoc s.views w r.apart (λ n e. absurd cc);
          keeps = λ j u kept p. each_snoc (λ j v. v ≡ Closer u kept → (i : ℕ) (x : Known) → get_elem? kept i ≡ some x → Knows terms r.made r.log r.cuts x × IsGone (s.views ++ w ∷ []) x.seat) s.views w
              (λ e i x h. let empty : kept ≡ [] = cc in absurd (some-ne-none x (sym h ∙ ap (λ l. get_elem? l i) empty)))
              (λ j v q e i x h. let old = r.keeps j u kept (q ∙ ap some e) i x h in (old.0, gone_snoc s.views w x.seat (λ e. absurd cc) old.1)) j (Closer u kept) p refl;
          once = λ j u kept p. each_snoc (λ j v. v ≡ Closer u kept → Once kept) s.views w
              (λ e i l x y h g same. let empty : kept ≡ [] = cc in absurd (some-ne-none x (sym h ∙ ap (λ l. get_elem? l i) empty)))
              (λ j v q e. r.once j u kept (q ∙ ap some e)) j (Closer u kept) p refl;
          strangers = r.strangers;
          counted = let one = total_snoc weight s.views w in let old = r.counted in omega arith;
          enough = r.enough;
          cut_up = r.cut_up;
          no_parts = r.no_parts;
          parted = λ weigh. omega (arith, total_snoc (parts_in weigh) s.views w, r.parted weigh);
        },
        refl,
      )

  parts_last : (weigh : Cut → ℕ) (kept : List Known) (k : Known) → parts_of_all weigh (kept ++ k ∷ []) ≡ parts_of_all weigh kept + parts_of weigh k
  parts_last weigh [] k = omega arith
  parts_last weigh (x ∷ xs) k = let rest = parts_last weigh xs k in omega arith

  pub joins_it : (id other : ℕ) (t : Terms) (kept : List Known) (k : Known) → Joins (Kept terms) id (Closer t kept) other (Outside k) (Closer t (kept ++ k ∷ [])) Spent
  joins_it id other t kept k s r at ne there' =
      let w : View = Closer t (kept ++ k ∷ []) in
      let vs : List View = set s.views id w in
      let us : List View = set vs other Spent in
      let old_there : get_elem? s.views other ≡ some (Outside k) = sym (set_else s.views id other w ne) ∙ there' in
      let f : Fits terms r.made r.opener r.log r.cuts (word s) r.holder id (Closer t kept) = r.each id (Closer t kept) at in
      let mine : Knows terms r.made r.log r.cuts k = r.each other (Outside k) old_there in
      let gone : (n : ℕ) → IsGone s.views n → IsGone us n = λ n g. gone_set vs other (Outside k) Spent n there' (λ n e. absurd cc) (gone_set s.views id (Closer t kept) w n at (λ n e. absurd cc) g) in
      let now : IsGone us k.seat =
      each_set (λ j v. seat_of v ≢ some k.seat) vs other Spent (λ e. absurd cc)
      (λ j v apart p. each_set (λ j v. j ≢ other → seat_of v ≢ some k.seat) s.views id w (λ _ e. absurd cc) (λ j v _ p apart e. apart (r.apart j other k.seat v (Outside k) p old_there e refl)) j v p apart) in
      let fits : (j : ℕ) (v : View) → get_elem? vs j ≡ some v → Fits terms r.made r.opener r.log r.cuts (word s) r.holder j v = each_set (Fits terms r.made r.opener r.log r.cuts (word s) r.holder) s.views id w f (λ j v _ p. r.each j v p) in
      record {
        log = r.log;
        from = r.from;
        cuts = r.cuts;
        made = r.made;
        opener = r.opener;
        holder = r.holder;
        one_word = r.one_word;
        home = r.home;
        away = λ e. let h = r.away e in (
          h.0,
          set_else vs other r.holder Spent (λ same. absurd (cc (old_there, h.1, ap (get_elem? s.views) same)))
              ∙ (set_else s.views id r.holder w (λ same. absurd (cc (at, h.1, ap (get_elem? s.views) same))) ∙ h.1),
        );
        each = each_set (Fits terms r.made r.opener r.log r.cuts (word s) r.holder) vs other Spent tt (λ j v _ p. fits j v p);
        marks = each_set (λ _. Marks r.from) vs other Spent tt (λ j v _ p. each_set (λ _. Marks r.from) s.views id w tt (λ j v _ p. r.marks j v p) j v p);
        apart = apart_set vs other (Outside k) Spent there' (λ n e. absurd cc) (apart_set s.views id (Closer t kept) w at (λ n e. absurd cc) r.apart);
        keeps = λ j u all p. each_set (λ j v. v ≡ Closer u all → (i : ℕ) (x : Known) → get_elem? all i ≡ some x → Knows terms r.made r.log r.cuts x × IsGone us x.seat) vs other Spent
            (λ e. absurd cc)
            (λ j v _ p. each_set (λ j v. v ≡ Closer u all → (i : ℕ) (x : Known) → get_elem? all i ≡ some x → Knows terms r.made r.log r.cuts x × IsGone us x.seat) s.views id w
            (λ e i x h. let same : kept ++ k ∷ [] ≡ all = cc in
            ⊎_elim (λ (q : get_elem? kept i ≡ some x). let old = r.keeps id t kept at i x q in (old.0, gone x.seat old.1))
            (λ (q : (i ≡ length kept) × (k ≡ x)). subst (λ (x : Known). Knows terms r.made r.log r.cuts x × IsGone us x.seat) q.1 (mine, now))
            (at_snoc kept k x i (ap (λ l. get_elem? l i) same ∙ h)))
            (λ j v _ q e i x h. let old = r.keeps j u all (q ∙ ap some e) i x h in (old.0, gone x.seat old.1)) j v p) j (Closer u all) p refl;
        once = λ j u all p. each_set (λ j v. v ≡ Closer u all → Once all) vs other Spent
            (λ e. absurd cc)
            (λ j v _ p. each_set (λ j v. v ≡ Closer u all → Once all) s.views id w
            (λ e. let same : kept ++ k ∷ [] ≡ all = cc in subst Once same (once_snoc kept k (r.once id t kept at) (λ i x q is. (r.keeps id t kept at i x q).1 other (Outside k) old_there (ap some (sym is)))))
            (λ j v _ q e. r.once j u all (q ∙ ap some e)) j v p) j (Closer u all) p refl;
        strangers = r.strangers;
        counted = let one = total_set weight s.views id (Closer t kept) w at in let two = total_set weight vs other (Outside k) Spent there' in let old = r.counted in let more = length-append kept (k ∷ []) in omega arith;
        enough = r.enough;
        cut_up = r.cut_up;
        no_parts = r.no_parts;
        parted = λ weigh. omega (arith, total_set (parts_in weigh) s.views id (Closer t kept) w at, total_set (parts_in weigh) vs other (Outside k) Spent there', r.parted weigh, parts_last weigh kept k);
      }

  -- ---- the end
  pub ends_it : (id : ℕ) (t : Terms) (kept : List Known) (ws : List ℕ) (xs : List Chronicled) → terms.opening.seats ≤ length kept → Final (Seen (Kept terms) id (Closer t kept)) ws xs
      → (log : List Entry) × (from : ℕ) × (cuts : List Cut) × (xs ≡ chronicle_from terms log from ∷ []) × Once kept × ((i : ℕ) (k : Known) → get_elem? kept i ≡ some k → Fitting terms log cuts k)
      × IsCutUp terms.keeping log from cuts × ((weigh : Cut → ℕ) → parts_of_all weigh kept ≡ sum_by weigh cuts) × ((n : ℕ) → terms.opening.seats ≤ n → of_seat n log ≡ [])
  ends_it id t kept ws xs all (s, r, same_words, long, values) =
      let k = r.0 in let at = r.1 in
      let free : word s ≡ 0 = dite (ℕ_discrete (word s) 0) (λ z. z) (λ busy. let h = k.away busy in
      let both = weights_two s.views id k.holder (Closer t kept) (Holder h.0) (λ e. absurd (cc (at, h.1, ap (get_elem? s.views) e))) at h.1 in
      let sum = k.counted in let most = k.enough in absurd (omega arith)) in
      let h = k.home free in
      let d : Chronicled = chronicle_from terms k.log k.from in
      let first : get_elem? xs 0 ≡ some d = values 0 d (ap (λ (l : List (Option Chronicled)). get_elem? l 0) h) in
      let one : length xs ≡ 1 = sym long ∙ ap (λ (l : List (Option Chronicled)). length l) h in
      let few : total weight s.views ≤ length kept = let sum = k.counted in let most = k.enough in omega arith in (
        k.log,
        k.from,
        k.cuts,
        one_value xs d one first,
        k.once id t kept at,
        (λ i x p. let old = k.keeps id t kept at i x p in (old.0.front, old.0.own, (let b = old.0.below in let most = k.enough in omega arith), old.0.cut_front, old.0.cut_own)),
        k.cut_up,
        (λ weigh. omega (arith, parts_one weigh s.views id (Closer t kept) at few, k.parted weigh)),
        (λ n h. k.strangers n (let most = k.enough in omega arith)),
      )

  -- ---- the start
  pub begins : (d : Chronicled) → d ≡ chronicle_from terms [] d.from → d.from ≡ forgotten terms.keeping 0 0 → Kept terms (opening (0 ∷ []) (d ∷ []) (Opener terms 0))
  begins d is none' = record {
    log = [];
    from = d.from;
    cuts = [];
    made = 0;
    opener = 0;
    holder = 0;
    one_word = refl;
    home = λ _. ap (λ (x : Chronicled). some x ∷ []) is;
    away = λ e. absurd (e refl);
    each = first_fits;
    marks = λ j v p. first_marks j v d.from p;
    apart = λ i j n v w p q a b. absurd (some-ne-none n (sym a ∙ first_none i v p));
    keeps = λ j t kept p i k h. absurd (first_opens j t kept p);
    once = λ j t kept p. absurd (first_opens j t kept p);
    strangers = λ n _. refl;
    counted = refl;
    enough = omega arith;
    cut_up = none_cut terms.keeping d.from none';
    no_parts = λ n _. refl;
    parted = λ weigh. refl;
  }
