-- Each step of the queue keeps its rule.
use Rattle.std.proofs.Common.{◌≡◌, ℕ, zero, suc, ◌+◌, ◌<◌, ◌≤◌, ◌==◌, ◌≢◌, List, [], ◌∷◌, ◌++◌, length, cond, set, refl, ap, sym, ◌∙◌, subst, arith, append_assoc}
use Rattle.std.specs.List.{AllByRecursion}
use Rattle.std.proofs.lemmas.List.Elements.{All-from_recursion}
use mathlib.Core.Logic.{dite}
use mathlib.Core.Option.{some, some-injective, some-ne-none}
use native.Mathlib.Decide.{ℕ_discrete}
use lib.ListN.{get_elem?}
use Rattle.crossbeam_queue.specs.Fifo.{Pushes, Pops, Forks, Merges, Learns}
use Rattle.crossbeam_queue.proofs.Lists.{set_else}
use Rattle.job_queue.specs.declared.view.Fed.{Fed}
use Rattle.job_queue.specs.declared.view.Known.{Known}
use Rattle.job_queue.specs.declared.view.View.{View}
use Rattle.job_queue.specs.declared.view.View.TheVariants.{Opener, Records}
use Rattle.job_queue.specs.Jobs.{fed, own, by, given, HavePlaces, Moment, IsMomentOf}
use Rattle.job_queue.specs.Views.{fresh, stores, takes, misses, records_of, head, one, spent}
use Rattle.job_queue.specs.Rule.{times, total, Knows, Fits, IsFed, IsPopped, Kept, Saw, Stored, IsLater, Taken, HasNumber, Account, Settles, Closes, Rests}
use Rattle.job_queue.proofs.Jobs.{each_append, each_weaker, own-more, own-other, by-more, by-other, moves, own_none, by_none, fed_last, length-fed_from, places_more, popped_before}
use Rattle.job_queue.proofs.Count.{has_all, test, test_same, test_other}
use Rattle.job_queue.proofs.Views.{each_set, each_snoc, times-append, total_set, total_snoc, total_one, total_two, counts, differs}

abbrev Seqs : Type 0 → Type 0
Seqs J = ℕ → List (Fed J)

module _ {J : Type 0} where
  -- ---- a step of one pass
  module _ (feeders takers made opener n : ℕ) (put got put' got' : Seqs J) (same_put : (m : ℕ) → n ≢ m → put m ≡ put' m) (same_got : (m : ℕ) → n ≢ m → got m ≡ got' m) where
    each_other : (ks : List (Known J)) → times n ks ≡ 0 → AllByRecursion (Knows feeders takers made put got) ks → AllByRecursion (Knows feeders takers made put' got') ks
    each_other [] nil h = tt
    each_other (k ∷ ks) nil h =
        let ne = differs n k ks nil in
        ((h.0.0, h.0.1, h.0.2, h.0.3 ∙ same_put k.number ne, h.0.4 ∙ same_got k.number ne), each_other ks (omega arith) h.1)

    fits_other : (j : ℕ) (v : View J) → times n (records_of v) ≡ 0 → Fits feeders takers made opener put got j v → Fits feeders takers made opener put' got' j v
    fits_other j (Opener f t m) nil h = h
    fits_other j (Records ks) nil h = each_other ks nil h

  module _ (items items' : List (Fed J)) (out' : List (ℕ × Fed J)) (views : List (View J)) (me : ℕ) (k k' : Known J) (ks : List (Known J)) (number : k'.number ≡ k.number)
      (r : Kept items views) (at : get_elem? views me ≡ some (Records (k ∷ ks))) where
    abbrev mine : View J
    mine = Records (k' ∷ ks)

    count_same : (n : ℕ) → times n (k' ∷ ks) ≡ times n (k ∷ ks)
    count_same n = ap (λ m. cond (m == n) 1 0 + times n ks) number

    total_same : (n : ℕ) → total n (set views me mine) ≡ total n views
    total_same n = let a = total_set n views me (Records (k ∷ ks)) mine at in let b = count_same n in omega arith

    -- the head of a view does something, and the lists of the other passes stay
    pub changes :
        ((m : ℕ) → k.number ≢ m → own m (given r.out ++ items) ≡ own m (given out' ++ items'))
        → ((m : ℕ) → k.number ≢ m → by m r.out ≡ by m out')
        → Knows r.feeders r.takers r.made (λ m. own m (given out' ++ items')) (λ m. by m out') k'
        → ((m : ℕ) → HavePlaces 0 (own m (given out' ++ items')))
        → AllByRecursion (IsFed r.feeders r.made) (given out' ++ items')
        → AllByRecursion (IsPopped r.feeders r.made) out'
        → Kept items' (set views me mine)
    changes same_put same_got knows placed fed popped =
        let put : Seqs J = λ m. own m (given r.out ++ items) in
        let got : Seqs J = λ m. by m r.out in
        let put' : Seqs J = λ m. own m (given out' ++ items') in
        let got' : Seqs J = λ m. by m out' in
        let n = k.number in
        let up = counts k ks in
        let most = r.once n in
        record {
          out = out';
          feeders = r.feeders;
          takers = r.takers;
          made = r.made;
          opener = r.opener;
          each = each_set (Fits r.feeders r.takers r.made r.opener put' got') views me mine
              (knows, each_other r.feeders r.takers r.made r.opener n put got put' got' same_put same_got ks (let h = total_one n views me (Records (k ∷ ks)) at in omega arith) (r.each me (Records (k ∷ ks)) at).1)
              (λ j v ne p. fits_other r.feeders r.takers r.made r.opener n put got put' got' same_put same_got j v (let h = total_two n views me j (Records (k ∷ ks)) v (λ e. ne (sym e)) at p in omega arith) (r.each j v p));
          once = λ m. let h = r.once m in let t = total_same m in omega arith;
          later = λ m le. total_same m ∙ r.later m le;
          placed = placed;
          fed = fed;
          popped = popped;
          enough = r.enough;
        }

  -- the job joins at the back, at the place after those that its feeder stored
  pub stores_it : (room port : ℕ) (k : Known J) (ks : List (Known J)) (job : J) → k.number < k.feeders
      → Pushes Kept room port (Records (k ∷ ks)) (fed k.number (length k.stored) job) (Stored (Records (k ∷ ks)) (fed k.number (length k.stored) job))
  stores_it room port k ks job feeds items views _ r at =
      let x : Fed J = fed k.number (length k.stored) job in
      let h = (r.each port (Records (k ∷ ks)) at).0 in
      let before : List (Fed J) = given r.out ++ items in
      let longer : given r.out ++ (items ++ x ∷ []) ≡ before ++ x ∷ [] = sym (append_assoc (given r.out) items (x ∷ [])) in
      let more : own k.number (given r.out ++ (items ++ x ∷ [])) ≡ own k.number before ++ x ∷ [] = ap (own k.number) longer ∙ own-more k.number x before refl in
      let same : (m : ℕ) → k.number ≢ m → own m before ≡ own m (given r.out ++ (items ++ x ∷ [])) = λ m ne. sym (ap (own m) longer ∙ own-other m x before ne) in
      let long : length k.stored ≡ length (own k.number before) = sym (length-fed_from k.number 0 k.stored) ∙ ap length h.3 in
      let here : HavePlaces 0 (own k.number (given r.out ++ (items ++ x ∷ []))) = subst (HavePlaces 0) (sym more) (places_more 0 (own k.number before) x (r.placed k.number) (omega arith)) in (
        Records (stores k job ∷ ks),
        changes items (items ++ x ∷ []) r.out views port k (stores k job) ks refl r at same (λ m ne. refl)
            (h.0, h.1, h.2, fed_last k.number k.stored job ∙ (ap (λ l. l ++ x ∷ []) h.3 ∙ sym more), h.4)
            (λ m. dite (ℕ_discrete k.number m) (λ e. subst (λ (i : ℕ). HavePlaces 0 (own i (given r.out ++ (items ++ x ∷ [])))) e here) (λ ne. subst (HavePlaces 0) (same m ne) (r.placed m)))
            (subst (AllByRecursion (IsFed r.feeders r.made)) (sym longer) (each_append (IsFed r.feeders r.made) before (x ∷ []) r.fed ((subst (λ (n : ℕ). k.number < n) h.0 feeds, h.2), tt)))
            r.popped,
        refl,
      )

  -- the job leaves at the front, and its place is above those that this taker had of its feeder
  pub takes_it : (port : ℕ) (k : Known J) (ks : List (Known J)) → k.feeders ≤ k.number → Pops Kept port (Records (k ∷ ks)) (Taken (Records (k ∷ ks)))
  takes_it port k ks pops x items views r at =
      let h = (r.each port (Records (k ∷ ks)) at).0 in
      let out' : List (ℕ × Fed J) = r.out ++ (k.number, x) ∷ [] in
      let moved : given out' ++ items ≡ given r.out ++ x ∷ items = moves k.number x r.out items in (
        Records (takes k x ∷ ks),
        changes (x ∷ items) items out' views port k (takes k x) ks refl r at
            (λ m ne. sym (ap (own m) moved))
            (λ m ne. sym (by-other m k.number x r.out ne))
            (h.0, h.1, h.2, h.3 ∙ sym (ap (own k.number) moved), ap (λ l. l ++ x ∷ []) h.4 ∙ sym (by-more k.number x r.out))
            (λ m. subst (λ (l : List (Fed J)). HavePlaces 0 (own m l)) (sym moved) (r.placed m))
            (subst (AllByRecursion (IsFed r.feeders r.made)) (sym moved) r.fed)
            (each_append (IsPopped r.feeders r.made) r.out ((k.number, x) ∷ []) r.popped ((subst (λ (n : ℕ). n ≤ k.number) h.0 pops, h.2), tt)),
        (refl, subst (λ (l : List (Fed J)). IsLater l x) (sym h.4) (popped_before k.number r.out x items (r.placed x.feeder))),
      )

  -- what is so between two steps is so at a moment that the queue can have
  possible : (items : List (Fed J)) (views : List (View J)) (r : Kept items views) → IsMomentOf r.feeders r.takers (record { pops = r.out; held = items })
  possible items views r =
      let Pushes : Fed J → Type 0 = λ x. x.feeder < r.feeders in
      let Popped : ℕ × Fed J → Type 0 = λ p. (r.feeders ≤ p.0) × (p.0 < r.feeders + r.takers) in
      record {
        pushes = All-from_recursion Pushes (given r.out ++ items) (each_weaker (IsFed r.feeders r.made) Pushes (λ x h. h.0) (given r.out ++ items) r.fed);
        places = r.placed;
        pops = All-from_recursion Popped r.out (each_weaker (IsPopped r.feeders r.made) Popped (λ p h. (h.0, let lt = h.1 in let most = r.enough in omega arith)) r.out r.popped);
      }

  pub learns_it : (port : ℕ) (k : Known J) (ks : List (Known J)) → Learns Kept port (Records (k ∷ ks)) (Saw (Records (k ∷ ks)))
  learns_it port k ks items views r at =
      let h = (r.each port (Records (k ∷ ks)) at).0 in
      let moment : Moment J = record { pops = r.out; held = items } in
      (r.out, h.3, h.4, subst (λ (n : ℕ × ℕ). IsMomentOf n.0 n.1 moment) (λ i. (sym h.0 i, sym h.1 i)) (possible items views r))

  -- ---- a pass more
  -- spent passes count for nothing
  pub ends_with_spent : (items : List (Fed J)) (views : List (View J)) → Kept items views → Kept items (views ++ spent ∷ [])
  ends_with_spent items views r = record {
    out = r.out;
    feeders = r.feeders;
    takers = r.takers;
    made = r.made;
    opener = r.opener;
    each = each_snoc (Fits r.feeders r.takers r.made r.opener (λ n. own n (given r.out ++ items)) (λ n. by n r.out)) views spent tt r.each;
    once = λ n. let t = total_snoc n views spent in let h = r.once n in omega arith;
    later = λ n le. let t = total_snoc n views spent in let h = r.later n le in omega arith;
    placed = r.placed;
    fed = r.fed;
    popped = r.popped;
    enough = r.enough;
  }

  pub misses_it : (port : ℕ) (k : Known J) (ks : List (Known J)) → Forks Kept port (Records (k ∷ ks)) (Records (misses k ∷ ks)) spent
  misses_it port k ks items views r at =
      ends_with_spent items (set views port (Records (misses k ∷ ks)))
      (changes items items r.out views port k (misses k) ks refl r at (λ m ne. refl) (λ m ne. refl) (r.each port (Records (k ∷ ks)) at).0 r.placed r.fed r.popped)

  more_made : (feeders takers made : ℕ) (put got : Seqs J) (k : Known J) → Knows feeders takers made put got k → Knows feeders takers (made + 1) put got k
  more_made feeders takers made put got k h = (h.0, h.1, (let lt = h.2 in omega arith), h.3, h.4)

  fits_more : (feeders takers made opener : ℕ) (put got : Seqs J) (j : ℕ) (v : View J) → j ≢ opener → Fits feeders takers made opener put got j v → Fits feeders takers (made + 1) opener put got j v
  fits_more feeders takers made opener put got j (Opener f t m) ne h = absurd (ne h.3)
  fits_more feeders takers made opener put got j (Records ks) ne h = each_weaker (Knows feeders takers made put got) (Knows feeders takers (made + 1) put got) (more_made feeders takers made put got) ks h

  none_made : (f t f' t' : ℕ) (put got : Seqs J) (ks : List (Known J)) → AllByRecursion (Knows f t 0 put got) ks → AllByRecursion (Knows f' t' 0 put got) ks
  none_made f t f' t' put got [] h = tt
  none_made f t f' t' put got (k ∷ ks) h = let lt = h.0.2 in absurd (omega arith)

  fits_none : (f t f' t' opener : ℕ) (put got : Seqs J) (j : ℕ) (v : View J) → j ≢ opener → Fits f t 0 opener put got j v → Fits f' t' 0 opener put got j v
  fits_none f t f' t' opener put got j (Opener a b m) ne h = absurd (ne h.3)
  fits_none f t f' t' opener put got j (Records ks) ne h = none_made f t f' t' put got ks h

  -- while no pass is made, it may become another number of them
  pub promises_it : (port f t f' t' : ℕ) → Forks (Kept {J = J}) port (Opener f t 0) (Opener f' t' 0) spent
  promises_it port f t f' t' items views r at =
      let put : Seqs J = λ n. own n (given r.out ++ items) in
      let got : Seqs J = λ n. by n r.out in
      let h = r.each port (Opener f t 0) at in
      let zero_made : 0 ≡ r.made = h.2 in
      let left : View J = Opener f' t' 0 in
      let same : (n : ℕ) → total n (set views port left) ≡ total n views = λ n. let t = total_set n views port (Opener f t 0) left at in omega arith in
      ends_with_spent items (set views port left)
      record {
        out = r.out;
        feeders = f';
        takers = t';
        made = r.made;
        opener = r.opener;
        each = each_set (Fits f' t' r.made r.opener put got) views port left (refl, refl, h.2, h.3)
            (λ j v ne at'. subst (λ (m : ℕ). Fits f' t' m r.opener put got j v) h.2
            (fits_none r.feeders r.takers f' t' r.opener put got j v (λ e. ne (e ∙ sym h.3)) (subst (λ (m : ℕ). Fits r.feeders r.takers m r.opener put got j v) (sym h.2) (r.each j v at'))));
        once = λ n. let t = same n in let o = r.once n in omega arith;
        later = λ n le. same n ∙ r.later n le;
        placed = r.placed;
        fed = each_weaker (IsFed r.feeders r.made) (IsFed f' r.made) (λ x p. let lt = p.1 in absurd (omega arith)) (given r.out ++ items) r.fed;
        popped = each_weaker (IsPopped r.feeders r.made) (IsPopped f' r.made) (λ p q. let lt = q.1 in absurd (omega arith)) r.out r.popped;
        enough = omega arith;
      }

  pub deals_it : (port f t m : ℕ) → m < f + t → Forks (Kept {J = J}) port (Opener f t m) (Opener f t (m + 1)) (one (fresh f t m))
  deals_it port f t m room items views r at =
      let put : Seqs J = λ n. own n (given r.out ++ items) in
      let got : Seqs J = λ n. by n r.out in
      let h = r.each port (Opener f t m) at in
      let left : View J = Opener f t (m + 1) in
      let new : View J = one (fresh f t m) in
      let up : m ≡ r.made = h.2 in
      let below : AllByRecursion (λ (x : Fed J). x.feeder < r.made) (given r.out ++ items) = each_weaker (IsFed r.feeders r.made) (λ (x : Fed J). x.feeder < r.made) (λ x p. p.1) (given r.out ++ items) r.fed in
      let under : AllByRecursion (λ (p : ℕ × Fed J). p.0 < r.made) r.out = each_weaker (IsPopped r.feeders r.made) (λ (p : ℕ × Fed J). p.0 < r.made) (λ p q. q.1) r.out r.popped in
      let sum : (n : ℕ) → total n (set views port left ++ new ∷ []) ≡ total n views + test m n = λ n.
      let a = total_set n views port (Opener f t m) left at in let s = total_snoc n (set views port left) new in omega arith in
      record {
        out = r.out;
        feeders = r.feeders;
        takers = r.takers;
        made = r.made + 1;
        opener = r.opener;
        each = each_snoc (Fits r.feeders r.takers (r.made + 1) r.opener put got) (set views port left) new
            ((h.0, h.1, omega arith, sym (own_none m r.made (given r.out ++ items) (omega arith) below), sym (by_none m r.made r.out (omega arith) under)), tt)
            (each_set (Fits r.feeders r.takers (r.made + 1) r.opener put got) views port left (h.0, h.1, ap (λ n. n + 1) up, h.3)
            (λ j v ne at'. fits_more r.feeders r.takers r.made r.opener put got j v (λ e. ne (e ∙ sym h.3)) (r.each j v at')));
        once = λ n. dite (ℕ_discrete m n)
            (λ e. let s = sum n in let l = r.later n (omega arith) in let c = test_same m n e in omega arith)
            (λ ne. let s = sum n in let l = r.once n in let c = test_other m n ne in omega arith);
        later = λ n le. let s = sum n in let l = r.later n (omega arith) in let c = test_other m n (λ e. omega arith) in omega arith;
        placed = r.placed;
        fed = each_weaker (IsFed r.feeders r.made) (IsFed r.feeders (r.made + 1)) (λ x p. (p.0, let lt = p.1 in omega arith)) (given r.out ++ items) r.fed;
        popped = each_weaker (IsPopped r.feeders r.made) (IsPopped r.feeders (r.made + 1)) (λ p q. (q.0, let lt = q.1 in omega arith)) r.out r.popped;
        enough = let e = h.0 in let e' = h.1 in omega arith;
      }

  -- ---- one pass takes another in
  pub joins_it : (port : ℕ) (ks : List (Known J)) (other : ℕ) (us : List (Known J)) → Merges Kept port (Records ks) other (Records us) (Records (us ++ ks)) spent
  joins_it port ks other us items views r at ne at' =
      let put : Seqs J = λ n. own n (given r.out ++ items) in
      let got : Seqs J = λ n. by n r.out in
      let both : View J = Records (us ++ ks) in
      let vs : List (View J) = set views port both in
      let there : get_elem? views other ≡ some (Records us) = sym (set_else views port other both ne) ∙ at' in
      let same : (n : ℕ) → total n (set vs other spent) ≡ total n views = λ n.
      let a = total_set n views port (Records ks) both at in let b = total_set n vs other (Records us) spent at' in let c = times-append n us ks in omega arith in
      record {
        out = r.out;
        feeders = r.feeders;
        takers = r.takers;
        made = r.made;
        opener = r.opener;
        each = each_set (Fits r.feeders r.takers r.made r.opener put got) vs other spent tt
            (λ j v _ p. each_set (Fits r.feeders r.takers r.made r.opener put got) views port both
            (each_append (Knows r.feeders r.takers r.made put got) us ks (r.each other (Records us) there) (r.each port (Records ks) at))
            (λ j v _ p. r.each j v p) j v p);
        once = λ n. let t = same n in let o = r.once n in omega arith;
        later = λ n le. same n ∙ r.later n le;
        placed = r.placed;
        fed = r.fed;
        popped = r.popped;
        enough = r.enough;
      }

  -- ---- the end
  settled : (port : ℕ) (k : Known J) (ks : List (Known J)) → length (k ∷ ks) ≡ k.feeders + k.takers → (items : List (Fed J)) (views : List (View J)) (r : Kept items views) → get_elem? views port ≡ some (Records (k ∷ ks))
      → Settles k.feeders (k ∷ ks) r.out items
  settled port k ks all items views r at =
      let put : Seqs J = λ n. own n (given r.out ++ items) in
      let got : Seqs J = λ n. by n r.out in
      let h : AllByRecursion (Knows r.feeders r.takers r.made put got) (k ∷ ks) = r.each port (Records (k ∷ ks)) at in
      let below : AllByRecursion (λ (x : Known J). x.number < r.made) (k ∷ ks) = each_weaker (Knows r.feeders r.takers r.made put got) (λ (x : Known J). x.number < r.made) (λ x q. q.2) (k ∷ ks) h in
      let most : (n : ℕ) → times n (k ∷ ks) ≤ 1 = λ n. let a = r.once n in let b = total_one n views port (Records (k ∷ ks)) at in omega arith in
      let has : (n : ℕ) → n < r.made → HasNumber n (k ∷ ks) = λ n lt. has_all r.made n (k ∷ ks) below (let e = h.0.0 in let e' = h.0.1 in let f = r.enough in omega arith) most lt in
      record {
        each = each_weaker (Knows r.feeders r.takers r.made put got) (Account r.out items) (λ x q. (q.3, q.4)) (k ∷ ks) h;
        fed = each_weaker (IsFed r.feeders r.made) (λ (x : Fed J). (x.feeder < k.feeders) × HasNumber x.feeder (k ∷ ks)) (λ x q. (subst (λ (n : ℕ). x.feeder < n) (sym h.0.0) q.0, has x.feeder q.1)) (given r.out ++ items) r.fed;
        popped = each_weaker (IsPopped r.feeders r.made) (λ (p : ℕ × Fed J). (k.feeders ≤ p.0) × HasNumber p.0 (k ∷ ks)) (λ p q. (subst (λ (n : ℕ). n ≤ p.0) (sym h.0.0) q.0, has p.0 q.1)) r.out r.popped;
        once = most;
      }

  -- the last pop
  closes_it : (port : ℕ) (k : Known J) (ks : List (Known J)) → length (k ∷ ks) ≡ k.feeders + k.takers → k.feeders ≤ k.number → Pops Kept port (Records (k ∷ ks)) (Closes (Records (k ∷ ks)))
  closes_it port k ks all pops x items views r at = let t = takes_it port k ks pops x items views r at in (t.0, t.1, (r.out, items, settled port k ks all (x ∷ items) views r at))

  rests_it : (port : ℕ) (k : Known J) (ks : List (Known J)) → length (k ∷ ks) ≡ k.feeders + k.takers → Learns Kept port (Records (k ∷ ks)) (Rests (Records (k ∷ ks)))
  rests_it port k ks all items views r at = (r.out, settled port k ks all items views r at)

  -- a pass that stands for all, and of which the first is a taker
  pub ends_it : (port : ℕ) (l : List (Known J)) → 0 < length l → length l ≡ (head l).feeders + (head l).takers → (head l).feeders ≤ (head l).number
      → Pops Kept port (Records l) (Closes (Records l)) × Learns Kept port (Records l) (Rests (Records l))
  ends_it port [] any all pops = absurd (omega arith)
  ends_it port (k ∷ ks) any all pops = (closes_it port k ks all pops, rests_it port k ks all)

  -- ---- the start
  first_fits : (j : ℕ) (v : View J) → get_elem? (Opener 0 0 0 ∷ []) j ≡ some v → Fits 0 0 0 0 (λ n. []) (λ n. []) j v
  first_fits zero v p = subst (Fits 0 0 0 0 (λ n. []) (λ n. []) 0) (some-injective (Opener 0 0 0) v p) (refl, refl, refl, refl)
  first_fits (suc j) v p = absurd (some-ne-none v (sym p))

  pub begins : Kept {J = J} [] (Opener 0 0 0 ∷ [])
  begins = record {
    out = [];
    feeders = 0;
    takers = 0;
    made = 0;
    opener = 0;
    each = first_fits;
    once = λ n. omega arith;
    later = λ n le. refl;
    placed = λ n. tt;
    fed = tt;
    popped = tt;
    enough = omega arith;
  }
