-- An arena that is found by its number, and what stands around it.
use Rattle.std.proofs.Common.{◌≡◌, ◌≢◌, ℕ, suc, ◌<◌, ◌≤◌, true, false, ltb, List, [], ◌∷◌, ◌++◌, get_or, Some, refl, sym, ap, ◌∙◌, arith, inl, inr}
use Rattle.std.specs.List.{All, AllPairs}
use Rattle.std.proofs.lemmas.Bool.{cases_Bool, eq-eqb, ne_eqb, eqb-true, lt-ltb, le-ltb}
use Rattle.std.proofs.lemmas.List.Elements.{All-nil, All-cons, All-head, All-tail, All-weaker, All-append}
use Rattle.std.proofs.lemmas.List.Elements.{filter-append}
use Rattle.std.proofs.lemmas.List.{append-nil}
use Rattle.std.proofs.lemmas.Option.{same_Some}
use Rattle.market_types.specs.State.{Arena}
use Rattle.market_types.specs.Step.{arena_at}
use Rattle.arena_store.specs.Arenas.{has_number, IsMissing, newer, older, IsFound}
use Rattle.arena_store.specs.Store.{IsNewestFirst, IsApart}
use Rattle.arena_store.proofs.ByStamp.{IsOlder}
use Rattle.arena_store.proofs.LevelRows.{Matches, LevelsAt}

-- ---- pairs

pub AllPairs-head : {X : Type 0} (R : X → X → Type 0) (x : X) (xs : List X) → AllPairs R (x ∷ xs) → All (R x) xs
AllPairs-head R x xs h = λ k d within. h 0 (suc k) d (omega arith) (omega arith)

pub AllPairs-tail : {X : Type 0} (R : X → X → Type 0) (x : X) (xs : List X) → AllPairs R (x ∷ xs) → AllPairs R xs
AllPairs-tail R x xs h = λ i j d below within. h (suc i) (suc j) d (omega arith) (omega arith)

pub AllPairs-nil : {X : Type 0} (R : X → X → Type 0) → AllPairs R []
AllPairs-nil R = λ i j d below within. absurd (omega arith)

-- ---- around an arena

pub record Found (n : ℕ) (a : Arena) (arenas : List Arena) : Type 0 where
  pub before : List Arena
  pub after : List Arena
  pub split : arenas ≡ before ++ a ∷ after
  pub number : a.number ≡ n
  pub missing_before : IsMissing n before
  pub missing_after : IsMissing n after
  pub newer_before : All (λ (b : Arena). a.stamp < b.stamp) before
  pub older_after : All (IsOlder a.stamp) after

abbrev IsNewer : ℕ → Arena → Type 0
IsNewer t b = t < b.stamp

-- what stands behind an arena has other numbers
missing-behind : (n : ℕ) (a : Arena) (xs : List Arena) → a.number ≡ n → All (λ (b : Arena). a.number ≢ b.number) xs → IsMissing n xs
missing-behind n a xs e h =
    All-weaker (λ (b : Arena). a.number ≢ b.number) (λ (b : Arena). has_number n b ≡ false) (λ b apart. ne_eqb b.number n (λ f. apart (e ∙ sym f))) xs h

Found-cons : (n : ℕ) (a b : Arena) (bs : List Arena) → has_number n b ≡ false → a.stamp < b.stamp → Found n a bs → Found n a (b ∷ bs)
Found-cons n a b bs other above f =
    record {
      before = b ∷ f.before;
      after = f.after;
      split = ap (λ xs. b ∷ xs) f.split;
      number = f.number;
      missing_before = All-cons (λ (c : Arena). has_number n c ≡ false) b f.before other f.missing_before;
      missing_after = f.missing_after;
      newer_before = All-cons (IsNewer a.stamp) b f.before above f.newer_before;
      older_after = f.older_after;
    }

pub All-found : (P : Arena → Type 0) (n : ℕ) (arenas : List Arena) (a : Arena) → arena_at n arenas ≡ Some a → All P arenas → P a
All-found P n [] a e h = cc
All-found P n (b ∷ bs) a e h =
    elim (cases_Bool (has_number n b)) [
      | inl t ↦
          let same : Some b ≡ Some a = rw t at e in
          let q : b ≡ a = same_Some b a same in
          rw (← q) (All-head P b bs h)
      | inr f ↦
          let later : arena_at n bs ≡ Some a = rw f at e in
          All-found P n bs a later (All-tail P b bs h)
    ]

pub found-at : (n : ℕ) (arenas : List Arena) (a : Arena) → IsApart arenas → IsNewestFirst arenas → arena_at n arenas ≡ Some a → Found n a arenas
found-at n [] a apart newest e = cc
found-at n (b ∷ bs) a apart newest e =
    let R : Arena → Arena → Type 0 = λ (x y : Arena). x.number ≢ y.number in
    let S : Arena → Arena → Type 0 = λ (x y : Arena). y.stamp < x.stamp in
    elim (cases_Bool (has_number n b)) [
      | inl t ↦
          let same : Some b ≡ Some a = rw t at e in
          let q : b ≡ a = same_Some b a same in
          let number : b.number ≡ n = eqb-true b.number n t in
          rw (← q) (record {
            before = [];
            after = bs;
            split = refl;
            number = number;
            missing_before = All-nil (λ (c : Arena). has_number n c ≡ false);
            missing_after = missing-behind n b bs number (AllPairs-head R b bs apart);
            newer_before = All-nil (IsNewer b.stamp);
            older_after = AllPairs-head S b bs newest;
          })
      | inr f ↦
          let later : arena_at n bs ≡ Some a = rw f at e in
          Found-cons n a b bs f (All-found (λ (c : Arena). c.stamp < b.stamp) n bs a later (AllPairs-head S b bs newest))
          (found-at n bs a (AllPairs-tail R b bs apart) (AllPairs-tail S b bs newest) later)
    ]

-- ---- what follows

pub found-matches : (n : ℕ) (a : Arena) (arenas : List Arena) → Found n a arenas → All (Matches n a.stamp) arenas
found-matches n a arenas f =
    let here : Matches n a.stamp a = eq-eqb a.number n f.number ∙ sym (eq-eqb a.stamp a.stamp refl) in
    let front : All (Matches n a.stamp) f.before =
    λ k d within. f.missing_before k d within ∙ sym (ne_eqb (get_or f.before k d).stamp a.stamp (let h : a.stamp < (get_or f.before k d).stamp = f.newer_before k d within in λ e. omega arith)) in
    let back : All (Matches n a.stamp) f.after =
    λ k d within. f.missing_after k d within ∙ sym (ne_eqb (get_or f.after k d).stamp a.stamp (let h : (get_or f.after k d).stamp < a.stamp = f.older_after k d within in λ e. omega arith)) in
    rw f.split (All-append (Matches n a.stamp) f.before (a ∷ f.after) front (All-cons (Matches n a.stamp) a f.after here back))

pub found-levels : (n : ℕ) (a : Arena) (arenas : List Arena) → Found n a arenas → All (LevelsAt n a.level) arenas
found-levels n a arenas f =
    let other : (b : Arena) → has_number n b ≡ false → LevelsAt n a.level b = λ b unlike like. absurd (both n b unlike like) in
    rw f.split (All-append (LevelsAt n a.level) f.before (a ∷ f.after) (All-weaker (λ (b : Arena). has_number n b ≡ false) (LevelsAt n a.level) other f.before f.missing_before)
    (All-cons (LevelsAt n a.level) a f.after (λ _. refl) (All-weaker (λ (b : Arena). has_number n b ≡ false) (LevelsAt n a.level) other f.after f.missing_after)))
  where
    both : (n : ℕ) (b : Arena) → has_number n b ≡ false → has_number n b ≡ true → ⊥
    both n b unlike like = cc

newer-all : (t : ℕ) (xs : List Arena) → All (IsNewer t) xs → newer t xs ≡ xs
newer-all t [] h = refl
newer-all t (x ∷ xs) h = rw (lt-ltb t x.stamp (All-head (IsNewer t) x xs h)) (ap (λ ys. x ∷ ys) (newer-all t xs (All-tail (IsNewer t) x xs h)))

pub newer-none : (t : ℕ) (xs : List Arena) → All (λ (b : Arena). b.stamp ≤ t) xs → newer t xs ≡ []
newer-none t [] h = refl
newer-none t (x ∷ xs) h = rw (le-ltb t x.stamp (All-head (λ (b : Arena). b.stamp ≤ t) x xs h)) (newer-none t xs (All-tail (λ (b : Arena). b.stamp ≤ t) x xs h))

-- the arenas that stand before it are those that are newer
pub found-newer : (n : ℕ) (a : Arena) (arenas : List Arena) (f : Found n a arenas) → newer a.stamp arenas ≡ f.before
found-newer n a arenas f =
    let back : All (λ (b : Arena). b.stamp ≤ a.stamp) (a ∷ f.after) =
    All-cons (λ (b : Arena). b.stamp ≤ a.stamp) a f.after (omega arith) (All-weaker (IsOlder a.stamp) (λ (b : Arena). b.stamp ≤ a.stamp) (λ b h. omega arith) f.after f.older_after) in
    ap (newer a.stamp) f.split ∙ filter-append (λ (b : Arena). ltb a.stamp b.stamp) f.before (a ∷ f.after)
    ∙ ap (λ xs. newer a.stamp f.before ++ xs) (newer-none a.stamp (a ∷ f.after) back)
    ∙ append-nil (newer a.stamp f.before) ∙ newer-all a.stamp f.before f.newer_before

older-all : (t : ℕ) (xs : List Arena) → All (IsOlder t) xs → older t xs ≡ xs
older-all t [] h = refl
older-all t (x ∷ xs) h = rw (lt-ltb x.stamp t (All-head (IsOlder t) x xs h)) (ap (λ ys. x ∷ ys) (older-all t xs (All-tail (IsOlder t) x xs h)))

older-none : (t : ℕ) (xs : List Arena) → All (IsNewer t) xs → older t xs ≡ []
older-none t [] h = refl
older-none t (x ∷ xs) h =
    let above : t < x.stamp = All-head (IsNewer t) x xs h in
    rw (le-ltb x.stamp t (omega arith)) (older-none t xs (All-tail (IsNewer t) x xs h))

-- those that stand after it are those that are older
found-older : (n : ℕ) (a : Arena) (arenas : List Arena) (f : Found n a arenas) → older a.stamp arenas ≡ f.after
found-older n a arenas f =
    let own : older a.stamp (a ∷ f.after) ≡ older a.stamp f.after = rw (le-ltb a.stamp a.stamp (omega arith)) refl in
    ap (older a.stamp) f.split ∙ filter-append (λ (b : Arena). ltb b.stamp a.stamp) f.before (a ∷ f.after)
    ∙ ap (λ xs. xs ++ older a.stamp (a ∷ f.after)) (older-none a.stamp f.before f.newer_before) ∙ own ∙ older-all a.stamp f.after f.older_after

-- what is told of it
pub is-found : (n : ℕ) (a : Arena) (arenas : List Arena) → Found n a arenas → IsFound n a arenas
is-found n a arenas f =
    let front = found-newer n a arenas f in
    let back = found-older n a arenas f in
    record {
      split = f.split ∙ ap (λ xs. xs ++ a ∷ f.after) (sym front) ∙ ap (λ xs. newer a.stamp arenas ++ a ∷ xs) (sym back);
      number = f.number;
      missing_before = rw front f.missing_before;
      missing_after = rw back f.missing_after;
    }
