-- What a binary search finds among rising numbers.
use Rattle.std.proofs.Common.{◌≡◌, ◌≢◌, ℕ, zero, suc, ◌+◌, ◌-◌, ◌<◌, ◌≤◌, List, length, drop, get_or, Option, Some, Result, Ok, Err, IfNone, IfSome, sym, ap, ◌∙◌, arith, inl, inr, get_or-take, get_or-drop, length-take, length-drop}
use Rattle.std.specs.Prelude.{slice_range}
use Rattle.std.specs.List.{All}
use Rattle.std.specs.List.Sorted.{IsBinarySearchResult, IsNonDecreasingBy, IsSearchInRange}
use Rattle.std.specs.Ordering.{nat_cmp, ordering_index}
use Rattle.std.specs.Result.{MatchResult, result_ok}
use Rattle.std.proofs.lemmas.Bool.{cases_lt}
use Rattle.std.proofs.lemmas.Option.{same_Some}
use Rattle.std.proofs.lemmas.Bool.Decides.{nat_tests}
use Rattle.std.proofs.lemmas.Cmp.{ranked}
use Rattle.arena_store.specs.Held.{IsRising}

rank : (x y n : ℕ) → x ≤ y → ordering_index (nat_cmp x n) ≤ ordering_index (nat_cmp y n)
rank x y n h = grind (arith, nat_tests)

-- the comparisons with a number rise along the arenas
rises : (xs : List ℕ) (n : ℕ) → IsRising xs → IsNonDecreasingBy (λ (key : ℕ). ordering_index (nat_cmp key n)) xs
rises xs n rising i j d le within =
    elim (cases_lt i j) [
      | inl below ↦ rank (get_or xs i d) (get_or xs j d) n (let h : get_or xs i d < get_or xs j d = rising i j d below within in omega arith)
      | inr above ↦ let same : i ≡ j = omega arith in rw same (omega arith)
    ]

pub searched : (xs : List ℕ) (n : ℕ) → IsRising xs → (r : Result ℕ ℕ) → IsBinarySearchResult (λ (key : ℕ). nat_cmp key n) xs r
    → MatchResult r (λ i. (d : ℕ) → get_or xs i d ≡ n) (λ _. All (λ (key : ℕ). key ≢ n) xs)
searched xs n rising (Ok index) equal = λ d. ranked _ n _ (sym (equal d))
searched xs n rising (Err gap) parted =
    λ k d within.
    elim (cases_lt k gap) [
      | inl below ↦ let h : get_or xs k d < n = ranked _ n _ (sym ((parted (rises xs n rising)).0 k d (omega arith) below)) in λ e. omega arith
      | inr above ↦ let h : n < get_or xs k d = ranked _ n _ (sym ((parted (rises xs n rising)).1 k d above within)) in λ e. omega arith
    ]

-- ---- between which places a number stands

-- no more arenas stand between two than numbers between theirs
pub rising : (xs : List ℕ) → IsRising xs → (p q d : ℕ) → p ≤ q → q < length xs → get_or xs p d + (q - p) ≤ get_or xs q d
rising xs h p zero d le within = let same : p ≡ 0 = omega arith in rw same (omega arith)
rising xs h p (suc q) d le within =
    elim (cases_lt p (suc q)) [
      | inl below ↦ omega (arith, rising xs h p q d (omega arith) (omega arith), h q (suc q) d (omega arith) within)
      | inr above ↦ let same : p ≡ suc q = omega arith in rw same (omega arith)
    ]

-- what is read of a part is read of the whole
part-at : (xs : List ℕ) (low high k d : ℕ) → k < high - low → get_or (slice_range xs low high) k d ≡ get_or xs (low + k) d
part-at xs low high k d within = get_or-take (high - low) (drop low xs) k d within ∙ get_or-drop low xs k d

-- the arenas from one index on and before another, where the number would stand
pub record IsNear (xs : List ℕ) (n low high : ℕ) : Type 0 where
  pub order : low ≤ high
  pub within : high ≤ length xs
  pub before : (index d : ℕ) → index < low → get_or xs index d < n
  pub behind : (index d : ℕ) → high ≤ index → index < length xs → n < get_or xs index d

pub near-rising : (xs : List ℕ) (low high : ℕ) → high ≤ length xs → IsRising xs → IsRising (slice_range xs low high)
near-rising xs low high within h i j d below inside =
    let size : length (slice_range xs low high) ≤ high - low = omega (arith, length-take (high - low) (drop low xs)) in
    rw (part-at xs low high i d (omega arith), part-at xs low high j d (omega arith)) (h (low + i) (low + j) d (omega arith) (omega arith))

pub near-missing : (xs : List ℕ) (n low high : ℕ) → IsNear xs n low high → All (λ (key : ℕ). key ≢ n) (slice_range xs low high) → All (λ (key : ℕ). key ≢ n) xs
near-missing xs n low high near h k d within =
    elim (cases_lt k low) [
      | inl below ↦ let other : get_or xs k d < n = near.before k d below in λ e. omega arith
      | inr above ↦ elim (cases_lt k high) [
        | inl inside ↦
            let size : length (slice_range xs low high) ≡ high - low = omega (arith, length-take (high - low) (drop low xs), length-drop low xs, near.within) in
            let here : get_or (slice_range xs low high) (k - low) d ≢ n = h (k - low) d (omega arith) in
            let index : low + (k - low) ≡ k = omega arith in
            let same : get_or (slice_range xs low high) (k - low) d ≡ get_or xs k d = part-at xs low high (k - low) d (omega arith) ∙ ap (λ i. get_or xs i d) index in
            λ e. here (same ∙ e)
        | inr past ↦ let other : n < get_or xs k d = near.behind k d past within in λ e. omega arith
      ]
    ]

pub near-found : (xs : List ℕ) (n low high index : ℕ) → index < high - low → ((d : ℕ) → get_or (slice_range xs low high) index d ≡ n) → (d : ℕ) → get_or xs (low + index) d ≡ n
near-found xs n low high index within h d = sym (part-at xs low high index d within) ∙ h d

-- an index that was found is one of the part
pub found-within : (xs : List ℕ) (low high k : ℕ) (r : Result ℕ ℕ) → Some k ≡ result_ok r → IsSearchInRange r (length (slice_range xs low high)) → k < high - low
found-within xs low high k (Ok index) e within =
    let f : Some k ≡ Some index = e in
    let same : k ≡ index = same_Some k index f in
    let bound : index < length (slice_range xs low high) = within in
    omega (arith, length-take (high - low) (drop low xs))
found-within xs low high k (Err gap) e within = cc

-- the index that it gives, if any
pub index-missing : (xs : List ℕ) (n m : ℕ) (r : Result ℕ ℕ) (o : Option ℕ) → o ≡ result_ok r → m ≡ n → MatchResult r (λ i. (d : ℕ) → get_or xs i d ≡ m) (λ _. All (λ (key : ℕ). key ≢ m) xs)
    → IfNone o (All (λ (key : ℕ). key ≢ n) xs)
index-missing xs n m (Ok index) o e f h = rw e tt
index-missing xs n m (Err gap) o e f h = rw (e, ← f) h

pub index-found : (xs : List ℕ) (n m : ℕ) (r : Result ℕ ℕ) (o : Option ℕ) → o ≡ result_ok r → m ≡ n → MatchResult r (λ i. (d : ℕ) → get_or xs i d ≡ m) (λ _. All (λ (key : ℕ). key ≢ m) xs)
    → IfSome o (λ index. (d : ℕ) → get_or xs index d ≡ n)
index-found xs n m (Ok index) o e f h = rw (e, ← f) h
index-found xs n m (Err gap) o e f h = rw e tt
