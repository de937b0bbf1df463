-- Each arena stands in the list once.
use Rattle.std.proofs.Common.{◌≡◌, ◌≢◌, ℕ, ◌+◌, ◌≤◌, true, false, cond, List, [], ◌∷◌, refl, sym, ◌∙◌, arith, inl, inr, zero-add}
use Rattle.std.specs.List.{count_by}
use Rattle.std.proofs.lemmas.Bool.{cases_eq, eq-eqb, ne_eqb}
use Rattle.std.proofs.lemmas.List.Elements.{All-head, All-tail, All-weaker}
use Rattle.std.proofs.lemmas.List.Sums.{sum_by-cons}
use Rattle.market_types.specs.State.{Arena}
use Rattle.arena_store.specs.Arenas.{has_number, IsMissing, StandOnce}
use Rattle.arena_store.specs.Store.{IsApart, IsKept}
use Rattle.arena_store.proofs.Found.{found-at, is-found, AllPairs-head, AllPairs-tail}
use Rattle.arena_store.proofs.Indices.{level-at, newer-before}

count-yes : (n : ℕ) (x : Arena) (xs : List Arena) → has_number n x ≡ true → count_by (has_number n) (x ∷ xs) ≡ 1 + count_by (has_number n) xs
count-yes n x xs e = sum_by-cons (λ (y : Arena). cond (has_number n y) 1 0) x xs ∙ rw e refl

count-no : (n : ℕ) (x : Arena) (xs : List Arena) → has_number n x ≡ false → count_by (has_number n) (x ∷ xs) ≡ count_by (has_number n) xs
count-no n x xs e = sum_by-cons (λ (y : Arena). cond (has_number n y) 1 0) x xs ∙ rw e (zero-add (count_by (has_number n) xs))

count-missing : (n : ℕ) (xs : List Arena) → IsMissing n xs → count_by (has_number n) xs ≡ 0
count-missing n [] h = refl
count-missing n (x ∷ xs) h =
    let P : Arena → Type 0 = λ (b : Arena). has_number n b ≡ false in
    count-no n x xs (All-head P x xs h) ∙ count-missing n xs (All-tail P x xs h)

once : (n : ℕ) (xs : List Arena) → IsApart xs → count_by (has_number n) xs ≤ 1
once n [] apart = omega arith
once n (x ∷ xs) apart =
    let R : Arena → Arena → Type 0 = λ (a b : Arena). a.number ≢ b.number in
    elim (cases_eq x.number n) [
      | inl e ↦
          let others : IsMissing n xs =
          All-weaker (λ (b : Arena). x.number ≢ b.number) (λ (b : Arena). has_number n b ≡ false) (λ b m. ne_eqb b.number n (λ f. m (e ∙ sym f))) xs (AllPairs-head R x xs apart) in
          omega (arith, count-yes n x xs (eq-eqb x.number n e), count-missing n xs others)
      | inr m ↦ omega (arith, count-no n x xs (ne_eqb x.number n m), once n xs (AllPairs-tail R x xs apart))
    ]

pub stand-once : (arenas : List Arena) → IsKept arenas → StandOnce arenas
stand-once arenas kept =
    record {
      once = λ n. once n arenas kept.apart;
      found = λ n a e. is-found n a arenas (found-at n arenas a kept.apart kept.newest_first e);
      in_level = λ level index a e. record {
        by_number = level-at level index arenas a kept.apart e;
        newer_before = newer-before level index arenas a kept.newest_first e;
      };
    }
