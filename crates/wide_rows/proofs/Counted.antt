-- Binary digits: how many a number has, and how many a way down a shelf takes.
use Rattle.std.proofs.Common.{◌≡◌, ℕ, zero, suc, ◌+◌, ◌-◌, ◌*◌, ◌/◌, ◌^◌, ◌<◌, ◌≤◌, min, inl, inr, refl, arith, pow-suc}
use Rattle.std.specs.Int.Count.{count_leading_zeros}
use Rattle.std.proofs.lemmas.Bool.{cases_lt}
use Rattle.std.proofs.lemmas.Int.Digits.{length-digits_of_step, length-digits_of-le}
use Rattle.std.proofs.lemmas.Nat.{leading_top}
use Rattle.market_types.specs.Bits.{bits}
use Rattle.wide_rows.specs.Storeys.{blocks_for, lanes}

half_ge : (p n : ℕ) → 2 * p ≤ n → p ≤ n / 2
half_ge p n l = omega arith

pub bits-ge : (j n : ℕ) → 2 ^ j ≤ n → suc j ≤ bits n
bits-ge zero n l = omega (arith, length-digits_of_step 2 n (omega arith) (omega arith))
bits-ge (suc j) n l =
    let some : 0 < n = omega (arith, bits-pow (suc j)) in
    omega (arith, length-digits_of_step 2 n (omega arith) some, bits-ge j (n / 2) (half_ge (2 ^ j) n (omega (arith, pow-suc 2 j))))
  where
    bits-pow : (k : ℕ) → 0 < 2 ^ k
    bits-pow zero = omega arith
    bits-pow (suc k) = omega (arith, pow-suc 2 k, bits-pow k)

pub bits-le : (k n : ℕ) → n < 2 ^ k → bits n ≤ k
bits-le k n l = length-digits_of-le 2 k n (omega arith) l

-- as the processor counts them
pub bits_counted : (n : ℕ) → n < 2 ^ 64 → 64 - count_leading_zeros 64 n ≡ bits n
unfolding count_leading_zeros
bits_counted zero l = refl
bits_counted (suc n) l =
    let t = leading_top 64 (suc n) (omega arith) l in
    omega (arith, t.1, bits-ge t.0 (suc n) t.2, bits-le (suc t.0) (suc n) t.3)

mono-below : (k m n : ℕ) → n ≤ k → m ≤ n → bits m ≤ bits n
mono-below k zero n p q = omega arith
mono-below zero (suc m) n p q = absurd (omega arith)
mono-below (suc k) (suc m) n p q =
    omega (arith, length-digits_of_step 2 (suc m) (omega arith) (omega arith), length-digits_of_step 2 n (omega arith) (omega arith), mono-below k (suc m / 2) (n / 2) (omega arith) (omega arith))

-- a greater number has no fewer
pub bits-mono : (m n : ℕ) → m ≤ n → bits m ≤ bits n
bits-mono m n l = mono-below n m n (omega arith) l

-- one more has at most one more
pub bits-next : (m n : ℕ) → n ≤ m + 1 → bits n ≤ 2 * bits m + 1
bits-next zero n l = omega (arith, bits-le 1 n (omega arith))
bits-next (suc m) n l = omega (arith, bits-mono n (2 * suc m) (omega arith), length-digits_of_step 2 (2 * suc m) (omega arith) (omega arith), bits-mono (2 * suc m / 2) (suc m) (omega arith), bits-ge 0 (suc m) (omega arith))

-- a way down two leaves or more
pub way : (leaves rows : ℕ) → 1 < leaves → leaves ≤ 160 → 13 * (leaves / 2) ≤ rows → bits (blocks_for leaves) + bits (min 16 leaves) + 5 ≤ 2 * bits rows
way leaves rows two most many = elim (cases_lt leaves 4) [
  | inl few ↦ omega (arith, bits-le 1 (blocks_for leaves) (omega arith), bits-le 2 (min 16 leaves) (omega arith), bits-ge 3 rows (omega arith))
  | inr four ↦ elim (cases_lt leaves 16) [
    | inl few ↦ omega (arith, bits-le 1 (blocks_for leaves) (omega arith), bits-le 4 (min 16 leaves) (omega arith), bits-ge 4 rows (omega arith))
    | inr more ↦ omega (arith, bits-le 4 (blocks_for leaves) (omega arith), bits-le 5 (min 16 leaves) (omega arith), bits-ge 6 rows (omega arith))
  ]
]

-- and no less: the top has two blocks, or the block has two leaves
pub way_least : (leaves block leaf : ℕ) → 1 < leaves → block < blocks_for leaves → 0 < leaf → 4 ≤ bits (blocks_for leaves) + bits (lanes leaves block) + bits leaf
way_least leaves block leaf two there some = elim (cases_lt leaves 17) [
  | inl one ↦ omega (arith, bits-ge 0 (blocks_for leaves) (omega arith), bits-ge 1 (lanes leaves block) (omega arith), bits-ge 0 leaf (omega arith))
  | inr more ↦ omega (arith, bits-ge 1 (blocks_for leaves) (omega arith), bits-ge 0 (lanes leaves block) (omega arith), bits-ge 0 leaf (omega arith))
]
