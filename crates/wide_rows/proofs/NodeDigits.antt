-- How many binary digits there are.
use Rattle.std.proofs.Common.{◌≡◌, ℕ, zero, suc, ◌+◌, ◌/◌, ◌<◌, ◌≤◌, refl, arith, inl, inr}
use Rattle.std.proofs.lemmas.Bool.{cases_lt, lt-ltb, le-ltb}
use Rattle.std.proofs.lemmas.Int.Digits.{length-digits_of_step, length-digits_of-le}
use Rattle.market_types.specs.Bits.{bits}
use Rattle.wide_rows.specs.Ways.{least_node, least_put}

-- the digits of a number, from those of its half
pub bits-half : (n : ℕ) → 0 < n → bits n ≡ bits (n / 2) + 1
bits-half n some = length-digits_of_step 2 n (omega arith) some

-- a number that is not 0 has a digit
pub bits-some : (n : ℕ) → 0 < n → 1 ≤ bits n
bits-some n some = omega (arith, bits-half n some)

-- small numbers have few digits
pub bits-few : (n : ℕ) → n ≤ 1024 → bits n ≤ 11
bits-few n h = length-digits_of-le 2 11 n (omega arith) (omega arith)

next-below : (k n : ℕ) → n ≤ k → bits (n + 1) ≤ bits n + 1
next-below zero n few = let none : n ≡ 0 = omega arith in rw none (omega arith)
next-below (suc k) n few = elim (cases_lt 0 n) [
  | inl some ↦
      let whole = bits-half n some in
      let next = bits-half (n + 1) (omega arith) in
      elim (cases_lt (n / 2) ((n + 1) / 2)) [
        | inl more ↦ (
            let half : (n + 1) / 2 ≡ n / 2 + 1 = omega arith in
            let below : bits (n / 2 + 1) ≤ bits (n / 2) + 1 = next-below k (n / 2) (omega arith) in
            let step = rw half at next in
            omega (arith, step, whole, below))
        | inr same ↦ (
            let half : (n + 1) / 2 ≡ n / 2 = omega arith in
            let step = rw half at next in
            omega (arith, step, whole))
      ]
  | inr none ↦ (let zero_is : n ≡ 0 = omega arith in rw zero_is (omega arith))
]

-- a number that is one more has at most one digit more
pub bits-next : (n : ℕ) → bits (n + 1) ≤ bits n + 1
bits-next n = next-below n n (omega arith)

-- what one node of a level counts at least: no more than a leaf of all rows does, and one where there may be more leaves

pub node-leaf : (n : ℕ) → least_node n ≤ bits n
node-leaf n = elim (cases_lt 12 n) [
  | inl many ↦ rw (lt-ltb 12 n many) (bits-some n (omega arith))
  | inr few ↦ rw (le-ltb 12 n few) (omega arith)
]

pub node-shelf : (n : ℕ) → 12 < n → least_node n ≡ 1
node-shelf n many = rw (lt-ltb 12 n many) refl

pub put-leaf : (n : ℕ) → least_put n ≤ bits (n + 1)
put-leaf n = elim (cases_lt 12 n) [
  | inl many ↦ rw (lt-ltb 12 n many) (bits-some (n + 1) (omega arith))
  | inr few ↦ rw (le-ltb 12 n few) (omega arith)
]

pub put-shelf : (n : ℕ) → 12 < n → least_put n ≡ 1
put-shelf n many = rw (lt-ltb 12 n many) refl
