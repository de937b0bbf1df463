-- How many binary digits there are.
use Rattle.std.proofs.Common.{◌≡◌, ℕ, zero, suc, ◌+◌, ◌/◌, ◌≤◌, arith, inl, inr, length}
use Rattle.std.proofs.lemmas.Bool.{cases_lt}
use Rattle.std.proofs.lemmas.Int.Digits.{length-digits_of_step, length-digits_of-le}
use Rattle.std.specs.Int.Digits.{digits_of}
use Rattle.market_types.specs.Bits.{bits}

bits-below : (k m n : ℕ) → n ≤ k → m ≤ n → bits m ≤ bits n
bits-below zero m n few h = let a : m ≡ 0 = omega arith in let b : n ≡ 0 = omega arith in rw (a, b) (omega arith)
bits-below (suc k) m n few h =
    elim (cases_lt 0 m) [
      | inl some ↦
          let a : length (digits_of 2 m) ≡ length (digits_of 2 (m / 2)) + 1 = length-digits_of_step 2 m (omega arith) some in
          let b : length (digits_of 2 n) ≡ length (digits_of 2 (n / 2)) + 1 = length-digits_of_step 2 n (omega arith) (omega arith) in
          let c : bits (m / 2) ≤ bits (n / 2) = bits-below k (m / 2) (n / 2) (omega arith) (omega arith) in
          omega arith
      | inr none ↦ let a : m ≡ 0 = omega arith in rw a (omega arith)
    ]

-- more rows have no fewer digits
pub bits-more : (m n : ℕ) → m ≤ n → bits m ≤ bits n
bits-more m n h = bits-below n m n (omega arith) h

pub bits-few : (n : ℕ) → n ≤ 1024 → bits n ≤ 11
bits-few n h = length-digits_of-le 2 11 n (omega arith) (omega arith)
