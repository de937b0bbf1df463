-- How heights, numbers of rows and binary digits bound one another.
use Rattle.std.proofs.Common.{◌≡◌, ℕ, zero, suc, ◌+◌, ◌*◌, ◌/◌, ◌≤◌, max, inl, inr, arith}
use Rattle.std.proofs.lemmas.Bool.{cases_order}
use Rattle.std.proofs.lemmas.Int.Digits.{length-digits_of_step}
use Rattle.market_types.specs.Bits.{bits}
use Rattle.prefix_tree.specs.Nodes.{rows_for}

-- one more level needs no fewer rows
pub rows_for-step : (h : ℕ) → rows_for h ≤ rows_for (suc h)
rows_for-step zero = omega arith
rows_for-step (suc zero) = omega arith
rows_for-step (suc (suc h)) = omega (arith, rows_for-step h)

-- a height is at most twice the rows that it needs
pub height-le-rows : (h n : ℕ) → rows_for h ≤ n → h ≤ 2 * n
height-le-rows zero n p = omega arith
height-le-rows (suc zero) n p = omega arith
height-le-rows (suc (suc h)) n p = omega (arith, height-le-rows h (rows_for h) (omega arith))

-- a node over two sides of nearly one height has the rows for its own
pub filled_node : (a b m n : ℕ) → a ≤ b + 1 → b ≤ a + 1 → rows_for a ≤ m → rows_for b ≤ n → rows_for (max a b + 1) ≤ m + n + 1
filled_node a b m n p q s t =
    elim (cases_order a b) [
      | inl e ↦ let h : max a b + 1 ≡ suc b = omega arith in let g : rows_for a ≡ rows_for b = cc in rw h (omega (arith, rows_for-step b, rows_for-step (suc b)))
      | inr (inl less) ↦ let h : max a b + 1 ≡ suc (suc a) = omega arith in let g : b ≡ suc a = omega arith in let i : rows_for (suc a) ≤ n = rw g at t in rw h (omega (arith, rows_for-step a))
      | inr (inr more) ↦ let h : max a b + 1 ≡ suc (suc b) = omega arith in let g : a ≡ suc b = omega arith in let i : rows_for (suc b) ≤ m = rw g at s in rw h (omega (arith, rows_for-step b))
    ]

-- two more levels take one more binary digit of rows
height-le-below : (k n h : ℕ) → n ≤ k → rows_for h ≤ n → h ≤ 2 * bits n
height-le-below k n zero p q = omega arith
height-le-below zero n (suc h) p q = absurd (omega (arith, height-le-rows (suc h) n q))
height-le-below (suc k) n (suc zero) p q = omega (arith, length-digits_of_step 2 n (omega arith) (omega arith))
height-le-below (suc k) n (suc (suc h)) p q =
    omega (arith, length-digits_of_step 2 n (omega arith) (omega arith), height-le-below k (n / 2) h (omega arith) (omega arith))

-- a height is at most twice the binary digits of the rows that it needs
pub height-le-bits : (n h : ℕ) → rows_for h ≤ n → h ≤ 2 * bits n
height-le-bits n h q = height-le-below n n h (omega arith) q
