-- Sums of numbers and of digits.
use Rattle.std.proofs.Common.{◌≡◌, ℕ, zero, suc, ◌+◌, ◌-◌, ◌*◌, ◌/◌, ◌%◌, ◌^◌, ◌<◌, ◌≤◌, [], ◌∷◌, decimal, ap, ◌∙◌, arith}
use Rattle.std.specs.List.{sum_by}
use Rattle.std.proofs.lemmas.Fmt.{decimal_step, decimal_digit, decimal_by_steps}
use Rattle.std.proofs.lemmas.List.Sums.{sum_by_push}
use Rattle.plan_jobs.specs.Values.{sum_to, digits_sum}

pub sum_to_more : (n : ℕ) → sum_to (n + 1) ≡ sum_to n + (n + 1)
sum_to_more n = let e : n + 1 ≡ suc n = omega arith in ap sum_to e

pub sum_to_fits : (n : ℕ) → n ≤ 2 ^ 32 → sum_to n ≤ n * 2 ^ 32
sum_to_fits zero h = omega arith
sum_to_fits (suc n) h = let k : sum_to n ≤ n * 2 ^ 32 = sum_to_fits n (omega arith) in omega arith

pub digits_sum_step : (n : ℕ) → 10 ≤ n → n < 2 ^ 64 → digits_sum n ≡ digits_sum (n / 10) + n % 10
digits_sum_step n l h =
    let e = ap (sum_by (λ d. d - 48)) (decimal_step n l h) in
    let p = sum_by_push (λ d. d - 48) (decimal (n / 10)) (48 + n % 10) in
    omega (arith, e, p)

pub digits_sum_digit : (n : ℕ) → n < 10 → digits_sum n ≡ n
digits_sum_digit n h =
    let e = ap (sum_by (λ d. d - 48)) (decimal_digit n h) in
    let p : sum_by (λ d. d - 48) ((48 + n) ∷ []) ≡ n = omega arith in
    e ∙ p

small_step : (n s : ℕ) → 10 ≤ n → s ≤ n / 10 → s + n % 10 ≤ n
small_step n s l h = omega arith

pub digits_sum_small : (n : ℕ) → n < 2 ^ 64 → digits_sum n ≤ n
digits_sum_small n h =
    decimal_by_steps (λ n ds. sum_by (λ d. d - 48) ds ≤ n)
    (λ n l. let p : sum_by (λ d. d - 48) ((48 + n) ∷ []) ≡ n = omega arith in omega (arith, p))
    (λ n ds l k. let p = sum_by_push (λ d. d - 48) ds (48 + n % 10) in let q = small_step n (sum_by (λ d. d - 48) ds) l k in omega (arith, p, q))
    n h
