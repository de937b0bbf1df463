-- What a task is worth (own).
use Rattle.std.specs.Prelude.{ℕ, zero, suc, ◌+◌, ◌-◌, decimal}
use Rattle.std.specs.List.{sum_by}
use Rattle.plan_jobs.specs.declared.task.Task.{Task}
use Rattle.plan_jobs.specs.declared.task.Task.TheVariants.{Sum, Digits}

-- 1 + 2 + .. + n
abbrev pub sum_to : ℕ → ℕ
sum_to zero = 0
sum_to (suc n) = sum_to n + (n + 1)

-- the sum of the decimal digits of n; the digit 0 is written 48
abbrev pub digits_sum : ℕ → ℕ
digits_sum n = sum_by (λ digit. digit - 48) (decimal n)

abbrev pub value_of : Task → ℕ
value_of (Sum n) = sum_to n
value_of (Digits n) = digits_sum n
