-- Words on columns: lists whose elements at one place belong together.
use Rattle.std.specs.Prelude.{ℕ, List, filter, sum_by, nat_lt, not}
use Rattle.std.specs.List.{zip, prefix_len}

-- the sum of what stands beside the keys that are above a stamp
abbrev pub sum_above : ℕ → List ℕ → List ℕ → ℕ
sum_above stamp keys sums = sum_by (λ (lane : ℕ × ℕ). lane.1) (filter (λ lane. nat_lt stamp lane.0) (zip keys sums))

-- how many keys come before the first that is above a stamp
abbrev pub place_above : ℕ → List ℕ → ℕ
place_above stamp keys = prefix_len (λ key. not (nat_lt stamp key)) keys

-- the sum of a column
abbrev pub total : List ℕ → ℕ
total sums = sum_by (λ sum. sum) sums
