-- A step that gives nothing ends all.
use Rattle.std.proofs.Common.{◌≡◌, ℕ, zero, suc, ◌+◌, ◌-◌, ◌<◌, Option, Some, None, subst, refl, arith}
use Rattle.market_bench.specs.Repeated.{repeated}

-- nothing is there after so many steps
abbrev Ended : {A : Type 0} → (ℕ → A → Option A) → A → ℕ → Type 0
Ended step a n = repeated step a n ≡ None

-- then nothing after more
ended_after : {A : Type 0} (step : ℕ → A → Option A) (a : A) (n more : ℕ) → Ended step a n → Ended step a (n + more)
ended_after step a n zero h =
    let same : n ≡ n + zero = omega arith in
    subst (Ended step a) same h
ended_after step a n (suc more) h =
    let next : suc (n + more) ≡ n + suc more = omega arith in
    let ended : Ended step a (n + more) = ended_after step a n more h in
    subst (Ended step a) next (rw (ended) refl)

pub ends_all : {A : Type 0} (step : ℕ → A → Option A) (a before : A) (n count : ℕ) → repeated step a n ≡ Some before → n < count → step n before ≡ None → repeated step a count ≡ None
ends_all step a before n count so_far less none =
    let ended : Ended step a (suc n) = rw (so_far, none) refl in
    let rest : suc n + (count - suc n) ≡ count = omega arith in
    subst (Ended step a) rest (ended_after step a (suc n) (count - suc n) ended)
