-- The mandates of lanes, a bit for each.
use Rattle.std.specs.Int.{bit_at, bit_not}
use Rattle.std.specs.Int.Bits.{or_zero_r}
use Rattle.std.specs.Int.Count.{count_leading_zeros}
use Rattle.std.proofs.Common.{◌≡◌, ◌≢◌, ℕ, suc, ◌+◌, ◌-◌, ◌*◌, ◌/◌, ◌%◌, ◌^◌, ◌<◌, ◌≤◌, max, min, Bool, true, false, cond, bit_and, bit_or, sym, ap, ◌∙◌, inl, inr, arith, w32, pow-suc}
use Rattle.std.proofs.lemmas.Bool.{cases_lt}
use Rattle.std.proofs.lemmas.Nat.{one_shl, or_lt, and_le_l, and_le_r, leading_top, pow_pos}
use Rattle.std.proofs.lemmas.Nat.Bits.{bit_at_or, bit_at_and, bit_at_not, bit_at_ones, bit_at_ones_above, bit_at-suc, bit_at_above, bit_at-lt, bit_at_set_same, bit_at_set_other, bit_at_clear_same, bit_at_clear_other}
use Rattle.std.proofs.Math.Pow.{pow-lt, shr_lt}
use Rattle.std.proofs.Math.Nat.{pow-le-pow_right, div-eq_of_lt-le}

-- the bit of a mandate, moved to its place
abbrev pub placed : Bool → ℕ → ℕ
placed mandated place = cond mandated 1 0 * 2 ^ place % 2 ^ 32

no_bit : (n place : ℕ) → bit_or n (placed false place) ≡ n
no_bit n place = ap (bit_or n) (let e : placed false place ≡ 0 = omega arith in e) ∙ or_zero_r n

-- ---- a bit written where none stands

pub written_same : (n place : ℕ) (mandated : Bool) → place < 32 → bit_at n place ≡ 0 → bit_at (bit_or n (placed mandated place)) place ≡ cond mandated 1 0
written_same n place true within clear = bit_at_set_same w32 n place within
written_same n place false within clear = ap (λ m. bit_at m place) (no_bit n place) ∙ clear

pub written_other : (n place : ℕ) (mandated : Bool) → place < 32 → (i : ℕ) → i ≢ place → bit_at (bit_or n (placed mandated place)) i ≡ bit_at n i
written_other n place true within i ne = bit_at_set_other w32 n place within i ne
written_other n place false within i ne = ap (λ m. bit_at m i) (no_bit n place)

placed_lt : (mandated : Bool) (place n : ℕ) → place < n → n ≤ 16 → placed mandated place < 2 ^ n
placed_lt true place n l m = omega (arith, one_shl place 32 (omega arith), pow-lt l)
placed_lt false place n l m = omega (arith, pow_pos n)

pub written_lt : (m place n : ℕ) (mandated : Bool) → m < 2 ^ n → place < n → n ≤ 16 → bit_or m (placed mandated place) < 2 ^ n
written_lt m place n mandated low l within = or_lt n m (placed mandated place) low (placed_lt mandated place n l within)

-- ---- a bit replaced

abbrev pub cleared : ℕ → ℕ → ℕ
cleared n place = bit_and n (bit_not w32 (1 * 2 ^ place % 2 ^ 32))

pub replaced_same : (n place : ℕ) (mandated : Bool) → place < 32 → bit_at (bit_or (cleared n place) (placed mandated place)) place ≡ cond mandated 1 0
replaced_same n place mandated within = written_same (cleared n place) place mandated within (bit_at_clear_same w32 n place within)

pub replaced_other : (n place : ℕ) (mandated : Bool) → place < 32 → (i : ℕ) → i < 32 → i ≢ place → bit_at (bit_or (cleared n place) (placed mandated place)) i ≡ bit_at n i
replaced_other n place mandated within i l ne = written_other (cleared n place) place mandated within i ne ∙ bit_at_clear_other w32 n place within i l ne

pub replaced_lt : (m place n : ℕ) (mandated : Bool) → m < 2 ^ n → place < n → n ≤ 16 → bit_or (cleared m place) (placed mandated place) < 2 ^ n
replaced_lt m place n mandated low l within = written_lt (cleared m place) place n mandated (omega (arith, and_le_l m (bit_not w32 (1 * 2 ^ place % 2 ^ 32)))) l within

-- ---- a bit taken out

abbrev pub before : ℕ → ℕ
before place = 1 * 2 ^ place % 2 ^ 32 - 1

abbrev pub bit_out : ℕ → ℕ → ℕ
bit_out n place = bit_or (bit_and n (before place)) (bit_and (n / 2 ^ 1) (bit_not w32 (before place)))

before_is : (place : ℕ) → place < 32 → before place ≡ 2 ^ place - 1
before_is place within = omega (arith, one_shl place 32 within)

small : (place : ℕ) → place < 32 → before place < 2 ^ 32
small place within = omega (arith, before_is place within, pow-lt within)

next_bit : (n i : ℕ) → bit_at (n / 2 ^ 1) i ≡ bit_at n (suc i)
next_bit n i = sym (bit_at-suc n i)

out_at : (n place i : ℕ) → bit_at (bit_out n place) i ≡ max (min (bit_at n i) (bit_at (before place) i)) (min (bit_at (n / 2 ^ 1) i) (bit_at (bit_not w32 (before place)) i))
out_at n place i =
    bit_at_or (bit_and n (before place)) (bit_and (n / 2 ^ 1) (bit_not w32 (before place))) i
    ∙ ap (λ a. max a (bit_at (bit_and (n / 2 ^ 1) (bit_not w32 (before place))) i)) (bit_at_and n (before place) i)
    ∙ ap (λ b. max (min (bit_at n i) (bit_at (before place) i)) b) (bit_at_and (n / 2 ^ 1) (bit_not w32 (before place)) i)

pub out_low : (n place i : ℕ) → place < 32 → i < place → bit_at (bit_out n place) i ≡ bit_at n i
out_low n place i within l =
    let mask : bit_at (before place) i ≡ 1 = ap (λ m. bit_at m i) (before_is place within) ∙ bit_at_ones place i l in
    omega (arith, out_at n place i, mask, bit_at_not w32 (before place) i (small place within) (omega arith), bit_at-lt n i)

pub out_high : (n place i : ℕ) → place < 32 → place ≤ i → i < 32 → bit_at (bit_out n place) i ≡ bit_at n (suc i)
out_high n place i within l high =
    let mask : bit_at (before place) i ≡ 0 = ap (λ m. bit_at m i) (before_is place within) ∙ bit_at_ones_above place i l in
    omega (arith, out_at n place i, mask, bit_at_not w32 (before place) i (small place within) high, next_bit n i, bit_at-lt n (suc i))

pub out_lt : (m place n : ℕ) → m < 2 ^ (n + 1) → place ≤ n → n < 16 → bit_out m place < 2 ^ n
out_lt m place n low l within =
    or_lt n (bit_and m (before place)) (bit_and (m / 2 ^ 1) (bit_not w32 (before place)))
    (omega (arith, and_le_r m (before place), before_is place (omega arith), pow-le-pow_right {n = 2} (omega arith) l, pow_pos n))
    (omega (arith, and_le_l (m / 2 ^ 1) (bit_not w32 (before place)), shr_lt n 1 low))

-- ---- the highest bit

top_bit : (m j : ℕ) → 2 ^ j ≤ m → m < 2 ^ suc j → bit_at m j ≡ 1
top_bit m j from to = ap (λ q. q % 2) (div-eq_of_lt-le {k = 1} (2 ^ j) (omega (arith, from)) (omega (arith, to, pow-suc j)))

top_within : (m n j : ℕ) → m < 2 ^ n → 2 ^ j ≤ m → j < n
top_within m n j low from = elim (cases_lt j n) [
  | inl l ↦ l
  | inr g ↦ absurd (omega (arith, low, from, pow-le-pow_right {n = 2} (omega arith) g))
]

abbrev pub top : ℕ → ℕ
top m = 31 - count_leading_zeros 32 m

-- of a number that is not 0
pub highest : (m n : ℕ) → ¬ (m ≡ 0) → m < 2 ^ n → n ≤ 16 → (top m < n) × (bit_at m (top m) ≡ 1) × ((k : ℕ) → top m < k → bit_at m k ≡ 0)
highest m n some low within =
    let t = leading_top 32 m (omega (arith, some)) (omega (arith, low, pow-le-pow_right {n = 2} (omega arith) (let l : n ≤ 32 = omega arith in l))) in
    let is : top m ≡ t.0 = omega (arith, t.1) in (
      omega (arith, is, top_within m n t.0 low t.2),
      ap (bit_at m) is ∙ top_bit m t.0 t.2 t.3,
      λ k l. bit_at_above m (suc t.0) k t.3 (omega (arith, is)),
    )
