-- The sums of four quads of a column, by vectors.
use Rattle.std.proofs.Common.{◌≡◌, ℕ, zero, suc, ◌+◌, ◌%◌, ◌<◌, List, [], ◌∷◌, ◌++◌, length, get_or, replicate, refl, ap, ◌∙◌, arith}
use Rattle.std.proofs.lemmas.List.{get_or_append_left}
use Rattle.wide_rows.specs.Columns.{total}
use Rattle.wide_rows.specs.Passed.{quad_sum}
use Rattle.wide_rows.proofs.Sums.{added, total_added}

-- a lane of a column beside a vector of zeros
abbrev pub beside_none : List ℕ → ℕ → ℕ
beside_none column i = get_or (column ++ replicate 16 0) i 0

-- four lanes added by vectors
abbrev pub four : List ℕ → ℕ → ℕ → ℕ → ℕ → ℕ
four column i j k l = ((beside_none column i + beside_none column j) % 4294967296 + (beside_none column k + beside_none column l) % 4294967296) % 4294967296

four_are : (column : List ℕ) (i j k l : ℕ) → length column ≡ 16 → i < 16 → j < 16 → k < 16 → l < 16
    → get_or column i 0 + get_or column j 0 + get_or column k 0 + get_or column l 0 < 4294967296
    → four column i j k l ≡ get_or column i 0 + get_or column j 0 + get_or column k 0 + get_or column l 0
four_are column i j k l long a b c d low = omega (
  arith,
  low,
  get_or_append_left column (replicate 16 0) 0 i (omega (arith, long)),
  get_or_append_left column (replicate 16 0) 0 j (omega (arith, long)),
  get_or_append_left column (replicate 16 0) 0 k (omega (arith, long)),
  get_or_append_left column (replicate 16 0) 0 l (omega (arith, long)),
)

module _ (column : List ℕ) (long : length column ≡ 16) (low : total column < 4294967296) where
  abbrev at : ℕ → ℕ
  at i = get_or column i 0

  all : total column ≡ 0 + at 0 + at 1 + at 2 + at 3 + at 4 + at 5 + at 6 + at 7 + at 8 + at 9 + at 10 + at 11 + at 12 + at 13 + at 14 + at 15
  all = total_added column ∙ ap (added (λ k. get_or column k 0)) long ∙ refl

  pub four_sums : (quad : ℕ) → quad < 4 → get_or (four column 0 2 1 3 ∷ four column 4 6 5 7 ∷ four column 8 10 9 11 ∷ four column 12 14 13 15 ∷ []) quad 0 ≡ quad_sum column quad
  four_sums zero l = four_are column 0 2 1 3 long (omega arith) (omega arith) (omega arith) (omega arith) (omega (arith, low, all)) ∙ omega arith
  four_sums (suc zero) l = four_are column 4 6 5 7 long (omega arith) (omega arith) (omega arith) (omega arith) (omega (arith, low, all)) ∙ omega arith
  four_sums (suc (suc zero)) l = four_are column 8 10 9 11 long (omega arith) (omega arith) (omega arith) (omega arith) (omega (arith, low, all)) ∙ omega arith
  four_sums (suc (suc (suc zero))) l = four_are column 12 14 13 15 long (omega arith) (omega arith) (omega arith) (omega arith) (omega (arith, low, all)) ∙ omega arith
  four_sums (suc (suc (suc (suc n)))) l = absurd (omega arith)
