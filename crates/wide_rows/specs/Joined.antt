-- Rows at places side by side, the oldest at place 0.
use Rattle.std.specs.Prelude.{ℕ, zero, suc, ◌<◌, ◌≤◌, List, [], ◌++◌, All}
use Rattle.market_types.specs.declared.row.Row.{Row}

-- the rows at the first places, the newest first
abbrev pub joined_below : (ℕ → List Row) → ℕ → List Row
joined_below rows zero = []
joined_below rows (suc count) = rows count ++ joined_below rows count

-- rising stamps, each at most those of the rows at its place, and above those of the rows at all older places
pub record Separates (stamps : ℕ → ℕ) (rows : ℕ → List Row) (count : ℕ) : Type 0 where
  pub rising : (place newer : ℕ) → place < newer → newer < count → stamps place < stamps newer
  pub least : (place : ℕ) → place < count → All (λ row. stamps place ≤ row.stamp) (rows place)
  pub older : (place newer : ℕ) → place < newer → newer < count → All (λ row. row.stamp < stamps newer) (rows place)

-- where a stamp stands: the rows at older places are older, and those at newer places newer
pub record IsAt (stamp : ℕ) (rows : ℕ → List Row) (count place : ℕ) : Type 0 where
  pub there : place < count
  pub older : (k : ℕ) → k < place → All (λ row. row.stamp < stamp) (rows k)
  pub newer : (k : ℕ) → place < k → k < count → All (λ row. stamp < row.stamp) (rows k)
