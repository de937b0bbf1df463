-- What is known of rows at places side by side, in two storeys.
use Rattle.std.specs.Prelude.{◌≡◌, ◌≢◌, ℕ, suc, ◌+◌, ◌-◌, ◌*◌, ◌/◌, ◌^◌, ◌<◌, ◌≤◌, min, Bool, is_some, List, [], length, All, slice_index, slice_index_or, if◌then◌else◌}
use Rattle.std.specs.Int.{bit_at}
use Rattle.market_types.specs.declared.row.Row.{Row}
use Rattle.market_types.specs.Rows.{requests, first_mandated}
use Rattle.wide_rows.specs.Joined.{joined_below, Separates, IsAt}
use Rattle.wide_rows.specs.declared.index.Index.{Index}
use Rattle.wide_rows.specs.declared.index.Entry.{Entry}
use Rattle.wide_rows.specs.declared.index.Change.{Change}
use Rattle.wide_rows.specs.declared.storeys.Storeys.{Storeys}

-- whether some row is mandated
abbrev pub has_mandated : List Row → Bool
has_mandated rows = is_some (first_mandated rows)

-- the lanes of an index say what the rows at the first places are
pub record IsStorey (index : Index) (rows : ℕ → List Row) (count : ℕ) : Type 0 where
  pub wide_oldest : length index.oldest ≡ 16
  pub wide_sums : length index.sums ≡ 16
  pub wide_counts : length index.counts ≡ 16
  pub len : index.len ≡ count
  pub room : count ≤ 16
  pub sums : (place : ℕ) → place < count → slice_index index.sums place ≡ requests (rows place)
  pub no_sums : (place : ℕ) → count ≤ place → slice_index index.sums place ≡ 0
  pub counts : (place : ℕ) → place < count → slice_index index.counts place ≡ length (rows place)
  pub no_counts : (place : ℕ) → count ≤ place → slice_index index.counts place ≡ 0
  pub mandates : (place : ℕ) → place < count → bit_at index.mandated place ≡ (if has_mandated (rows place) then 1 else 0)
  pub no_mandates : index.mandated < 2 ^ count
  pub separates : Separates (slice_index index.oldest) rows count

-- the lane where a stamp stands
pub record IsPlace (stamp : ℕ) (index : Index) (rows : ℕ → List Row) (count place : ℕ) : Type 0 where
  pub at : IsAt stamp rows count place
  pub low : slice_index index.oldest place ≤ stamp
  pub high : (newer : ℕ) → place < newer → newer < count → stamp < slice_index index.oldest newer

-- an entry says what the rows at the next place are
pub record IsNext (entry : Entry) (index : Index) (rows : ℕ → List Row) (count : ℕ) : Type 0 where
  pub sum : entry.sum ≡ requests (rows count)
  pub count_is : entry.count ≡ length (rows count)
  pub mandated : entry.mandated ≡ has_mandated (rows count)
  pub rising : (place : ℕ) → place < count → slice_index index.oldest place < entry.oldest
  pub least : All (λ row. entry.oldest ≤ row.stamp) (rows count)
  pub older : (place : ℕ) → place < count → All (λ row. row.stamp < entry.oldest) (rows place)

-- what changes at one place of so many: its rows stay between those of its neighbours
pub record IsChange (rows now : ℕ → List Row) (count place : ℕ) (change : Change) : Type 0 where
  pub there : place < count
  pub others : (other : ℕ) → other ≢ place → now other ≡ rows other
  pub less : change.less ≤ requests (rows place)
  pub sum : requests (now place) + change.less ≡ requests (rows place) + change.more
  pub gone : change.gone ≤ length (rows place)
  pub count_is : length (now place) + change.gone ≡ length (rows place) + change.come
  pub least : (stamp : ℕ) → All (λ row. stamp ≤ row.stamp) (rows place) → All (λ row. stamp ≤ row.stamp) (now place)
  pub older : suc place < count → (stamp : ℕ) → All (λ row. row.stamp < stamp) (rows place) → All (λ row. row.stamp < stamp) (now place)

-- the rows at the places of a block
abbrev pub block_of : (ℕ → List Row) → ℕ → ℕ → List Row
block_of rows block place = rows (16 * block + place)

-- all of them together
abbrev pub block_rows : (ℕ → List Row) → ℕ → List Row
block_rows rows block = joined_below (block_of rows block) 16

-- how many of so many places are in a block
abbrev pub lanes : ℕ → ℕ → ℕ
lanes count block = min 16 (count - 16 * block)

-- how many blocks hold so many places
abbrev pub blocks_for : ℕ → ℕ
blocks_for count = (count + 15) / 16

-- the index of a block
abbrev pub block_at : List Index → ℕ → Index
block_at blocks block = slice_index_or blocks block (record { oldest = []; sums = []; counts = []; mandated = 0; len = 0 })

-- an index says what the rows of a block are; its first lane holds 0 in the first block, and is above all rows of older blocks
pub record IsBlock (index : Index) (rows : ℕ → List Row) (count block : ℕ) : Type 0 where
  pub storey : IsStorey index (block_of rows block) (lanes count block)
  pub first : block ≡ 0 → 0 < count → slice_index index.oldest 0 ≡ 0
  pub older : 16 * block < count → (place : ℕ) → place < 16 * block → All (λ row. row.stamp < slice_index index.oldest 0) (rows place)

-- both storeys say what the rows at the first places are
pub record IsIndexed (storeys : Storeys) (rows : ℕ → List Row) (count : ℕ) : Type 0 where
  pub wide : length storeys.blocks ≡ 10
  pub room : count ≤ 160
  pub free : (place : ℕ) → count ≤ place → rows place ≡ []
  pub blocks : (block : ℕ) → block < 10 → IsBlock (block_at storeys.blocks block) rows count block
  pub top : IsStorey storeys.top (block_rows rows) (blocks_for count)
  pub same : (block : ℕ) → block < blocks_for count → slice_index storeys.top.oldest block ≡ slice_index (block_at storeys.blocks block).oldest 0

-- both storeys say what the rows are where they stand at two places or more, and blocks behind those in use have no entries
pub record IsKnown (storeys : Storeys) (rows : ℕ → List Row) (count : ℕ) : Type 0 where
  pub indexed : 1 < count → IsIndexed storeys rows count
  pub wide : length storeys.blocks ≡ 10
  pub unused : (block : ℕ) → count / 16 < block → block < 10 → IsBlock (block_at storeys.blocks block) rows count block

-- what was known of the rows before one place changed; they ask for less than 2 ^ 31, then and now
pub record WasIndexed (storeys : Storeys) (now : ℕ → List Row) (count place : ℕ) (change : Change) : Type 0 where
  pub rows : ℕ → List Row
  pub indexed : IsIndexed storeys rows count
  pub changed : IsChange rows now count place change
  pub low : requests (joined_below rows count) < 2 ^ 31
  pub low_now : requests (joined_below now count) < 2 ^ 31
  pub few_now : length (joined_below now count) < 2 ^ 31
