-- Two storeys written anew: a block of leaves, and the blocks.
use Rattle.std.specs.Prelude.{All}
use Rattle.std.proofs.Common.{◌≡◌, ℕ, ◌+◌, ◌*◌, ◌^◌, ◌<◌, ◌≤◌, List, [], length, get_or, sym, ap, subst, ◌∙◌, inl, inr, arith}
use Rattle.std.proofs.lemmas.Bool.{cases_lt, cases_eq}
use Rattle.std.proofs.lemmas.List.Elements.{All-nil, All-weaker}
use Rattle.market_types.specs.declared.row.Row.{Row}
use Rattle.market_types.specs.Rows.{requests}
use Rattle.wide_rows.specs.Joined.{joined_below}
use Rattle.wide_rows.specs.Storeys.{has_mandated, IsStorey, IsNext, block_of, block_rows, lanes, blocks_for, block_at, IsBlock, IsIndexed}
use Rattle.wide_rows.specs.declared.index.Index.{Index}
use Rattle.wide_rows.specs.declared.index.Entry.{Entry}
use Rattle.wide_rows.proofs.Joined.{all_joined, joined-free, joined-blocks, between, requests-part, length-part}
use Rattle.wide_rows.proofs.OfStoreys.{total_sums, total_counts}

-- an entry that tells of the rows at a place
pub record IsEntry (e : Entry) (r : ℕ → List Row) (place : ℕ) : Type 0 where
  pub sum : e.sum ≡ requests (r place)
  pub count_is : e.count ≡ length (r place)
  pub mandated : e.mandated ≡ has_mandated (r place)
  pub first : place ≡ 0 → e.oldest ≡ 0
  pub least : All (λ row. e.oldest ≤ row.stamp) (r place)
  pub older : (older : ℕ) → older < place → All (λ row. row.stamp < e.oldest) (r older)

-- the first leaves of a block
pub record IsBegun (x : Index) (r : ℕ → List Row) (b count : ℕ) : Type 0 where
  pub storey : IsStorey x (block_of r b) count
  pub first : 0 < count → b ≡ 0 → get_or x.oldest 0 0 ≡ 0
  pub older : 0 < count → (place : ℕ) → place < 16 * b → All (λ row. row.stamp < get_or x.oldest 0 0) (r place)

module _ (r : ℕ → List Row) (b : ℕ) where
  pub begun_none : (x : Index) → ((rows : ℕ → List Row) → IsStorey x rows 0) → (n : ℕ) → n ≡ 0 → IsBegun x r b n
  begun_none x blank n z = subst (λ (k : ℕ). IsBegun x r b k) (sym z) (record { storey = blank (block_of r b); first = λ l. absurd (omega arith); older = λ l. absurd (omega arith) })

  module _ (x : Index) (q : ℕ) (h : IsBegun x r b q) (some : (k : ℕ) → k < q → 0 < length (r (16 * b + k))) (e : Entry) (is : IsEntry e r (16 * b + q)) where
    pub next_leaf : IsNext e x (block_of r b) q
    next_leaf = record {
      sum = is.sum;
      count_is = is.count_is;
      mandated = is.mandated;
      rising = λ k l. between (get_or x.oldest k 0) e.oldest (r (16 * b + k)) (some k l) (h.storey.separates.least k l) (is.older (16 * b + k) (omega arith));
      least = is.least;
      older = λ k l. is.older (16 * b + k) (omega arith);
    }

    pub begun_more : (y : Index) → IsStorey y (block_of r b) (q + 1) → get_or y.oldest q 0 ≡ e.oldest → ((k : ℕ) → k < q → get_or y.oldest k 0 ≡ get_or x.oldest k 0) → (n : ℕ) → n ≡ q + 1 → IsBegun y r b n
    begun_more y storey here kept n z = subst (λ (k : ℕ). IsBegun y r b k) (sym z) (elim (cases_lt 0 q) [
      | inl l ↦ record {
        storey = storey;
        first = λ m y. kept 0 l ∙ h.first l y;
        older = λ m place below. subst (λ (o : ℕ). All (λ row. row.stamp < o) (r place)) (sym (kept 0 l)) (h.older l place below);
      }
      | inr g ↦
          let none : q ≡ 0 = omega arith in
          let key : get_or y.oldest 0 0 ≡ e.oldest = ap (λ k. get_or y.oldest k 0) (sym none) ∙ here in
          record {
            storey = storey;
            first = λ m y. key ∙ is.first (omega (arith, none, y));
            older = λ m place below. subst (λ (o : ℕ). All (λ row. row.stamp < o) (r place)) (sym key) (is.older place (omega arith));
          }
    ])

  pub begun_all : (x : Index) (q n : ℕ) → IsBegun x r b q → q ≡ lanes n b → IsBlock x r n b
  begun_all x q n h z = record {
    storey = subst (λ (k : ℕ). IsStorey x (block_of r b) k) z h.storey;
    first = λ y some. h.first (omega (arith, y)) y;
    older = λ some. h.older (omega arith);
  }

-- ---- the blocks

module _ (blocks : List Index) (r : ℕ → List Row) (n : ℕ) (room : n ≤ 160) (free : (k : ℕ) → n ≤ k → r k ≡ []) (some : (k : ℕ) → k < n → 0 < length (r k))
    (each : (g : ℕ) → g < 10 → IsBlock (block_at blocks g) r n g) (low : requests (joined_below r n) ≤ 1024 * 65535) (few : length (joined_below r n) ≤ 1024) where
  abbrev block : ℕ → Index
  block g = block_at blocks g

  pub rows_of_block : (g : ℕ) → joined_below (block_of r g) (lanes n g) ≡ block_rows r g
  rows_of_block g = sym (joined-free (block_of r g) (lanes n g) 16 (omega arith) (λ k l q. free (16 * g + k) (omega arith)))

  all_blocks : joined_below (block_rows r) (blocks_for n) ≡ joined_below r n
  all_blocks = joined-blocks r (blocks_for n) ∙ joined-free r n (16 * blocks_for n) (omega arith) (λ k l q. free k l)

  pub block_low : (g : ℕ) → g < blocks_for n → Rattle.wide_rows.specs.Columns.total (block g).sums < 2 ^ 32
  block_low g l =
      omega (arith, total_sums (block g) (block_of r g) (lanes n g) (each g (omega arith)).storey, ap requests (rows_of_block g), requests-part (block_rows r) (blocks_for n) g l, ap requests all_blocks, low)

  pub block_few : (g : ℕ) → g < blocks_for n → Rattle.wide_rows.specs.Columns.total (block g).counts < 2 ^ 32
  block_few g l =
      omega (
        arith,
        total_counts (block g) (block_of r g) (lanes n g) (each g (omega arith)).storey,
        ap (λ (rows : List Row). length rows) (rows_of_block g),
        length-part (block_rows r) (blocks_for n) g l,
        ap (λ (rows : List Row). length rows) all_blocks,
        few,
      )

  -- a block's first lane is at most all its stamps
  least_of : (g : ℕ) → g < blocks_for n → All (λ row. get_or (block g).oldest 0 0 ≤ row.stamp) (block_rows r g)
  least_of g l =
      let h = (each g (omega arith)).storey in
      all_joined (λ row. get_or (block g).oldest 0 0 ≤ row.stamp) (block_of r g) 16 (λ k q. elim (cases_lt k (lanes n g)) [
        | inl below ↦ elim (cases_eq k 0) [
          | inl z ↦ subst (λ (j : ℕ). All (λ row. get_or (block g).oldest 0 0 ≤ row.stamp) (block_of r g j)) (sym z) (h.separates.least 0 (omega arith))
          | inr ne ↦ (let t : get_or (block g).oldest 0 0 < get_or (block g).oldest k 0 = h.separates.rising 0 k (omega arith) below in
              All-weaker (λ (row : Row). get_or (block g).oldest k 0 ≤ row.stamp) (λ (row : Row). get_or (block g).oldest 0 0 ≤ row.stamp) (λ row m. omega arith) (block_of r g k) (h.separates.least k below))
        ]
        | inr past ↦ subst (All (λ row. get_or (block g).oldest 0 0 ≤ row.stamp)) (sym (free (16 * g + k) (omega arith))) (All-nil (λ (row : Row). get_or (block g).oldest 0 0 ≤ row.stamp))
      ])

  -- and above those of older blocks
  older_of : (g older : ℕ) → g < blocks_for n → older < g → All (λ row. row.stamp < get_or (block g).oldest 0 0) (block_rows r older)
  older_of g older l below =
      all_joined (λ row. row.stamp < get_or (block g).oldest 0 0) (block_of r older) 16 (λ k q. (each g (omega arith)).older (omega arith) (16 * older + k) (omega arith))

  -- so a block is the next of the top
  module _ (top : Index) (g : ℕ) (h : IsStorey top (block_rows r) g) (l : g < blocks_for n) (same : (k : ℕ) → k < g → get_or top.oldest k 0 ≡ get_or (block k).oldest 0 0)
      (e : Entry) (key : e.oldest ≡ get_or (block g).oldest 0 0)
      (is : (e.sum ≡ requests (joined_below (block_of r g) (lanes n g))) × (e.count ≡ length (joined_below (block_of r g) (lanes n g))) × (e.mandated ≡ has_mandated (joined_below (block_of r g) (lanes n g)))) where
    pub next_block : IsNext e top (block_rows r) g
    next_block = record {
      sum = is.0 ∙ ap requests (rows_of_block g);
      count_is = is.1 ∙ ap (λ (rows : List Row). length rows) (rows_of_block g);
      mandated = is.2 ∙ ap has_mandated (rows_of_block g);
      rising = λ k q.
          let first : 0 < lanes n k = omega arith in
          let t = between (get_or (block k).oldest 0 0) (get_or (block g).oldest 0 0) (r (16 * k + 0)) (some (16 * k + 0) (omega arith)) ((each k (omega arith)).storey.separates.least 0 first)
          ((each g (omega arith)).older (omega arith) (16 * k + 0) (omega arith)) in
          omega (arith, t, same k q, key);
      least = subst (λ (o : ℕ). All (λ row. o ≤ row.stamp) (block_rows r g)) (sym key) (least_of g l);
      older = λ k q. subst (λ (o : ℕ). All (λ row. row.stamp < o) (block_rows r k)) (sym key) (older_of g k l q);
    }

  -- all of them
  pub gathered : (top : Index) → length blocks ≡ 10 → IsStorey top (block_rows r) (blocks_for n) → ((k : ℕ) → k < blocks_for n → get_or top.oldest k 0 ≡ get_or (block k).oldest 0 0)
      → IsIndexed (record { blocks = blocks; top = top }) r n
  gathered top wide h same = record { wide = wide; room = room; free = free; blocks = each; top = h; same = same }
