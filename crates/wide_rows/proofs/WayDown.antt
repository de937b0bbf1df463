-- What a way down a shelf reads, against its rows, and how many visits it takes.
use Rattle.std.specs.List.{slice_get}
use Rattle.std.specs.declared.alloc.Global.{Global}
use Rattle.std.proofs.Common.{◌≡◌, ℕ, ◌+◌, ◌*◌, ◌/◌, ◌^◌, ◌<◌, ◌≤◌, min, false, is_some, List, Option, Some, None, IfSome, length, Box, refl, sym, ap, ◌∙◌, arith}
use Rattle.std.proofs.lemmas.Option.{slice_get_past}
use Rattle.market_types.specs.declared.row.Row.{Row}
use Rattle.market_types.specs.Rows.{requests, requests_above, first_mandated}
use Rattle.market_types.specs.Bits.{bits}
use Rattle.market_types.proofs.RowReadings.{above-le}
use Rattle.wide_rows.specs.Columns.{sum_above, total}
use Rattle.wide_rows.specs.Joined.{joined_below}
use Rattle.wide_rows.specs.Shelves.{rows_of, leaf_at, AreLeaves}
use Rattle.wide_rows.specs.Storeys.{has_mandated, IsPlace, block_of, block_rows, lanes, blocks_for, block_at, IsIndexed}
use Rattle.wide_rows.specs.declared.storeys.Storeys.{Storeys}
use Rattle.wide_rows.proofs.Counted.{bits-ge, bits-le, bits-mono, way, way_least}
use Rattle.wide_rows.proofs.OfShelves.{rows_joined, few_leaves, asked_low}
use Rattle.wide_rows.proofs.OfStoreys.{total_sums, above_is}
use Rattle.wide_rows.proofs.TwoStoreys.{block_is, blocks_are, block_part}

-- no mandate: no first one
pub no_first : (l : List Row) → has_mandated l ≡ false → first_mandated l ≡ None
no_first l e = none (first_mandated l) e
  where
    none : (o : Option Row) → is_some o ≡ false → o ≡ None
    none None e = refl
    none (Some x) e = cc

-- what holds in any case holds where there is a row
pub if_some : (o : Option Row) {P : Type 0} → P → IfSome o (λ _. P)
if_some None p = tt
if_some (Some x) p = p

module _ (m : Storeys) (leaves : List (Box (List Row) Global)) (h : AreLeaves leaves) (d : IsIndexed m (leaf_at leaves) (length leaves)) where
  abbrev r : ℕ → List Row
  r k = leaf_at leaves k

  abbrev n : ℕ
  n = length leaves

  pub all_rows : joined_below (block_rows r) (blocks_for n) ≡ rows_of leaves
  all_rows = blocks_are m r n d ∙ sym (rows_joined leaves)

  pub asked : requests (rows_of leaves) ≤ 1024 * 65535
  asked = omega (arith, asked_low leaves h, ap requests (rows_joined leaves))

  pub top_low : total m.top.sums < 2 ^ 32
  top_low = omega (arith, total_sums m.top (block_rows r) (blocks_for n) d.top, ap requests all_rows, asked)

  pub block_low : (b : ℕ) → b < blocks_for n → total (block_at m.blocks b).sums < 2 ^ 32
  block_low b l =
      omega (
        arith,
        total_sums (block_at m.blocks b) (block_of r b) (lanes n b) (d.blocks b (omega (arith, d.room))).storey,
        ap requests (block_is m r n d b),
        (block_part m r n d r d.free b l).0,
        asked_low leaves h,
      )

  -- ---- the sum above a stamp

  module _ (s b p : ℕ) (up : IsPlace s m.top (block_rows r) (blocks_for n) b) (down : IsPlace s (block_at m.blocks b) (block_of r b) (lanes n b) p) where
    pub sums_are : sum_above s m.top.oldest m.top.sums + sum_above s (block_at m.blocks b).oldest (block_at m.blocks b).sums + requests_above s (r (b * 16 + p)) ≡ requests_above s (rows_of leaves)
    sums_are = omega (
      arith,
      above_is m.top (block_rows r) (blocks_for n) d.top s b up,
      ap (requests_above s) all_rows,
      above_is (block_at m.blocks b) (block_of r b) (lanes n b) (d.blocks b (omega (arith, up.at.there, d.room))).storey s p down,
      ap (requests_above s) (block_is m r n d b),
      ap (λ k. requests_above s (r k)) (let e : b * 16 + p ≡ 16 * b + p = omega arith in e),
    )

    pub sums_low : sum_above s m.top.oldest m.top.sums + sum_above s (block_at m.blocks b).oldest (block_at m.blocks b).sums + requests_above s (r (b * 16 + p)) ≤ 1024 * 65535
    sums_low = omega (arith, sums_are, above-le s (rows_of leaves), asked)

    pub place_in : b * 16 + p < n
    place_in = omega (arith, down.at.there)

  -- ---- the row of an index

  pub no_row : (index : ℕ) → length (joined_below (block_rows r) (blocks_for n)) ≤ index → slice_get (rows_of leaves) index ≡ None
  no_row index l = ap (λ rows. slice_get rows index) (sym all_rows) ∙ slice_get_past (joined_below (block_rows r) (blocks_for n)) index l

  pub row_in : (index b rest p j : ℕ) → slice_get (joined_below (block_rows r) (blocks_for n)) index ≡ slice_get (block_rows r b) rest → slice_get (joined_below (block_of r b) (lanes n b)) rest ≡ slice_get (block_of r b p) j
      → slice_get (rows_of leaves) index ≡ slice_get (r (b * 16 + p)) j
  row_in index b rest p j e f =
      ap (λ rows. slice_get rows index) (sym all_rows) ∙ e ∙ ap (λ rows. slice_get rows rest) (sym (block_is m r n d b)) ∙ f
      ∙ ap (λ k. slice_get (r k) j) (let z : 16 * b + p ≡ b * 16 + p = omega arith in z)

  pub no_row_in : (b rest : ℕ) → rest < length (block_rows r b) → length (joined_below (block_of r b) (lanes n b)) ≤ rest → ⊥
  no_row_in b rest l g = omega (arith, ap (λ (rows : List Row). length rows) (block_is m r n d b))

  -- ---- the first mandated row

  pub no_mandate : has_mandated (joined_below (block_rows r) (blocks_for n)) ≡ false → first_mandated (rows_of leaves) ≡ None
  no_mandate e = ap first_mandated (sym all_rows) ∙ no_first (joined_below (block_rows r) (blocks_for n)) e

  pub first_in : (b p : ℕ) → first_mandated (joined_below (block_rows r) (blocks_for n)) ≡ first_mandated (block_rows r b) → first_mandated (joined_below (block_of r b) (lanes n b)) ≡ first_mandated (block_of r b p)
      → first_mandated (rows_of leaves) ≡ first_mandated (r (b * 16 + p))
  first_in b p e f =
      ap first_mandated (sym all_rows) ∙ e ∙ ap first_mandated (sym (block_is m r n d b)) ∙ f ∙ ap (λ k. first_mandated (r k)) (let z : 16 * b + p ≡ b * 16 + p = omega arith in z)

  pub no_first_in : (b : ℕ) → first_mandated (joined_below (block_rows r) (blocks_for n)) ≡ first_mandated (block_rows r b) → has_mandated (joined_below (block_of r b) (lanes n b)) ≡ false → first_mandated (rows_of leaves) ≡ None
  no_first_in b e f = ap first_mandated (sym all_rows) ∙ e ∙ ap first_mandated (sym (block_is m r n d b)) ∙ no_first (joined_below (block_of r b) (lanes n b)) f

  -- ---- visits

  module _ (two : 1 < n) where
    pub way_down : bits (blocks_for n) + bits (min 16 n) + 5 ≤ 2 * bits (length (rows_of leaves))
    way_down = way n (length (rows_of leaves)) two (omega (arith, (few_leaves leaves h).1)) (few_leaves leaves h).0

    pub in_top : (1 ≤ bits m.top.len) × (bits m.top.len ≤ 2 * bits (length (rows_of leaves)))
    in_top = (omega (arith, ap bits d.top.len, bits-ge 0 (blocks_for n) (omega arith)), omega (arith, ap bits d.top.len, way_down))

    pub in_block : (b : ℕ) → b < blocks_for n → bits m.top.len + bits (block_at m.blocks b).len ≤ 2 * bits (length (rows_of leaves))
    in_block b l = omega (arith, ap bits d.top.len, ap bits (d.blocks b (omega (arith, d.room))).storey.len, bits-mono (lanes n b) (min 16 n) (omega arith), way_down)

    pub in_leaf : (b leaf : ℕ) → b < blocks_for n → leaf ≤ 16 → bits m.top.len + bits (block_at m.blocks b).len + bits leaf ≤ 2 * bits (length (rows_of leaves))
    in_leaf b leaf l few = omega (arith, ap bits d.top.len, ap bits (d.blocks b (omega (arith, d.room))).storey.len, bits-mono (lanes n b) (min 16 n) (omega arith), bits-le 5 leaf (omega arith), way_down)

    pub down_to : (b leaf : ℕ) → b < blocks_for n → 0 < leaf → 4 ≤ bits m.top.len + bits (block_at m.blocks b).len + bits leaf
    down_to b leaf l some = omega (arith, way_least n b leaf two l some, ap bits d.top.len, ap bits (d.blocks b (omega (arith, d.room))).storey.len)

    pub down_at : (k : ℕ) → k < n → 4 ≤ bits (blocks_for n) + bits (lanes n (k / 16)) + bits (length (r k))
    down_at k l = way_least n (k / 16) (length (r k)) two (omega arith) (h.some k l)
