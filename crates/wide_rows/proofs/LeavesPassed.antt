-- Leaves and blocks of them that are passed over.
use Rattle.std.specs.declared.alloc.Global.{Global}
use Rattle.std.proofs.Common.{◌≡◌, ℕ, zero, suc, ◌+◌, ◌-◌, ◌*◌, ◌/◌, ◌%◌, ◌<◌, ◌≤◌, List, ◌++◌, Box, length, get_or, ap, ◌∙◌, inl, inr, arith, length-append}
use Rattle.std.proofs.lemmas.Bool.{cases_eq}
use Rattle.market_types.specs.declared.row.Row.{Row}
use Rattle.market_types.specs.Rows.{requests}
use Rattle.wide_rows.specs.Joined.{joined_below}
use Rattle.wide_rows.specs.Shelves.{leaf_at, AreLeaves}
use Rattle.wide_rows.specs.Passed.{AreLeavesPassed, AreRowsPassed}
use Rattle.wide_rows.specs.Storeys.{IsIndexed, block_at, block_rows}
use Rattle.wide_rows.specs.declared.storeys.Storeys.{Storeys}
use Rattle.wide_rows.proofs.Joined.{joined-plus, split_newest, length-part}
use Rattle.wide_rows.proofs.OfShelves.{pairs}

-- what is known of the last of the leaves that are left
pub record IsLastLeaf (m : Storeys) (r : ℕ → List Row) (left : ℕ) : Type 0 where
  pub rows_are : joined_below r left ≡ r (left - 1) ++ joined_below r (left - 1)
  pub asks : get_or (block_at m.blocks ((left - 1) / 16)).sums ((left - 1) % 16) 0 ≡ requests (r (left - 1))
  pub block : (left - 1) / 16 < 10

-- what is known of the last of the blocks that are left
pub record IsLastBlock (m : Storeys) (r : ℕ → List Row) (left : ℕ) : Type 0 where
  pub rows_are : joined_below r left ≡ block_rows r (left / 16 - 1) ++ joined_below r (left - 16)
  pub asks : get_or m.top.sums (left / 16 - 1) 0 ≡ requests (block_rows r (left / 16 - 1))

module _ (m : Storeys) (r : ℕ → List Row) (n : ℕ) (d : IsIndexed m r n) (left : ℕ) (some : 0 < left) (within : left ≤ n) where
  pub last_leaf : IsLastLeaf m r left
  last_leaf = record {
    rows_are = split_newest r left some;
    asks =
        (d.blocks ((left - 1) / 16) (omega (arith, d.room))).storey.sums ((left - 1) % 16) (omega arith)
        ∙ ap (λ k. requests (r k)) (let e : 16 * ((left - 1) / 16) + (left - 1) % 16 ≡ left - 1 = omega arith in e);
    block = omega (arith, d.room);
  }

  pub last_block : left % 16 ≡ 0 → IsLastBlock m r left
  last_block whole =
      let b : ℕ = left / 16 - 1 in
      let top : left ≡ 16 * b + 16 = omega arith in
      let below : 16 * b ≡ left - 16 = omega arith in
      record {
        rows_are = ap (joined_below r) top ∙ joined-plus r (16 * b) 16 ∙ ap (λ k. block_rows r b ++ joined_below r k) below;
        asks = d.top.sums b (omega arith);
      }

-- the lane of a leaf, in the block of the last of those that are left
pub same_lane : (m : Storeys) (all left : ℕ) → (all - 1) / 16 * 16 < left → left ≤ all → get_or (block_at m.blocks ((all - 1) / 16)).sums (left - 1 - (all - 1) / 16 * 16) 0 ≡ get_or (block_at m.blocks ((left - 1) / 16)).sums ((left - 1) % 16) 0
same_lane m all left l w =
    ap (λ k. get_or (block_at m.blocks ((all - 1) / 16)).sums k 0) (let e : left - 1 - (all - 1) / 16 * 16 ≡ (left - 1) % 16 = omega arith in e)
    ∙ ap (λ k. get_or (block_at m.blocks k).sums ((left - 1) % 16) 0) (let e : (all - 1) / 16 ≡ (left - 1) / 16 = omega arith in e)

-- ---- how many rows they have

module _ (leaves : List (Box (List Row) Global)) (h : AreLeaves leaves) where
  abbrev at : ℕ → List Row
  at k = leaf_at leaves k

  -- the newest of some leaves, two by two, and all rows before them
  pub newest_pairs : (left n : ℕ) → n ≤ left → left ≤ length leaves → 13 * (n / 2) + length (joined_below at (left - n)) ≤ length (joined_below at left)
  newest_pairs left n l w =
      omega (
        arith,
        pairs (λ k. at (left - n + k)) n (λ k below. omega (arith, h.apart (left - n + k) (omega arith), ap (λ j. length (at j)) (let e : suc (left - n + k) ≡ left - n + suc k = omega arith in e))),
        ap (λ (rows : List Row). length rows) (ap (joined_below at) (let e : left ≡ left - n + n = omega arith in e) ∙ joined-plus at (left - n) n),
        length-append (joined_below (λ k. at (left - n + k)) n) (joined_below at (left - n)),
      )

  -- each leaf has a row
  pub more_leaves : (n m : ℕ) → n ≤ m → m ≤ length leaves → length (joined_below at n) + (m - n) ≤ length (joined_below at m)
  more_leaves n zero l w = omega (arith, ap (λ k. length (joined_below at k)) (let e : n ≡ zero = omega arith in e))
  more_leaves n (suc m) l w = elim (cases_eq n (suc m)) [
    | inl e ↦ omega (arith, ap (λ k. length (joined_below at k)) e)
    | inr ne ↦ omega (arith, more_leaves n m (omega (arith, ne)) (omega arith), h.some m (omega arith), length-append (at m) (joined_below at m))
  ]

  pub rows_passed : (left to before after : ℕ) → left ≤ length leaves → AreLeavesPassed left to before after → AreRowsPassed (joined_below at left) (at to) (joined_below at to) before after
  rows_passed left to before after w p = record {
    near = p.near;
    blocks = p.blocks;
    far = p.far;
    counted = p.counted;
    few_near = p.few_near;
    few_blocks = p.few_blocks;
    few_far = p.few_far;
    all = omega (arith, p.at_is, more_leaves (suc to) left (omega (arith, p.at_is)) w, length-append (at to) (joined_below at to));
    single = omega (arith, newest_pairs left p.near (omega (arith, p.at_is)) w, length-part at (left - p.near) to (omega (arith, p.at_is)));
    paired = omega (arith, newest_pairs left (p.near + 1) (omega (arith, p.at_is)) w);
    older = λ some. omega (arith, newest_pairs left (p.near + 16 * p.blocks + 16) (p.older some) w);
  }

  -- a block of 16 leaves has rows
  pub block_some : (b : ℕ) → 16 * b + 16 ≤ length leaves → 0 < length (block_rows at b)
  block_some b l = omega (arith, length-part (λ k. at (16 * b + k)) 16 0 (omega arith), h.some (16 * b + 0) (omega arith))
