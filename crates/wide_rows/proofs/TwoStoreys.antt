-- Two storeys of indexes over rows at places side by side.
use Rattle.std.specs.Prelude.{All}
use Rattle.std.specs.Int.{bit_at}
use Rattle.std.proofs.Common.{◌≡◌, ◌≢◌, ℕ, ◌+◌, ◌-◌, ◌*◌, ◌/◌, ◌%◌, ◌^◌, ◌<◌, ◌≤◌, cond, List, [], ◌∷◌, length, get_or, set, sym, ap, subst, ◌∙◌, inl, inr, arith}
use Rattle.std.proofs.lemmas.Bool.{cases_lt, cases_eq}
use Rattle.std.proofs.lemmas.List.{get_or-set_same, get_or-set_other, length-set}
use Rattle.std.proofs.lemmas.List.Elements.{All-nil, All-cons}
use Rattle.market_types.specs.declared.row.Row.{Row}
use Rattle.market_types.specs.Rows.{requests}
use Rattle.wide_rows.specs.Joined.{joined_below, IsAt}
use Rattle.wide_rows.specs.Storeys.{has_mandated, IsStorey, IsPlace, IsChange, block_of, block_rows, lanes, blocks_for, block_at, IsBlock, IsIndexed, IsKnown, WasIndexed}
use Rattle.wide_rows.specs.declared.index.Index.{Index}
use Rattle.wide_rows.specs.declared.index.Change.{Change}
use Rattle.wide_rows.specs.declared.storeys.Storeys.{Storeys}
use Rattle.wide_rows.proofs.Joined.{all_joined, all_of_joined, joined-same, joined-free, joined-blocks, length_joined, added-put, requests-part, length-part}
use Rattle.wide_rows.proofs.Sums.{requests_joined}

-- other rows that are the same
pub storey-same : (x : Index) (r t : ℕ → List Row) (n : ℕ) → ((k : ℕ) → k < n → t k ≡ r k) → IsStorey x r n → IsStorey x t n
storey-same x r t n e h = record {
  wide_oldest = h.wide_oldest;
  wide_sums = h.wide_sums;
  wide_counts = h.wide_counts;
  len = h.len;
  room = h.room;
  sums = λ k l. h.sums k l ∙ ap requests (sym (e k l));
  no_sums = h.no_sums;
  counts = λ k l. h.counts k l ∙ ap (λ (l : List Row). length l) (sym (e k l));
  no_counts = h.no_counts;
  mandates = λ k l. subst (λ (rows : List Row). bit_at x.mandated k ≡ cond (has_mandated rows) 1 0) (sym (e k l)) (h.mandates k l);
  no_mandates = h.no_mandates;
  separates = record {
    rising = h.separates.rising;
    least = λ k l. subst (All (λ row. get_or x.oldest k 0 ≤ row.stamp)) (sym (e k l)) (h.separates.least k l);
    older = λ k newer l m. subst (All (λ row. row.stamp < get_or x.oldest newer 0)) (sym (e k (omega arith))) (h.separates.older k newer l m);
  };
}

-- a block that its own rows and those of older blocks leave as they are
pub block-same : (x : Index) (r t : ℕ → List Row) (n m g : ℕ) → 16 * g + 16 ≤ n → 16 * g + 16 ≤ m → ((k : ℕ) → k < 16 * g + 16 → t k ≡ r k) → IsBlock x r n g → IsBlock x t m g
block-same x r t n m g p q e h = record {
  storey = storey-same x (block_of r g) (block_of t g) (lanes m g) (λ k l. e (16 * g + k) (omega arith))
      (subst (λ (c : ℕ). IsStorey x (block_of r g) c) (let z : lanes n g ≡ lanes m g = omega arith in z) h.storey);
  first = λ z l. h.first z (omega arith);
  older = λ l k below. subst (All (λ row. row.stamp < get_or x.oldest 0 0)) (sym (e k (omega arith))) (h.older (omega arith) k below);
}

module _ (m : Storeys) (r : ℕ → List Row) (n : ℕ) (h : IsIndexed m r n) where
  pub free_lane : (g k : ℕ) → lanes n g ≤ k → k < 16 → block_of r g k ≡ []
  free_lane g k l q = h.free (16 * g + k) (omega arith)

  -- all rows of a block
  pub block_is : (g : ℕ) → joined_below (block_of r g) (lanes n g) ≡ block_rows r g
  block_is g = sym (joined-free (block_of r g) (lanes n g) 16 (omega arith) (free_lane g))

  -- and of all blocks
  pub blocks_are : joined_below (block_rows r) (blocks_for n) ≡ joined_below r n
  blocks_are = joined-blocks r (blocks_for n) ∙ joined-free r n (16 * blocks_for n) (omega arith) (λ k l q. h.free k l)

  -- ---- a stamp found

  module _ (s b p : ℕ) (up : IsPlace s m.top (block_rows r) (blocks_for n) b) (down : IsPlace s (block_at m.blocks b) (block_of r b) (lanes n b) p) where
    in_block : (k : ℕ) → 16 * (k / 16) + k % 16 ≡ k
    in_block k = omega arith

    pub found_at : IsAt s r n (b * 16 + p)
    found_at = record {
      there = omega (arith, down.at.there);
      older = λ k l. elim (cases_lt k (16 * b)) [
        | inl below ↦ subst (λ (j : ℕ). All (λ row. row.stamp < s) (r j)) (in_block k)
            (all_of_joined (λ row. row.stamp < s) (block_of r (k / 16)) 16 (k % 16) (omega arith) (up.at.older (k / 16) (omega arith)))
        | inr in_it ↦ subst (λ (j : ℕ). All (λ row. row.stamp < s) (r j)) (let e : 16 * b + (k - 16 * b) ≡ k = omega arith in e) (down.at.older (k - 16 * b) (omega arith))
      ];
      newer = λ k l q. elim (cases_lt k (16 * b + 16)) [
        | inl in_it ↦ subst (λ (j : ℕ). All (λ row. s < row.stamp) (r j)) (let e : 16 * b + (k - 16 * b) ≡ k = omega arith in e) (down.at.newer (k - 16 * b) (omega arith) (omega arith))
        | inr above ↦ subst (λ (j : ℕ). All (λ row. s < row.stamp) (r j)) (in_block k)
            (all_of_joined (λ row. s < row.stamp) (block_of r (k / 16)) 16 (k % 16) (omega arith) (up.at.newer (k / 16) (omega arith) (omega arith)))
      ];
    }

  -- all rows that a block has, and all that there are
  pub block_part : (t : ℕ → List Row) → ((k : ℕ) → n ≤ k → t k ≡ []) → (b : ℕ) → b < blocks_for n → (requests (block_rows t b) ≤ requests (joined_below t n)) × (length (block_rows t b) ≤ length (joined_below t n))
  block_part t free b l =
      let all = joined-blocks t (blocks_for n) ∙ joined-free t n (16 * blocks_for n) (omega arith) (λ k p q. free k p) in (
        omega (arith, requests-part (block_rows t) (blocks_for n) b l, ap requests all),
        omega (arith, length-part (block_rows t) (blocks_for n) b l, ap (λ (rows : List Row). length rows) all),
      )

  -- ---- one place changed

  module _ (t : ℕ → List Row) (b p : ℕ) (small : p < 16) (c : Change) (e : IsChange r t n (16 * b + p) c) where
    other_place : (g k : ℕ) → k < 16 → (g ≢ b) → 16 * g + k ≢ 16 * b + p
    other_place g k l ne = λ z. ne (omega arith)

    pub in_block_change : IsChange (block_of r b) (block_of t b) (lanes n b) p c
    in_block_change = record {
      there = omega (arith, e.there);
      others = λ k ne. e.others (16 * b + k) (λ z. ne (omega arith));
      less = e.less;
      sum = e.sum;
      gone = e.gone;
      count_is = e.count_is;
      least = e.least;
      older = λ l. e.older (omega arith);
    }

    sums_put : requests (block_rows t b) + requests (r (16 * b + p)) ≡ requests (block_rows r b) + requests (t (16 * b + p))
    sums_put = omega (
      arith,
      requests_joined (block_of t b) 16,
      requests_joined (block_of r b) 16,
      added-put (λ k. requests (block_of r b k)) (λ k. requests (block_of t b k)) 16 p small (λ k ne. ap requests (in_block_change.others k ne)),
    )

    counts_put : length (block_rows t b) + length (r (16 * b + p)) ≡ length (block_rows r b) + length (t (16 * b + p))
    counts_put = omega (
      arith,
      length_joined (block_of t b) 16,
      length_joined (block_of r b) 16,
      added-put (λ k. length (block_of r b k)) (λ k. length (block_of t b k)) 16 p small (λ k ne. ap (λ (l : List Row). length l) (in_block_change.others k ne)),
    )

    -- what held of each row of the block still does
    all_put : (P : Row → Type 0) → (All P (r (16 * b + p)) → All P (t (16 * b + p))) → All P (block_rows r b) → All P (block_rows t b)
    all_put P put a = all_joined P (block_of t b) 16 (λ k l. elim (cases_eq k p) [
      | inl z ↦ subst (λ (j : ℕ). All P (t (16 * b + j))) (sym z) (put (all_of_joined P (block_of r b) 16 p small a))
      | inr ne ↦ subst (All P) (sym (in_block_change.others k ne)) (all_of_joined P (block_of r b) 16 k l a)
    ])

    pub of_blocks_change : IsChange (block_rows r) (block_rows t) (blocks_for n) b c
    of_blocks_change = record {
      there = omega (arith, e.there);
      others = λ g ne. joined-same (block_of t g) (block_of r g) 16 (λ k l. e.others (16 * g + k) (other_place g k l ne));
      less = omega (arith, e.less, requests-part (block_of r b) 16 p small);
      sum = omega (arith, e.sum, sums_put);
      gone = omega (arith, e.gone, length-part (block_of r b) 16 p small);
      count_is = omega (arith, e.count_is, counts_put);
      least = λ stamp. all_put (λ row. stamp ≤ row.stamp) (e.least stamp);
      older = λ l stamp. all_put (λ row. row.stamp < stamp) (e.older (omega (arith, l)) stamp);
    }

    pub free_now : (k : ℕ) → n ≤ k → t k ≡ []
    free_now k l = e.others k (omega (arith, e.there)) ∙ h.free k l

    -- both written
    pub noted : (block top : Index) → IsStorey block (block_of t b) (lanes n b) → block.oldest ≡ (block_at m.blocks b).oldest → IsStorey top (block_rows t) (blocks_for n) → top.oldest ≡ m.top.oldest
        → IsIndexed (record { blocks = set m.blocks b block; top = top }) t n
    noted block top storey kept upper kept_top =
        let within : b < 10 = omega (arith, e.there, h.room) in
        let here : block_at (set m.blocks b block) b ≡ block = get_or-set_same m.blocks b block _ (omega (arith, h.wide)) in
        let key : get_or block.oldest 0 0 ≡ get_or (block_at m.blocks b).oldest 0 0 = ap (λ o. get_or o 0 0) kept in
        record {
          wide = length-set m.blocks b block ∙ h.wide;
          room = h.room;
          free = free_now;
          blocks = λ g l. elim (cases_eq g b) [
            | inl z ↦ subst (λ (j : ℕ). IsBlock (block_at (set m.blocks b block) j) t n j) (sym z) (subst (λ (x : Index). IsBlock x t n b) (sym here) (record {
              storey = storey;
              first = λ y some. key ∙ (h.blocks b within).first y some;
              older = λ some k below. subst (λ (o : ℕ). All (λ row. row.stamp < o) (t k)) (sym key) (subst (All (λ row. row.stamp < get_or (block_at m.blocks b).oldest 0 0)) (sym (e.others k (omega arith))) ((h.blocks b within).older some k below));
            }))
            | inr ne ↦ subst (λ (x : Index). IsBlock x t n g) (sym (get_or-set_other m.blocks b g block _ ne)) (record {
              storey = storey-same (block_at m.blocks g) (block_of r g) (block_of t g) (lanes n g) (λ k q. e.others (16 * g + k) (other_place g k (omega arith) ne)) (h.blocks g l).storey;
              first = (h.blocks g l).first;
              older = λ some k below. elim (cases_eq k (16 * b + p)) [
                | inl z ↦ subst (λ (j : ℕ). All (λ row. row.stamp < get_or (block_at m.blocks g).oldest 0 0) (t j)) (sym z)
                    (e.older (omega arith) (get_or (block_at m.blocks g).oldest 0 0) ((h.blocks g l).older some (16 * b + p) (omega arith)))
                | inr other ↦ subst (All (λ row. row.stamp < get_or (block_at m.blocks g).oldest 0 0)) (sym (e.others k other)) ((h.blocks g l).older some k below)
              ];
            })
          ];
          top = upper;
          same = λ g l. elim (cases_eq g b) [
            | inl z ↦ subst (λ (j : ℕ). get_or top.oldest j 0 ≡ get_or (block_at (set m.blocks b block) j).oldest 0 0) (sym z)
                (ap (λ o. get_or o b 0) kept_top ∙ h.same b (omega arith) ∙ sym key ∙ ap (λ (x : Index). get_or x.oldest 0 0) (sym here))
            | inr ne ↦ ap (λ o. get_or o g 0) kept_top ∙ h.same g l ∙ ap (λ (x : Index). get_or x.oldest 0 0) (sym (get_or-set_other m.blocks b g block _ ne))
          ];
        }

-- ---- what a change of one place is, to its block and to the top

module _ (m : Storeys) (now : ℕ → List Row) (n place : ℕ) (c : Change) (was : WasIndexed m now n place c) where
  place_is : 16 * (place / 16) + place % 16 ≡ place
  place_is = omega arith

  changed_at : IsChange was.rows now n (16 * (place / 16) + place % 16) c
  changed_at = subst (λ (j : ℕ). IsChange was.rows now n j c) (sym place_is) was.changed

  pub block_change : IsChange (block_of was.rows (place / 16)) (block_of now (place / 16)) (lanes n (place / 16)) (place % 16) c
  block_change = in_block_change m was.rows n was.indexed now (place / 16) (place % 16) (omega arith) c changed_at

  pub top_change : IsChange (block_rows was.rows) (block_rows now) (blocks_for n) (place / 16) c
  top_change = of_blocks_change m was.rows n was.indexed now (place / 16) (place % 16) (omega arith) c changed_at

  pub old_block : IsStorey (block_at m.blocks (place / 16)) (block_of was.rows (place / 16)) (lanes n (place / 16))
  old_block = (was.indexed.blocks (place / 16) (omega (arith, was.changed.there, was.indexed.room))).storey

  here_low : (requests (now place) < 2 ^ 31) × (length (now place) < 2 ^ 31)
  here_low = (
    omega (arith, requests-part now n place was.changed.there, was.low_now),
    omega (arith, length-part now n place was.changed.there, was.few_now),
  )

  pub block_more : get_or (block_at m.blocks (place / 16)).sums (place % 16) 0 - c.less + c.more < 2 ^ 32
  block_more = omega (arith, old_block.sums (place % 16) block_change.there, block_change.less, block_change.sum, here_low.0, ap (λ j. requests (now j)) place_is)

  pub block_come : get_or (block_at m.blocks (place / 16)).counts (place % 16) 0 - c.gone + c.come < 2 ^ 32
  block_come = omega (arith, old_block.counts (place % 16) block_change.there, block_change.gone, block_change.count_is, here_low.1, ap (λ j. length (now j)) place_is)

  part : (requests (block_rows now (place / 16)) ≤ requests (joined_below now n)) × (length (block_rows now (place / 16)) ≤ length (joined_below now n))
  part = block_part m was.rows n was.indexed now (free_now m was.rows n was.indexed now (place / 16) (place % 16) (omega arith) c changed_at) (place / 16) top_change.there

  pub top_less : c.less ≤ get_or m.top.sums (place / 16) 0
  top_less = omega (arith, was.indexed.top.sums (place / 16) top_change.there, top_change.less)

  pub top_gone : c.gone ≤ get_or m.top.counts (place / 16) 0
  top_gone = omega (arith, was.indexed.top.counts (place / 16) top_change.there, top_change.gone)

  pub top_more : get_or m.top.sums (place / 16) 0 - c.less + c.more < 2 ^ 32
  top_more = omega (arith, was.indexed.top.sums (place / 16) top_change.there, top_change.less, top_change.sum, part.0, was.low_now)

  pub top_come : get_or m.top.counts (place / 16) 0 - c.gone + c.come < 2 ^ 32
  top_come = omega (arith, was.indexed.top.counts (place / 16) top_change.there, top_change.gone, top_change.count_is, part.1, was.few_now)

  -- both written
  pub noted_is : (block top : Index) → IsStorey block (block_of now (place / 16)) (lanes n (place / 16)) → block.oldest ≡ (block_at m.blocks (place / 16)).oldest
      → IsStorey top (block_rows now) (blocks_for n) → top.oldest ≡ m.top.oldest → IsIndexed (record { blocks = set m.blocks (place / 16) block; top = top }) now n
  noted_is = noted m was.rows n was.indexed now (place / 16) (place % 16) (omega arith) c changed_at

  pub block_now_is : joined_below (block_of now (place / 16)) (lanes n (place / 16)) ≡ block_rows now (place / 16)
  block_now_is = sym (joined-free (block_of now (place / 16)) (lanes n (place / 16)) 16 (omega arith)
      (λ k l q. free_now m was.rows n was.indexed now (place / 16) (place % 16) (omega arith) c changed_at (16 * (place / 16) + k) (omega arith)))

-- no places at all
pub blank_indexed : (blocks : List Index) (top : Index) (r : ℕ → List Row) → ((k : ℕ) → r k ≡ []) → length blocks ≡ 10
    → All (λ x. (rows : ℕ → List Row) → IsStorey x rows 0) blocks → ((rows : ℕ → List Row) → IsStorey top rows 0) → IsIndexed (record { blocks = blocks; top = top }) r 0
blank_indexed blocks top r free wide blank upper = record {
  wide = wide;
  room = omega arith;
  free = λ k l. free k;
  blocks = λ g l. record {
    storey = subst (λ (n : ℕ). IsStorey (block_at blocks g) (block_of r g) n) (let z : 0 ≡ lanes 0 g = omega arith in z) (blank g _ (omega (arith, wide)) (block_of r g));
    first = λ z some. absurd (omega arith);
    older = λ some k below. absurd (omega arith);
  };
  top = upper (block_rows r);
  same = λ g l. absurd (omega arith);
}

abbrev IsBlank : Index → Type 0
IsBlank x = (rows : ℕ → List Row) → IsStorey x rows 0

-- ten blocks with nothing in them
pub ten_blank : (a b c d e f g h i j : Index) → IsBlank a → IsBlank b → IsBlank c → IsBlank d → IsBlank e → IsBlank f → IsBlank g → IsBlank h → IsBlank i → IsBlank j
    → All (λ x. (rows : ℕ → List Row) → IsStorey x rows 0) (a ∷ b ∷ c ∷ d ∷ e ∷ f ∷ g ∷ h ∷ i ∷ j ∷ [])
ten_blank a b c d e f g h i j pa pb pc pd pe pf pg ph pi pj =
    All-cons IsBlank a (b ∷ c ∷ d ∷ e ∷ f ∷ g ∷ h ∷ i ∷ j ∷ []) pa
    (All-cons IsBlank b (c ∷ d ∷ e ∷ f ∷ g ∷ h ∷ i ∷ j ∷ []) pb
    (All-cons IsBlank c (d ∷ e ∷ f ∷ g ∷ h ∷ i ∷ j ∷ []) pc
    (All-cons IsBlank d (e ∷ f ∷ g ∷ h ∷ i ∷ j ∷ []) pd
    (All-cons IsBlank e (f ∷ g ∷ h ∷ i ∷ j ∷ []) pe
    (All-cons IsBlank f (g ∷ h ∷ i ∷ j ∷ []) pf
    (All-cons IsBlank g (h ∷ i ∷ j ∷ []) pg
    (All-cons IsBlank h (i ∷ j ∷ []) ph
    (All-cons IsBlank i (j ∷ []) pi
    (All-cons IsBlank j [] pj (All-nil IsBlank))))))))))

-- a block behind all places
pub block_behind : (x : Index) (r t : ℕ → List Row) (n m g : ℕ) → n ≤ 16 * g → m ≤ 16 * g → IsBlock x r n g → IsBlock x t m g
block_behind x r t n m g p q h =
    let none : lanes n g ≡ 0 = omega (arith, p) in
    record {
      storey = subst (λ (c : ℕ). IsStorey x (block_of t g) c) (let z : 0 ≡ lanes m g = omega (arith, q) in z)
          (storey-same x (block_of r g) (block_of t g) 0 (λ k l. absurd (omega (arith, l))) (subst (λ (c : ℕ). IsStorey x (block_of r g) c) none h.storey));
      first = λ z l. absurd (omega (arith, q, z, l));
      older = λ l. absurd (omega (arith, q, l));
    }

-- a block behind those of an indexed list, and of one that has others
pub beyond : (m : Storeys) (r t : ℕ → List Row) (n k g : ℕ) → IsIndexed m r n → n ≤ k + 1 → k / 16 < g → g < 10 → IsBlock (block_at m.blocks g) t k g
beyond m r t n k g d l p q = block_behind (block_at m.blocks g) r t n k g (omega (arith, l, p)) (omega (arith, p)) (d.blocks g q)

-- what is known where both storeys say what the rows are
pub known : (m : Storeys) (r : ℕ → List Row) (n : ℕ) → IsIndexed m r n → IsKnown m r n
known m r n d = record { indexed = λ _. d; wide = d.wide; unused = λ g l q. d.blocks g q }

-- a block behind those in use, where other rows come to stand
pub unused : (m : Storeys) (r t : ℕ → List Row) (n k g : ℕ) → IsKnown m r n → n ≤ k + 1 → n ≤ 15 → k / 16 < g → g < 10 → IsBlock (block_at m.blocks g) t k g
unused m r t n k g d l few p q = block_behind (block_at m.blocks g) r t n k g (omega (arith, l, p)) (omega (arith, p)) (d.unused g (omega (arith, l, p, few)) q)
