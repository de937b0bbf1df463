-- Leaves with a new row: in the last leaf, or in a leaf of its own behind it.
use Rattle.std.specs.Prelude.{All}
use Rattle.std.specs.declared.alloc.Global.{Global}
use Rattle.std.proofs.Common.{◌≡◌, ℕ, suc, ◌+◌, ◌-◌, ◌*◌, ◌/◌, ◌<◌, ◌≤◌, List, [], ◌∷◌, ◌++◌, length, set, Box, sym, ap, subst, ◌∙◌, inl, inr, arith, length-append}
use Rattle.std.proofs.lemmas.Bool.{cases_lt}
use Rattle.std.proofs.lemmas.List.Elements.{All-cons}
use Rattle.market_types.specs.declared.row.Row.{Row}
use Rattle.market_types.specs.Rows.{IsNewestFirst, HasLowRequests, requests}
use Rattle.market_types.specs.Bits.{bits}
use Rattle.market_types.proofs.RowOrder.{newest-cons, all-front}
use Rattle.market_types.proofs.RowReadings.{requests-cons}
use Rattle.wide_rows.specs.Joined.{joined_below}
use Rattle.wide_rows.specs.Shelves.{rows_of, leaf_at, AreLeaves}
use Rattle.wide_rows.specs.Storeys.{IsChange, IsBlock, IsIndexed, block_at}
use Rattle.wide_rows.specs.declared.storeys.Storeys.{Storeys}
use Rattle.wide_rows.proofs.Counted.{bits-next}
use Rattle.wide_rows.proofs.Joined.{joined-same, split_newest, between, length-part}
use Rattle.wide_rows.proofs.OfShelves.{rows_joined}
use Rattle.wide_rows.proofs.TwoStoreys.{block-same}
use Rattle.wide_rows.proofs.Edits.{leaf_push_here, leaf_push_below, rows_pushed, leaves_put, rows_put, others_put, here_put}

module _ (xs : List (Box (List Row) Global)) (h : AreLeaves xs) (x : Row) (newest : All (λ row. row.stamp < x.stamp) (rows_of xs)) (low : x.request ≤ 65535) (room : length (rows_of xs) < 1024) (some : 0 < length xs) where
  abbrev last : ℕ
  last = length xs - 1

  last_apart : rows_of xs ≡ leaf_at xs last ++ joined_below (leaf_at xs) last
  last_apart = rows_joined xs ∙ split_newest (leaf_at xs) (length xs) some

  pub newest_in_last : All (λ row. row.stamp < x.stamp) (leaf_at xs last)
  newest_in_last = all-front (λ row. row.stamp < x.stamp) (leaf_at xs last) (joined_below (leaf_at xs) last) (subst (All (λ row. row.stamp < x.stamp)) last_apart newest)

  pub ordered_more : IsNewestFirst (x ∷ rows_of xs)
  ordered_more = newest-cons x (rows_of xs) newest h.ordered

  pub low_more : HasLowRequests (x ∷ rows_of xs)
  low_more = All-cons (λ row. row.request ≤ 65535) x (rows_of xs) low h.low

  pub visits_more : (count : ℕ) → count ≡ length (leaf_at xs last) → bits (count + 1) ≤ 2 * bits (length (rows_of xs)) + 1
  visits_more count e = bits-next (length (rows_of xs)) (count + 1) (omega (arith, e, length-part (leaf_at xs) (length xs) last (omega arith), ap (λ (rows : List Row). length rows) (rows_joined xs)))

  -- ---- in the last leaf

  module _ (b : Box (List Row) Global) (is : b.value ≡ x ∷ leaf_at xs last) where
    within : last < length xs
    within = omega arith

    pub rows_grown : rows_of (set xs last b) ≡ x ∷ rows_of xs
    rows_grown =
        rows_put xs h last b within ∙ split_newest (leaf_at (set xs last b)) (length xs) some
        ∙ ap (λ l. l ++ joined_below (leaf_at (set xs last b)) last) (here_put xs h last b within ∙ is)
        ∙ ap (λ l. x ∷ (leaf_at xs last ++ l)) (joined-same (leaf_at (set xs last b)) (leaf_at xs) last (λ k l. others_put xs h last b within k (omega arith)))
        ∙ ap (λ l. x ∷ l) (sym last_apart)

    long : length b.value ≡ length (leaf_at xs last) + 1
    long = omega (arith, ap (λ (rows : List Row). length rows) is)

    pub leaves_grown : AreLeaves (set xs last b)
    leaves_grown = leaves_put xs h last b within (omega (arith, long)) (λ l. absurd (omega (arith, l)))
        (λ l. omega (arith, long, h.apart (last - 1) (omega arith), ap (λ k. length (leaf_at xs k)) (let z : suc (last - 1) ≡ last = omega arith in z)))
        (subst IsNewestFirst (sym rows_grown) ordered_more) (subst HasLowRequests (sym rows_grown) low_more) (omega (arith, ap (λ (rows : List Row). length rows) rows_grown, room))

    pub change_grown : IsChange (leaf_at xs) (leaf_at (set xs last b)) (length xs) last (record { less = 0; more = x.request; gone = 0; come = 1 })
    change_grown = record {
      there = within;
      others = others_put xs h last b within;
      less = omega arith;
      sum = omega (arith, ap requests (here_put xs h last b within ∙ is), requests-cons x (leaf_at xs last));
      gone = omega arith;
      count_is = omega (arith, ap (λ (rows : List Row). length rows) (here_put xs h last b within), long);
      least = λ stamp a. subst (All (λ row. stamp ≤ row.stamp)) (sym (here_put xs h last b within ∙ is))
          (All-cons (λ row. stamp ≤ row.stamp) x (leaf_at xs last) (let t = between stamp x.stamp (leaf_at xs last) (h.some last within) a newest_in_last in omega (arith, t)) a);
      older = λ l. absurd (omega (arith, l));
    }

  -- ---- in a leaf of its own

  module _ (b : Box (List Row) Global) (is : b.value ≡ x ∷ []) (full : 16 ≤ length (leaf_at xs last)) where
    abbrev ys : List (Box (List Row) Global)
    ys = xs ++ b ∷ []

    pub rows_behind : rows_of ys ≡ x ∷ rows_of xs
    rows_behind = rows_pushed xs b ∙ ap (λ l. l ++ rows_of xs) is

    pub one_more : length ys ≡ length xs + 1
    one_more = length-append xs (b ∷ [])

    pub leaves_behind : AreLeaves ys
    leaves_behind = record {
      some = λ k l. elim (cases_lt k (length xs)) [
        | inl below ↦ omega (arith, h.some k below, ap (λ (rows : List Row). length rows) (leaf_push_below xs b k below))
        | inr g ↦ omega (
          arith,
          ap (λ j. length (leaf_at ys j)) (let z : k ≡ length xs = omega (arith, one_more) in z),
          ap (λ (rows : List Row). length rows) (leaf_push_here xs b ∙ is),
        )
      ];
      apart = λ k l. elim (cases_lt (suc k) (length xs)) [
        | inl below ↦ omega (
          arith,
          h.apart k below,
          ap (λ (rows : List Row). length rows) (leaf_push_below xs b k (omega arith)),
          ap (λ (rows : List Row). length rows) (leaf_push_below xs b (suc k) below),
        )
        | inr g ↦ omega (
          arith,
          full,
          ap (λ j. length (leaf_at xs j)) (let z : k ≡ last = omega (arith, one_more) in z),
          ap (λ (rows : List Row). length rows) (leaf_push_below xs b k (omega (arith, one_more))),
        )
      ];
      ordered = subst IsNewestFirst (sym rows_behind) ordered_more;
      low = subst HasLowRequests (sym rows_behind) low_more;
      few = omega (arith, ap (λ (rows : List Row). length rows) rows_behind, room);
    }

    pub kept_behind : (m : Storeys) → IsIndexed m (leaf_at xs) (length xs) → (from g : ℕ) → from ≤ length xs / 16 → g < from → IsBlock (block_at m.blocks g) (leaf_at ys) (length ys) g
    kept_behind m d from g f l =
        block-same (block_at m.blocks g) (leaf_at xs) (leaf_at ys) (length xs) (length ys) g (omega arith) (omega (arith, one_more)) (λ k q. leaf_push_below xs b k (omega arith)) (d.blocks g (omega (arith, d.room)))
