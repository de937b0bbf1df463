-- What a leaf's calls read and write, against its list of rows.
use Rattle.std.specs.Int.{bit_at}
use Rattle.std.specs.Prelude.{All}
use Rattle.std.proofs.Common.{◌≡◌, ◌≢◌, ℕ, suc, ◌+◌, ◌*◌, ◌<◌, ◌≤◌, Bool, false, cond, eqb, ltb, ◌∷◌, ◌++◌, length, get_or, refl, sym, ap, subst, ◌∙◌, arith, Some, None, eq-eqb}
use Rattle.std.proofs.lemmas.Bool.{ne_eqb, lt-ltb, le-ltb}
use Rattle.std.proofs.lemmas.List.Sums.{sum_by-le}
use Rattle.std.proofs.lemmas.List.Elements.{All-cons, All-append}
use Rattle.std.proofs.lemmas.Nat.Bits.{bit_at-zero}
use Rattle.market_types.specs.declared.row.Row.{Row}
use Rattle.market_types.specs.Rows.{IsNewestFirst, HasLowRequests, requests, requests_above, first_mandated, row_at, without, set_row}
use Rattle.market_types.proofs.RowReadings.{above-le}
use Rattle.market_types.proofs.RowChanges.{set-newest, set-low, set-none, without-newest, without-low, row-none}
use Rattle.market_types.proofs.RowOrder.{newest-cons}
use Rattle.wide_rows.specs.declared.columns.Columns.{Columns}
use Rattle.wide_rows.specs.Columns.{sum_above, total}
use Rattle.wide_rows.specs.Leaves.{lane, rows_below, rows_in, IsTidy, IsLeaf}
use Rattle.wide_rows.proofs.Bits.{top, highest}
use Rattle.wide_rows.proofs.Rows.{length-rows, rows-same, find-lane, find-none, set-lane, without-lane, without-all, absent, distinct}
use Rattle.wide_rows.proofs.Sums.{above_is, total_is}

module _ (c : Columns) (leaf : IsLeaf c) where
  -- ---- what is read

  pub rows_room : length (rows_in c) ≤ 16
  rows_room = omega (arith, length-rows (lane c) c.count, leaf.tidy.room)

  pub rows_low : requests (rows_in c) ≤ 16 * 65535
  rows_low = omega (arith, sum_by-le (λ (row : Row). row.request) 65535 (rows_in c) leaf.low, length-rows (lane c) c.count, leaf.tidy.room)

  pub above_low : (s : ℕ) → requests_above s (rows_in c) ≤ 16 * 65535
  above_low s = omega (arith, above-le s (rows_in c), rows_low)

  beside : length c.stamps ≡ length c.requests
  beside = leaf.tidy.wide.stamps ∙ sym leaf.tidy.wide.requests

  within : c.count ≤ length c.requests
  within = omega (arith, leaf.tidy.wide.requests, leaf.tidy.room)

  pub above_rows : (s : ℕ) → sum_above s c.stamps c.requests ≡ requests_above s (rows_in c)
  above_rows s = above_is (lane c) c.stamps c.requests c.count beside within (λ i l. refl) (λ i l. refl) leaf.tidy.requests s

  pub total_rows : total c.requests ≡ requests (rows_in c)
  total_rows = total_is (lane c) c.stamps c.requests c.count beside within (λ i l. refl) (λ i l. refl) leaf.tidy.requests

  bit_none : (k : ℕ) → bit_at c.mandated k ≡ 0 → (lane c k).mandated ≡ false
  bit_none k e = ap (λ b. eqb b 1) e

  pub none_mandated : c.mandated ≡ 0 → first_mandated (rows_in c) ≡ None
  none_mandated e = find-none (λ row. row.mandated) (lane c) c.count (λ k l. bit_none k (ap (λ n. bit_at n k) e ∙ bit_at-zero k))

  pub top_within : ¬ (c.mandated ≡ 0) → top c.mandated < 16
  top_within some = omega (arith, (highest c.mandated c.count some leaf.tidy.mandates leaf.tidy.room).0, leaf.tidy.room)

  pub top_mandated : ¬ (c.mandated ≡ 0) → first_mandated (rows_in c) ≡ Some (lane c (top c.mandated))
  top_mandated some =
      let h = highest c.mandated c.count some leaf.tidy.mandates leaf.tidy.room in
      find-lane (λ row. row.mandated) (lane c) c.count (top c.mandated) h.0 (ap (λ b. eqb b 1) h.1) (λ k l m. bit_none k (h.2 k l))

  -- ---- the place of a stamp

  module _ (s place : ℕ) (first : (k : ℕ) → k < 16 → k < place → get_or c.stamps k 0 ≢ s) where
    not_before : place < c.count → (k : ℕ) → k < c.count → k ≢ place → get_or c.stamps place 0 ≡ s → (lane c k).stamp ≢ s
    not_before l k m ne e = distinct (lane c) c.count leaf.ordered s place l e k m ne

    pub row_there : place < c.count → get_or c.stamps place 0 ≡ s → Some (lane c place) ≡ row_at s (rows_in c)
    row_there l e = sym (find-lane (λ row. eqb row.stamp s) (lane c) c.count place l (eq-eqb _ s e) (λ k m w. ne_eqb _ s (not_before l k w (omega arith) e)))

    no_lane : c.count ≤ place → (k : ℕ) → k < c.count → (lane c k).stamp ≢ s
    no_lane l k m = first k (omega (arith, leaf.tidy.room)) (omega arith)

    pub row_nowhere : c.count ≤ place → None ≡ row_at s (rows_in c)
    row_nowhere l = sym (row-none s (rows_in c) (absent (lane c) c.count s (no_lane l)))

    pub set_nowhere : (q : ℕ) (m : Bool) → c.count ≤ place → rows_in c ≡ set_row s q m (rows_in c)
    set_nowhere q m l = sym (set-none s q m (rows_in c) (absent (lane c) c.count s (no_lane l)))

    pub without_nowhere : c.count ≤ place → rows_in c ≡ without s (rows_in c)
    without_nowhere l = sym (without-all s (lane c) c.count (no_lane l))

    -- ---- what is written there

    module _ (d : Columns) (l : place < c.count) (e : get_or c.stamps place 0 ≡ s) where
      at_other : (q : ℕ) (m : Bool) → ((i : ℕ) → i < 16 → lane d i ≡ cond (eqb i place) (record (lane c i) { request = q; mandated = m }) (lane c i))
          → (k : ℕ) → k < c.count → k ≢ place → lane d k ≡ lane c k
      at_other q m rows k w ne = rows k (omega (arith, leaf.tidy.room)) ∙ ap (λ b. cond b (record (lane c k) { request = q; mandated = m }) (lane c k)) (ne_eqb k place ne)

      at_place : (q : ℕ) (m : Bool) → ((i : ℕ) → i < 16 → lane d i ≡ cond (eqb i place) (record (lane c i) { request = q; mandated = m }) (lane c i))
          → lane d place ≡ record (lane c place) { request = q; mandated = m }
      at_place q m rows = rows place (omega (arith, leaf.tidy.room)) ∙ ap (λ b. cond b (record (lane c place) { request = q; mandated = m }) (lane c place)) (eq-eqb place place refl)

      pub set_there : (q : ℕ) (m : Bool) → d.count ≡ c.count → ((i : ℕ) → i < 16 → lane d i ≡ cond (eqb i place) (record (lane c i) { request = q; mandated = m }) (lane c i))
          → rows_in d ≡ set_row s q m (rows_in c)
      set_there q m n rows = ap (λ k. rows_below (lane d) k) n ∙ set-lane (lane c) (lane d) c.count s q m place leaf.ordered l e (at_place q m rows) (at_other q m rows)

      pub set_leaf : (q : ℕ) (m : Bool) → q ≤ 65535 → IsTidy d → rows_in d ≡ set_row s q m (rows_in c) → IsLeaf d
      set_leaf q m low t is = record {
        tidy = t;
        ordered = subst IsNewestFirst (sym is) (set-newest s q m (rows_in c) leaf.ordered);
        low = subst HasLowRequests (sym is) (set-low s q m (rows_in c) low leaf.low);
      }

      pub removed_there : d.count + 1 ≡ c.count → ((i : ℕ) → i < d.count → lane d i ≡ lane c (cond (ltb i place) i (i + 1))) → rows_in d ≡ without s (rows_in c)
      removed_there n rows =
          without-lane (lane c) (lane d) d.count s place (omega arith) e (λ k w ne. not_before l k (omega arith) ne e)
          (λ k w low. rows k w ∙ ap (λ b. lane c (cond b k (k + 1))) (lt-ltb k place low))
          (λ k w high. rows k w ∙ ap (λ b. lane c (cond b k (k + 1))) (le-ltb k place high) ∙ ap (lane c) (let z : k + 1 ≡ suc k = omega arith in z))
          ∙ ap (λ k. without s (rows_below (lane c) k)) (let z : suc d.count ≡ c.count = omega (arith, n) in z)

  pub without_leaf : (s : ℕ) (d : Columns) → IsTidy d → rows_in d ≡ without s (rows_in c) → IsLeaf d
  without_leaf s d t is = record {
    tidy = t;
    ordered = subst IsNewestFirst (sym is) (without-newest s (rows_in c) leaf.ordered);
    low = subst HasLowRequests (sym is) (without-low s (rows_in c) leaf.low);
  }

  -- ---- rows added

  pub pushed_leaf : (row : Row) (d : Columns) → All (λ other. other.stamp < row.stamp) (rows_in c) → row.request ≤ 65535 → IsTidy d → rows_in d ≡ row ∷ rows_in c → IsLeaf d
  pushed_leaf row d newest low t is = record {
    tidy = t;
    ordered = subst IsNewestFirst (sym is) (newest-cons row (rows_in c) newest leaf.ordered);
    low = subst HasLowRequests (sym is) (All-cons (λ (y : Row). y.request ≤ 65535) row (rows_in c) low leaf.low);
  }

  pub joined_leaf : (e : Columns) → IsLeaf e → (d : Columns) → IsNewestFirst (rows_in e ++ rows_in c) → IsTidy d → rows_in d ≡ rows_in e ++ rows_in c → IsLeaf d
  joined_leaf e other d newest t is = record {
    tidy = t;
    ordered = subst IsNewestFirst (sym is) newest;
    low = subst HasLowRequests (sym is) (All-append (λ (y : Row). y.request ≤ 65535) (rows_in e) (rows_in c) other.low leaf.low);
  }

pub pushed_rows : (c d : Columns) (row : Row) → c.count < 16 → d.count ≡ c.count + 1 → ((i : ℕ) → i < 16 → lane d i ≡ cond (eqb i c.count) row (lane c i)) → rows_in d ≡ row ∷ rows_in c
pushed_rows c d row room n rows =
    ap (λ k. rows_below (lane d) k) (let z : d.count ≡ suc c.count = omega (arith, n) in z)
    ∙ ap (λ x. x ∷ rows_below (lane d) c.count) (rows c.count room ∙ ap (λ b. cond b row (lane c c.count)) (eq-eqb c.count c.count refl))
    ∙ ap (λ l. row ∷ l) (rows-same (lane d) (lane c) c.count (λ i l. rows i (omega arith) ∙ ap (λ b. cond b row (lane c i)) (ne_eqb i c.count (omega arith))))
