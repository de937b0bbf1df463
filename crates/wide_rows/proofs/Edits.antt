-- Leaves and rows after one leaf has changed, gone or come.
use Rattle.std.specs.Prelude.{All}
use Rattle.std.specs.List.{remove}
use Rattle.std.specs.declared.alloc.Global.{Global}
use Rattle.std.proofs.Common.{◌≡◌, ◌≢◌, ℕ, zero, suc, ◌+◌, ◌-◌, ◌<◌, ◌≤◌, Bool, true, false, cond, not, eqb, List, Some, None, [], ◌∷◌, ◌++◌, length, set, Box, refl, sym, ap, subst, ◌∙◌, inl, inr, arith, append_assoc, eq-eqb}
use Rattle.std.proofs.lemmas.Bool.{cases_lt, cases_eq, ne_eqb}
use Rattle.std.proofs.lemmas.List.{length-set, map-append, append-nil}
use Rattle.std.proofs.lemmas.List.Elements.{All-nil, All-head, All-tail, All-map, All-weaker, All-filter, filter-append}
use Rattle.market_types.specs.declared.row.Row.{Row}
use Rattle.market_types.specs.Rows.{IsNewestFirst, HasLowRequests, IsAbsent, requests, row_at, without, set_if, set_row}
use Rattle.market_types.proofs.RowOrder.{newest-head, newest-tail, newest-nil, absent_above, absent_below}
use Rattle.market_types.proofs.RowReadings.{requests-cons, filter-all}
use Rattle.market_types.proofs.RowChanges.{set-none, set-newest, set-length, set-low, row-none, without-newest, without-low, without-length}
use Rattle.wide_rows.specs.Joined.{joined_below, IsAt}
use Rattle.wide_rows.specs.Shelves.{rows_of, leaf_at, AreLeaves}
use Rattle.wide_rows.specs.Storeys.{IsChange, IsIndexed, WasIndexed}
use Rattle.wide_rows.specs.declared.index.Change.{Change}
use Rattle.wide_rows.specs.declared.storeys.Storeys.{Storeys}
use Rattle.wide_rows.proofs.OfShelves.{rows_joined, asked_low, rows_few, newest_at}

-- ---- leaves in a list

pub leaf_set_same : (xs : List (Box (List Row) Global)) (p : ℕ) (b : Box (List Row) Global) → p < length xs → leaf_at (set xs p b) p ≡ b.value
leaf_set_same [] p b l = absurd (omega arith)
leaf_set_same (x ∷ xs) zero b l = refl
leaf_set_same (x ∷ xs) (suc p) b l = leaf_set_same xs p b (omega arith)

pub leaf_set_other : (xs : List (Box (List Row) Global)) (p : ℕ) (b : Box (List Row) Global) (k : ℕ) → k ≢ p → leaf_at (set xs p b) k ≡ leaf_at xs k
leaf_set_other [] p b k ne = refl
leaf_set_other (x ∷ xs) zero b zero ne = absurd (ne refl)
leaf_set_other (x ∷ xs) zero b (suc k) ne = refl
leaf_set_other (x ∷ xs) (suc p) b zero ne = refl
leaf_set_other (x ∷ xs) (suc p) b (suc k) ne = leaf_set_other xs p b k (λ e. ne (ap suc e))

pub leaf_out_below : (xs : List (Box (List Row) Global)) (p k : ℕ) → p < length xs → k < p → leaf_at (remove xs p) k ≡ leaf_at xs k
leaf_out_below [] p k w l = absurd (omega arith)
leaf_out_below (x ∷ xs) zero k w l = absurd (omega arith)
leaf_out_below (x ∷ xs) (suc p) zero w l = refl
leaf_out_below (x ∷ xs) (suc p) (suc k) w l = leaf_out_below xs p k (omega arith) (omega arith)

pub leaf_out_above : (xs : List (Box (List Row) Global)) (p k : ℕ) → p < length xs → p ≤ k → leaf_at (remove xs p) k ≡ leaf_at xs (suc k)
leaf_out_above [] p k w l = absurd (omega arith)
leaf_out_above (x ∷ xs) zero k w l = refl
leaf_out_above (x ∷ xs) (suc p) zero w l = absurd (omega arith)
leaf_out_above (x ∷ xs) (suc p) (suc k) w l = leaf_out_above xs p k (omega arith) (omega arith)

pub leaf_push_here : (xs : List (Box (List Row) Global)) (b : Box (List Row) Global) → leaf_at (xs ++ b ∷ []) (length xs) ≡ b.value
leaf_push_here [] b = refl
leaf_push_here (x ∷ xs) b = leaf_push_here xs b

pub leaf_push_below : (xs : List (Box (List Row) Global)) (b : Box (List Row) Global) (k : ℕ) → k < length xs → leaf_at (xs ++ b ∷ []) k ≡ leaf_at xs k
leaf_push_below [] b k l = absurd (omega arith)
leaf_push_below (x ∷ xs) b zero l = refl
leaf_push_below (x ∷ xs) b (suc k) l = leaf_push_below xs b k (omega arith)

pub rows_pushed : (xs : List (Box (List Row) Global)) (b : Box (List Row) Global) → rows_of (xs ++ b ∷ []) ≡ b.value ++ rows_of xs
rows_pushed [] b = sym (append-nil b.value)
rows_pushed (x ∷ xs) b = ap (λ l. l ++ x.value) (rows_pushed xs b) ∙ append_assoc b.value (rows_of xs) x.value

-- ---- what goes through lists that are joined

module _ (F : List Row → List Row) (none : [] ≡ F []) (both : (l m : List Row) → F (l ++ m) ≡ F l ++ F m) where
  pub joined-each : (r t : ℕ → List Row) (n : ℕ) → ((k : ℕ) → k < n → t k ≡ F (r k)) → joined_below t n ≡ F (joined_below r n)
  joined-each r t zero h = none
  joined-each r t (suc n) h =
      ap (λ l. l ++ joined_below t n) (h n (omega arith)) ∙ ap (λ l. F (r n) ++ l) (joined-each r t n (λ k l. h k (omega arith))) ∙ sym (both (r n) (joined_below r n))

  -- rows of other stamps stay
  pub edited : (s : ℕ) → ((l : List Row) → IsAbsent s l → F l ≡ l) → (r t : ℕ → List Row) (n i : ℕ) → IsAt s r n i → t i ≡ F (r i) → ((k : ℕ) → k ≢ i → t k ≡ r k) → joined_below t n ≡ F (joined_below r n)
  edited s same r t n i at here other = joined-each r t n (λ k l. elim (cases_eq k i) [
    | inl e ↦ subst (λ (j : ℕ). t j ≡ F (r j)) (sym e) here
    | inr ne ↦ other k ne ∙ sym (same (r k) (elim (cases_lt k i) [
      | inl below ↦ absent_above s (r k) (at.older k below)
      | inr above ↦ absent_below s (r k) (at.newer k (omega (arith, ne, above)) l)
    ]))
  ])

-- ---- the row of a stamp

row_append : (s : ℕ) (l m : List Row) → IsAbsent s l → row_at s (l ++ m) ≡ row_at s m
row_append s [] m a = refl
row_append s (x ∷ l) m a = rw (ne_eqb x.stamp s (All-head (λ (y : Row). y.stamp ≢ s) x l a)) (row_append s l m (All-tail (λ (y : Row). y.stamp ≢ s) x l a))

row_append_front : (s : ℕ) (l m : List Row) → IsAbsent s m → row_at s (l ++ m) ≡ row_at s l
row_append_front s [] m a = row-none s m a
row_append_front s (x ∷ l) m a = ap (cond (eqb x.stamp s) (Some x)) (row_append_front s l m a)

absent_joined : (s : ℕ) (r : ℕ → List Row) (n : ℕ) → ((k : ℕ) → k < n → IsAbsent s (r k)) → row_at s (joined_below r n) ≡ None
absent_joined s r zero h = refl
absent_joined s r (suc n) h = row_append s (r n) (joined_below r n) (h n (omega arith)) ∙ absent_joined s r n (λ k l. h k (omega arith))

-- ---- one row set or taken out of a list

pub set_stamp : (s q : ℕ) (m : Bool) (y : Row) → (set_if s q m y).stamp ≡ y.stamp
set_stamp s q m y = elim (eqb y.stamp s) as (λ b. (cond b (record y { request = q; mandated = m }) y).stamp ≡ y.stamp) [ true ↦ refl | false ↦ refl ]

pub set_all : (P : ℕ → Type 0) (s q : ℕ) (m : Bool) (l : List Row) → All (λ y. P y.stamp) l → All (λ y. P y.stamp) (set_row s q m l)
set_all P s q m l a = All-map (λ y. P y.stamp) (set_if s q m) l (All-weaker (λ y. P y.stamp) (λ y. P (set_if s q m y).stamp) (λ y g. subst P (sym (set_stamp s q m y)) g) l a)

some_same : (x y : Row) → Some x ≡ Some y → x.request ≡ y.request
some_same x y e = let same : x ≡ y = cc in ap (λ (z : Row). z.request) same

-- what all ask for when the row of a stamp asks for something else
pub set_requests : (s q : ℕ) (m : Bool) (l : List Row) (x : Row) → IsNewestFirst l → row_at s l ≡ Some x → requests (set_row s q m l) + x.request ≡ requests l + q
set_requests s q m [] x d e = cc
set_requests s q m (y ∷ l) x d e = elim (cases_eq y.stamp s) [
  | inl z ↦
      let older = absent_above s l (subst (λ (j : ℕ). All (λ (row : Row). row.stamp < j) l) z (newest-head y l d)) in
      let t = eq-eqb y.stamp s z in
      let found : Some y ≡ Some x = sym (ap (λ b. cond b (Some y) (row_at s l)) t) ∙ e in
      omega (
        arith,
        requests-cons y l,
        requests-cons (set_if s q m y) (set_row s q m l),
        ap requests (set-none s q m l older),
        ap (λ b. (cond b (record y { request = q; mandated = m }) y).request) t,
        some_same y x found,
      )
  | inr ne ↦
      let t = ne_eqb y.stamp s ne in
      omega (
        arith,
        requests-cons y l,
        requests-cons (set_if s q m y) (set_row s q m l),
        ap (λ b. (cond b (record y { request = q; mandated = m }) y).request) t,
        set_requests s q m l x (newest-tail y l d) (sym (ap (λ b. cond b (Some y) (row_at s l)) t) ∙ e),
      )
]

pub row_request : (s : ℕ) (l : List Row) (x : Row) → row_at s l ≡ Some x → x.request ≤ requests l
row_request s [] x e = cc
row_request s (y ∷ l) x e = elim (cases_eq y.stamp s) [
  | inl z ↦ omega (arith, requests-cons y l, some_same y x (sym (ap (λ b. cond b (Some y) (row_at s l)) (eq-eqb y.stamp s z)) ∙ e))
  | inr ne ↦ omega (arith, requests-cons y l, row_request s l x (sym (ap (λ b. cond b (Some y) (row_at s l)) (ne_eqb y.stamp s ne)) ∙ e))
]

pub without_absent : (s : ℕ) (l : List Row) → IsAbsent s l → without s l ≡ l
without_absent s l a = filter-all (λ row. not (eqb row.stamp s)) l (All-weaker (λ (row : Row). row.stamp ≢ s) (λ (row : Row). not (eqb row.stamp s) ≡ true) (λ row ne. ap not (ne_eqb row.stamp s ne)) l a)

-- what is left without the row of a stamp
pub without_row : (s : ℕ) (l : List Row) (x : Row) → IsNewestFirst l → row_at s l ≡ Some x → (requests (without s l) + x.request ≡ requests l) × (length (without s l) + 1 ≡ length l)
without_row s [] x d e = cc
without_row s (y ∷ l) x d e = elim (cases_eq y.stamp s) [
  | inl z ↦
      let older = absent_above s l (subst (λ (j : ℕ). All (λ (row : Row). row.stamp < j) l) z (newest-head y l d)) in
      let t = eq-eqb y.stamp s z in
      let found : Some y ≡ Some x = sym (ap (λ b. cond b (Some y) (row_at s l)) t) ∙ e in
      let rest : without s (y ∷ l) ≡ l = ap (λ b. cond (not b) (y ∷ without s l) (without s l)) t ∙ without_absent s l older in
      (omega (arith, requests-cons y l, ap requests rest, some_same y x found), omega (arith, ap (λ (rows : List Row). length rows) rest))
  | inr ne ↦
      let t = ne_eqb y.stamp s ne in
      let rest : without s (y ∷ l) ≡ y ∷ without s l = ap (λ b. cond (not b) (y ∷ without s l) (without s l)) t in
      let more = without_row s l x (newest-tail y l d) (sym (ap (λ b. cond b (Some y) (row_at s l)) t) ∙ e) in
      (omega (arith, requests-cons y l, requests-cons y (without s l), ap requests rest, more.0), omega (arith, ap (λ (rows : List Row). length rows) rest, more.1))
]

-- a row found in joined lists is at the stamp's place
pub row_found : (s : ℕ) (r : ℕ → List Row) (n i : ℕ) → IsAt s r n i → row_at s (joined_below r n) ≡ row_at s (r i)
row_found s r n i at = go n at.there (λ k l m. at.newer k l m)
  where
    go : (m : ℕ) → i < m → ((k : ℕ) → i < k → k < m → All (λ row. s < row.stamp) (r k)) → row_at s (joined_below r m) ≡ row_at s (r i)
    go zero l newer = absurd (omega arith)
    go (suc m) l newer = elim (cases_eq m i) [
      | inl e ↦ subst (λ (j : ℕ). row_at s (r j ++ joined_below r j) ≡ row_at s (r i)) (sym e)
          (row_append_all i (r i) (λ k q. absent_above s (r k) (at.older k q)))
      | inr ne ↦ row_append s (r m) (joined_below r m) (absent_below s (r m) (newer m (omega (arith, ne)) (omega arith))) ∙ go m (omega (arith, ne)) (λ k p q. newer k p (omega arith))
    ]
      where
        row_append_all : (j : ℕ) (l : List Row) → ((k : ℕ) → k < j → IsAbsent s (r k)) → row_at s (l ++ joined_below r j) ≡ row_at s l
        row_append_all j [] h = absent_joined s r j h
        row_append_all j (x ∷ l) h = ap (cond (eqb x.stamp s) (Some x)) (row_append_all j l h)

-- ---- leaves after a change of one

module _ (xs : List (Box (List Row) Global)) (h : AreLeaves xs) (i : ℕ) (b : Box (List Row) Global) (there : i < length xs) where
  abbrev ys : List (Box (List Row) Global)
  ys = set xs i b

  pub rows_put : rows_of ys ≡ joined_below (leaf_at ys) (length xs)
  rows_put = rows_joined ys ∙ ap (joined_below (leaf_at ys)) (length-set xs i b)

  pub leaves_put : 0 < length b.value → (suc i < length xs → 12 < length b.value + length (leaf_at xs (suc i))) → (0 < i → 12 < length (leaf_at xs (i - 1)) + length b.value)
      → IsNewestFirst (rows_of ys) → HasLowRequests (rows_of ys) → length (rows_of ys) ≤ 1024 → AreLeaves ys
  leaves_put some right left ordered low few = record {
    some = λ k l. elim (cases_eq k i) [
      | inl e ↦ omega (arith, some, ap (λ j. length (leaf_at ys j)) e, ap (λ (rows : List Row). length rows) (leaf_set_same xs i b there))
      | inr ne ↦ omega (arith, h.some k (omega (arith, length-set xs i b)), ap (λ (rows : List Row). length rows) (leaf_set_other xs i b k ne))
    ];
    apart = λ k l. elim (cases_eq k i) [
      | inl e ↦ omega (
        arith,
        right (omega (arith, e, length-set xs i b)),
        ap (λ j. length (leaf_at ys j)) e,
        ap (λ j. length (leaf_at ys (suc j))) e,
        ap (λ (rows : List Row). length rows) (leaf_set_same xs i b there),
        ap (λ (rows : List Row). length rows) (leaf_set_other xs i b (suc i) (λ z. absurd (omega (arith, z)))),
      )
      | inr ne ↦ elim (cases_eq (suc k) i) [
        | inl e ↦ omega (
          arith,
          left (omega (arith, e)),
          ap (λ j. length (leaf_at ys j)) e,
          ap (λ j. length (leaf_at xs j)) (let z : i - 1 ≡ k = omega (arith, e) in z),
          ap (λ (rows : List Row). length rows) (leaf_set_same xs i b there),
          ap (λ (rows : List Row). length rows) (leaf_set_other xs i b k ne),
        )
        | inr other ↦ omega (
          arith,
          h.apart k (omega (arith, length-set xs i b)),
          ap (λ (rows : List Row). length rows) (leaf_set_other xs i b k ne),
          ap (λ (rows : List Row). length rows) (leaf_set_other xs i b (suc k) other),
        )
      ]
    ];
    ordered = ordered;
    low = low;
    few = few;
  }

  pub others_put : (k : ℕ) → k ≢ i → leaf_at ys k ≡ leaf_at xs k
  others_put k ne = leaf_set_other xs i b k ne

  pub here_put : leaf_at ys i ≡ b.value
  here_put = leaf_set_same xs i b there

  -- what `note` is told
  pub was_put : (m : Storeys) → IsIndexed m (leaf_at xs) (length xs) → AreLeaves ys → (c : Change) → IsChange (leaf_at xs) (leaf_at ys) (length xs) i c → WasIndexed m (leaf_at ys) (length ys) i c
  was_put m d now c e =
      let same = sym (length-set xs i b) in
      record {
        rows = leaf_at xs;
        indexed = subst (λ (n : ℕ). IsIndexed m (leaf_at xs) n) same d;
        changed = subst (λ (n : ℕ). IsChange (leaf_at xs) (leaf_at ys) n i c) same e;
        low = omega (arith, asked_low xs h, ap (λ n. requests (joined_below (leaf_at xs) n)) same);
        low_now = omega (arith, asked_low ys now);
        few_now = omega (arith, rows_few ys now);
      }

  module _ (s : ℕ) (at : IsAt s (leaf_at xs) (length xs) i) where
    pub found_here : row_at s (rows_of xs) ≡ row_at s (leaf_at xs i)
    found_here = ap (row_at s) (rows_joined xs) ∙ row_found s (leaf_at xs) (length xs) i at

    through : (F : List Row → List Row) → [] ≡ F [] → ((l m : List Row) → F (l ++ m) ≡ F l ++ F m) → ((l : List Row) → IsAbsent s l → F l ≡ l) → b.value ≡ F (leaf_at xs i) → rows_of ys ≡ F (rows_of xs)
    through F none both same is = rows_put ∙ edited F none both s same (leaf_at xs) (leaf_at ys) (length xs) i at (here_put ∙ is) others_put ∙ ap F (sym (rows_joined xs))

    -- ---- its row set

    module _ (q : ℕ) (m : Bool) (lower : q ≤ 65535) (x : Row) (found : row_at s (rows_of xs) ≡ Some x) (is : b.value ≡ set_row s q m (leaf_at xs i)) where
      pub rows_set : rows_of ys ≡ set_row s q m (rows_of xs)
      rows_set = through (set_row s q m) refl (λ l k. map-append (set_if s q m) l k) (λ l a. set-none s q m l a) is

      long_as : length b.value ≡ length (leaf_at xs i)
      long_as = ap (λ (rows : List Row). length rows) is ∙ set-length s q m (leaf_at xs i)

      pub leaves_set : AreLeaves ys
      leaves_set = leaves_put (omega (arith, long_as, h.some i there)) (λ l. omega (arith, long_as, h.apart i l))
          (λ l. omega (arith, long_as, h.apart (i - 1) (omega arith), ap (λ k. length (leaf_at xs k)) (let z : suc (i - 1) ≡ i = omega arith in z)))
          (subst IsNewestFirst (sym rows_set) (set-newest s q m (rows_of xs) h.ordered)) (subst HasLowRequests (sym rows_set) (set-low s q m (rows_of xs) lower h.low))
          (omega (arith, ap (λ (rows : List Row). length rows) rows_set, set-length s q m (rows_of xs), h.few))

      pub change_set : IsChange (leaf_at xs) (leaf_at ys) (length xs) i (record { less = x.request; more = q; gone = 0; come = 0 })
      change_set = record {
        there = there;
        others = others_put;
        less = row_request s (leaf_at xs i) x (sym found_here ∙ found);
        sum = omega (arith, ap requests (here_put ∙ is), set_requests s q m (leaf_at xs i) x (newest_at xs h i there) (sym found_here ∙ found));
        gone = omega arith;
        count_is = omega (arith, ap (λ (rows : List Row). length rows) here_put, long_as);
        least = λ stamp a. subst (All (λ row. stamp ≤ row.stamp)) (sym (here_put ∙ is)) (set_all (λ o. stamp ≤ o) s q m (leaf_at xs i) a);
        older = λ l stamp a. subst (All (λ row. row.stamp < stamp)) (sym (here_put ∙ is)) (set_all (λ o. o < stamp) s q m (leaf_at xs i) a);
      }

    -- ---- its row taken out

    module _ (is : b.value ≡ without s (leaf_at xs i)) where
      pub rows_without : rows_of ys ≡ without s (rows_of xs)
      rows_without = through (without s) refl (λ l k. filter-append (λ (row : Row). not (eqb row.stamp s)) l k) (λ l a. without_absent s l a) is

      pub ordered_now : IsNewestFirst (rows_of ys)
      ordered_now = subst IsNewestFirst (sym rows_without) (without-newest s (rows_of xs) h.ordered)

      pub low_now : HasLowRequests (rows_of ys)
      low_now = subst HasLowRequests (sym rows_without) (without-low s (rows_of xs) h.low)

      pub few_now : length (rows_of ys) ≤ 1024
      few_now = omega (arith, ap (λ (rows : List Row). length rows) rows_without, without-length s (rows_of xs), h.few)

      module _ (x : Row) (found : row_at s (leaf_at xs i) ≡ Some x) where
        pub one_less : (requests (without s (leaf_at xs i)) + x.request ≡ requests (leaf_at xs i)) × (length (without s (leaf_at xs i)) + 1 ≡ length (leaf_at xs i))
        one_less = without_row s (leaf_at xs i) x (newest_at xs h i there) found

        pub change_take : IsChange (leaf_at xs) (leaf_at ys) (length xs) i (record { less = x.request; more = 0; gone = 1; come = 0 })
        change_take = record {
          there = there;
          others = others_put;
          less = omega (arith, one_less.0);
          sum = omega (arith, ap requests (here_put ∙ is), one_less.0);
          gone = omega (arith, one_less.1);
          count_is = omega (arith, ap (λ (rows : List Row). length rows) (here_put ∙ is), one_less.1);
          least = λ stamp a. subst (All (λ row. stamp ≤ row.stamp)) (sym (here_put ∙ is)) (All-filter (λ (row : Row). not (eqb row.stamp s)) (λ row. stamp ≤ row.stamp) (leaf_at xs i) a);
          older = λ l stamp a. subst (All (λ row. row.stamp < stamp)) (sym (here_put ∙ is)) (All-filter (λ (row : Row). not (eqb row.stamp s)) (λ row. row.stamp < stamp) (leaf_at xs i) a);
        }

-- ---- no leaves

none_left : (xs : List (Box (List Row) Global)) → length xs ≡ 0 → xs ≡ []
none_left [] e = refl
none_left (x ∷ xs) e = absurd (omega arith)

pub no_leaves : (xs : List (Box (List Row) Global)) → length xs ≡ 0 → AreLeaves xs
no_leaves xs e = subst AreLeaves (sym (none_left xs e)) (record {
  some = λ k l. absurd (omega (arith, l));
  apart = λ k l. absurd (omega (arith, l));
  ordered = newest-nil;
  low = All-nil (λ (row : Row). row.request ≤ 65535);
  few = omega arith;
})

pub no_index : (m : Storeys) (xs : List (Box (List Row) Global)) → length xs ≡ 0 → ((rows : ℕ → List Row) → ((k : ℕ) → rows k ≡ []) → IsIndexed m rows 0) → IsIndexed m (leaf_at xs) (length xs)
no_index m xs e f = subst (λ (ys : List (Box (List Row) Global)). IsIndexed m (leaf_at ys) (length ys)) (sym (none_left xs e)) (f (leaf_at []) (λ k. refl))
