-- What an index reads and writes, against the rows that it tells of.
use Rattle.std.specs.Prelude.{All}
use Rattle.std.specs.Int.{bit_at}
use Rattle.std.proofs.Common.{◌≡◌, ℕ, ◌+◌, ◌-◌, ◌^◌, ◌<◌, ◌≤◌, min, Bool, true, false, cond, not, ltb, List, length, get_or, set, bit_or, Option, is_some, refl, sym, ap, subst, ◌∙◌, inl, inr, arith}
use Rattle.std.proofs.lemmas.Bool.{cases_lt, cases_eq, ltb-true, ltb-false, lt-ltb, le-ltb, not-true, not-false}
use Rattle.std.proofs.lemmas.List.{get_or-set_same, get_or-set_other, length-set}
use Rattle.std.proofs.lemmas.List.Elements.{All-weaker}
use Rattle.std.proofs.lemmas.List.Sums.{prefix_len_passes, prefix_len_stops}
use Rattle.std.proofs.lemmas.Nat.Bits.{bit_at_above}
use Rattle.std.proofs.Math.Nat.{pow-le-pow_right}
use Rattle.market_types.specs.declared.row.Row.{Row}
use Rattle.market_types.specs.Rows.{requests, requests_above, first_mandated}
use Rattle.market_types.proofs.RowReadings.{filter-all, filter-none}
use Rattle.wide_rows.specs.Columns.{sum_above, place_above, total}
use Rattle.wide_rows.specs.Joined.{joined_below}
use Rattle.wide_rows.specs.Storeys.{has_mandated, IsStorey, IsPlace, IsNext, IsChange}
use Rattle.wide_rows.specs.declared.index.Index.{Index}
use Rattle.wide_rows.specs.declared.index.Entry.{Entry}
use Rattle.wide_rows.specs.declared.index.Change.{Change}
use Rattle.wide_rows.proofs.Bits.{placed, cleared, written_same, written_other, written_lt, replaced_same, replaced_other, replaced_lt, highest, top}
use Rattle.wide_rows.proofs.Joined.{length_joined, first_joined, none_joined}
use Rattle.wide_rows.proofs.Sums.{added, added-same, added-free, added-but, total_added, lane_above, above_added, requests_joined, above_joined}

-- all rows are above a stamp
pub above_all : (s : ℕ) (l : List Row) → All (λ y. s < y.stamp) l → requests_above s l ≡ requests l
above_all s l a = ap requests (filter-all (λ y. ltb s y.stamp) l (All-weaker (λ y. s < y.stamp) (λ y. ltb s y.stamp ≡ true) (λ y g. lt-ltb s y.stamp g) l a))

-- none is
pub above_none : (s : ℕ) (l : List Row) → All (λ y. y.stamp < s) l → requests_above s l ≡ 0
above_none s l a = ap requests (filter-none (λ y. ltb s y.stamp) l (All-weaker (λ y. y.stamp < s) (λ y. ltb s y.stamp ≡ false) (λ y g. le-ltb s y.stamp (omega arith)) l a))

no_sum : (b : Bool) (x : ℕ) → x ≡ 0 → cond b x 0 ≡ 0
no_sum true x e = e
no_sum false x e = refl

is_set : (b : Bool) → cond {A = ℕ} b 1 0 ≡ 1 → b ≡ true
is_set true e = refl
is_set false e = absurd (omega arith)

is_clear : (b : Bool) → cond {A = ℕ} b 1 0 ≡ 0 → b ≡ false
is_clear true e = absurd (omega arith)
is_clear false e = refl

bit_none : (k : ℕ) → bit_at 0 k ≡ 0
bit_none k = bit_at_above 0 0 k (omega arith) (omega arith)

module _ (x : Index) (r : ℕ → List Row) (n : ℕ) (h : IsStorey x r n) where
  abbrev key : ℕ → ℕ
  key k = get_or x.oldest k 0

  pub total_sums : total x.sums ≡ requests (joined_below r n)
  total_sums =
      total_added x.sums ∙ added-free (λ k. get_or x.sums k 0) n (length x.sums) (omega (arith, h.wide_sums, h.room)) h.no_sums
      ∙ added-same _ _ n h.sums ∙ sym (requests_joined r n)

  pub total_counts : total x.counts ≡ length (joined_below r n)
  total_counts =
      total_added x.counts ∙ added-free (λ k. get_or x.counts k 0) n (length x.counts) (omega (arith, h.wide_counts, h.room)) h.no_counts
      ∙ added-same _ _ n h.counts ∙ sym (length_joined r n)

  -- ---- mandates

  clear_at : (k : ℕ) → k < n → bit_at x.mandated k ≡ 0 → has_mandated (r k) ≡ false
  clear_at k l e = is_clear (has_mandated (r k)) (sym (h.mandates k l) ∙ e)

  pub none_mandated : x.mandated ≡ 0 → has_mandated (joined_below r n) ≡ false
  none_mandated e = none_joined r n (λ k l. clear_at k l (ap (λ m. bit_at m k) e ∙ bit_none k))

  module _ (some : ¬ (x.mandated ≡ 0)) where
    pub top_within : top x.mandated < n
    top_within = (highest x.mandated n some h.no_mandates h.room).0

    top_has : has_mandated (r (top x.mandated)) ≡ true
    top_has =
        let t = highest x.mandated n some h.no_mandates h.room in
        is_set (has_mandated (r (top x.mandated))) (sym (h.mandates (top x.mandated) t.0) ∙ t.1)

    pub top_first : first_mandated (joined_below r n) ≡ first_mandated (r (top x.mandated))
    top_first =
        let t = highest x.mandated n some h.no_mandates h.room in
        first_joined r n (top x.mandated) t.0 top_has (λ k l m. clear_at k m (t.2 k l))

    pub some_mandated : has_mandated (joined_below r n) ≡ true
    some_mandated = ap (λ (o : Option Row). is_some o) top_first ∙ top_has

  -- ---- the place of a stamp

  module _ (s : ℕ) (some : 0 < n) (first : key 0 ≤ s) where
    abbrev past : ℕ
    past = min (place_above s x.oldest) n

    first_key : past < n → s < key past
    first_key l =
        let is : past ≡ place_above s x.oldest = omega arith in
        ltb-true s (key past) (ap (λ k. ltb s (key k)) is ∙ not-false (ltb s (key (place_above s x.oldest))) (prefix_len_stops (λ y. not (ltb s y)) x.oldest 0 (omega (arith, h.wide_oldest, h.room))))

    pub past_some : 0 < past
    past_some = elim (cases_lt 0 past) [
      | inl l ↦ l
      | inr e ↦
          let z : past ≡ 0 = omega arith in
          let t = first_key (omega arith) in
          absurd (omega (arith, t, ap key z, first))
    ]

    low_key : (k : ℕ) → k < past → key k ≤ s
    low_key k l = ltb-false s (key k) (not-true (ltb s (key k)) (prefix_len_passes (λ y. not (ltb s y)) x.oldest k 0 (omega arith)))

    high_key : (k : ℕ) → past ≤ k → k < n → s < key k
    high_key k l m = elim (cases_lt past k) [
      | inl g ↦ (let f : s < key past = first_key (omega arith) in let t : key past < key k = h.separates.rising past k g m in omega arith)
      | inr e ↦ subst (λ (j : ℕ). s < key j) (let z : past ≡ k = omega arith in z) (first_key (omega arith))
    ]

    pub place_is : IsPlace s x r n (past - 1)
    place_is = record {
      at = record {
        there = omega (arith, past_some);
        older = λ k l.
            All-weaker (λ (row : Row). row.stamp < key (past - 1)) (λ (row : Row). row.stamp < s) (λ row g. omega (arith, low_key (past - 1) (omega (arith, past_some)))) (r k)
            (h.separates.older k (past - 1) l (omega (arith, past_some)));
        newer = λ k l m. All-weaker (λ (row : Row). key k ≤ row.stamp) (λ (row : Row). s < row.stamp) (λ row g. omega (arith, high_key k (omega (arith, past_some)) m)) (r k) (h.separates.least k m);
      };
      low = low_key (past - 1) (omega (arith, past_some));
      high = λ k l m. high_key k (omega (arith, past_some)) m;
    }

  -- ---- the sum above it

  module _ (s p : ℕ) (at : IsPlace s x r n p) where
    lane_here : lane_above s x.oldest x.sums p ≡ 0
    lane_here = ap (λ b. cond b (get_or x.sums p 0) 0) (le-ltb s (key p) at.low)

    lane_newer : (k : ℕ) → p < k → k < n → requests_above s (r k) ≡ lane_above s x.oldest x.sums k
    lane_newer k l m =
        above_all s (r k) (at.at.newer k l m) ∙ sym (h.sums k m)
        ∙ sym (ap (λ b. cond b (get_or x.sums k 0) 0) (lt-ltb s (key k) (at.high k l m)))

    lane_older : (k : ℕ) → k < p → requests_above s (r k) ≡ lane_above s x.oldest x.sums k
    lane_older k l =
        let low : key k ≤ s = (let t : key k < key p = h.separates.rising k p l at.at.there in omega (arith, at.low)) in
        above_none s (r k) (at.at.older k l) ∙ sym (ap (λ b. cond b (get_or x.sums k 0) 0) (le-ltb s (key k) low))

    all_lanes : sum_above s x.oldest x.sums ≡ added (lane_above s x.oldest x.sums) n
    all_lanes =
        above_added s x.oldest x.sums (h.wide_oldest ∙ sym h.wide_sums)
        ∙ added-free (lane_above s x.oldest x.sums) n (length x.sums) (omega (arith, h.wide_sums, h.room)) (λ k l. no_sum (ltb s (key k)) (get_or x.sums k 0) (h.no_sums k l))

    pub above_is : sum_above s x.oldest x.sums + requests_above s (r p) ≡ requests_above s (joined_below r n)
    above_is =
        omega (
          arith,
          all_lanes,
          above_joined s r n,
          added-but (lane_above s x.oldest x.sums) (λ k. requests_above s (r k)) n p at.at.there lane_here
              (λ k l ne. elim (cases_lt k p) [
                | inl low ↦ lane_older k low
                | inr high ↦ lane_newer k (omega (arith, ne)) l
              ]),
        )

  -- ---- one child changed

  abbrev pub with_change : ℕ → Change → Bool → Index
  with_change i c m = record {
    oldest = x.oldest;
    sums = set x.sums i (get_or x.sums i 0 - c.less + c.more);
    counts = set x.counts i (get_or x.counts i 0 - c.gone + c.come);
    mandated = bit_or (cleared x.mandated i) (placed m i);
    len = x.len;
  }

  pub changed_is : (t : ℕ → List Row) (i : ℕ) (c : Change) (m : Bool) → IsChange r t n i c → m ≡ has_mandated (t i) → IsStorey (with_change i c m) t n
  changed_is t i c m e is = record {
    wide_oldest = h.wide_oldest;
    wide_sums = length-set x.sums i _ ∙ h.wide_sums;
    wide_counts = length-set x.counts i _ ∙ h.wide_counts;
    len = h.len;
    room = h.room;
    sums = λ k l. elim (cases_eq k i) [
      | inl same ↦ subst (λ (j : ℕ). get_or (set x.sums i (get_or x.sums i 0 - c.less + c.more)) j 0 ≡ requests (t j)) (sym same)
          (get_or-set_same x.sums i (get_or x.sums i 0 - c.less + c.more) 0 (omega (arith, h.wide_sums, h.room, e.there)) ∙ omega (arith, h.sums i e.there, e.less, e.sum))
      | inr ne ↦ get_or-set_other x.sums i k (get_or x.sums i 0 - c.less + c.more) 0 ne ∙ h.sums k l ∙ ap requests (sym (e.others k ne))
    ];
    no_sums = λ k l. get_or-set_other x.sums i k (get_or x.sums i 0 - c.less + c.more) 0 (omega (arith, e.there)) ∙ h.no_sums k l;
    counts = λ k l. elim (cases_eq k i) [
      | inl same ↦ subst (λ (j : ℕ). get_or (set x.counts i (get_or x.counts i 0 - c.gone + c.come)) j 0 ≡ length (t j)) (sym same)
          (get_or-set_same x.counts i (get_or x.counts i 0 - c.gone + c.come) 0 (omega (arith, h.wide_counts, h.room, e.there)) ∙ omega (arith, h.counts i e.there, e.gone, e.count_is))
      | inr ne ↦ get_or-set_other x.counts i k (get_or x.counts i 0 - c.gone + c.come) 0 ne ∙ h.counts k l ∙ ap (λ (l : List Row). length l) (sym (e.others k ne))
    ];
    no_counts = λ k l. get_or-set_other x.counts i k (get_or x.counts i 0 - c.gone + c.come) 0 (omega (arith, e.there)) ∙ h.no_counts k l;
    mandates = λ k l. elim (cases_eq k i) [
      | inl same ↦ subst (λ (j : ℕ). bit_at (bit_or (cleared x.mandated i) (placed m i)) j ≡ cond (has_mandated (t j)) 1 0) (sym same)
          (replaced_same x.mandated i m (omega (arith, e.there, h.room)) ∙ ap (λ (b : Bool). cond b 1 0) is)
      | inr ne ↦ replaced_other x.mandated i m (omega (arith, e.there, h.room)) k (omega (arith, h.room)) ne ∙ h.mandates k l ∙ ap (λ (rows : List Row). cond (has_mandated rows) 1 0) (sym (e.others k ne))
    ];
    no_mandates = replaced_lt x.mandated i n m h.no_mandates e.there h.room;
    separates = record {
      rising = h.separates.rising;
      least = λ k l. elim (cases_eq k i) [
        | inl same ↦ subst (λ (j : ℕ). All (λ row. key j ≤ row.stamp) (t j)) (sym same) (e.least (key i) (h.separates.least i e.there))
        | inr ne ↦ subst (All (λ row. key k ≤ row.stamp)) (sym (e.others k ne)) (h.separates.least k l)
      ];
      older = λ k newer l m. elim (cases_eq k i) [
        | inl same ↦ subst (λ (j : ℕ). All (λ row. row.stamp < key newer) (t j)) (sym same) (e.older (omega arith) (key newer) (h.separates.older i newer (omega arith) m))
        | inr ne ↦ subst (All (λ row. row.stamp < key newer)) (sym (e.others k ne)) (h.separates.older k newer l m)
      ];
    };
  }

  -- ---- one child more

  abbrev pub with_next : Entry → Index
  with_next e = record {
    oldest = set x.oldest x.len e.oldest;
    sums = set x.sums x.len e.sum;
    counts = set x.counts x.len e.count;
    mandated = bit_or x.mandated (placed e.mandated x.len);
    len = x.len + 1;
  }

  module _ (e : Entry) (next : IsNext e x r n) (room : n < 16) where
    at_next : (k : ℕ) → k < n + 1 → ¬ (k ≡ n) → k < n
    at_next k l ne = omega (arith, ne)

    pub next_is : IsStorey (with_next e) r (n + 1)
    next_is = rw h.len (record {
      wide_oldest = length-set x.oldest n _ ∙ h.wide_oldest;
      wide_sums = length-set x.sums n _ ∙ h.wide_sums;
      wide_counts = length-set x.counts n _ ∙ h.wide_counts;
      len = refl;
      room = omega arith;
      sums = λ k l. elim (cases_eq k n) [
        | inl same ↦ subst (λ (j : ℕ). get_or (set x.sums n e.sum) j 0 ≡ requests (r j)) (sym same) (get_or-set_same x.sums n e.sum 0 (omega (arith, h.wide_sums)) ∙ next.sum)
        | inr ne ↦ get_or-set_other x.sums n k e.sum 0 ne ∙ h.sums k (at_next k l ne)
      ];
      no_sums = λ k l. get_or-set_other x.sums n k e.sum 0 (omega arith) ∙ h.no_sums k (omega arith);
      counts = λ k l. elim (cases_eq k n) [
        | inl same ↦ subst (λ (j : ℕ). get_or (set x.counts n e.count) j 0 ≡ length (r j)) (sym same) (get_or-set_same x.counts n e.count 0 (omega (arith, h.wide_counts)) ∙ next.count_is)
        | inr ne ↦ get_or-set_other x.counts n k e.count 0 ne ∙ h.counts k (at_next k l ne)
      ];
      no_counts = λ k l. get_or-set_other x.counts n k e.count 0 (omega arith) ∙ h.no_counts k (omega arith);
      mandates = λ k l. elim (cases_eq k n) [
        | inl same ↦ subst (λ (j : ℕ). bit_at (bit_or x.mandated (placed e.mandated n)) j ≡ cond (has_mandated (r j)) 1 0) (sym same)
            (written_same x.mandated n e.mandated (omega arith) (bit_at_above x.mandated n n h.no_mandates (omega arith)) ∙ ap (λ (b : Bool). cond b 1 0) next.mandated)
        | inr ne ↦ written_other x.mandated n e.mandated (omega arith) k ne ∙ h.mandates k (at_next k l ne)
      ];
      no_mandates = written_lt x.mandated n (n + 1) e.mandated (wider x.mandated n h.no_mandates) (omega arith) (omega arith);
      separates = record {
        rising = λ k newer l m. elim (cases_eq newer n) [
          | inl same ↦ subst (λ (j : ℕ). get_or (set x.oldest n e.oldest) k 0 < get_or (set x.oldest n e.oldest) j 0) (sym same)
              (omega (arith, get_or-set_same x.oldest n e.oldest 0 (omega (arith, h.wide_oldest)), get_or-set_other x.oldest n k e.oldest 0 (omega arith), next.rising k (omega arith)))
          | inr ne ↦ omega (arith, get_or-set_other x.oldest n k e.oldest 0 (omega arith), get_or-set_other x.oldest n newer e.oldest 0 ne, h.separates.rising k newer l (at_next newer m ne))
        ];
        least = λ k l. elim (cases_eq k n) [
          | inl same ↦ subst (λ (j : ℕ). All (λ row. get_or (set x.oldest n e.oldest) j 0 ≤ row.stamp) (r j)) (sym same)
              (subst (λ (o : ℕ). All (λ row. o ≤ row.stamp) (r n)) (sym (get_or-set_same x.oldest n e.oldest 0 (omega (arith, h.wide_oldest)))) next.least)
          | inr ne ↦ subst (λ (o : ℕ). All (λ row. o ≤ row.stamp) (r k)) (sym (get_or-set_other x.oldest n k e.oldest 0 ne)) (h.separates.least k (at_next k l ne))
        ];
        older = λ k newer l m. elim (cases_eq newer n) [
          | inl same ↦ subst (λ (j : ℕ). All (λ row. row.stamp < get_or (set x.oldest n e.oldest) j 0) (r k)) (sym same)
              (subst (λ (o : ℕ). All (λ row. row.stamp < o) (r k)) (sym (get_or-set_same x.oldest n e.oldest 0 (omega (arith, h.wide_oldest)))) (next.older k (omega arith)))
          | inr ne ↦ subst (λ (o : ℕ). All (λ row. row.stamp < o) (r k)) (sym (get_or-set_other x.oldest n newer e.oldest 0 ne)) (h.separates.older k newer l (at_next newer m ne))
        ];
      };
    })
      where
        wider : (m k : ℕ) → m < 2 ^ k → m < 2 ^ (k + 1)
        wider m k l = omega (arith, l, pow-le-pow_right {n = 2} (omega arith) (let g : k ≤ k + 1 = omega arith in g))
