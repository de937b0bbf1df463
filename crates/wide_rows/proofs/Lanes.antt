-- What a write in one lane leaves in each lane.
use Rattle.std.specs.Int.{bit_at}
use Rattle.std.specs.List.{remove}
use Rattle.std.proofs.Common.{◌≡◌, ℕ, zero, suc, ◌+◌, ◌-◌, ◌^◌, ◌<◌, ◌≤◌, Bool, true, false, cond, eqb, ltb, List, [], ◌∷◌, ◌++◌, length, get_or, set, bit_or, refl, ap, subst, ◌∙◌, inl, inr, arith, eq-eqb}
use Rattle.std.proofs.lemmas.Bool.{cases_lt, cases_eq, ne_eqb, lt-ltb, le-ltb}
use Rattle.std.proofs.lemmas.List.{get_or-set_same, get_or-set_other, length-set, get_or_append_left, get_or-append_right, length-append}
use Rattle.std.proofs.lemmas.List.Edits.{length-remove, get_or-remove_below, get_or-remove_above}
use Rattle.std.proofs.lemmas.Nat.Bits.{bit_at_above}
use Rattle.std.proofs.Math.Nat.{pow-le-pow_right}
use Rattle.market_types.specs.declared.row.Row.{Row}
use Rattle.wide_rows.specs.declared.columns.Columns.{Columns}
use Rattle.wide_rows.specs.Leaves.{lane, IsTidy}
use Rattle.wide_rows.proofs.Bits.{placed, cleared, bit_out, written_same, written_other, written_lt, replaced_same, replaced_other, replaced_lt, out_low, out_high, out_lt}

-- rows with the same numbers are the same
pub row-same : (x y : Row) → x.stamp ≡ y.stamp → x.arena ≡ y.arena → x.request ≡ y.request → x.mandated ≡ y.mandated → x ≡ y
row-same x y s a q m = λ i. record { stamp = s i; arena = a i; request = q i; mandated = m i }

is_one : (m : Bool) → eqb (cond m 1 0) 1 ≡ m
is_one true = refl
is_one false = refl

mandated : (bits i : ℕ) (m : Bool) → bit_at bits i ≡ cond m 1 0 → eqb (bit_at bits i) 1 ≡ m
mandated bits i m e = ap (λ b. eqb b 1) e ∙ is_one m

-- ---- one lane set

abbrev pub with_set : Columns → ℕ → ℕ → Bool → Columns
with_set c place request m = record c { requests = set c.requests place request; mandated = bit_or (cleared c.mandated place) (placed m place) }

pub set_at : (c : Columns) (place request : ℕ) (m : Bool) → IsTidy c → place < c.count → (i : ℕ) → i < 16
    → lane (with_set c place request m) i ≡ cond (eqb i place) (record (lane c i) { request = request; mandated = m }) (lane c i)
set_at c place request m t there i l = elim (cases_eq i place) [
  | inl e ↦
      rw (eq-eqb i place e) (row-same (lane (with_set c place request m) i) (record (lane c i) { request = request; mandated = m }) refl refl
      (ap (λ k. get_or (set c.requests place request) k 0) e ∙ get_or-set_same c.requests place request 0 (omega (arith, t.wide.requests, t.room)))
      (ap (λ k. eqb (bit_at (bit_or (cleared c.mandated place) (placed m place)) k) 1) e ∙ mandated _ place m (replaced_same c.mandated place m (omega (arith, t.room)))))
  | inr ne ↦
      rw (ne_eqb i place ne) (row-same (lane (with_set c place request m) i) (lane c i) refl refl
      (get_or-set_other c.requests place i request 0 ne)
      (ap (λ b. eqb b 1) (replaced_other c.mandated place m (omega (arith, t.room)) i (omega arith) ne)))
]

pub set_tidy : (c : Columns) (place request : ℕ) (m : Bool) → IsTidy c → place < c.count → IsTidy (with_set c place request m)
set_tidy c place request m t l = record {
  wide = record { stamps = t.wide.stamps; requests = length-set c.requests place request ∙ t.wide.requests; arenas = t.wide.arenas };
  room = t.room;
  requests = λ i g. get_or-set_other c.requests place i request 0 (omega arith) ∙ t.requests i g;
  mandates = replaced_lt c.mandated place c.count m t.mandates l t.room;
}

-- ---- a row put into the first free lane

abbrev pub with_pushed : Columns → Row → Columns
with_pushed c row = record {
  stamps = set c.stamps c.count row.stamp;
  requests = set c.requests c.count row.request;
  arenas = set c.arenas c.count row.arena;
  mandated = bit_or c.mandated (placed row.mandated c.count);
  count = c.count + 1;
}

module _ (c : Columns) (row : Row) (t : IsTidy c) (room : c.count < 16) where
  pub pushed_at : (i : ℕ) → i < 16 → lane (with_pushed c row) i ≡ cond (eqb i c.count) row (lane c i)
  pushed_at i l = elim (cases_eq i c.count) [
    | inl e ↦
        rw (eq-eqb i c.count e) (row-same (lane (with_pushed c row) i) row
        (ap (λ k. get_or (set c.stamps c.count row.stamp) k 0) e ∙ get_or-set_same c.stamps c.count row.stamp 0 (omega (arith, t.wide.stamps)))
        (ap (λ k. get_or (set c.arenas c.count row.arena) k 0) e ∙ get_or-set_same c.arenas c.count row.arena 0 (omega (arith, t.wide.arenas)))
        (ap (λ k. get_or (set c.requests c.count row.request) k 0) e ∙ get_or-set_same c.requests c.count row.request 0 (omega (arith, t.wide.requests)))
        (ap (λ k. eqb (bit_at (bit_or c.mandated (placed row.mandated c.count)) k) 1) e
        ∙ mandated _ c.count row.mandated (written_same c.mandated c.count row.mandated (omega arith) (bit_at_above c.mandated c.count c.count t.mandates (omega arith)))))
    | inr ne ↦
        rw (ne_eqb i c.count ne) (row-same (lane (with_pushed c row) i) (lane c i)
        (get_or-set_other c.stamps c.count i row.stamp 0 ne)
        (get_or-set_other c.arenas c.count i row.arena 0 ne)
        (get_or-set_other c.requests c.count i row.request 0 ne)
        (ap (λ b. eqb b 1) (written_other c.mandated c.count row.mandated (omega arith) i ne)))
  ]

  pub pushed_tidy : IsTidy (with_pushed c row)
  pushed_tidy = record {
    wide = record {
      stamps = length-set c.stamps c.count row.stamp ∙ t.wide.stamps;
      requests = length-set c.requests c.count row.request ∙ t.wide.requests;
      arenas = length-set c.arenas c.count row.arena ∙ t.wide.arenas;
    };
    room = omega arith;
    requests = λ i g. get_or-set_other c.requests c.count i row.request 0 (omega arith) ∙ t.requests i (omega arith);
    mandates = written_lt c.mandated c.count (c.count + 1) row.mandated (omega (arith, t.mandates, pow-le-pow_right {n = 2} (omega arith) (let l : c.count ≤ c.count + 1 = omega arith in l))) (omega arith) (omega arith);
  }

-- ---- a row taken out

abbrev pub column_out : List ℕ → ℕ → List ℕ
column_out column place = remove column place ++ 0 ∷ []

abbrev pub with_removed : Columns → ℕ → Columns
with_removed c place = record {
  stamps = column_out c.stamps place;
  requests = column_out c.requests place;
  arenas = column_out c.arenas place;
  mandated = bit_out c.mandated place;
  count = c.count - 1;
}

module _ (column : List ℕ) (place : ℕ) (long : length column ≡ 16) (within : place < 16) where
  short : length (remove column place) ≡ 15
  short = omega (arith, length-remove column place (omega (arith, long)), long)

  column_long : length (column_out column place) ≡ 16
  column_long = omega (arith, length-append (remove column place) (0 ∷ []), short)

  column_low : (i : ℕ) → i < place → get_or (column_out column place) i 0 ≡ get_or column i 0
  column_low i l = get_or_append_left (remove column place) (0 ∷ []) 0 i (omega (arith, short)) ∙ get_or-remove_below column place 0 i l (omega (arith, long))

  column_high : (i : ℕ) → place ≤ i → i < 15 → get_or (column_out column place) i 0 ≡ get_or column (i + 1) 0
  column_high i l high = get_or_append_left (remove column place) (0 ∷ []) 0 i (omega (arith, short)) ∙ get_or-remove_above column place 0 i l (omega (arith, long))

  column_last : (i : ℕ) → 15 ≤ i → get_or (column_out column place) i 0 ≡ 0
  column_last i l = get_or-append_right (remove column place) (0 ∷ []) 15 i 0 short l ∙ last (i - 15)
    where
      last : (k : ℕ) → get_or {A = ℕ} (0 ∷ []) k 0 ≡ 0
      last zero = refl
      last (suc k) = refl

module _ (c : Columns) (place : ℕ) (t : IsTidy c) (there : place < c.count) where
  within : place < 16
  within = omega (arith, t.room)

  pub removed_at : (i : ℕ) → i < c.count - 1 → lane (with_removed c place) i ≡ lane c (cond (ltb i place) i (i + 1))
  removed_at i l = elim (cases_lt i place) [
    | inl low ↦
        rw (lt-ltb i place low) (row-same (lane (with_removed c place) i) (lane c i)
        (column_low c.stamps place t.wide.stamps within i low) (column_low c.arenas place t.wide.arenas within i low) (column_low c.requests place t.wide.requests within i low)
        (ap (λ n. eqb n 1) (out_low c.mandated place i (omega (arith, within)) low)))
    | inr high ↦
        rw (le-ltb i place high) (row-same (lane (with_removed c place) i) (lane c (i + 1))
        (column_high c.stamps place t.wide.stamps within i high (omega (arith, t.room))) (column_high c.arenas place t.wide.arenas within i high (omega (arith, t.room))) (column_high c.requests place t.wide.requests within i high (omega (arith, t.room)))
        (ap (λ n. eqb n 1) (out_high c.mandated place i (omega (arith, within)) high (omega (arith, t.room)) ∙ ap (bit_at c.mandated) (let e : suc i ≡ i + 1 = omega arith in e))))
  ]

  free_at : (i : ℕ) → c.count - 1 ≤ i → get_or (column_out c.requests place) i 0 ≡ 0
  free_at i l = elim (cases_lt i 15) [
    | inl inner ↦ column_high c.requests place t.wide.requests within i (omega arith) inner ∙ t.requests (i + 1) (omega arith)
    | inr last ↦ column_last c.requests place t.wide.requests within i last
  ]

  pub removed_tidy : IsTidy (with_removed c place)
  removed_tidy = record {
    wide = record {
      stamps = column_long c.stamps place t.wide.stamps within;
      requests = column_long c.requests place t.wide.requests within;
      arenas = column_long c.arenas place t.wide.arenas within;
    };
    room = omega (arith, t.room);
    requests = free_at;
    mandates = out_lt c.mandated place (c.count - 1) (subst (λ (n : ℕ). c.mandated < 2 ^ n) (let e : c.count ≡ c.count - 1 + 1 = omega arith in e) t.mandates) (omega arith) (omega (arith, t.room));
  }
