-- Rows that are passed over, part by part.
use Rattle.std.proofs.Common.{subst, Option, Some, ◌≡◌, ℕ, zero, suc, ◌+◌, ◌-◌, ◌*◌, ◌<◌, ◌≤◌, min, List, [], ◌∷◌, ◌++◌, length, get_or, refl, sym, ap, ◌∙◌, inl, inr, arith, length-append}
use Rattle.std.proofs.lemmas.Bool.{cases_lt}
use Rattle.std.proofs.lemmas.List.{append_assoc}
use Rattle.market_types.specs.declared.row.Row.{Row}
use Rattle.market_types.specs.Rows.{requests}
use Rattle.market_types.proofs.RowReadings.{requests-cons, requests-append}
use Rattle.wide_rows.specs.declared.columns.Columns.{Columns}
use Rattle.wide_rows.specs.Leaves.{lane, rows_below, IsTidy}
use Rattle.market_types.specs.Bits.{bits}
use Rattle.wide_rows.specs.Passed.{IsPassed, IsDue, AreQuads, AreQuadsPassed, AllQuadsPassed, AreBegun, rows_from, rows_left, quad_len, quad_rows, quad_sum, rows_of_quads}
use Rattle.wide_rows.proofs.Rows.{length-rows}

-- none
pub pass_none : (k d : ℕ) (rows : List Row) (c : ℕ) → IsPassed k d rows rows c c
pass_none k d rows c = record { passed = []; rows_are = refl; carried = omega arith; below = λ l. l; none = λ _. refl }

-- one part more
pub pass_one : (k d : ℕ) (rows part rest : List Row) (c n due : ℕ) → rows ≡ part ++ rest → n ≡ requests part → due ≡ k * n + c → due < d → IsPassed k d rows rest c due
pass_one k d rows part rest c n due e s f l = record {
  passed = part;
  rows_are = e;
  carried = omega (arith, f, ap (λ m. k * m) s);
  below = λ _. l;
  none = λ g. absurd (omega (arith, f));
}

-- some, and then some more
pub pass_on : (k d : ℕ) (rows middle rest : List Row) (c e f : ℕ) → IsPassed k d rows middle c e → IsPassed k d middle rest e f → IsPassed k d rows rest c f
pass_on k d rows middle rest c e f p q = record {
  passed = p.passed ++ q.passed;
  rows_are = p.rows_are ∙ ap (λ l. p.passed ++ l) q.rows_are ∙ sym (append_assoc p.passed q.passed rest);
  carried = omega (arith, p.carried, q.carried, ap (λ m. k * m) (requests-append p.passed q.passed));
  below = λ l. q.below (p.below l);
  none = λ g.
      let none : p.passed ≡ [] = p.none g in
      let same : e ≡ c = p.carried ∙ ap (λ l. c + k * requests l) none ∙ omega arith in
      ap (λ l. l ++ q.passed) none ∙ q.none (omega (arith, g, same));
}

-- ---- quads

rows_split : (f : ℕ → Row) (m n : ℕ) → rows_below f (m + n) ≡ rows_below (λ i. f (m + i)) n ++ rows_below f m
rows_split f m zero = ap (rows_below f) (let e : m + 0 ≡ m = omega arith in e)
rows_split f m (suc n) =
    ap (rows_below f) (let e : m + suc n ≡ suc (m + n) = omega arith in e) ∙ ap (λ l. f (m + n) ∷ l) (rows_split f m n)

-- the last of the quads that are left, and the others
pub last_quad : (c : Columns) (q : ℕ) → 4 * q < c.count → rows_of_quads c (q + 1) ≡ quad_rows c q ++ rows_of_quads c q
last_quad c q l =
    ap (rows_below (lane c)) (let e : min c.count (4 * (q + 1)) ≡ 4 * q + quad_len c q = omega arith in e)
    ∙ rows_split (lane c) (4 * q) (quad_len c q)
    ∙ ap (λ n. quad_rows c q ++ rows_below (lane c) n) (let e : 4 * q ≡ min c.count (4 * q) = omega arith in e)

up_to : (f : ℕ → Row) (n : ℕ) → n ≤ 4 → ((i : ℕ) → n ≤ i → i < 4 → (f i).request ≡ 0) → requests (rows_below f n) ≡ (f 0).request + (f 1).request + (f 2).request + (f 3).request
up_to f zero l free = omega (arith, free 0 (omega arith) (omega arith), free 1 (omega arith) (omega arith), free 2 (omega arith) (omega arith), free 3 (omega arith) (omega arith))
up_to f (suc zero) l free = omega (arith, requests-cons (f 0) [], free 1 (omega arith) (omega arith), free 2 (omega arith) (omega arith), free 3 (omega arith) (omega arith))
up_to f (suc (suc zero)) l free = omega (arith, requests-cons (f 1) (rows_below f 1), requests-cons (f 0) [], free 2 (omega arith) (omega arith), free 3 (omega arith) (omega arith))
up_to f (suc (suc (suc zero))) l free = omega (arith, requests-cons (f 2) (rows_below f 2), requests-cons (f 1) (rows_below f 1), requests-cons (f 0) [], free 3 (omega arith) (omega arith))
up_to f (suc (suc (suc (suc n)))) l free =
    let e : n ≡ 0 = omega arith in
    ap (λ m. requests (rows_below f (suc (suc (suc (suc m)))))) e
    ∙ omega (arith, requests-cons (f 3) (rows_below f 3), requests-cons (f 2) (rows_below f 2), requests-cons (f 1) (rows_below f 1), requests-cons (f 0) [])

-- what a quad asks for
pub quad_asks : (c : Columns) (q : ℕ) → IsTidy c → q < 4 → quad_sum c.requests q ≡ requests (quad_rows c q)
quad_asks c q t l =
    ap (λ k. get_or c.requests k 0 + get_or c.requests (4 * q + 1) 0 + get_or c.requests (4 * q + 2) 0 + get_or c.requests (4 * q + 3) 0) (let e : 4 * q ≡ 4 * q + 0 = omega arith in e)
    ∙ sym (up_to (λ i. lane c (4 * q + i)) (quad_len c q) (omega arith) (λ i g m. t.requests (4 * q + i) (omega arith)))

-- what is known of the last quad that is left
pub record IsLastQuad (c : Columns) (sums : List ℕ) (left : ℕ) : Type 0 where
  pub rows_are : rows_of_quads c left ≡ quad_rows c (left - 1) ++ rows_of_quads c (left - 1)
  pub asks : get_or sums (left - 1) 0 ≡ requests (quad_rows c (left - 1))

pub last_of_quads : (c : Columns) (sums : List ℕ) (all left : ℕ) → AreQuads c sums all → 0 < left → left ≤ all → IsLastQuad c sums left
last_of_quads c sums all left h some within = record {
  rows_are = ap (rows_of_quads c) (let e : left ≡ left - 1 + 1 = omega arith in e) ∙ last_quad c (left - 1) (omega (arith, h.some));
  asks = h.asked (left - 1) (omega (arith, some, within)) ∙ quad_asks c (left - 1) h.tidy (omega (arith, h.some, h.tidy.room));
}

-- ---- what comes next

-- the next part reaches the demand
pub due_here : (k d : ℕ) (rows middle next rest : List Row) (c e n due : ℕ) → IsPassed k d rows middle c e → middle ≡ next ++ rest → n ≡ requests next → due ≡ k * n + e → d ≤ due → IsDue k d rows next rest c e
due_here k d rows middle next rest c e n due p s a f l = record {
  passed = record { passed = p.passed; rows_are = p.rows_are ∙ ap (λ m. p.passed ++ m) s; carried = p.carried; below = p.below; none = p.none };
  due = omega (arith, f, l, ap (λ m. k * m) a);
}

-- and it does not
pub past_here : (k d : ℕ) (rows middle next rest : List Row) (c e n due : ℕ) → IsPassed k d rows middle c e → middle ≡ next ++ rest → n ≡ requests next → due ≡ k * n + e → due < d → IsPassed k d rows rest c due
past_here k d rows middle next rest c e n due p s a f l = pass_on k d rows middle rest c e due p (pass_one k d middle next rest e n due s a f l)

-- as many rows as lanes
pub few_rows : (f : ℕ → Row) (n : ℕ) → 0 < n → n ≤ 4 → (0 < length (rows_below f n)) × (length (rows_below f n) ≤ 4)
few_rows f n some few = (omega (arith, length-rows f n), omega (arith, length-rows f n))

-- a part is passed over, and the rest is as before
pub pass_front : (k d : ℕ) (front rest all : List Row) (c e : ℕ) → IsPassed k d front rest c e → IsPassed k d (front ++ all) (rest ++ all) c e
pass_front k d front rest all c e p = record {
  passed = p.passed;
  rows_are = ap (λ l. l ++ all) p.rows_are ∙ append_assoc p.passed rest all;
  carried = p.carried;
  below = p.below;
  none = p.none;
}

-- what comes next in a part does so in all
pub due_front : (k d : ℕ) (front next rest all : List Row) (c e : ℕ) → IsDue k d front next rest c e → IsDue k d (front ++ all) next (rest ++ all) c e
due_front k d front next rest all c e p = record {
  passed = record {
    passed = p.passed.passed;
    rows_are = ap (λ l. l ++ all) p.passed.rows_are ∙ append_assoc p.passed.passed (next ++ rest) all ∙ ap (λ l. p.passed.passed ++ l) (append_assoc next rest all);
    carried = p.passed.carried;
    below = p.passed.below;
    none = p.passed.none;
  };
  due = p.due;
}

-- some are passed over, and then something comes next
pub due_on : (k d : ℕ) (rows middle next rest : List Row) (c e f : ℕ) → IsPassed k d rows middle c e → IsDue k d middle next rest e f → IsDue k d rows next rest c f
due_on k d rows middle next rest c e f p q = record {
  passed = pass_on k d rows middle (next ++ rest) c e f p q.passed;
  due = q.due;
}

-- a part is passed over, and what is left comes after it
pub part_passed : (k d : ℕ) (rows front : List Row) (left now : Option (List Row)) (c e f : ℕ) → IsPassed k d rows (front ++ rows_left left) c e → IsPassed k d front [] e f → left ≡ now → IsPassed k d rows (rows_left now) c f
part_passed k d rows front left now c e f p q is =
    subst (λ (o : Option (List Row)). IsPassed k d rows (rows_left o) c f) is (pass_on k d rows (front ++ rows_left left) (rows_left left) c e f p (pass_front k d front [] (rows_left left) e f q))

-- the leaf that a walk is in was begun
pub begun_in : (quads : List Row) (left : Option (List Row)) (leaves : List Row) → left ≡ Some leaves → AreBegun quads left → length quads ≤ 12
begun_in quads left leaves is begun = let short : AreBegun quads (Some leaves) = subst (λ (o : Option (List Row)). AreBegun quads o) is begun in short

-- and its quads are passed over
pub first_passed : (k d : ℕ) (rows quads : List Row) (left : Option (List Row)) (leaves : List Row) (c e : ℕ) → quads ++ rows_left left ≡ rows → IsPassed k d quads [] c e → left ≡ Some leaves → IsPassed k d rows leaves c e
first_passed k d rows quads left leaves c e is p begun =
    part_passed k d rows quads left (Some leaves) c c e (subst (λ (all : List Row). IsPassed k d all (quads ++ rows_left left) c c) is (pass_none k d (quads ++ rows_left left) c)) p begun

-- ---- what is counted

-- what is passed over is not a part with which the demand is reached
pub no_pass : (k d : ℕ) (rows part rest : List Row) (c e : ℕ) → IsPassed k d rows rest c e → rows ≡ part ++ rest → 0 < length part → d ≤ k * requests part + c → ⊥
no_pass k d rows part rest c e p is some due =
    let both = sym p.rows_are ∙ is in
    let long : length p.passed ≡ length part = omega (arith, ap (λ (l : List Row). length l) both, length-append p.passed rest, length-append part rest) in
    let asked : requests p.passed ≡ requests part = omega (arith, ap requests both, requests-append p.passed rest, requests-append part rest) in
    elim (cases_lt c d) [
      | inl low ↦ let below = p.below low in absurd (omega (arith, below, p.carried, ap (λ n. k * n) asked, due))
      | inr high ↦ absurd (omega (arith, some, long, ap (λ (l : List Row). length l) (p.none high)))
    ]

-- what the last of some rows asks for, and the others
pub last_asks : (c : Columns) (first count : ℕ) → 0 < count → requests (rows_from c first count) ≡ (lane c (first + (count - 1))).request + requests (rows_from c first (count - 1))
last_asks c first count some =
    ap (λ n. requests (rows_from c first n)) (let e : count ≡ suc (count - 1) = omega arith in e) ∙ requests-cons (lane c (first + (count - 1))) (rows_from c first (count - 1))

-- what a quad asks for that comes next
pub quad_sum_asks : (c : Columns) (sums : List ℕ) (all to : ℕ) → AreQuads c sums all → to < all → get_or sums to 0 ≡ requests (quad_rows c to)
quad_sum_asks c sums all to h l = h.asked to l ∙ quad_asks c to h.tidy (omega (arith, l, h.some, h.tidy.room))

quads_long : (c : Columns) (quads : ℕ) → length (rows_of_quads c quads) ≡ min c.count (4 * quads)
quads_long c quads = length-rows (lane c) (min c.count (4 * quads))

pub quads_passed : (c : Columns) (sums : List ℕ) (from to before after : ℕ) → AreQuads c sums from → to < from → after ≡ before + bits (from - 1 - to) → AreQuadsPassed (rows_of_quads c from) (quad_rows c to) (rows_of_quads c to) before after
quads_passed c sums from to before after h l e = record {
  quads = from - 1 - to;
  counted = e;
  few = omega (arith, h.some, h.tidy.room);
  whole = λ some. omega (arith, some, l, h.some, quads_long c from, quads_long c to);
  all = omega (arith, l, h.some, quads_long c from, quads_long c to, length-rows (λ i. lane c (4 * to + i)) (quad_len c to));
  short = omega (arith, l, h.some, h.tidy.room, quads_long c to);
}

pub all_quads_passed : (c : Columns) (sums : List ℕ) (from before after : ℕ) → AreQuads c sums from → after ≡ before + bits from → AllQuadsPassed (rows_of_quads c from) before after
all_quads_passed c sums from before after h e = record { quads = from; counted = e; few = omega (arith, h.some, quads_long c from); most = omega (arith, h.some, h.tidy.room) }
