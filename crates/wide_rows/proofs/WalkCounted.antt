-- How many visits a walk counts on its way to the next rows: no more than a way down.
use Rattle.std.proofs.Common.{◌≡◌, ℕ, ◌+◌, ◌*◌, ◌/◌, ◌<◌, ◌≤◌, Bool, true, false, Option, Some, List, [], ◌++◌, length, refl, sym, ap, subst, ◌∙◌, arith, inl, inr, length-append}
use Rattle.std.proofs.lemmas.Bool.{cases_lt, false≢true}
use Rattle.std.proofs.lemmas.List.{append-nil}
use Rattle.market_types.specs.declared.row.Row.{Row}
use Rattle.market_types.specs.Rows.{requests}
use Rattle.market_types.specs.Bits.{bits}
use Rattle.wide_rows.specs.Passed.{IsPassed, AreQuadsPassed, AllQuadsPassed, AreRowsPassed, IsCounted, AreBegun, rows_left}
use Rattle.wide_rows.proofs.Counted.{bits-ge, bits-le}
use Rattle.wide_rows.proofs.Passing.{begun_in, no_pass}

-- a small number has no more digits than it counts
pub bits-self : (n : ℕ) → n ≤ 15 → bits n ≤ n
bits-self n few = elim (cases_lt n 1) [
  | inl none ↦ omega (arith, bits-le 0 n (omega arith))
  | inr some ↦ elim (cases_lt n 2) [
    | inl one ↦ omega (arith, bits-le 1 n (omega arith))
    | inr more ↦ elim (cases_lt n 4) [
      | inl two ↦ omega (arith, bits-le 2 n (omega arith))
      | inr four ↦ omega (arith, bits-le 4 n (omega arith))
    ]
  ]
]

-- into a leaf, from one that some quads are left of: `left` rows of the one, of which quads are passed over, and then so many rows
-- up to the end of the other, in which quads are passed over too
module _ (quads left : ℕ) (few_left : left ≤ 12) (long_left : 4 * quads ≤ left + 3) (more here leaf : ℕ) (few_more : more ≤ 3) (some : 0 < here) (few_here : here ≤ 4) (within : here ≤ leaf) (whole : 0 < more → 4 * more + 1 ≤ leaf) where
  quads_few : bits quads ≤ 2
  quads_few = bits-le 2 quads (omega arith)

  quads_self : bits quads ≤ quads
  quads_self = bits-self quads (omega arith)

  more_few : bits more ≤ 2
  more_few = bits-le 2 more (omega arith)

  more_self : bits more ≤ more
  more_self = bits-self more (omega arith)

  -- the leaf comes next
  pub next-leaf : (rows : ℕ) → left + leaf ≤ rows → bits quads + bits more + here ≤ 2 * bits rows
  next-leaf rows all = elim (cases_lt rows 8) [
    | inr eight ↦ omega (arith, quads_few, more_few, bits-ge 3 rows (omega arith))
    | inl small ↦ elim (cases_lt 0 more) [
      | inl passed ↦ omega (arith, quads_self, more_self, whole passed, bits-ge 2 rows (omega (arith, whole passed)))
      | inr none ↦ elim (cases_lt rows 4) [
        | inr four ↦ omega (arith, quads_self, more_self, bits-ge 2 rows (omega arith))
        | inl few ↦ elim (cases_lt rows 2) [
          | inr two ↦ omega (arith, quads_self, more_self, bits-ge 1 rows (omega arith))
          | inl one ↦ omega (arith, quads_self, more_self, bits-ge 0 rows (omega arith))
        ]
      ]
    ]
  ]

  -- after some leaves of its block
  pub later-leaf : (near rows : ℕ) → 0 < near → near ≤ 15 → left + 13 * (near / 2) + leaf ≤ rows → left + 13 * ((near + 1) / 2) ≤ rows → bits quads + bits near + bits more + here ≤ 2 * bits rows
  later-leaf near rows begun few single paired = elim (cases_lt near 4) [
    | inl three ↦ elim (cases_lt near 2) [
      | inl one ↦ elim (cases_lt quads 2) [
        | inl little ↦ omega (arith, quads_self, more_few, bits-le 1 near (omega arith), bits-ge 3 rows (omega arith))
        | inr much ↦ omega (arith, quads_few, more_few, bits-le 1 near (omega arith), bits-ge 4 rows (omega arith))
      ]
      | inr two ↦ elim (cases_lt near 3) [
        | inl pair ↦ elim (cases_lt 0 more) [
          | inl passed ↦ omega (arith, quads_few, more_few, bits-le 2 near (omega arith), bits-ge 4 rows (omega (arith, whole passed)))
          | inr none ↦ omega (arith, quads_few, more_self, bits-le 2 near (omega arith), bits-ge 3 rows (omega arith))
        ]
        | inr all_three ↦ omega (arith, quads_few, more_few, bits-le 2 near (omega arith), bits-ge 4 rows (omega arith))
      ]
    ]
    | inr four ↦ elim (cases_lt near 8) [
      | inl seven ↦ elim (cases_lt near 5) [
        | inl just_four ↦ elim (cases_lt quads 2) [
          | inl little ↦ omega (arith, quads_self, more_few, bits-le 3 near (omega arith), bits-ge 4 rows (omega arith))
          | inr much ↦ omega (arith, quads_few, more_few, bits-le 3 near (omega arith), bits-ge 5 rows (omega arith))
        ]
        | inr five ↦ omega (arith, quads_few, more_few, bits-le 3 near (omega arith), bits-ge 5 rows (omega arith))
      ]
      | inr eight ↦ omega (arith, quads_few, more_few, bits-le 4 near (omega arith), bits-ge 5 rows (omega arith))
    ]
  ]

  -- in an older block
  pub older-leaf : (near blocks far rows : ℕ) → near ≤ 15 → blocks ≤ 9 → far ≤ 15 → left + 104 + 13 * ((near + 16 * blocks) / 2) ≤ rows → bits quads + (bits near + bits blocks + bits far) + bits more + here ≤ 2 * bits rows
  older-leaf near blocks far rows few few_blocks few_far long =
      let last : bits far ≤ 4 = bits-le 4 far (omega arith) in
      elim (cases_lt blocks 1) [
        | inl none ↦
            let passed : bits blocks ≤ 0 = bits-le 0 blocks (omega arith) in
            elim (cases_lt near 4) [
              | inl three ↦ omega (arith, quads_few, more_few, last, passed, bits-le 2 near (omega arith), bits-ge 6 rows (omega arith))
              | inr four ↦ omega (arith, quads_few, more_few, last, passed, bits-le 4 near (omega arith), bits-ge 7 rows (omega arith))
            ]
        | inr some_blocks ↦ elim (cases_lt blocks 2) [
          | inl one ↦ elim (cases_lt near 8) [
            | inl seven ↦ omega (arith, quads_few, more_few, last, bits-le 1 blocks (omega arith), bits-le 3 near (omega arith), bits-ge 7 rows (omega arith))
            | inr eight ↦ omega (arith, quads_few, more_few, last, bits-le 1 blocks (omega arith), bits-le 4 near (omega arith), bits-ge 8 rows (omega arith))
          ]
          | inr two ↦ elim (cases_lt blocks 4) [
            | inl three ↦ omega (arith, quads_few, more_few, last, bits-le 2 blocks (omega arith), bits-le 4 near (omega arith), bits-ge 8 rows (omega arith))
            | inr four ↦ omega (arith, quads_few, more_few, last, bits-le 4 blocks (omega arith), bits-le 4 near (omega arith), bits-ge 9 rows (omega arith))
          ]
        ]
      ]

-- ---- against the rows

-- the next quad is one of those that are left of a leaf
pub in_leaf : (rows next rest others : List Row) (before after : ℕ) → 0 < length next → length next ≤ 4 → AreQuadsPassed rows next rest before after → IsCounted (rows ++ others) next (rest ++ others) before after
in_leaf rows next rest others before after some four p =
    let few = p.few in
    let wide = length-append rows others in
    record {
      more = omega (arith, p.counted);
      once = omega (arith, p.counted, p.all, bits-self p.quads (omega (arith, few)), wide, length-append rest others);
      most = omega (arith, p.counted, next-leaf 0 0 (omega arith) (omega arith) p.quads (length next) (length rows) few some four (omega (arith, p.all)) (λ l. omega (arith, p.whole l)) (length (rows ++ others)) (omega (arith, wide)), bits-le 0 0 (omega arith));
    }

-- or it is in one of the leaves after that
pub in_later : (quads leaves leaf others next rest : List Row) (before first second after : ℕ) → length quads ≤ 12 → 0 < length next → length next ≤ 4 → AllQuadsPassed quads before first → AreRowsPassed leaves leaf others first second → AreQuadsPassed leaf next rest second after → IsCounted (quads ++ leaves) next (rest ++ others) before after
in_later quads leaves leaf others next rest before first second after short some four a p q =
    let wide = length-append quads leaves in
    let long = a.few in
    let few = q.few in
    let whole : 0 < q.quads → 4 * q.quads + 1 ≤ length leaf = λ l. omega (arith, q.whole l) in
    record {
      more = omega (arith, a.counted, p.counted, q.counted);
      once = omega (
        arith,
        a.counted,
        p.counted,
        q.counted,
        p.all,
        q.all,
        long,
        bits-self a.quads (omega (arith, long, short)),
        bits-self p.near (omega (arith, p.few_near)),
        bits-self p.blocks (omega (arith, p.few_blocks)),
        bits-self p.far (omega (arith, p.few_far)),
        bits-self q.quads (omega (arith, few)),
        wide,
        length-append rest others,
      );
      most = elim (cases_lt 0 (p.blocks + p.far)) [
        | inl older ↦ omega (
          arith,
          a.counted,
          p.counted,
          q.counted,
          older-leaf a.quads (length quads) short long q.quads (length next) (length leaf) few some four (omega (arith, q.all)) whole p.near p.blocks p.far (length (quads ++ leaves)) p.few_near p.few_blocks p.few_far (omega (arith, p.older older, wide)),
        )
        | inr same ↦
            let no_blocks : bits p.blocks ≤ 0 = bits-le 0 p.blocks (omega (arith, same)) in
            let no_far : bits p.far ≤ 0 = bits-le 0 p.far (omega (arith, same)) in
            elim (cases_lt 0 p.near) [
              | inl near ↦ omega (
                arith,
                a.counted,
                p.counted,
                q.counted,
                no_blocks,
                no_far,
                later-leaf a.quads (length quads) short long q.quads (length next) (length leaf) few some four (omega (arith, q.all)) whole p.near (length (quads ++ leaves)) near p.few_near (omega (arith, p.single, wide)) (omega (arith, p.paired, wide)),
              )
              | inr next_one ↦ omega (
                arith,
                a.counted,
                p.counted,
                q.counted,
                no_blocks,
                no_far,
                bits-le 0 p.near (omega (arith, next_one)),
                next-leaf a.quads (length quads) short long q.quads (length next) (length leaf) few some four (omega (arith, q.all)) whole (length (quads ++ leaves)) (omega (arith, p.single, wide)),
              )
            ]
      ];
    }

-- ---- a walk on its way

-- a walk that looks for the next rows: it passes over quads of the leaf that it is in; or it has come into a later leaf, where the
-- demand is reached
pub record IsWithin (workers demand : ℕ) (rows quads : List Row) (left : Option (List Row)) (carry before now : ℕ) (entered : Bool) : Type 0 where
  pub still : entered ≡ false → (rows ≡ quads ++ rows_left left) × ((now ≡ before) × AreBegun quads left)
  pub front : List Row
  pub leaves : List Row
  pub others : List Row
  pub first : ℕ
  pub rows_are : entered ≡ true → rows ≡ front ++ leaves
  pub short : entered ≡ true → length front ≤ 12
  pub over : entered ≡ true → AllQuadsPassed front before first
  pub down : entered ≡ true → AreRowsPassed leaves quads others first now
  pub left_are : entered ≡ true → left ≡ Some others
  pub some : entered ≡ true → 0 < length quads
  pub due : entered ≡ true → demand ≤ workers * requests quads + carry

-- where a walk was, so far as it says
pub record IsStill (rows quads : List Row) (left : Option (List Row)) (before now : ℕ) : Type 0 where
  pub rows_are : rows ≡ quads ++ rows_left left
  pub none : now ≡ before
  pub begun : AreBegun quads left

module _ (k d : ℕ) (rows quads : List Row) (left : Option (List Row)) (c before now : ℕ) where
  -- in a leaf where the demand is reached not all quads are passed over
  pub still : (entered : Bool) → IsWithin k d rows quads left c before now entered → (e : ℕ) → IsPassed k d quads [] c e → IsStill rows quads left before now
  still false w e p = let s = w.still refl in record { rows_are = s.0; none = s.1.0; begun = s.1.1 }
  still true w e p = absurd (no_pass k d quads quads [] c e p (sym (append-nil quads)) (w.some refl) (w.due refl))

  -- the next quad is one of those that are left of the leaf where it is
  pub counted : (entered : Bool) → IsWithin k d rows quads left c before now entered → (next rest : List Row) (after : ℕ) → 0 < length next → length next ≤ 4 → AreQuadsPassed quads next rest now after → IsCounted rows next (rest ++ rows_left left) before after
  counted false w next rest after some four p =
      let s = w.still refl in
      subst (λ (all : List Row). IsCounted all next (rest ++ rows_left left) before after) (sym s.0)
      (in_leaf quads next rest (rows_left left) before after some four (subst (λ (v : ℕ). AreQuadsPassed quads next rest v after) s.1.0 p))
  counted true w next rest after some four p =
      subst (λ (all : List Row). IsCounted all next (rest ++ rows_left left) before after) (sym (w.rows_are refl))
      (subst (λ (o : Option (List Row)). IsCounted (w.front ++ w.leaves) next (rest ++ rows_left o) before after) (sym (w.left_are refl))
      (in_later w.front w.leaves quads w.others next rest before w.first now after (w.short refl) some four (w.over refl) (w.down refl) p))

-- a walk that comes into a later leaf
pub came : (k d : ℕ) (rows quads : List Row) (left : Option (List Row)) (before now : ℕ) → IsStill rows quads left before now → (leaves leaf others : List Row) (c first after : ℕ) → left ≡ Some leaves
    → AllQuadsPassed quads now first → AreRowsPassed leaves leaf others first after → 0 < length leaf → d ≤ c + k * requests leaf → IsWithin k d rows leaf (Some others) c before after true
came k d rows quads left before now s leaves leaf others c first after is a p some due = record {
  still = λ no. absurd (false≢true (sym no));
  front = quads;
  leaves = leaves;
  others = others;
  first = first;
  rows_are = λ _. s.rows_are ∙ ap (λ (o : Option (List Row)). quads ++ rows_left o) is;
  short = λ _. begun_in quads left leaves is s.begun;
  over = λ _. subst (λ (v : ℕ). AllQuadsPassed quads v first) s.none a;
  down = λ _. p;
  left_are = λ _. refl;
  some = λ _. some;
  due = λ _. omega (arith, due);
}
