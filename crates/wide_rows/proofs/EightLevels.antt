-- Eight levels, and the boxes that none of them uses, after a change of one level.
use Rattle.std.specs.Prelude.{All}
use Rattle.std.proofs.Common.{◌≡◌, ◌≢◌, ℕ, suc, ◌+◌, ◌-◌, ◌*◌, ◌/◌, ◌<◌, ◌≤◌, min, List, [], ◌∷◌, length, set, get_or, refl, sym, ap, ◌∙◌, subst, arith, Some, None, inl, inr}
use Rattle.std.specs.List.{sum_by}
use Rattle.std.proofs.lemmas.Bool.{cases_eq}
use Rattle.std.proofs.lemmas.Grind.{get_or-set_at}
use Rattle.std.proofs.lemmas.List.{length-set, map-set, get_or-map, get_or-set_same, get_or-set_other}
use Rattle.std.proofs.lemmas.List.Sums.{sum_by-set, sum_by-cons}
use Rattle.std.proofs.lemmas.List.Elements.{All-get_or, All-set, All-head, All-tail, All-nil, All-cons, All-weaker}
use Rattle.market_types.specs.declared.row.Row.{Row}
use Rattle.market_types.specs.Rows.{IsNewestFirst, row_at, without}
use Rattle.market_types.proofs.RowOrder.{newest-nil}
use Rattle.wide_rows.specs.Leveled.{Leveled, Boxes, IsLevel, AreLevels, leaves_for, shelves_for, rows_of_each, rows_at, total_rows, with_first, without_at}
use Rattle.wide_rows.proofs.OneLevel.{without_length, without_missing}

-- a level with no rows
abbrev pub none : Leveled
none = record { rows = []; leaves = 0; shelves = 0 }

abbrev pub leaves_of : List Leveled → ℕ
leaves_of levels = sum_by (λ (level : Leveled). level.leaves) levels

abbrev pub shelves_of : List Leveled → ℕ
shelves_of levels = sum_by (λ (level : Leveled). level.shelves) levels

abbrev pub lengths_of : List Leveled → ℕ
lengths_of levels = sum_by (λ (level : Leveled). length level.rows) levels

-- all rows, level by level
pub total_is : (levels : List Leveled) → total_rows (rows_of_each levels) ≡ lengths_of levels
total_is [] = refl
total_is (level ∷ levels) = omega (arith, total_is levels, sum_by-cons (λ (rows : List Row). length rows) level.rows (rows_of_each levels), sum_by-cons (λ (l : Leveled). length l.rows) level levels)

-- what one level has is part of what all have
pub part-le : (f : Leveled → ℕ) (levels : List Leveled) (i : ℕ) (d : Leveled) → f none ≡ 0 → i < length levels → f (get_or levels i d) ≤ sum_by f levels
part-le f levels i d nothing within = omega (arith, sum_by-set f levels i none d within, nothing)

-- few leaves, by the number of all rows
pub leaves-le : (levels : List Leveled) → All IsLevel levels → leaves_of levels ≤ 2 * (lengths_of levels / 13) + min (lengths_of levels) (length levels)
leaves-le [] a = omega arith
leaves-le (level ∷ levels) a =
    let here : IsLevel level = All-head IsLevel level levels a in
    omega (arith, leaves-le levels (All-tail IsLevel level levels a), here.boxes.leaves, sum_by-cons (λ (l : Leveled). l.leaves) level levels, sum_by-cons (λ (l : Leveled). length l.rows) level levels)

-- a level has at most one shelf, and one only for 13 rows
record HasFewShelves (level : Leveled) : Type 0 where
  few : level.shelves ≤ min (length level.rows / 13) 1

-- few shelves, by the number of all rows
shelves-few : (levels : List Leveled) → All HasFewShelves levels → shelves_of levels ≤ min (lengths_of levels / 13) (length levels)
shelves-few [] a = omega arith
shelves-few (level ∷ levels) a =
    let here : HasFewShelves level = All-head HasFewShelves level levels a in
    omega (arith, shelves-few levels (All-tail HasFewShelves level levels a), here.few, sum_by-cons (λ (l : Leveled). l.shelves) level levels, sum_by-cons (λ (l : Leveled). length l.rows) level levels)

few-shelves : (levels : List Leveled) → All IsLevel levels → All HasFewShelves levels
few-shelves levels a = All-weaker IsLevel HasFewShelves (λ level h. record { few = h.boxes.shelves }) levels a

-- each level's rows are newest first
pub newest-each : (levels : List Leveled) → All IsLevel levels → All IsNewestFirst (rows_of_each levels)
newest-each [] a = All-nil IsNewestFirst
newest-each (level ∷ levels) a =
    let here : IsLevel level = All-head IsLevel level levels a in
    All-cons IsNewestFirst level.rows (rows_of_each levels) here.newest_first (newest-each levels (All-tail IsLevel level levels a))

-- the rows of a level
pub rows-at : (levels : List Leveled) (i : ℕ) (d : Leveled) → i < length levels → rows_at i (rows_of_each levels) ≡ (get_or levels i d).rows
rows-at levels i d within = get_or-map (λ (level : Leveled). level.rows) levels i d [] within

-- the rows of a level that was changed
pub rows-set : (levels : List Leveled) (i : ℕ) (y : Leveled) → i < length levels → rows_at i (rows_of_each (set levels i y)) ≡ y.rows
rows-set levels i y within =
    rows-at (set levels i y) i y (omega (arith, length-set levels i y)) ∙ ap (λ (level : Leveled). level.rows) (get_or-set_same levels i y y within)

-- they are newest first
pub newest-set : (levels : List Leveled) (i : ℕ) (y : Leveled) → i < length levels → IsLevel y → IsNewestFirst (rows_at i (rows_of_each (set levels i y)))
newest-set levels i y within h = subst IsNewestFirst (sym (rows-set levels i y within)) h.newest_first

-- the levels seen from above after a change of one of them
pub view-set : (levels : List Leveled) (i : ℕ) (y : Leveled) → rows_of_each (set levels i y) ≡ set (rows_of_each levels) i y.rows
view-set levels i y = map-set (λ (level : Leveled). level.rows) levels i y

-- ---- enough boxes

-- where one leaf more was made than the rows can take, one is spare
pub leaf-spare : {levels : List Leveled} {s : Boxes} {n : ℕ} → AreLevels levels s n → leaves_for n < s.made_leaves → 0 < s.leaves
leaf-spare {levels} {s} {n} h more = omega (arith, h.leaves, h.eight, h.counted, total_is levels, leaves-le levels h.each, more)

-- where as many shelves were made as the rows can take, a level of 13 rows with none finds one
pub shelf-spare : {levels : List Leveled} {s : Boxes} {n : ℕ} → AreLevels levels s n → shelves_for n ≤ s.made_shelves → (i : ℕ) (d : Leveled) → i < 8
    → 13 ≤ length (get_or levels i d).rows → (get_or levels i d).shelves ≡ 0 → 0 < s.shelves
shelf-spare {levels} {s} {n} h enough i d within long lacks =
    let old = get_or levels i d in
    let new : Leveled = record old { shelves = 1 } in
    let there : i < length levels = omega (arith, h.eight) in
    let few : All HasFewShelves (set levels i new) = All-set HasFewShelves levels i new (record { few = omega arith }) (few-shelves levels h.each) in
    omega (
      arith,
      h.shelves,
      h.eight,
      h.counted,
      total_is levels,
      enough,
      shelves-few (set levels i new) few,
      length-set levels i new,
      sum_by-set (λ (l : Leveled). l.shelves) levels i new d there,
      sum_by-set (λ (l : Leveled). length l.rows) levels i new d there,
    )

-- ---- changes

-- more boxes are made, all spare
pub grown : {levels : List Leveled} {s : Boxes} {n : ℕ} (t : Boxes) → AreLevels levels s n → t.leaves + s.made_leaves ≡ s.leaves + t.made_leaves → t.shelves + s.made_shelves ≡ s.shelves + t.made_shelves
    → s.made_leaves ≤ t.made_leaves → s.made_shelves ≤ t.made_shelves → AreLevels levels t n
grown {levels} {s} {n} t h leaves shelves more_leaves more_shelves = record {
  eight = h.eight;
  each = h.each;
  counted = h.counted;
  few = h.few;
  leaves = omega (arith, h.leaves, leaves);
  shelves = omega (arith, h.shelves, shelves);
  enough_leaves = omega (arith, h.enough_leaves, more_leaves);
  enough_shelves = omega (arith, h.enough_shelves, more_shelves);
}

-- the boxes that a level takes or gives come from the spare ones, or go to them
pub record AreMoved (x y : Leveled) (s t : Boxes) : Type 0 where
  pub leaves : t.leaves + y.leaves ≡ s.leaves + x.leaves
  pub shelves : t.shelves + y.shelves ≡ s.shelves + x.shelves
  pub made_leaves : t.made_leaves ≡ s.made_leaves
  pub made_shelves : t.made_shelves ≡ s.made_shelves

-- one level changes
pub changed : {levels : List Leveled} {s : Boxes} {n : ℕ} (i : ℕ) (d y : Leveled) (t : Boxes) (m : ℕ) → AreLevels levels s n → i < 8 → IsLevel y → AreMoved (get_or levels i d) y s t
    → m + length (get_or levels i d).rows ≡ n + length y.rows → m ≤ 1024 → leaves_for m + min m 1 ≤ s.made_leaves → shelves_for m ≤ s.made_shelves → AreLevels (set levels i y) t m
changed {levels} {s} {n} i d y t m h within sound moved count few leaves shelves =
    let there : i < length levels = omega (arith, h.eight) in
    record {
      eight = omega (arith, length-set levels i y, h.eight);
      each = All-set IsLevel levels i y sound h.each;
      counted = omega (arith, h.counted, total_is levels, total_is (set levels i y), count, sum_by-set (λ (l : Leveled). length l.rows) levels i y d there);
      few = few;
      leaves = omega (arith, h.leaves, moved.leaves, moved.made_leaves, sum_by-set (λ (l : Leveled). l.leaves) levels i y d there);
      shelves = omega (arith, h.shelves, moved.shelves, moved.made_shelves, sum_by-set (λ (l : Leveled). l.shelves) levels i y d there);
      enough_leaves = omega (arith, leaves, moved.made_leaves);
      enough_shelves = omega (arith, shelves, moved.made_shelves);
    }

-- what one level has is part of what all have
pub record IsPart (x : Leveled) (s : Boxes) (n : ℕ) : Type 0 where
  pub sound : IsLevel x
  pub rows : length x.rows ≤ n
  pub leaves : s.leaves + x.leaves ≤ s.made_leaves
  pub shelves : s.shelves + x.shelves ≤ s.made_shelves

pub part : {levels : List Leveled} {s : Boxes} {n : ℕ} (i : ℕ) (d : Leveled) → AreLevels levels s n → i < 8 → IsPart (get_or levels i d) s n
part {levels} {s} {n} i d h within =
    let there : i < length levels = omega (arith, h.eight) in
    record {
      sound = All-get_or IsLevel levels i d there h.each;
      rows = omega (arith, h.counted, total_is levels, part-le (λ (l : Leveled). length l.rows) levels i d refl there);
      leaves = omega (arith, h.leaves, part-le (λ (l : Leveled). l.leaves) levels i d refl there);
      shelves = omega (arith, h.shelves, part-le (λ (l : Leveled). l.shelves) levels i d refl there);
    }

-- ---- a row goes, and a row comes

-- a level is newest first
pub newest-at : {levels : List Leveled} {s : Boxes} {n : ℕ} (i : ℕ) → AreLevels levels s n → i < 8 → IsNewestFirst (rows_at i (rows_of_each levels))
newest-at {levels} {s} {n} i h within =
    let p : IsPart (get_or levels i none) s n = part i none h within in
    subst IsNewestFirst (sym (rows-at levels i none (omega (arith, h.eight)))) p.sound.newest_first

-- the levels seen from above without a row
pub view-taken : (levels : List Leveled) (i stamp : ℕ) (d y : Leveled) → i < length levels → y.rows ≡ without stamp (get_or levels i d).rows → rows_of_each (set levels i y) ≡ without_at i stamp (rows_of_each levels)
view-taken levels i stamp d y within e = view-set levels i y ∙ ap (set (rows_of_each levels) i) (e ∙ ap (without stamp) (sym (rows-at levels i d within)))

-- and with one more
pub view-pushed : (levels : List Leveled) (i : ℕ) (row : Row) (d y : Leveled) → i < length levels → y.rows ≡ row ∷ (get_or levels i d).rows → rows_of_each (set levels i y) ≡ with_first i row (rows_of_each levels)
view-pushed levels i row d y within e = view-set levels i y ∙ ap (set (rows_of_each levels) i) (e ∙ ap (λ rows. row ∷ rows) (sym (rows-at levels i d within)))

-- a row that was there went
pub taken : {levels : List Leveled} {s : Boxes} {n : ℕ} (i stamp : ℕ) (d y : Leveled) (t : Boxes) (row : Row) → AreLevels levels s n → i < 8 → IsLevel y → y.rows ≡ without stamp (get_or levels i d).rows
    → AreMoved (get_or levels i d) y s t → row_at stamp (get_or levels i d).rows ≡ Some row → AreLevels (set levels i y) t (n - 1)
taken {levels} {s} {n} i stamp d y t row h within sound rows moved found =
    let p : IsPart (get_or levels i d) s n = part i d h within in
    let less = without_length stamp (get_or levels i d).rows row p.sound.newest_first found in
    changed i d y t (n - 1) h within sound moved (omega (arith, ap length rows, less, p.rows)) (omega (arith, h.few)) (omega (arith, h.enough_leaves)) (omega (arith, h.enough_shelves))

-- there was none
pub missed : {levels : List Leveled} {s : Boxes} {n : ℕ} (i stamp : ℕ) (d y : Leveled) (t : Boxes) → AreLevels levels s n → i < 8 → IsLevel y → y.rows ≡ without stamp (get_or levels i d).rows
    → AreMoved (get_or levels i d) y s t → row_at stamp (get_or levels i d).rows ≡ None → AreLevels (set levels i y) t n
missed {levels} {s} {n} i stamp d y t h within sound rows moved missing =
    let same = without_missing stamp (get_or levels i d).rows missing in
    changed i d y t n h within sound moved (omega (arith, ap length rows, ap length same)) h.few h.enough_leaves h.enough_shelves

-- ---- the only row of a level goes to another that has none, with its leaf

pub length-view : (levels : List Leveled) → length (rows_of_each levels) ≡ length levels
length-view [] = refl
length-view (level ∷ levels) = ap suc (length-view levels)

-- the level that it comes to has no row then
pub emptied : (view : List (List Row)) (from to : ℕ) → from < length view → (from ≢ to → rows_at to view ≡ []) → rows_at to (set view from []) ≡ []
emptied view from to within other = elim (cases_eq from to) [
  | inl e ↦ get_or-set_at view from to [] [] (sym e) within
  | inr ne ↦ get_or-set_other view from to [] [] (λ e. ne (sym e)) ∙ other ne
]

sound-none : IsLevel none
sound-none = record { newest_first = newest-nil; low = All-nil (λ (row : Row). row.request ≤ 65535); room = omega arith; boxes = record { leaves = omega arith; shelves = omega arith; shelved = omega arith } }

pub carried : {levels : List Leveled} {s : Boxes} {n : ℕ} (from to : ℕ) (d e y : Leveled) → AreLevels levels s n → from < 8 → to < 8 → length (get_or levels from d).rows ≡ 1 → (get_or (set levels from none) to e).rows ≡ []
    → IsLevel y → length y.rows ≡ 1 → y.leaves ≡ (get_or levels from d).leaves → y.shelves ≡ (get_or levels from d).shelves → AreLevels (set (set levels from none) to y) s n
carried {levels} {s} {n} from to d e y h from-within to-within one free sound long leaves shelves =
    let x = get_or levels from d in
    let z = get_or (set levels from none) to e in
    let p : IsPart x s n = part from d h from-within in
    let t : Boxes = record s { leaves = s.leaves + x.leaves; shelves = s.shelves + x.shelves } in
    let out : AreLevels (set levels from none) t (n - 1) =
    changed from d none t (n - 1) h from-within sound-none (record { leaves = omega arith; shelves = omega arith; made_leaves = refl; made_shelves = refl })
    (omega (arith, p.rows, one)) (omega (arith, h.few)) (omega (arith, h.enough_leaves)) (omega (arith, h.enough_shelves)) in
    let q : IsPart z t (n - 1) = part to e out to-within in
    let empty : length z.rows ≡ 0 = ap length free in
    changed to e y s n out to-within sound
    (record {
      leaves = omega (arith, leaves, empty, q.sound.boxes.leaves);
      shelves = omega (arith, shelves, empty, q.sound.boxes.shelves);
      made_leaves = refl;
      made_shelves = refl;
    })
    (omega (arith, p.rows, one, empty, long)) h.few h.enough_leaves h.enough_shelves
