-- A side that was opened: what its own sides have, and what may stand together after a row is put in or taken out below.
use Rattle.std.proofs.Common.{◌≡◌, ℕ, suc, ◌+◌, ◌^◌, ◌<◌, ◌≤◌, List, [], ◌∷◌, ◌++◌, length, refl, ap, sym, ◌∙◌, subst, arith, Some}
use Rattle.std.proofs.lemmas.List.Elements.{All-head, All-tail}
use Rattle.market_types.specs.declared.row.Row.{Row}
use Rattle.market_types.specs.Rows.{IsNewestFirst, IsAbsent, requests, insert_row, without, row_at}
use Rattle.prefix_tree.specs.Nodes.{CanJoin, OpensTo, IsSmall, IsFilled}
use Rattle.market_types.proofs.RowOrder.{all-front, all-back, newest-tail}
use Rattle.market_types.proofs.RowReadings.{requests-cons}
use Rattle.market_types.proofs.RowChanges.{insert_left, insert_right, insert-newest, insert-length, insert-requests, without_left, without_right, without_here, without-newest, without-length, without-requests, row_left, row_right, row_here}
use Rattle.prefix_tree.proofs.Joins.{joins, sums}

-- the left side of a small one is small
pub small_left : {s l r : List Row × ℕ} {x : Row} → IsSmall s → OpensTo s x l r → IsSmall l
small_left {s} {l} {r} {x} m o =
    let g = sums o in
    record { height = omega arith; sum = omega arith; count = omega arith }

-- so is the right one
pub small_right : {s l r : List Row × ℕ} {x : Row} → IsSmall s → OpensTo s x l r → IsSmall r
small_right {s} {l} {r} {x} m o =
    let g = sums o in
    record { height = omega arith; sum = omega arith; count = omega arith }

-- a stamp that is not there is not on the left
pub absent_left : {s l r : List Row × ℕ} {x : Row} (k : ℕ) → IsAbsent k s.0 → OpensTo s x l r → IsAbsent k l.0
absent_left {s} {l} {r} {x} k a o = all-front (λ y. y.stamp ≡ k → ⊥) l.0 (x ∷ r.0) (rw o.rows at a)

-- nor on the right
pub absent_right : {s l r : List Row × ℕ} {x : Row} (k : ℕ) → IsAbsent k s.0 → OpensTo s x l r → IsAbsent k r.0
absent_right {s} {l} {r} {x} k a o = All-tail (λ y. y.stamp ≡ k → ⊥) x r.0 (all-back (λ y. y.stamp ≡ k → ⊥) l.0 (x ∷ r.0) (rw o.rows at a))

-- nor that of the topmost row
pub absent_here : {s l r : List Row × ℕ} {x : Row} (k : ℕ) → IsAbsent k s.0 → OpensTo s x l r → x.stamp ≡ k → ⊥
absent_here {s} {l} {r} {x} k a o = All-head (λ y. y.stamp ≡ k → ⊥) x r.0 (all-back (λ y. y.stamp ≡ k → ⊥) l.0 (x ∷ r.0) (rw o.rows at a))

-- an older row goes to the right
pub put_right_rows : {s l r : List Row × ℕ} {y : Row} (x : Row) → OpensTo s y l r → x.stamp < y.stamp → insert_row x s.0 ≡ l.0 ++ y ∷ insert_row x r.0
put_right_rows {s} {l} {r} {y} x o h = rw o.rows (insert_right x l.0 y r.0 o.ordered h)

-- a newer one to the left
pub put_left_rows : {s l r : List Row × ℕ} {y : Row} (x : Row) → OpensTo s y l r → y.stamp < x.stamp → insert_row x s.0 ≡ insert_row x l.0 ++ y ∷ r.0
put_left_rows {s} {l} {r} {y} x o h = rw o.rows (insert_left x l.0 y r.0 h)

-- and the row over the new right side can stand
pub put_right : {s l r t : List Row × ℕ} {y : Row} (x : Row) → OpensTo s y l r → IsSmall s → x.request < 2 ^ 31 → IsAbsent x.stamp s.0 → x.stamp < y.stamp → t.0 ≡ insert_row x r.0 → IsFilled t → CanJoin l y t
put_right {s} {l} {r} {t} {y} x o m q a h e filled =
    let g = sums o in
    let d : IsNewestFirst (insert_row x s.0) = insert-newest x s.0 (rw o.rows o.ordered) a in
    let n : length t.0 ≡ length r.0 + 1 = rw e (insert-length x r.0) in
    let u : requests t.0 ≡ requests r.0 + x.request = rw e (insert-requests x r.0) in
    joins l y t (rw e (subst IsNewestFirst (put_right_rows x o h) d)) o.filled_left filled (omega (arith, m.sum, q, g.sum, u)) (omega (arith, m.count, g.count, n))

-- or over the new left one
pub put_left : {s l r t : List Row × ℕ} {y : Row} (x : Row) → OpensTo s y l r → IsSmall s → x.request < 2 ^ 31 → IsAbsent x.stamp s.0 → y.stamp < x.stamp → t.0 ≡ insert_row x l.0 → IsFilled t → CanJoin t y r
put_left {s} {l} {r} {t} {y} x o m q a h e filled =
    let g = sums o in
    let d : IsNewestFirst (insert_row x s.0) = insert-newest x s.0 (rw o.rows o.ordered) a in
    let n : length t.0 ≡ length l.0 + 1 = rw e (insert-length x l.0) in
    let u : requests t.0 ≡ requests l.0 + x.request = rw e (insert-requests x l.0) in
    joins t y r (rw e (subst IsNewestFirst (put_left_rows x o h) d)) filled o.filled_right (omega (arith, m.sum, q, g.sum, u)) (omega (arith, m.count, g.count, n))

-- an older row is taken from the right
pub take_right_rows : {s l r : List Row × ℕ} {y : Row} (k : ℕ) → OpensTo s y l r → k < y.stamp → without k s.0 ≡ l.0 ++ y ∷ without k r.0
take_right_rows {s} {l} {r} {y} k o h = rw o.rows (without_right k l.0 y r.0 o.ordered h)

-- a newer one from the left
pub take_left_rows : {s l r : List Row × ℕ} {y : Row} (k : ℕ) → OpensTo s y l r → y.stamp < k → without k s.0 ≡ without k l.0 ++ y ∷ r.0
take_left_rows {s} {l} {r} {y} k o h = rw o.rows (without_left k l.0 y r.0 o.ordered h)

-- the topmost one from between both
pub take_here_rows : {s l r : List Row × ℕ} {y : Row} (k : ℕ) → OpensTo s y l r → y.stamp ≡ k → without k s.0 ≡ l.0 ++ r.0
take_here_rows {s} {l} {r} {y} k o h = rw o.rows (without_here k l.0 y r.0 o.ordered h)

-- an empty list adds nothing
append-none : (l r : List Row) → length r ≡ 0 → l ++ r ≡ l
append-none [] [] n = refl
append-none [] (x ∷ r) n = absurd (omega arith)
append-none (x ∷ l) r n = ap (λ z. x ∷ z) (append-none l r n)

-- and the row over what is left on the right can stand
pub take_right : {s l r t : List Row × ℕ} {y : Row} (k : ℕ) → OpensTo s y l r → IsSmall s → k < y.stamp → t.0 ≡ without k r.0 → IsFilled t → CanJoin l y t
take_right {s} {l} {r} {t} {y} k o m h e filled =
    let g = sums o in
    let d : IsNewestFirst (without k s.0) = without-newest k s.0 (rw o.rows o.ordered) in
    let n : length t.0 ≤ length r.0 = rw e (without-length k r.0) in
    let u : requests t.0 ≤ requests r.0 = rw e (without-requests k r.0) in
    joins l y t (rw e (subst IsNewestFirst (take_right_rows k o h) d)) o.filled_left filled (omega (arith, m.sum, g.sum, u)) (omega (arith, m.count, g.count, n))

-- or over what is left on the left
pub take_left : {s l r t : List Row × ℕ} {y : Row} (k : ℕ) → OpensTo s y l r → IsSmall s → y.stamp < k → t.0 ≡ without k l.0 → IsFilled t → CanJoin t y r
take_left {s} {l} {r} {t} {y} k o m h e filled =
    let g = sums o in
    let d : IsNewestFirst (without k s.0) = without-newest k s.0 (rw o.rows o.ordered) in
    let n : length t.0 ≤ length l.0 = rw e (without-length k l.0) in
    let u : requests t.0 ≤ requests l.0 = rw e (without-requests k l.0) in
    joins t y r (rw e (subst IsNewestFirst (take_left_rows k o h) d)) filled o.filled_right (omega (arith, m.sum, g.sum, u)) (omega (arith, m.count, g.count, n))

-- the first row of the right side comes up
pub take_here : {s l r t : List Row × ℕ} {x y : Row} → OpensTo s y l r → IsSmall s → r.0 ≡ x ∷ t.0 → IsFilled t → CanJoin l x t
take_here {s} {l} {r} {t} {x} {y} o m e filled =
    let g = sums o in
    let d : IsNewestFirst (without y.stamp s.0) = without-newest y.stamp s.0 (rw o.rows o.ordered) in
    let n : length r.0 ≡ suc (length t.0) = ap length e in
    let u : requests r.0 ≡ x.request + requests t.0 = ap requests e ∙ requests-cons x t.0 in
    joins l x t (subst IsNewestFirst (take_here_rows y.stamp o refl ∙ ap (λ z. l.0 ++ z) e) d) o.filled_left filled (omega (arith, m.sum, g.sum, u)) (omega (arith, m.count, g.count, n))

-- the first row is gone
pub take_first : {s l r t : List Row × ℕ} {x y : Row} → OpensTo s y l r → IsSmall s → l.0 ≡ x ∷ t.0 → IsFilled t → CanJoin t y r
take_first {s} {l} {r} {t} {x} {y} o m e filled =
    let g = sums o in
    let d : IsNewestFirst (x ∷ (t.0 ++ y ∷ r.0)) = rw e at o.ordered in
    let n : length l.0 ≡ suc (length t.0) = ap length e in
    let u : requests l.0 ≡ x.request + requests t.0 = ap requests e ∙ requests-cons x t.0 in
    joins t y r (newest-tail x (t.0 ++ y ∷ r.0) d) filled o.filled_right (omega (arith, m.sum, g.sum, u)) (omega (arith, m.count, g.count, n))

-- the row of a lower stamp is on the right
pub row_in_right : {s l r : List Row × ℕ} {y : Row} (k : ℕ) → OpensTo s y l r → k < y.stamp → row_at k s.0 ≡ row_at k r.0
row_in_right {s} {l} {r} {y} k o h = rw o.rows (row_right k l.0 y r.0 o.ordered h)

-- that of a higher one on the left
pub row_in_left : {s l r : List Row × ℕ} {y : Row} (k : ℕ) → OpensTo s y l r → y.stamp < k → row_at k s.0 ≡ row_at k l.0
row_in_left {s} {l} {r} {y} k o h = rw o.rows (row_left k l.0 y r.0 o.ordered h)

-- that of the same stamp is the topmost one
pub row_is_here : {s l r : List Row × ℕ} {y : Row} (k : ℕ) → OpensTo s y l r → y.stamp ≡ k → row_at k s.0 ≡ Some y
row_is_here {s} {l} {r} {y} k o h = rw o.rows (row_here k l.0 y r.0 o.ordered h)

-- with nothing on the right the left side is left
pub take_end_rows : {s l r : List Row × ℕ} {y : Row} (k : ℕ) → OpensTo s y l r → y.stamp ≡ k → length r.0 ≡ 0 → l.0 ≡ without k s.0
take_end_rows {s} {l} {r} {y} k o h n = sym (take_here_rows k o h ∙ append-none l.0 r.0 n)
