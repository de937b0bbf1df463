-- What may stand together before and after a rotation.
use Rattle.std.proofs.Common.{◌≡◌, ℕ, ◌+◌, ◌^◌, ◌<◌, List, ◌∷◌, ◌++◌, length, subst, append_assoc, arith}
use Rattle.market_types.specs.declared.row.Row.{Row}
use Rattle.market_types.specs.Rows.{IsNewestFirst, requests}
use Rattle.prefix_tree.specs.Nodes.{CanJoin, OpensTo, IsFilled}
use Rattle.market_types.proofs.RowOrder.{parts, newest-front}
use Rattle.market_types.proofs.RowReadings.{length-node, requests-node}
use Rattle.prefix_tree.proofs.Heights.{height-le-rows}

-- how many rows s has and what they ask, where it is l and r with x between them
pub record Adds (s : List Row × ℕ) (x : Row) (l r : List Row × ℕ) : Type 0 where
  pub count : length s.0 ≡ length l.0 + length r.0 + 1
  pub sum : requests s.0 ≡ requests l.0 + requests r.0 + x.request

-- the numbers of two lists with a row between them
pub adds : (s : List Row × ℕ) (x : Row) (l r : List Row × ℕ) → s.0 ≡ l.0 ++ x ∷ r.0 → Adds s x l r
adds s x l r e = record { count = rw e (length-node l.0 x r.0); sum = rw e (requests-node l.0 x r.0) }

-- those of an opened side
pub sums : {s l r : List Row × ℕ} {x : Row} → OpensTo s x l r → Adds s x l r
sums {s} {l} {r} {x} o = adds s x l r o.rows

-- a row moved from the right end of one list into the next
assoc : (o : List Row) (j : Row) (i : List Row) (x : Row) (r : List Row) → (o ++ j ∷ i) ++ x ∷ r ≡ o ++ j ∷ (i ++ x ∷ r)
assoc o j i x r = append_assoc o (j ∷ i) (x ∷ r)

-- what can stand together, from what cannot be computed
pub joins : (l : List Row × ℕ) (x : Row) (r : List Row × ℕ) → IsNewestFirst (l.0 ++ x ∷ r.0) → IsFilled l → IsFilled r → requests l.0 + x.request + requests r.0 < 2 ^ 32 → length l.0 + length r.0 < 2 ^ 29 → CanJoin l x r
joins l x r d p q s n = record { ordered = d; filled_left = p; filled_right = q; height_left = omega (arith, height-le-rows l.1 (length l.0) p.least); height_right = omega (arith, height-le-rows r.1 (length r.0) q.least); sum = s; count = n }

-- the left side opens to o j i: its inner side with the right one
pub low_left : {l o i r : List Row × ℕ} {x j : Row} → CanJoin l x r → OpensTo l j o i → CanJoin i x r
low_left {l} {o} {i} {r} {x} {j} f e =
    let d : IsNewestFirst (o.0 ++ j ∷ (i.0 ++ x ∷ r.0)) = subst IsNewestFirst (assoc o.0 j i.0 x r.0) (rw e.rows at f.ordered) in
    let known1 = sums e in
    joins i x r (parts o.0 j (i.0 ++ x ∷ r.0) d).right e.filled_right f.filled_right (omega (arith, f.sum)) (omega (arith, f.count))

-- and the topmost row over them
pub top_left : {l o i r low : List Row × ℕ} {x j : Row} → CanJoin l x r → OpensTo l j o i → low.0 ≡ i.0 ++ x ∷ r.0 → IsFilled low → CanJoin o j low
top_left {l} {o} {i} {r} {low} {x} {j} f e is tall =
    let d : IsNewestFirst (o.0 ++ j ∷ low.0) = rw is (subst IsNewestFirst (assoc o.0 j i.0 x r.0) (rw e.rows at f.ordered)) in
    let known1 = sums e in
    let known2 = adds low x i r is in
    joins o j low d e.filled_left tall (omega (arith, f.sum)) (omega (arith, f.count))

-- the right side opens to i j o: the left one with its inner side
pub low_right : {l o i r : List Row × ℕ} {x j : Row} → CanJoin l x r → OpensTo r j i o → CanJoin l x i
low_right {l} {o} {i} {r} {x} {j} f e =
    let d : IsNewestFirst (l.0 ++ x ∷ (i.0 ++ j ∷ o.0)) = rw e.rows at f.ordered in
    let known1 = sums e in
    joins l x i (newest-front (l.0 ++ x ∷ i.0) (j ∷ o.0) (rw (assoc l.0 x i.0 j o.0) d)) f.filled_left e.filled_left (omega (arith, f.sum)) (omega (arith, f.count))

-- and the topmost row over them
pub top_right : {l o i r low : List Row × ℕ} {x j : Row} → CanJoin l x r → OpensTo r j i o → low.0 ≡ l.0 ++ x ∷ i.0 → IsFilled low → CanJoin low j o
top_right {l} {o} {i} {r} {low} {x} {j} f e is tall =
    let d : IsNewestFirst (low.0 ++ j ∷ o.0) = rw (is, assoc l.0 x i.0 j o.0) (rw e.rows at f.ordered) in
    let known1 = sums e in
    let known2 = adds low x l i is in
    joins low j o d tall e.filled_right (omega (arith, f.sum)) (omega (arith, f.count))

-- the left side's topmost row over its own sides
pub inner_left : {l o i r : List Row × ℕ} {x j : Row} → CanJoin l x r → OpensTo l j o i → CanJoin o j i
inner_left {l} {o} {i} {r} {x} {j} f e =
    let known1 = sums e in
    joins o j i e.ordered e.filled_left e.filled_right (omega (arith, f.sum)) (omega (arith, f.count))

-- the right side's
pub inner_right : {l o i r : List Row × ℕ} {x j : Row} → CanJoin l x r → OpensTo r j i o → CanJoin i j o
inner_right {l} {o} {i} {r} {x} {j} f e =
    let known1 = sums e in
    joins i j o e.ordered e.filled_left e.filled_right (omega (arith, f.sum)) (omega (arith, f.count))

-- the middle row of a double rotation
pub middle_left : {l o i r m n a b : List Row × ℕ} {x j k : Row} → CanJoin l x r → OpensTo l j o i → OpensTo i k m n → a.0 ≡ o.0 ++ j ∷ m.0 → b.0 ≡ n.0 ++ x ∷ r.0 → IsFilled a → IsFilled b → CanJoin a k b
middle_left {l} {o} {i} {r} {m} {n} {a} {b} {x} {j} {k} f e g ais bis atall btall =
    let is : l.0 ≡ o.0 ++ j ∷ (m.0 ++ k ∷ n.0) = rw g.rows at e.rows in
    let d0 : IsNewestFirst ((o.0 ++ j ∷ (m.0 ++ k ∷ n.0)) ++ x ∷ r.0) = rw is at f.ordered in
    let same : (o.0 ++ j ∷ (m.0 ++ k ∷ n.0)) ++ x ∷ r.0 ≡ (o.0 ++ j ∷ m.0) ++ k ∷ (n.0 ++ x ∷ r.0) = simp append_assoc in
    let d : IsNewestFirst (a.0 ++ k ∷ b.0) = rw (ais, bis) (subst IsNewestFirst same d0) in
    let known1 = sums e in
    let known2 = sums g in
    let known3 = adds a j o m ais in
    let known4 = adds b x n r bis in
    joins a k b d atall btall (omega (arith, f.sum)) (omega (arith, f.count))

-- and its mirror
pub middle_right : {l o i r m n a b : List Row × ℕ} {x j k : Row} → CanJoin l x r → OpensTo r j i o → OpensTo i k n m → a.0 ≡ l.0 ++ x ∷ n.0 → b.0 ≡ m.0 ++ j ∷ o.0 → IsFilled a → IsFilled b → CanJoin a k b
middle_right {l} {o} {i} {r} {m} {n} {a} {b} {x} {j} {k} f e g ais bis atall btall =
    let is : r.0 ≡ (n.0 ++ k ∷ m.0) ++ j ∷ o.0 = rw g.rows at e.rows in
    let d0 : IsNewestFirst (l.0 ++ x ∷ ((n.0 ++ k ∷ m.0) ++ j ∷ o.0)) = rw is at f.ordered in
    let same : l.0 ++ x ∷ ((n.0 ++ k ∷ m.0) ++ j ∷ o.0) ≡ (l.0 ++ x ∷ n.0) ++ k ∷ (m.0 ++ j ∷ o.0) = simp append_assoc in
    let d : IsNewestFirst (a.0 ++ k ∷ b.0) = rw (ais, bis) (subst IsNewestFirst same d0) in
    let known1 = sums e in
    let known2 = sums g in
    let known3 = adds a x l n ais in
    let known4 = adds b j m o bis in
    joins a k b d atall btall (omega (arith, f.sum)) (omega (arith, f.count))
