-- A node after a row at or below it, whose request and mandate are known, was set.
use Rattle.std.proofs.Common.{◌≡◌, Bool, ℕ, ◌+◌, ◌-◌, ◌<◌, ◌≤◌, Some, List, [], ◌∷◌, refl, ap, sym, ◌∙◌, arith, eqb, true, false, cond}
use Rattle.std.proofs.lemmas.Bool.{eqb-true}
use Rattle.market_types.specs.declared.row.Row.{Row}
use Rattle.prefix_tree.specs.declared.node.Node.{Node}
use Rattle.market_types.specs.Rows.{IsNewestFirst, requests, set_row, row_at}
use Rattle.prefix_tree.specs.Nodes.{mandates, one_if, IsSoundNode, IsSmall}
use Rattle.market_types.proofs.RowOrder.{newest-tail, under_here, absent_above, parts}
use Rattle.prefix_tree.proofs.AtNode.{AtNode, node_requests}
use Rattle.market_types.proofs.RowReadings.{request-within, requests-node, same-row}
use Rattle.prefix_tree.proofs.Readings.{mandates-cons, mandates-node}
use Rattle.market_types.proofs.RowChanges.{set-none, set-requests, row_left, row_right, row_here}
use Rattle.prefix_tree.proofs.Sets.{sound_left, sound_right, sound_here}

-- how many of a list are mandated after a row of it is set
pub set-mandates : (s q : ℕ) (m : Bool) (t : List Row) (x : Row) → IsNewestFirst t → row_at s t ≡ Some x → mandates (set_row s q m t) + one_if x.mandated ≡ mandates t + one_if m
set-mandates s q m [] x d e = absurd (cc)
set-mandates s q m (y ∷ t) x d e =
    elim (eqb y.stamp s) as (λ b. eqb y.stamp s ≡ b → cond b (Some y) (row_at s t) ≡ Some x → mandates (cond b (record y { request = q; mandated = m }) y ∷ set_row s q m t) + one_if x.mandated ≡ mandates (y ∷ t) + one_if m) [
      | true ↦ λ h g.
          let rest = set-none s q m t (absent_above s t (under_here [] y t d s (eqb-true y.stamp s h))) in
          let same : one_if y.mandated ≡ one_if x.mandated = ap (λ z. one_if z.mandated) (same-row g) in
          rw rest (omega (arith, mandates-cons y t, mandates-cons (record y { request = q; mandated = m }) t))
      | false ↦ λ h g. omega (arith, mandates-cons y t, mandates-cons y (set_row s q m t), set-mandates s q m t x (newest-tail y t d) g)
    ] refl e

-- a row is no more mandates than the list that has it
pub mandate-within : (s : ℕ) (t : List Row) (x : Row) → row_at s t ≡ Some x → one_if x.mandated ≤ mandates t
mandate-within s [] x e = absurd (cc)
mandate-within s (y ∷ t) x e =
    elim (eqb y.stamp s) as (λ b. cond b (Some y) (row_at s t) ≡ Some x → one_if x.mandated ≤ mandates (y ∷ t)) [
      | true ↦ λ g. let same : one_if y.mandated ≡ one_if x.mandated = ap (λ z. one_if z.mandated) (same-row g) in omega (arith, mandates-cons y t)
      | false ↦ λ g. omega (arith, mandates-cons y t, mandate-within s t x g)
    ] e

-- what holds of both sides of a node
pub record Both (P : List Row × ℕ → Type 0) (b : Node) : Type 0 where
  pub left : P b.left
  pub right : P b.right

-- the row x of the side d whose topmost node is b
pub record IsAt (x : Row) (d : List Row × ℕ) (b : Node) : Type 0 where
  pub node : AtNode d b
  pub there : row_at x.stamp d.0 ≡ Some x

-- a side of a small one is small
pub small_below : {d : List Row × ℕ} {b : Node} → AtNode d b → IsSmall d → Both IsSmall b
small_below {d} {b} a k =
    let count = a.lengths in
    record {
      left = record { height = omega (arith, a.lower_left, k.height); sum = omega (arith, node_requests a, k.sum); count = omega (arith, count, k.count) };
      right = record { height = omega (arith, a.lower_right, k.height); sum = omega (arith, node_requests a, k.sum); count = omega (arith, count, k.count) };
    }

-- an older row is on the right
pub there_right : {x : Row} {d : List Row × ℕ} {b : Node} → IsAt x d b → x.stamp < b.row.stamp → row_at x.stamp b.right.0 ≡ Some x
there_right {x} {d} {b} a h = sym (row_right x.stamp b.left.0 b.row b.right.0 a.node.sound.ordered h) ∙ (rw a.node.rows at a.there)

-- a newer one on the left
pub there_left : {x : Row} {d : List Row × ℕ} {b : Node} → IsAt x d b → b.row.stamp < x.stamp → row_at x.stamp b.left.0 ≡ Some x
there_left {x} {d} {b} a h = sym (row_left x.stamp b.left.0 b.row b.right.0 a.node.sound.ordered h) ∙ (rw a.node.rows at a.there)

-- one of the same stamp is the node's
pub there_here : {x : Row} {d : List Row × ℕ} {b : Node} → IsAt x d b → b.row.stamp ≡ x.stamp → b.row ≡ x
there_here {x} {d} {b} a h = same-row (sym (row_here x.stamp b.left.0 b.row b.right.0 a.node.sound.ordered h) ∙ (rw a.node.rows at a.there))

-- the node's sums hold it
pub sum_holds : {x : Row} {d : List Row × ℕ} {b : Node} → IsAt x d b → x.request ≤ b.sum
sum_holds {x} {d} {b} a = omega (arith, a.node.sound.summed.sum, requests-node b.left.0 b.row b.right.0, node_requests a.node, request-within x.stamp d.0 x a.there)

pub mandates_hold : {x : Row} {d : List Row × ℕ} {b : Node} → IsAt x d b → one_if x.mandated ≤ b.mandates
mandates_hold {x} {d} {b} a =
    let all : mandates d.0 ≡ b.mandates = ap mandates a.node.rows ∙ sym a.node.sound.summed.mandates in
    omega (arith, mandate-within x.stamp d.0 x a.there)

pub newer_holds : {x : Row} {d : List Row × ℕ} {b : Node} → IsAt x d b → b.row.stamp < x.stamp → x.request ≤ b.newer
newer_holds {x} {d} {b} a h = omega (arith, a.node.sound.summed.newer, request-within x.stamp b.left.0 x (there_left a h))

-- the node after the row on its right is set
pub updated_right : {x : Row} {d : List Row × ℕ} {b : Node} (q : ℕ) (m : Bool) (t : List Row × ℕ) (u v : ℕ) → IsAt x d b → x.stamp < b.row.stamp → t.0 ≡ set_row x.stamp q m b.right.0 → t.1 ≡ b.right.1 → u ≡ b.sum - x.request + q → v ≡ b.mandates - one_if x.mandated + one_if m → IsSoundNode (record b { right = t; sum = u; mandates = v })
updated_right {x} {d} {b} q m t u v a h e i eu ev =
    let g = a.node.sound in
    let r = there_right a h in
    let n = (parts b.left.0 b.row b.right.0 g.ordered).right in
    let asked : requests t.0 + x.request ≡ requests b.right.0 + q = rw e (set-requests x.stamp q m b.right.0 x n r) in
    let mandated : mandates t.0 + one_if x.mandated ≡ mandates b.right.0 + one_if m = rw e (set-mandates x.stamp q m b.right.0 x n r) in
    sound_right x.stamp q m t u v g h e i
    (omega (arith, asked, eu, g.summed.sum, requests-node b.left.0 b.row b.right.0, request-within x.stamp b.right.0 x r))
    (omega (arith, mandated, ev, g.summed.mandates, mandates-node b.left.0 b.row b.right.0, mandate-within x.stamp b.right.0 x r))

-- the node after the row on its left is set
pub updated_left : {x : Row} {d : List Row × ℕ} {b : Node} (q : ℕ) (m : Bool) (t : List Row × ℕ) (u v w : ℕ) → IsAt x d b → b.row.stamp < x.stamp → t.0 ≡ set_row x.stamp q m b.left.0 → t.1 ≡ b.left.1 → u ≡ b.sum - x.request + q → v ≡ b.mandates - one_if x.mandated + one_if m → w ≡ b.newer - x.request + q → IsSoundNode (record b { left = t; sum = u; mandates = v; newer = w })
updated_left {x} {d} {b} q m t u v w a h e i eu ev ew =
    let g = a.node.sound in
    let r = there_left a h in
    let n = (parts b.left.0 b.row b.right.0 g.ordered).left in
    let within = request-within x.stamp b.left.0 x r in
    let asked : requests t.0 + x.request ≡ requests b.left.0 + q = rw e (set-requests x.stamp q m b.left.0 x n r) in
    let mandated : mandates t.0 + one_if x.mandated ≡ mandates b.left.0 + one_if m = rw e (set-mandates x.stamp q m b.left.0 x n r) in
    sound_left x.stamp q m t u v w g h e i
    (omega (arith, asked, eu, g.summed.sum, requests-node b.left.0 b.row b.right.0, within))
    (omega (arith, mandated, ev, g.summed.mandates, mandates-node b.left.0 b.row b.right.0, mandate-within x.stamp b.left.0 x r))
    (omega (arith, asked, ew, g.summed.newer, within))

-- the node after its own row is set
pub updated_here : {x : Row} {d : List Row × ℕ} {b : Node} (q : ℕ) (m : Bool) (u v : ℕ) → IsAt x d b → b.row.stamp ≡ x.stamp → u ≡ b.sum - x.request + q → v ≡ b.mandates - one_if x.mandated + one_if m → IsSoundNode (record b { row = record b.row { request = q; mandated = m }; sum = u; mandates = v })
updated_here {x} {d} {b} q m u v a h eu ev =
    let same = there_here a h in
    sound_here x.stamp q m u v a.node.sound h (rw same eu) (rw same ev)
