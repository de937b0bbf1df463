-- A node after the row of a stamp at or below it was set.
use Rattle.std.proofs.Common.{◌≡◌, Bool, ℕ, ◌+◌, ◌-◌, ◌<◌, ◌≤◌, ◌^◌, List, [], ◌∷◌, ◌++◌, length, refl, ap, sym, ◌∙◌, arith, eqb, true, false, cond}
use Rattle.std.proofs.lemmas.Bool.{eqb-true}
use Rattle.market_types.specs.declared.row.Row.{Row}
use Rattle.prefix_tree.specs.declared.node.Node.{Node}
use Rattle.market_types.specs.Rows.{IsNewestFirst, requests, set_row}
use Rattle.prefix_tree.specs.Nodes.{mandates, one_if, rows_in, IsSoundNode, IsSmall}
use Rattle.market_types.proofs.RowOrder.{newest-tail, under_here, absent_above, parts}
use Rattle.prefix_tree.proofs.AtNode.{AtNode, whole_node, node_requests}
use Rattle.market_types.proofs.RowReadings.{requests-cons, requests-node}
use Rattle.prefix_tree.proofs.Readings.{mandates-node}
use Rattle.market_types.proofs.RowChanges.{set-none, set_left, set_right, set_here, set-newest, set-length}

-- a request that is set adds at most itself
pub set-requests-le : (s q : ℕ) (m : Bool) (t : List Row) → IsNewestFirst t → requests (set_row s q m t) ≤ requests t + q
set-requests-le s q m [] d = omega arith
set-requests-le s q m (x ∷ t) d =
    elim (eqb x.stamp s) as (λ b. eqb x.stamp s ≡ b → requests (cond b (record x { request = q; mandated = m }) x ∷ set_row s q m t) ≤ requests (x ∷ t) + q) [
      | true ↦ λ e.
          let rest = set-none s q m t (absent_above s t (under_here [] x t d s (eqb-true x.stamp s e))) in
          rw rest (omega (arith, requests-cons x t, requests-cons (record x { request = q; mandated = m }) t))
      | false ↦ λ e. omega (arith, requests-cons x t, requests-cons x (set_row s q m t), set-requests-le s q m t (newest-tail x t d))
    ] refl

-- the rows after one on the right is set
pub rows_right : (s q : ℕ) (m : Bool) {d : List Row × ℕ} {b : Node} (t : List Row × ℕ) → AtNode d b → s < b.row.stamp → t.0 ≡ set_row s q m b.right.0 → b.left.0 ++ b.row ∷ t.0 ≡ set_row s q m d.0
rows_right s q m {d} {b} t a h e = rw (e, a.rows) (sym (set_right s q m b.left.0 b.row b.right.0 a.sound.ordered h))

-- the rows after one on the left is set
pub rows_left : (s q : ℕ) (m : Bool) {d : List Row × ℕ} {b : Node} (t : List Row × ℕ) → AtNode d b → b.row.stamp < s → t.0 ≡ set_row s q m b.left.0 → t.0 ++ b.row ∷ b.right.0 ≡ set_row s q m d.0
rows_left s q m {d} {b} t a h e = rw (e, a.rows) (sym (set_left s q m b.left.0 b.row b.right.0 a.sound.ordered h))

-- the rows after the node's own is set
pub rows_here : (s q : ℕ) (m : Bool) {d : List Row × ℕ} {b : Node} → AtNode d b → b.row.stamp ≡ s → b.left.0 ++ record b.row { request = q; mandated = m } ∷ b.right.0 ≡ set_row s q m d.0
rows_here s q m {d} {b} a h = rw a.rows (sym (set_here s q m b.left.0 b.row b.right.0 a.sound.ordered h))

-- a node that keeps its heights and counts, and sums its rows, is sound as before
sound_after : (s q : ℕ) (m : Bool) {b : Node} (n : Node) → IsSoundNode b → rows_in n ≡ set_row s q m (rows_in b) → n.height ≡ b.height → n.count ≡ b.count → n.left.1 ≡ b.left.1 → n.right.1 ≡ b.right.1 → length n.left.0 ≡ length b.left.0 → length n.right.0 ≡ length b.right.0 → n.sum ≡ requests (rows_in n) → n.mandates ≡ mandates (rows_in n) → n.newer ≡ requests n.left.0 → IsSoundNode n
sound_after s q m {b} n g e h c hl hr ll lr u v w =
    let k = g.balanced in
    record {
      ordered = rw e (set-newest s q m (rows_in b) g.ordered);
      balanced = record {
        height = omega (arith, k.height);
        near = record { left = omega (arith, k.near.left); right = omega (arith, k.near.right) };
        left = record { least = rw (hl, ll) k.left.least };
        right = record { least = rw (hr, lr) k.right.least };
      };
      summed = record { sum = u; count = c ∙ g.summed.count ∙ sym (set-length s q m (rows_in b)) ∙ ap length (sym e); mandates = v; newer = w };
    }

-- the node after a row on its right is set
pub sound_right : (s q : ℕ) (m : Bool) {b : Node} (t : List Row × ℕ) (u v : ℕ) → IsSoundNode b → s < b.row.stamp → t.0 ≡ set_row s q m b.right.0 → t.1 ≡ b.right.1 → u ≡ b.sum - requests b.right.0 + requests t.0 → v ≡ b.mandates - mandates b.right.0 + mandates t.0 → IsSoundNode (record b { right = t; sum = u; mandates = v })
sound_right s q m {b} t u v g h e i eu ev =
    sound_after s q m (record b { right = t; sum = u; mandates = v }) g (rows_right s q m t (whole_node g) h e) refl refl refl i refl (ap length e ∙ set-length s q m b.right.0)
    (omega (arith, g.summed.sum, requests-node b.left.0 b.row b.right.0, requests-node b.left.0 b.row t.0))
    (omega (arith, g.summed.mandates, mandates-node b.left.0 b.row b.right.0, mandates-node b.left.0 b.row t.0)) g.summed.newer

-- the node after a row on its left is set
pub sound_left : (s q : ℕ) (m : Bool) {b : Node} (t : List Row × ℕ) (u v w : ℕ) → IsSoundNode b → b.row.stamp < s → t.0 ≡ set_row s q m b.left.0 → t.1 ≡ b.left.1 → u ≡ b.sum - requests b.left.0 + requests t.0 → v ≡ b.mandates - mandates b.left.0 + mandates t.0 → w ≡ requests t.0 → IsSoundNode (record b { left = t; sum = u; mandates = v; newer = w })
sound_left s q m {b} t u v w g h e i eu ev ew =
    sound_after s q m (record b { left = t; sum = u; mandates = v; newer = w }) g (rows_left s q m t (whole_node g) h e) refl refl i refl (ap length e ∙ set-length s q m b.left.0) refl
    (omega (arith, g.summed.sum, requests-node b.left.0 b.row b.right.0, requests-node t.0 b.row b.right.0))
    (omega (arith, g.summed.mandates, mandates-node b.left.0 b.row b.right.0, mandates-node t.0 b.row b.right.0)) ew

-- the node after its own row is set
pub sound_here : (s q : ℕ) (m : Bool) {b : Node} (u v : ℕ) → IsSoundNode b → b.row.stamp ≡ s → u ≡ b.sum - b.row.request + q → v ≡ b.mandates - one_if b.row.mandated + one_if m → IsSoundNode (record b { row = record b.row { request = q; mandated = m }; sum = u; mandates = v })
sound_here s q m {b} u v g h eu ev =
    sound_after s q m (record b { row = record b.row { request = q; mandated = m }; sum = u; mandates = v }) g (rows_here s q m (whole_node g) h) refl refl refl refl refl refl
    (omega (arith, g.summed.sum, requests-node b.left.0 b.row b.right.0, requests-node b.left.0 (record b.row { request = q; mandated = m }) b.right.0))
    (omega (arith, g.summed.mandates, mandates-node b.left.0 b.row b.right.0, mandates-node b.left.0 (record b.row { request = q; mandated = m }) b.right.0)) g.summed.newer

-- the sums stay within the code's numbers
pub fits_right : (s q : ℕ) (m : Bool) {d : List Row × ℕ} {b : Node} (t : List Row × ℕ) → AtNode d b → IsSmall d → q < 2 ^ 31 → t.0 ≡ set_row s q m b.right.0 → b.sum - requests b.right.0 + requests t.0 < 2 ^ 32
fits_right s q m {d} {b} t a k h e =
    let g = a.sound in
    let le : requests t.0 ≤ requests b.right.0 + q = rw e (set-requests-le s q m b.right.0 (parts b.left.0 b.row b.right.0 g.ordered).right) in
    omega (arith, g.summed.sum, requests-node b.left.0 b.row b.right.0, node_requests a, k.sum)

-- nor on the left
pub fits_left : (s q : ℕ) (m : Bool) {d : List Row × ℕ} {b : Node} (t : List Row × ℕ) → AtNode d b → IsSmall d → q < 2 ^ 31 → t.0 ≡ set_row s q m b.left.0 → b.sum - requests b.left.0 + requests t.0 < 2 ^ 32
fits_left s q m {d} {b} t a k h e =
    let g = a.sound in
    let le : requests t.0 ≤ requests b.left.0 + q = rw e (set-requests-le s q m b.left.0 (parts b.left.0 b.row b.right.0 g.ordered).left) in
    omega (arith, g.summed.sum, requests-node b.left.0 b.row b.right.0, node_requests a, k.sum)
