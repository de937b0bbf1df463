-- What is known of a side's value d once its topmost node n is seen.
use Rattle.std.specs.List.{slice_get}
use Rattle.std.proofs.Common.{refl, ◌≡◌, ℕ, ◌+◌, ◌<◌, true, false, List, ◌∷◌, ◌++◌, length, Box, sym, ap, ◌∙◌, subst, Option, Some, arith}
use Rattle.std.specs.declared.alloc.Global.{Global}
use Rattle.market_types.specs.declared.row.Row.{Row}
use Rattle.market_types.specs.Rows.{requests, requests_above, first_mandated}
use Rattle.prefix_tree.specs.Nodes.{IsTopOf, mandates, rows_in, rows_of, height_of, IsSound, IsSoundNode}
use Rattle.prefix_tree.specs.declared.node.Node.{Node}
use Rattle.market_types.proofs.RowReadings.{above_right, above_left, above_here, get_left, get_right, get_here, length-node, requests-node}
use Rattle.prefix_tree.proofs.Readings.{first-left, first-here}

-- the node is the topmost one of d
pub record AtNode (d : List Row × ℕ) (n : Node) : Type 0 where
  pub rows : d.0 ≡ n.left.0 ++ n.row ∷ n.right.0
  pub height : d.1 ≡ n.height
  pub sound : IsSoundNode n
  pub lower_left : n.left.1 < d.1
  pub lower_right : n.right.1 < d.1
  pub lengths : length d.0 ≡ length n.left.0 + length n.right.0 + 1

-- a sound node, seen as the side that it tops
pub whole_node : {n : Node} → IsSoundNode n → AtNode (rows_in n, n.height) n
whole_node {n} g =
    let b = g.balanced in
    record { rows = refl; height = refl; sound = g; lower_left = omega (arith, b.height); lower_right = omega (arith, b.height); lengths = length-node n.left.0 n.row n.right.0 }

-- the node in a side's box
pub at_node : {root : Option (Box Node Global)} {d : List Row × ℕ} {b : Box Node Global} {n : Node} → (rows_of root, height_of root) ≡ d → IsSound root → root ≡ Some b → n ≡ b.value → AtNode d n
at_node {root} {d} {b} {n} view_is sound is same =
    let e : (rows_in b.value, b.value.height) ≡ d = ap (λ z. (rows_of z, height_of z)) (sym is) ∙ view_is in
    subst (AtNode d) (sym same) (subst (λ z. AtNode z b.value) e (whole_node (subst IsSound is sound)))

-- the node that was entered from a side
pub top_node : {d : List Row × ℕ} {n : Node} → IsTopOf n d → AtNode d n
top_node {d} {n} top = record { rows = top.rows; height = top.height; sound = top.sound; lower_left = omega (arith, top.height, top.sound.balanced.height); lower_right = omega (arith, top.height, top.sound.balanced.height); lengths = rw top.rows (length-node n.left.0 n.row n.right.0) }

-- the sum above a stamp below the node: all on the left, the node, and on the right
pub right_above : {d : List Row × ℕ} {n : Node} → AtNode d n → (s : ℕ) → s < n.row.stamp → requests_above s d.0 ≡ requests n.left.0 + n.row.request + requests_above s n.right.0
right_above {d} {n} f s h = rw f.rows (above_right s n.left.0 n.row n.right.0 f.sound.ordered h)

-- above a stamp over the node: on the left
pub left_above : {d : List Row × ℕ} {n : Node} → AtNode d n → (s : ℕ) → n.row.stamp < s → requests_above s d.0 ≡ requests_above s n.left.0
left_above {d} {n} f s h = rw f.rows (above_left s n.left.0 n.row n.right.0 f.sound.ordered h)

-- above the node's own stamp: all on the left
pub here_above : {d : List Row × ℕ} {n : Node} → AtNode d n → (s : ℕ) → n.row.stamp ≡ s → requests_above s d.0 ≡ requests n.left.0
here_above {d} {n} f s h = rw f.rows (above_here s n.left.0 n.row n.right.0 f.sound.ordered h)

-- the first mandated row is on the left if one is mandated there
pub left_mandated : {d : List Row × ℕ} {n : Node} → AtNode d n → 0 < mandates n.left.0 → first_mandated d.0 ≡ first_mandated n.left.0
left_mandated {d} {n} f h = rw f.rows (first-left n.left.0 (n.row ∷ n.right.0) h)

-- else the node's own
pub here_mandated : {d : List Row × ℕ} {n : Node} → AtNode d n → mandates n.left.0 ≡ 0 → n.row.mandated ≡ true → first_mandated d.0 ≡ Some n.row
here_mandated {d} {n} f h g = rw f.rows (first-here n.left.0 (n.row ∷ n.right.0) h ∙ rw g)

-- else on the right
pub right_mandated : {d : List Row × ℕ} {n : Node} → AtNode d n → mandates n.left.0 ≡ 0 → n.row.mandated ≡ false → first_mandated d.0 ≡ first_mandated n.right.0
right_mandated {d} {n} f h g = rw f.rows (first-here n.left.0 (n.row ∷ n.right.0) h ∙ rw g)

-- a low place is on the left
pub left_get : {d : List Row × ℕ} {n : Node} → AtNode d n → (i : ℕ) → i < length n.left.0 → slice_get d.0 i ≡ slice_get n.left.0 i
left_get {d} {n} f i h = rw f.rows (get_left i n.left.0 (n.row ∷ n.right.0) h)

-- that after the left side is the node
pub here_get : {d : List Row × ℕ} {n : Node} → AtNode d n → (i : ℕ) → i ≡ length n.left.0 → slice_get d.0 i ≡ Some n.row
here_get {d} {n} f i h = rw f.rows (get_here i n.left.0 n.row n.right.0 h)

-- a later one is on the right
pub right_get : {d : List Row × ℕ} {n : Node} → AtNode d n → (i j : ℕ) → i ≡ length n.left.0 + 1 + j → slice_get d.0 i ≡ slice_get n.right.0 j
right_get {d} {n} f i j h = rw f.rows (get_right i j n.left.0 n.row n.right.0 h)

-- all requests: those of both sides and the node
pub node_requests : {d : List Row × ℕ} {n : Node} → AtNode d n → requests d.0 ≡ requests n.left.0 + requests n.right.0 + n.row.request
node_requests {d} {n} f = rw f.rows (requests-node n.left.0 n.row n.right.0)
