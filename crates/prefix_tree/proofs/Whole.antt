-- A whole tree: small enough for the code's numbers, and a tree again after each change.
use Rattle.std.proofs.Common.{◌≡◌, Bool, ℕ, ◌*◌, ◌<◌, ◌≤◌, Option, Some, None, List, [], ◌∷◌, length, arith}
use Rattle.std.specs.Prelude.{IfSome}
use Rattle.market_types.specs.declared.row.Row.{Row}
use Rattle.market_types.specs.Bits.{bits}
use Rattle.market_types.specs.Rows.{IsAbsent, HasLowRequests, requests, insert_row, without, set_row, row_at}
use Rattle.prefix_tree.specs.Nodes.{IsTree, IsSmall, IsFilled}
use Rattle.prefix_tree.proofs.Heights.{height-le-rows, height-le-bits}
use Rattle.market_types.proofs.RowReadings.{requests-le}
use Rattle.market_types.proofs.RowChanges.{insert-low, insert-newest, insert-length, without-low, without-newest, without-length, set-low, set-newest, set-length, row-fewer}

-- a tree's numbers fit the code's
pub small_tree : {s : List Row × ℕ} → IsTree s → IsSmall s
small_tree {s} t = record { height = omega (arith, height-le-rows s.1 (length s.0) t.filled.least, t.room); sum = omega (arith, requests-le s.0 t.low, t.room); count = omega (arith, t.room) }

-- a tree's height is at most twice the binary digits of its rows
pub tree_height : {s : List Row × ℕ} → IsTree s → s.1 ≤ 2 * bits (length s.0)
tree_height {s} t = height-le-bits (length s.0) s.1 t.filled.least

-- a tree with a row put in is a tree
pub inserted : {s u : List Row × ℕ} (x : Row) → IsTree s → length s.0 < 1024 → x.request ≤ 65535 → IsAbsent x.stamp s.0 → u.0 ≡ insert_row x s.0 → IsFilled u → IsTree u
inserted {s} {u} x t n q a e filled = record { filled = filled; room = rw e (omega (arith, insert-length x s.0)); low = rw e (insert-low x s.0 q t.low); ordered = rw e (insert-newest x s.0 t.ordered a) }

-- a tree with a row taken out is a tree
pub removed : {s u : List Row × ℕ} (k : ℕ) → IsTree s → u.0 ≡ without k s.0 → IsFilled u → IsTree u
removed {s} {u} k t e filled = record { filled = filled; room = rw e (omega (arith, without-length k s.0, t.room)); low = rw e (without-low k s.0 t.low); ordered = rw e (without-newest k s.0 t.ordered) }

-- a tree with a row set is a tree
pub reset : {s u : List Row × ℕ} (k q : ℕ) (m : Bool) → IsTree s → q ≤ 65535 → u.0 ≡ set_row k q m s.0 → u.1 ≡ s.1 → IsTree u
reset {s} {u} k q m t h e i = record { filled = record { least = rw (i, e, set-length k q m s.0) t.filled.least }; room = rw (e, set-length k q m s.0) t.room; low = rw e (set-low k q m s.0 h t.low); ordered = rw e (set-newest k q m s.0 t.ordered) }

-- told for the row that was found
room-from-fewer : (a b : ℕ) (o : Option Row) → b ≤ 1024 → IfSome o (λ _. a < b) → IfSome o (λ _. a < 1024)
room-from-fewer a b None h f = tt
room-from-fewer a b (Some x) h f = omega arith

-- a tree that a row was taken out of has room
pub room_again : {s : List Row × ℕ} (k : ℕ) → IsTree s → IfSome (row_at k s.0) (λ _. length (without k s.0) < 1024)
room_again {s} k t = room-from-fewer (length (without k s.0)) (length s.0) (row_at k s.0) t.room (row-fewer k s.0)
