use Rattle.std.proofs.Common.{◌≡◌, ◌++◌, vec_len, All, Some}
use Rattle.market_lock.specs.Workers.{own_place}
use Rattle.market_lock.specs.Seen.{OfPlaced}
use Rattle.market_lock.specs.Held.{IsClosing, kept_of, taken_in, whos}
use Rattle.market_lock.proofs.closing.take_back_placed.Given as goal

-- what was taken back and what is left are all placed workers
abbrev pub invariant-loop-worker : goal.invariant-loop-worker
invariant-loop-worker l =
    (l.seat.table_id ≡ l.fn.seat.table_id)
    × IsClosing l.fn.table.shared.key l.seat.me (kept_of l.seat.me.0)
    × (kept_of l.seat.me.0 ++ taken_in (whos l.left.items) ≡ kept_of l.fn.seat.me.0 ++ taken_in (whos l.fn.placed.items))
    × All (λ (p : OfPlaced). p.who.table ≡ l.fn.table.shared.table_id) l.left.items
    × (All (λ (p : OfPlaced). own_place p.who.mine ≡ Some p.arena) l.left.items → All (λ (p : OfPlaced). own_place p.who.mine ≡ Some p.arena) l.fn.placed.items)

abbrev pub decreases-loop-worker : goal.decreases-loop-worker
decreases-loop-worker l = vec_len l.left
