use Rattle.std.proofs.Common.{◌≡◌, ◌++◌, vec_len, All, None}
use Rattle.market_lock.specs.Workers.{own_place}
use Rattle.market_lock.specs.Seen.{OfPass}
use Rattle.market_lock.specs.Held.{IsClosing, kept_of, taken_in}
use Rattle.market_lock.proofs.closing.take_back_passes.Given as goal

-- what was taken back and what is left are all passes
abbrev pub invariant-loop-pass : goal.invariant-loop-pass
invariant-loop-pass l =
    (l.seat.table_id ≡ l.fn.seat.table_id)
    × IsClosing l.fn.table.shared.key l.seat.me (kept_of l.seat.me.0)
    × (kept_of l.seat.me.0 ++ taken_in l.left.items ≡ kept_of l.fn.seat.me.0 ++ taken_in l.fn.passes.items)
    × All (λ (p : OfPass). p.table ≡ l.fn.table.shared.table_id) l.left.items
    × (All (λ (p : OfPass). own_place p.mine ≡ None) l.left.items → All (λ (p : OfPass). own_place p.mine ≡ None) l.fn.passes.items)

abbrev pub decreases-loop-pass : goal.decreases-loop-pass
decreases-loop-pass l = vec_len l.left
