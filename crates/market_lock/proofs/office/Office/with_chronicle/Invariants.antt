use Rattle.std.specs.Prelude.{slice_get}
use Rattle.std.proofs.Common.{◌≡◌, ℕ, ◌<◌, [], vec_len, vec_capacity, Some, All}
use Rattle.market_lock.specs.declared.view.View.TheVariants.{Opener}
use Rattle.market_lock.specs.Seen.{OfPass, fresh, office_of}
use Rattle.market_lock.proofs.office.Office.with_chronicle.Given as goal

abbrev pub invariant-loop-number : goal.invariant-loop-number
invariant-loop-number l =
    (l.seat.table_id ≡ l.table.shared.table_id)
    × (l.seat.me ≡ (Opener l.table.shared.key l.number, []))
    × (vec_len l.passes ≡ l.number)
    × (vec_capacity l.passes ≡ l.fn.terms.opening.seats)
    × ((k : ℕ) → k < l.number → slice_get l.passes.items k ≡ Some (fresh (office_of l.table.shared.table_id l.table.shared.key) k))
    × All (λ (p : OfPass). p.table ≡ l.table.shared.table_id) l.passes.items
