use Rattle.std.proofs.Common.{rules, ◌≡◌, ℕ, Some, subst, sym}
use Rattle.std.specs.Prelude.{Option, IsSomeAnd}
use Rattle.market_seat.specs.Seated.{OfSeat}
use Rattle.market_c.specs.Endings.{IsLeft, IsPutInto, EndsInto}
use Rattle.market_c.proofs.ending.end_into.Goals as goal

pub returns-in-Ok-clause-done : goal.returns-in-Ok-clause-done
returns-in-Ok-clause-done c =
    let seat : OfSeat = c.in-Some.seat in
    let there : c.args.place.now.held.seat ≡ Some seat = search rules in
    let levels : c.terms-terms.result.opening.levels ≡ seat.office.terms.opening.levels = search rules in
    let left : IsLeft c.put_last.result.calls seat c.in-Ok.closed.chronicle = record { given = search rules; is = search rules; parts = search rules; counted = search rules } in
    let put = c.put_last.ensures.part in
    let ends : EndsInto c.put_last.result.calls c.put_last.result.part seat c.args.unread.now c.put_last.new.unread =
    (c.in-Ok.closed.chronicle, put.0, left, subst (λ (n : ℕ). IsPutInto put.0 c.put_last.result.part n c.in-Ok.closed.chronicle c.args.unread.now c.put_last.new.unread) levels put.1) in
    subst (λ (m : Option OfSeat). IsSomeAnd m (λ s. EndsInto c.put_last.result.calls c.put_last.result.part s c.args.unread.now c.put_last.new.unread)) (sym there) ends
