use Rattle.std.proofs.Common.{◌≡◌, ℕ, List, [], ◌∷◌, get_or, length, sym, ap, ◌∙◌, arith}
use Rattle.atomic_table.specs.Table.{rest}
use Rattle.market_types.specs.History.{of_seat}
use Rattle.edit_history.specs.Chronicled.{Chronicled}
use Rattle.market_lock.specs.Forgetting.{most_counted}
use Rattle.market_lock.proofs.Calls.{one_more_own, refused_so}
use Rattle.market_lock.proofs.ticket.serve.Goals as goal

pub overflow_add-calls : goal.overflow_add-calls
overflow_add-calls c =
    let d = c.slot_mut-desk.result.now in
    let same : c.requires.desk.0 ≡ d = ap (λ (l : List (ℕ × Chronicled)). (get_or l 0 (0, d)).1) (sym (ap (λ m. m.1) c.requires.desk.1) ∙ c.slot_mut-desk.ensures.value) in
    let counted : c.args.calls.now ≡ length (of_seat c.args.number d.log) = c.requires.desk.2.1 ∙ ap (λ (x : Chronicled). length (of_seat c.args.number x.log)) same in
    let more = one_more_own c.args.number most_counted c.args.cmd c.serve-answer.result d.log c.serve-answer.new.self.log c.serve-answer.ensures.recorded c.serve-answer.ensures.countable (sym c.if-is_ok.ensures.value) in
    omega (arith, counted, more)

pub returns-else-is_ok-clause-desk : goal.returns-else-is_ok-clause-desk
returns-else-is_ok-clause-desk c =
    let me = c.args.seat.now.me in
    let d = c.slot_mut-desk.result.now in
    let e = c.serve-answer.new.self in
    let none : rest me.1 ≡ [] = ap (λ m. rest m.1) c.requires.desk.1 in
    let found : me.1 ≡ (0, d) ∷ [] = c.slot_mut-desk.ensures.value ∙ ap (λ l. (0, d) ∷ l) none in
    let did = c.serve-answer.ensures in (
      d,
      (λ i. (me.0, found i)),
      (
        e,
        ap (λ l. (me.0, (0, e) ∷ l)) none,
        record {
          start = did.start;
          places = did.places;
          from = did.from;
          found_from = did.found_from;
          keeping = did.keeping;
          found = did.found;
          legal = did.legal;
          held = did.held;
          done = refused_so c.args.number c.args.cmd c.serve-answer.result d e c.args.calls.now did.unchanged did.room did.full did.leave (sym c.if-is_ok.ensures.value);
        },
      ),
    )
