use Rattle.std.proofs.Common.{◌≡◌, ◌≤◌, ◌∙◌, subst, Result, false}
use Rattle.std.specs.Prelude.{IfOk, IfErr, IsOk}
use Rattle.market_types.specs.declared.reply.Reply.{Reply}
use Rattle.market_types.specs.Commands.{moves_seat}
use Rattle.market_types.specs.History.{place_after}
use Rattle.market_core.specs.Moves.{Answers}
use Rattle.edit_history.specs.declared.fault.CallFault.{CallFault}
use Rattle.edit_history.specs.Places.{takes}
use Rattle.market_lock.specs.Workers.{own_place}
use Rattle.market_lock.specs.Seen.{OfPass, known_of, pass_of, Extends, OthersCut}
use Rattle.market_lock.specs.Moves.{Fails}
use Rattle.market_lock.proofs.Calls.{may_serve, served_by, may_give, ticket_after, later_after, extends_after, fails_after, cuts_known, answers_after, never_after, moved_after, still_after}
use Rattle.market_lock.proofs.ticket.Ticket.try_call.Goals as goal

pub serve-answer-requires-clause-desk : goal.serve-answer-requires-clause-desk
serve-answer-requires-clause-desk c = may_serve c.self.inside.seat.me c.take.new.seat.me c.self.inside.number c.self.inside.calls c.self.invariant.1 (c.take.ensures.taken c.if-not-take.false)

pub give-requires-clause-desk : goal.give-requires-clause-desk
give-requires-clause-desk c =
    let old = c.self.inside.seat.me in
    let r : Result Reply CallFault = c.serve-answer.result in
    let o = served_by old c.take.new.seat.me c.serve-answer.new.seat.me c.self.inside.number c.args.cmd r c.self.inside.calls c.serve-answer.new.calls c.self.invariant.1 (c.take.ensures.taken c.if-not-take.false) c.serve-answer.ensures.view c.serve-answer.ensures.desk in
    may_give (known_of old.0) c.self.inside.number c.args.cmd r c.self.inside.calls c.serve-answer.new.calls c.serve-answer.new.seat.me o

pub invariant_of-self-2 : goal.invariant_of-self-2
invariant_of-self-2 c =
    let old = c.self.inside.seat.me in
    let r : Result Reply CallFault = c.serve-answer.result in
    let o = served_by old c.take.new.seat.me c.serve-answer.new.seat.me c.self.inside.number c.args.cmd r c.self.inside.calls c.serve-answer.new.calls c.self.invariant.1 (c.take.ensures.taken c.if-not-take.false) c.serve-answer.ensures.view c.serve-answer.ensures.desk in
    ticket_after (known_of old.0) c.self.inside.number c.args.cmd r c.self.inside.calls c.serve-answer.new.calls c.serve-answer.new.seat.me o c.give.new.seat.me c.give.ensures.seat

pub returns-clause-ok : goal.returns-clause-ok
returns-clause-ok c =
    let old = c.self.inside.seat.me in
    let r : Result Reply CallFault = c.serve-answer.result in
    let o = served_by old c.take.new.seat.me c.serve-answer.new.seat.me c.self.inside.number c.args.cmd r c.self.inside.calls c.serve-answer.new.calls c.self.invariant.1 (c.take.ensures.taken c.if-not-take.false) c.serve-answer.ensures.view c.serve-answer.ensures.desk in
    subst (λ (p : OfPass). IfOk r (λ x. Extends p c.args.cmd x (pass_of c.give.new.seat.table_id (known_of c.give.new.seat.me.0)))) c.self.view_is
    (extends_after (known_of old.0) c.self.inside.number c.args.cmd r c.self.inside.calls c.serve-answer.new.calls c.serve-answer.new.seat.me o c.give.new.seat.me c.give.ensures.seat c.self.inside.seat.table_id c.give.new.seat.table_id)

pub returns-clause-err : goal.returns-clause-err
returns-clause-err c =
    let old = c.self.inside.seat.me in
    let r : Result Reply CallFault = c.serve-answer.result in
    let o = served_by old c.take.new.seat.me c.serve-answer.new.seat.me c.self.inside.number c.args.cmd r c.self.inside.calls c.serve-answer.new.calls c.self.invariant.1 (c.take.ensures.taken c.if-not-take.false) c.serve-answer.ensures.view c.serve-answer.ensures.desk in
    subst (λ (p : OfPass). IfErr r (λ f. Fails p c.args.cmd f (pass_of c.give.new.seat.table_id (known_of c.give.new.seat.me.0)))) c.self.view_is
    (fails_after (known_of old.0) c.self.inside.number c.args.cmd r c.self.inside.calls c.serve-answer.new.calls c.serve-answer.new.seat.me o c.give.new.seat.me c.give.ensures.seat c.self.inside.seat.table_id c.give.new.seat.table_id (c.give.ensures.table ∙ (c.serve-answer.ensures.table ∙ c.take.ensures.table)))

pub returns-clause-answers : goal.returns-clause-answers
returns-clause-answers c =
    let old = c.self.inside.seat.me in
    let r : Result Reply CallFault = c.serve-answer.result in
    let o = served_by old c.take.new.seat.me c.serve-answer.new.seat.me c.self.inside.number c.args.cmd r c.self.inside.calls c.serve-answer.new.calls c.self.invariant.1 (c.take.ensures.taken c.if-not-take.false) c.serve-answer.ensures.view c.serve-answer.ensures.desk in
    subst (λ (p : OfPass). IfOk r (λ x. Answers (own_place p.mine) c.args.cmd x)) c.self.view_is (answers_after (known_of old.0) c.self.inside.number c.args.cmd r c.self.inside.calls c.serve-answer.new.calls c.serve-answer.new.seat.me o)

pub returns-clause-moved : goal.returns-clause-moved
returns-clause-moved c =
    let old = c.self.inside.seat.me in
    let r : Result Reply CallFault = c.serve-answer.result in
    let o = served_by old c.take.new.seat.me c.serve-answer.new.seat.me c.self.inside.number c.args.cmd r c.self.inside.calls c.serve-answer.new.calls c.self.invariant.1 (c.take.ensures.taken c.if-not-take.false) c.serve-answer.ensures.view c.serve-answer.ensures.desk in
    subst (λ (p : OfPass). IfOk r (λ x. own_place (known_of c.give.new.seat.me.0).mine ≡ place_after (own_place p.mine) x)) c.self.view_is
    (moved_after (known_of old.0) c.self.inside.number c.args.cmd r c.self.inside.calls c.serve-answer.new.calls c.serve-answer.new.seat.me o c.give.new.seat.me c.give.ensures.seat)

pub returns-clause-still : goal.returns-clause-still
returns-clause-still c =
    let old = c.self.inside.seat.me in
    let r : Result Reply CallFault = c.serve-answer.result in
    let o = served_by old c.take.new.seat.me c.serve-answer.new.seat.me c.self.inside.number c.args.cmd r c.self.inside.calls c.serve-answer.new.calls c.self.invariant.1 (c.take.ensures.taken c.if-not-take.false) c.serve-answer.ensures.view c.serve-answer.ensures.desk in
    subst (λ (p : OfPass). moves_seat c.args.cmd ≡ false → own_place (known_of c.give.new.seat.me.0).mine ≡ own_place p.mine) c.self.view_is
    (still_after (known_of old.0) c.self.inside.number c.args.cmd r c.self.inside.calls c.serve-answer.new.calls c.serve-answer.new.seat.me o c.give.new.seat.me c.give.ensures.seat)

pub returns-clause-never : goal.returns-clause-never
returns-clause-never c =
    let old = c.self.inside.seat.me in
    let r : Result Reply CallFault = c.serve-answer.result in
    let o = served_by old c.take.new.seat.me c.serve-answer.new.seat.me c.self.inside.number c.args.cmd r c.self.inside.calls c.serve-answer.new.calls c.self.invariant.1 (c.take.ensures.taken c.if-not-take.false) c.serve-answer.ensures.view c.serve-answer.ensures.desk in
    subst (λ (p : OfPass). takes (own_place p.mine) c.args.cmd ≡ 0 → IsOk r) c.self.view_is (never_after (known_of old.0) c.self.inside.number c.args.cmd r c.self.inside.calls c.serve-answer.new.calls c.serve-answer.new.seat.me o)

pub returns-clause-later : goal.returns-clause-later
returns-clause-later c =
    let old = c.self.inside.seat.me in
    let r : Result Reply CallFault = c.serve-answer.result in
    let o = served_by old c.take.new.seat.me c.serve-answer.new.seat.me c.self.inside.number c.args.cmd r c.self.inside.calls c.serve-answer.new.calls c.self.invariant.1 (c.take.ensures.taken c.if-not-take.false) c.serve-answer.ensures.view c.serve-answer.ensures.desk in
    subst (λ (p : OfPass). p.from ≤ (known_of c.give.new.seat.me.0).from) c.self.view_is (later_after (known_of old.0) c.self.inside.number c.args.cmd r c.self.inside.calls c.serve-answer.new.calls c.serve-answer.new.seat.me o c.give.new.seat.me c.give.ensures.seat)

pub returns-clause-cuts : goal.returns-clause-cuts
returns-clause-cuts c =
    let old = c.self.inside.seat.me in
    let r : Result Reply CallFault = c.serve-answer.result in
    let o = served_by old c.take.new.seat.me c.serve-answer.new.seat.me c.self.inside.number c.args.cmd r c.self.inside.calls c.serve-answer.new.calls c.self.invariant.1 (c.take.ensures.taken c.if-not-take.false) c.serve-answer.ensures.view c.serve-answer.ensures.desk in
    subst (λ (p : OfPass). OthersCut p (pass_of c.give.new.seat.table_id (known_of c.give.new.seat.me.0))) c.self.view_is
    (cuts_known (known_of old.0) c.self.inside.number c.args.cmd r c.self.inside.calls c.serve-answer.new.calls c.serve-answer.new.seat.me o c.give.new.seat.me c.give.ensures.seat c.self.inside.seat.table_id c.give.new.seat.table_id)
