use Rattle.std.proofs.Common.{◌≡◌, ◌≤◌, ℕ, subst, sym, length, Option, arith}
use Rattle.std.specs.Prelude.{IfSome, OnSome, IsSome, vec_capacity}
use Rattle.market_types.specs.History.{IsLegal}
use Rattle.edit_history.specs.Chronicled.{most_forgotten}
use Rattle.edit_history.specs.declared.part.Part.{Part}
use Rattle.edit_history.specs.declared.keeping.Keeping.TheVariants.{InParts}
use Rattle.edit_history.specs.declared.terms.Terms.{Terms}
use Rattle.market_lock.specs.Views.{opening_of, seats_placed_after}
use Rattle.market_lock.specs.Seen.{OfPass, known_of, pass_of, Looks, HasCut}
use Rattle.market_lock.proofs.Calls.{may_cut, cut_off_by, cut_may_give, cut_ticket_after, cut_known_after, cut_after, told_part, told_enough}
use Rattle.market_lock.proofs.ticket.Ticket.try_cut.Goals as goal

pub cut_off-part-requires-clause-desk : goal.cut_off-part-requires-clause-desk
cut_off-part-requires-clause-desk c = may_cut c.self.inside.seat.me c.take.new.seat.me (c.take.ensures.taken c.if-not-take.false)

pub give_cut-requires-clause-desk : goal.give_cut-requires-clause-desk
give_cut-requires-clause-desk c =
    let old = c.self.inside.seat.me in
    let r : Option Part = c.cut_off-part.result in
    let room : ℕ = vec_capacity c.args.spare in
    let o = cut_off_by old c.take.new.seat.me c.cut_off-part.new.seat.me c.self.inside.number room r c.self.inside.calls c.self.invariant.1 (c.take.ensures.taken c.if-not-take.false) c.cut_off-part.ensures.view c.cut_off-part.ensures.desk in
    cut_may_give (known_of old.0) c.self.inside.number room r c.self.inside.calls c.cut_off-part.new.seat.me o

pub invariant_of-self-2 : goal.invariant_of-self-2
invariant_of-self-2 c =
    let old = c.self.inside.seat.me in
    let r : Option Part = c.cut_off-part.result in
    let room : ℕ = vec_capacity c.args.spare in
    let o = cut_off_by old c.take.new.seat.me c.cut_off-part.new.seat.me c.self.inside.number room r c.self.inside.calls c.self.invariant.1 (c.take.ensures.taken c.if-not-take.false) c.cut_off-part.ensures.view c.cut_off-part.ensures.desk in
    cut_ticket_after (known_of old.0) c.self.inside.number room r c.self.inside.calls c.cut_off-part.new.seat.me o c.give_cut.new.seat.me c.give_cut.ensures.seat

pub returns-clause-legal : goal.returns-clause-legal
returns-clause-legal c =
    let old = c.self.inside.seat.me in
    let r : Option Part = c.cut_off-part.result in
    let room : ℕ = vec_capacity c.args.spare in
    let o = cut_off_by old c.take.new.seat.me c.cut_off-part.new.seat.me c.self.inside.number room r c.self.inside.calls c.self.invariant.1 (c.take.ensures.taken c.if-not-take.false) c.cut_off-part.ensures.view c.cut_off-part.ensures.desk in
    let told = cut_after (known_of old.0) c.self.inside.number room r c.self.inside.calls c.cut_off-part.new.seat.me o c.give_cut.new.seat.me c.give_cut.ensures.seat c.self.inside.seat.table_id c.give_cut.new.seat.table_id in
    let l = known_of c.give_cut.new.seat.me.0 in
    subst (λ (t : Terms). IsLegal (opening_of t) l.seen) (sym told.0.terms) told.0.legal

pub returns-clause-looks : goal.returns-clause-looks
returns-clause-looks c =
    let old = c.self.inside.seat.me in
    let r : Option Part = c.cut_off-part.result in
    let room : ℕ = vec_capacity c.args.spare in
    let o = cut_off_by old c.take.new.seat.me c.cut_off-part.new.seat.me c.self.inside.number room r c.self.inside.calls c.self.invariant.1 (c.take.ensures.taken c.if-not-take.false) c.cut_off-part.ensures.view c.cut_off-part.ensures.desk in
    let told = cut_after (known_of old.0) c.self.inside.number room r c.self.inside.calls c.cut_off-part.new.seat.me o c.give_cut.new.seat.me c.give_cut.ensures.seat c.self.inside.seat.table_id c.give_cut.new.seat.table_id in
    let l = known_of c.give_cut.new.seat.me.0 in
    subst (λ (p : OfPass). Looks p (pass_of c.give_cut.new.seat.table_id l)) c.self.view_is told.1

pub returns-clause-later : goal.returns-clause-later
returns-clause-later c =
    let old = c.self.inside.seat.me in
    let r : Option Part = c.cut_off-part.result in
    let room : ℕ = vec_capacity c.args.spare in
    let o = cut_off_by old c.take.new.seat.me c.cut_off-part.new.seat.me c.self.inside.number room r c.self.inside.calls c.self.invariant.1 (c.take.ensures.taken c.if-not-take.false) c.cut_off-part.ensures.view c.cut_off-part.ensures.desk in
    let told = cut_after (known_of old.0) c.self.inside.number room r c.self.inside.calls c.cut_off-part.new.seat.me o c.give_cut.new.seat.me c.give_cut.ensures.seat c.self.inside.seat.table_id c.give_cut.new.seat.table_id in
    let l = known_of c.give_cut.new.seat.me.0 in
    subst (λ (p : OfPass). p.from ≤ l.from) c.self.view_is told.0.later

pub returns-clause-part : goal.returns-clause-part
returns-clause-part c =
    let old = c.self.inside.seat.me in
    let r : Option Part = c.cut_off-part.result in
    let room : ℕ = vec_capacity c.args.spare in
    let o = cut_off_by old c.take.new.seat.me c.cut_off-part.new.seat.me c.self.inside.number room r c.self.inside.calls c.self.invariant.1 (c.take.ensures.taken c.if-not-take.false) c.cut_off-part.ensures.view c.cut_off-part.ensures.desk in
    let told = cut_after (known_of old.0) c.self.inside.number room r c.self.inside.calls c.cut_off-part.new.seat.me o c.give_cut.new.seat.me c.give_cut.ensures.seat c.self.inside.seat.table_id c.give_cut.new.seat.table_id in
    let l = known_of c.give_cut.new.seat.me.0 in
    (told_part (known_of old.0) l room r told.0.told).0

pub returns-clause-goes_on : goal.returns-clause-goes_on
returns-clause-goes_on c =
    let old = c.self.inside.seat.me in
    let r : Option Part = c.cut_off-part.result in
    let room : ℕ = vec_capacity c.args.spare in
    let o = cut_off_by old c.take.new.seat.me c.cut_off-part.new.seat.me c.self.inside.number room r c.self.inside.calls c.self.invariant.1 (c.take.ensures.taken c.if-not-take.false) c.cut_off-part.ensures.view c.cut_off-part.ensures.desk in
    let told = cut_after (known_of old.0) c.self.inside.number room r c.self.inside.calls c.cut_off-part.new.seat.me o c.give_cut.new.seat.me c.give_cut.ensures.seat c.self.inside.seat.table_id c.give_cut.new.seat.table_id in
    let l = known_of c.give_cut.new.seat.me.0 in
    subst (λ (p : OfPass). IfSome r (λ (x : Part). p.from ≤ x.from)) c.self.view_is (told_part (known_of old.0) l room r told.0.told).1

pub returns-clause-all : goal.returns-clause-all
returns-clause-all c =
    let old = c.self.inside.seat.me in
    let r : Option Part = c.cut_off-part.result in
    let room : ℕ = vec_capacity c.args.spare in
    let o = cut_off_by old c.take.new.seat.me c.cut_off-part.new.seat.me c.self.inside.number room r c.self.inside.calls c.self.invariant.1 (c.take.ensures.taken c.if-not-take.false) c.cut_off-part.ensures.view c.cut_off-part.ensures.desk in
    let told = cut_after (known_of old.0) c.self.inside.number room r c.self.inside.calls c.cut_off-part.new.seat.me o c.give_cut.new.seat.me c.give_cut.ensures.seat c.self.inside.seat.table_id c.give_cut.new.seat.table_id in
    let l = known_of c.give_cut.new.seat.me.0 in
    (told_part (known_of old.0) l room r told.0.told).2

pub returns-clause-cuts : goal.returns-clause-cuts
returns-clause-cuts c =
    let old = c.self.inside.seat.me in
    let r : Option Part = c.cut_off-part.result in
    let room : ℕ = vec_capacity c.args.spare in
    let o = cut_off_by old c.take.new.seat.me c.cut_off-part.new.seat.me c.self.inside.number room r c.self.inside.calls c.self.invariant.1 (c.take.ensures.taken c.if-not-take.false) c.cut_off-part.ensures.view c.cut_off-part.ensures.desk in
    subst (λ (p : OfPass). HasCut p r (pass_of c.give_cut.new.seat.table_id (known_of c.give_cut.new.seat.me.0))) c.self.view_is
    (cut_known_after (known_of old.0) c.self.inside.number room r c.self.inside.calls c.cut_off-part.new.seat.me o c.give_cut.new.seat.me c.give_cut.ensures.seat c.self.inside.seat.table_id c.give_cut.new.seat.table_id)

pub returns-clause-countable : goal.returns-clause-countable
returns-clause-countable c =
    let old = c.self.inside.seat.me in
    let r : Option Part = c.cut_off-part.result in
    let room : ℕ = vec_capacity c.args.spare in
    let o = cut_off_by old c.take.new.seat.me c.cut_off-part.new.seat.me c.self.inside.number room r c.self.inside.calls c.self.invariant.1 (c.take.ensures.taken c.if-not-take.false) c.cut_off-part.ensures.view c.cut_off-part.ensures.desk in
    let told = cut_after (known_of old.0) c.self.inside.number room r c.self.inside.calls c.cut_off-part.new.seat.me o c.give_cut.new.seat.me c.give_cut.ensures.seat c.self.inside.seat.table_id c.give_cut.new.seat.table_id in
    let l = known_of c.give_cut.new.seat.me.0 in
    (told_part (known_of old.0) l room r told.0.told).4

pub returns-clause-in_parts : goal.returns-clause-in_parts
returns-clause-in_parts c =
    let old = c.self.inside.seat.me in
    let r : Option Part = c.cut_off-part.result in
    let room : ℕ = vec_capacity c.args.spare in
    let o = cut_off_by old c.take.new.seat.me c.cut_off-part.new.seat.me c.self.inside.number room r c.self.inside.calls c.self.invariant.1 (c.take.ensures.taken c.if-not-take.false) c.cut_off-part.ensures.view c.cut_off-part.ensures.desk in
    let told = cut_after (known_of old.0) c.self.inside.number room r c.self.inside.calls c.cut_off-part.new.seat.me o c.give_cut.new.seat.me c.give_cut.ensures.seat c.self.inside.seat.table_id c.give_cut.new.seat.table_id in
    let l = known_of c.give_cut.new.seat.me.0 in
    subst (λ (p : OfPass). OnSome r (p.terms.keeping ≡ InParts)) c.self.view_is (told_part (known_of old.0) l room r told.0.told).3

pub returns-clause-room : goal.returns-clause-room
returns-clause-room c =
    let old = c.self.inside.seat.me in
    let r : Option Part = c.cut_off-part.result in
    let room : ℕ = vec_capacity c.args.spare in
    let o = cut_off_by old c.take.new.seat.me c.cut_off-part.new.seat.me c.self.inside.number room r c.self.inside.calls c.self.invariant.1 (c.take.ensures.taken c.if-not-take.false) c.cut_off-part.ensures.view c.cut_off-part.ensures.desk in
    let told = cut_after (known_of old.0) c.self.inside.number room r c.self.inside.calls c.cut_off-part.new.seat.me o c.give_cut.new.seat.me c.give_cut.ensures.seat c.self.inside.seat.table_id c.give_cut.new.seat.table_id in
    let l = known_of c.give_cut.new.seat.me.0 in
    subst (λ (p : OfPass). OnSome r (seats_placed_after p.terms l.seen ≤ room)) c.self.view_is (told_part (known_of old.0) l room r told.0.told).5

pub returns-clause-enough : goal.returns-clause-enough
returns-clause-enough c =
    let old = c.self.inside.seat.me in
    let r : Option Part = c.cut_off-part.result in
    let room : ℕ = vec_capacity c.args.spare in
    let o = cut_off_by old c.take.new.seat.me c.cut_off-part.new.seat.me c.self.inside.number room r c.self.inside.calls c.self.invariant.1 (c.take.ensures.taken c.if-not-take.false) c.cut_off-part.ensures.view c.cut_off-part.ensures.desk in
    let told = cut_after (known_of old.0) c.self.inside.number room r c.self.inside.calls c.cut_off-part.new.seat.me o c.give_cut.new.seat.me c.give_cut.ensures.seat c.self.inside.seat.table_id c.give_cut.new.seat.table_id in
    let l = known_of c.give_cut.new.seat.me.0 in
    subst (λ (p : OfPass). p.terms.keeping ≡ InParts → seats_placed_after p.terms l.seen ≤ room → length l.seen ≤ most_forgotten → IsSome r) c.self.view_is (told_enough (known_of old.0) l room r told.0.told)

pub returns-clause-served : goal.returns-clause-served
returns-clause-served c =
    let old = c.self.inside.seat.me in
    let r : Option Part = c.cut_off-part.result in
    let room : ℕ = vec_capacity c.args.spare in
    let o = cut_off_by old c.take.new.seat.me c.cut_off-part.new.seat.me c.self.inside.number room r c.self.inside.calls c.self.invariant.1 (c.take.ensures.taken c.if-not-take.false) c.cut_off-part.ensures.view c.cut_off-part.ensures.desk in
    let told = cut_after (known_of old.0) c.self.inside.number room r c.self.inside.calls c.cut_off-part.new.seat.me o c.give_cut.new.seat.me c.give_cut.ensures.seat c.self.inside.seat.table_id c.give_cut.new.seat.table_id in
    let l = known_of c.give_cut.new.seat.me.0 in
    subst (λ (p : OfPass). p.terms.keeping ≡ InParts → p.terms.opening.seats ≤ room → length l.seen ≤ most_forgotten → IsSome r) c.self.view_is
    (λ keeps roomy few. let placed = told.0.few in told_enough (known_of old.0) l room r told.0.told keeps (omega (arith, placed, roomy)) few)
