use Rattle.std.proofs.Common.{◌≡◌, ◌<◌, ℕ, rules, arith, length, vec_len, sym, subst, All}
use Rattle.market_lock.specs.Seen.{OfPass, OfPlaced, Met}
use Rattle.office_crew.specs.Members.{tasks_of}
use Rattle.office_crew.proofs.Seats.{AreUnused, back_again, callers_of_all, followed, seated_waited, seated_worked, seats_are}
use Rattle.office_crew.proofs.meeting.met.Goals as goal

pub seated-requires-clause-own : goal.seated-requires-clause-own
seated-requires-clause-own g c = subst (λ t. All (λ (p : OfPass). p.table ≡ t) c.args.passes.items) c.requires.office c.requires.own

pub close-requires-clause-own : goal.close-requires-clause-own
close-requires-clause-own g c = subst (λ t. All (λ (p : OfPass). p.table ≡ t) c.gathered-2.new.passes.items) (sym c.requires.office) c.gathered-2.ensures.own

pub close-requires-clause-own_placed : goal.close-requires-clause-own_placed
close-requires-clause-own_placed g c = subst (λ t. All (λ (p : OfPlaced). p.who.table ≡ t) c.gathered-2.new.placed.items) (sym c.requires.office) c.gathered-2.ensures.own_placed

pub returns-clause-opened : goal.returns-clause-opened
returns-clause-opened g c =
    let log = c.close.result.chronicle.log in
    let terms = c.args.office.terms in
    let first = c.work_in_order-first.result.0.items in
    let others = c.work_in_order-first.result.1.items in
    let long : length c.args.passes.items ≡ terms.opening.seats = search rules in
    let gone : length c.seated-2.new.passes.items ≡ 0 = search rules in
    let seats =
    seats_are c.args.office c.args.passes.items c.seated.new.passes.items c.seated-2.new.passes.items c.args.openers.items c.seated-2.new.tasks.items c.args.tasks.items c.seated.new.tasks.items c.seated-2.new.members.items c.seated.new.members.items
    (λ k lt. c.requires.unused k (let l : k < terms.opening.seats = omega arith in l)) c.seated-2.ensures.none_left gone c.seated.ensures.seated c.seated-2.ensures.seated in
    let met =
    callers_of_all (Met log) c.seated-2.new.passes.items c.gathered-2.new.passes.items c.gathered.new.passes.items c.in-Ok.field-0.placed.items c.gathered.new.placed.items c.gathered-2.new.placed.items others first
    c.gathered.ensures.free c.gathered-2.ensures.free c.gathered.ensures.working c.gathered-2.ensures.working c.close.ensures.passes c.close.ensures.placed in
    let openers : c.reverse-4.new.self.items ≡ tasks_of first = back_again c.seated-2.new.tasks.items c.reverse-4.new.self.items c.gathered-2.new.tasks.items first c.seated-2.ensures.none_left c.gathered-2.ensures.tasks c.reverse-4.ensures.items in
    seated_worked g.O.Task.worked terms log 0 c.seated.new.passes.items c.seated-2.new.passes.items c.args.openers.items c.seated-2.new.tasks.items c.reverse-4.new.self.items c.seated-2.new.members.items c.reverse-2.new.self.items first
    c.seated-2.ensures.seated c.seated-2.ensures.none_left c.reverse-2.ensures.items seats.0 c.work_in_order-first.ensures.first met.1 openers

pub returns-clause-worked : goal.returns-clause-worked
returns-clause-worked g c =
    let log = c.close.result.chronicle.log in
    let terms = c.args.office.terms in
    let first = c.work_in_order-first.result.0.items in
    let others = c.work_in_order-first.result.1.items in
    let long : length c.args.passes.items ≡ terms.opening.seats = search rules in
    let gone : length c.seated-2.new.passes.items ≡ 0 = search rules in
    let seats =
    seats_are c.args.office c.args.passes.items c.seated.new.passes.items c.seated-2.new.passes.items c.args.openers.items c.seated-2.new.tasks.items c.args.tasks.items c.seated.new.tasks.items c.seated-2.new.members.items c.seated.new.members.items
    (λ k lt. c.requires.unused k (let l : k < terms.opening.seats = omega arith in l)) c.seated-2.ensures.none_left gone c.seated.ensures.seated c.seated-2.ensures.seated in
    let met =
    callers_of_all (Met log) c.seated-2.new.passes.items c.gathered-2.new.passes.items c.gathered.new.passes.items c.in-Ok.field-0.placed.items c.gathered.new.placed.items c.gathered-2.new.placed.items others first
    c.gathered.ensures.free c.gathered-2.ensures.free c.gathered.ensures.working c.gathered-2.ensures.working c.close.ensures.passes c.close.ensures.placed in
    let openers : c.reverse-4.new.self.items ≡ tasks_of first = back_again c.seated-2.new.tasks.items c.reverse-4.new.self.items c.gathered-2.new.tasks.items first c.seated-2.ensures.none_left c.gathered-2.ensures.tasks c.reverse-4.ensures.items in
    let tasks : c.reverse-3.new.self.items ≡ tasks_of others = back_again c.seated.new.tasks.items c.reverse-3.new.self.items c.gathered.new.tasks.items others c.seated.ensures.none_left c.gathered.ensures.tasks c.reverse-3.ensures.items in
    let many : length c.args.openers.items ≡ vec_len c.args.openers = search rules in
    let unused = subst (λ (n : ℕ). AreUnused terms n c.seated.ensures.seated.taken) many seats.1 in
    followed g.O.Task.lets first c.reverse-4.new.self.items openers
    (λ done. seated_worked g.T.Task.worked terms log (vec_len c.args.openers) c.args.passes.items c.seated.new.passes.items c.args.tasks.items c.seated.new.tasks.items c.reverse-3.new.self.items c.seated.new.members.items c.reverse.new.self.items others
    c.seated.ensures.seated c.seated.ensures.none_left c.reverse.ensures.items unused done met.0 tasks)
    (λ same. seated_waited c.args.passes.items c.seated.new.passes.items c.args.tasks.items c.seated.new.tasks.items c.reverse-3.new.self.items c.seated.new.members.items c.reverse.new.self.items others
    c.seated.ensures.seated c.seated.ensures.none_left c.reverse.ensures.items same tasks)
    c.work_in_order-first.ensures.others
