use Rattle.std.proofs.Common.{[], ◌++◌, Option, None, Some, subst}
use Rattle.std.specs.Option.{IfNone}
use Rattle.std.proofs.lemmas.Option.{IfSome_then}
use Rattle.wide_rows.specs.Passed.{IsPassed}
use Rattle.recall_hire.proofs.Listings.{IsReady, passed-over, all-over}
use Rattle.recall_hire.proofs.lists.Listing.next.Goals as goal

pub returns-in-Carried-clause-passed : goal.returns-in-Carried-clause-passed
returns-in-Carried-clause-passed c =
    let w = c.args.self.now in
    let ready : IsReady w.sharing w.roster.now c.args.rest.now c.args.carry.now c.args.unmet = record { shared = c.requires.shared; low = c.requires.low; unmet = c.requires.unmet } in
    IfSome_then c.next_due.result c.next_due.ensures.due
    (λ quad due. passed-over w.sharing c.in-Carried.workers c.in-Carried.demand w.roster.now c.args.rest.now (quad ++ c.next_due.new.self) c.args.carry.now c.next_due.new.carry c.args.unmet c.in-Carried.is c.if-unmet-gt0.false
    (subst (λ d. IsPassed c.in-Carried.workers d c.args.rest.now (quad ++ c.next_due.new.self) c.args.carry.now c.next_due.new.carry) c.max.ensures due.passed) ready)

none_then : {X : Type 0} (r : Option X) {P Q : Type 0} → IfNone r P → (P → Q) → IfNone r Q
none_then None p f = f p
none_then (Some x) p f = p

pub returns-in-Carried-clause-none : goal.returns-in-Carried-clause-none
returns-in-Carried-clause-none c =
    let w = c.args.self.now in
    let ready : IsReady w.sharing w.roster.now c.args.rest.now c.args.carry.now c.args.unmet = record { shared = c.requires.shared; low = c.requires.low; unmet = c.requires.unmet } in
    none_then c.next_due.result c.next_due.ensures.none
    (λ passed. passed-over w.sharing c.in-Carried.workers c.in-Carried.demand w.roster.now c.args.rest.now [] c.args.carry.now c.next_due.new.carry c.args.unmet c.in-Carried.is c.if-unmet-gt0.false
    (subst (λ d. IsPassed c.in-Carried.workers d c.args.rest.now [] c.args.carry.now c.next_due.new.carry) c.max.ensures passed) ready)

pub returns-in-None-clause-none : goal.returns-in-None-clause-none
returns-in-None-clause-none c =
    let w = c.args.self.now in
    all-over w.sharing c.in-Picked.arena c.in-Picked.workers w.roster.now c.args.rest.now c.args.carry.now c.args.unmet c.in-Picked.is c.in-None.is c.if-unmet-gt0.false
    (record { shared = c.requires.shared; low = c.requires.low; unmet = c.requires.unmet })
