use Rattle.std.proofs.Common.{◌<◌, ap, sym, ◌∙◌, subst, List, ◌∷◌, ◌++◌, append-nil}
use Rattle.std.specs.List.Sorted.{IsPermutation}
use Rattle.crossbeam_queue.specs.Passes.{view}
use Rattle.job_queue.specs.declared.view.Fed.{Fed}
use Rattle.job_queue.specs.Seen.{OfQueue, all_stored, all_taken, Meet}
use Rattle.job_queue.proofs.Gathered.{nothing}
use Rattle.job_queue.proofs.Settled.{tells, may_end}
use Rattle.job_queue.proofs.queue.JobQueue.settle.Goals as goal

pub pop_as-requires-clause-rule : goal.pop_as-requires-clause-rule
pop_as-requires-clause-rule g c =
    let a = c.absorb_all-all.ensures in
    let some = subst (λ (q : OfQueue). 0 < q.id.takers) c.self.view_is c.self.invariant.1 in
    may_end c.absorb_all-all.result.id c.args.self.id c.args.feeders.items c.args.takers.items (view c.absorb_all-all.result) a.view c.requires.all some a.above

pub returns-in-Some-clause-numbers : goal.returns-in-Some-clause-numbers
returns-in-Some-clause-numbers g c =
    let a = c.absorb_all-all.ensures in
    let some = subst (λ (q : OfQueue). 0 < q.id.takers) c.self.view_is c.self.invariant.1 in
    let e = c.in-Some.ensures.rule in
    (tells c.args.self.id c.args.feeders.items c.args.takers.items (view c.absorb_all-all.result) e.0 (c.in-Some.fed ∷ e.1) a.view c.requires.all some a.below a.above e.2).numbers

pub returns-in-Some-clause-left : goal.returns-in-Some-clause-left
returns-in-Some-clause-left g c =
    let a = c.absorb_all-all.ensures in
    let some = subst (λ (q : OfQueue). 0 < q.id.takers) c.self.view_is c.self.invariant.1 in
    let e = c.in-Some.ensures.rule in
    let told = tells c.args.self.id c.args.feeders.items c.args.takers.items (view c.absorb_all-all.result) e.0 (c.in-Some.fed ∷ e.1) a.view c.requires.all some a.below a.above e.2 in
    (c.in-Some.fed, e.1, sym c.into_job.ensures, told.taken_but, told.meets)

pub returns-clause-numbers : goal.returns-clause-numbers
returns-clause-numbers g c =
    let a = c.absorb_all-all.ensures in
    let some = subst (λ (q : OfQueue). 0 < q.id.takers) c.self.view_is c.self.invariant.1 in
    let e = c.in-None.ensures.rule.1 in
    (tells c.args.self.id c.args.feeders.items c.args.takers.items (view c.absorb_all-all.result) e.2.0 e.0 a.view c.requires.all some a.below a.above e.2.1).numbers

pub returns-clause-once : goal.returns-clause-once
returns-clause-once g c =
    let a = c.absorb_all-all.ensures in
    let some = subst (λ (q : OfQueue). 0 < q.id.takers) c.self.view_is c.self.invariant.1 in
    let e = c.in-None.ensures.rule.1 in
    let told = tells c.args.self.id c.args.feeders.items c.args.takers.items (view c.absorb_all-all.result) e.2.0 e.0 a.view c.requires.all some a.below a.above e.2.1 in
    let taken : List (Fed g.row.J.Denot) = all_taken c.args.takers.items in
    subst (IsPermutation (all_stored c.args.feeders.items)) (ap (λ (l : List (Fed g.row.J.Denot)). taken ++ l) (nothing e.0 e.1) ∙ append-nil taken) told.taken_but

pub returns-clause-order : goal.returns-clause-order
returns-clause-order g c =
    let a = c.absorb_all-all.ensures in
    let some = subst (λ (q : OfQueue). 0 < q.id.takers) c.self.view_is c.self.invariant.1 in
    let e = c.in-None.ensures.rule.1 in
    let told = tells c.args.self.id c.args.feeders.items c.args.takers.items (view c.absorb_all-all.result) e.2.0 e.0 a.view c.requires.all some a.below a.above e.2.1 in
    subst (Meet c.args.feeders.items c.args.takers.items) (nothing e.0 e.1) told.meets
