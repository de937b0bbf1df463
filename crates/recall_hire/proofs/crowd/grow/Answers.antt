use Rattle.std.proofs.Common.{subst, sym, ap, ◌∙◌, arith}
use Rattle.recall_hire.specs.Crowds.{IsTable, arena_at, size_at}
use Rattle.recall_hire.proofs.Tables.{size-few, crowds-few, table-resized, table-push, sizes-up, total-up}
use Rattle.recall_hire.proofs.crowd.grow.Goals as goal

pub overflow_add-index_mut : goal.overflow_add-index_mut
overflow_add-index_mut c =
    let few = size-few c.args.crowds.now.items c.in-Some.index c.args.arena c.index_mut.result.now (sym (ap (arena_at c.in-Some.index) c.deref.ensures.value) ∙ c.in-Some.ensures.here) c.index_mut.ensures.value in
    omega arith

pub push_reserved-requires : goal.push_reserved-requires
push_reserved-requires c =
    let few = crowds-few c.args.crowds.now.items c.requires.kept.filled in
    omega arith

pub returns-in-Some-clause-kept : goal.returns-in-Some-clause-kept
returns-in-Some-clause-kept c = table-resized c.args.crowds.now.items c.in-Some.index c.args.arena _ c.index_mut.result.now c.requires.kept (sym (ap (arena_at c.in-Some.index) c.deref.ensures.value) ∙ c.in-Some.ensures.here) c.index_mut.ensures.value (omega arith)

pub returns-in-Some-clause-sizes : goal.returns-in-Some-clause-sizes
returns-in-Some-clause-sizes c = λ a. sizes-up c.args.crowds.now.items c.in-Some.index c.args.arena a c.index_mut.result.now (sym (ap (arena_at c.in-Some.index) c.deref.ensures.value) ∙ c.in-Some.ensures.here) c.index_mut.ensures.value

pub returns-in-Some-clause-total : goal.returns-in-Some-clause-total
returns-in-Some-clause-total c = total-up c.args.crowds.now.items c.in-Some.index c.args.arena c.index_mut.result.now (sym (ap (arena_at c.in-Some.index) c.deref.ensures.value) ∙ c.in-Some.ensures.here) c.index_mut.ensures.value

pub returns-in-None-clause-kept : goal.returns-in-None-clause-kept
returns-in-None-clause-kept c = subst IsTable (sym c.push_reserved.ensures.items) (table-push c.args.crowds.now.items c.args.arena c.requires.kept (sym (ap (size_at c.args.arena) c.deref.ensures.value) ∙ c.in-None.ensures.nowhere))

pub overflow_cast-len : goal.overflow_cast-len
overflow_cast-len c =
    let few = crowds-few c.args.crowds.now.items c.requires.kept.filled in
    omega arith
