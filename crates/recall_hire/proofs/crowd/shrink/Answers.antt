use Rattle.std.proofs.Common.{◌+◌, subst, sym, ap, ◌∙◌, arith, eqb}
use Rattle.recall_hire.specs.Crowds.{IsTable, arena_at, size_at, total_size, one_if}
use Rattle.recall_hire.proofs.Tables.{filled-at, same-size, table-resized, sizes-down, total-down, table-swap_remove, sizes-swap_remove, total-swap_remove, crowds-few}
use Rattle.recall_hire.proofs.crowd.shrink.Goals as goal

pub returns-then-index-gt1-clause-kept : goal.returns-then-index-gt1-clause-kept
returns-then-index-gt1-clause-kept c =
    let here = sym (ap (arena_at c.in-Some.index) c.deref.ensures.value) ∙ c.in-Some.ensures.here in
    let same = same-size c.args.crowds.now.items c.in-Some.index c.args.arena c.index_mut.result.now c.index.result.now here c.index_mut.ensures.value c.index.ensures in
    table-resized c.args.crowds.now.items c.in-Some.index c.args.arena _ c.index_mut.result.now c.requires.kept here c.index_mut.ensures.value (omega arith)

pub returns-then-index-gt1-clause-sizes : goal.returns-then-index-gt1-clause-sizes
returns-then-index-gt1-clause-sizes c = λ a.
    let here = sym (ap (arena_at c.in-Some.index) c.deref.ensures.value) ∙ c.in-Some.ensures.here in
    let same = same-size c.args.crowds.now.items c.in-Some.index c.args.arena c.index_mut.result.now c.index.result.now here c.index_mut.ensures.value c.index.ensures in
    sizes-down c.args.crowds.now.items c.in-Some.index c.args.arena a c.index_mut.result.now here c.index_mut.ensures.value (omega arith)

pub returns-then-index-gt1-clause-total : goal.returns-then-index-gt1-clause-total
returns-then-index-gt1-clause-total c =
    let here = sym (ap (arena_at c.in-Some.index) c.deref.ensures.value) ∙ c.in-Some.ensures.here in
    let same = same-size c.args.crowds.now.items c.in-Some.index c.args.arena c.index_mut.result.now c.index.result.now here c.index_mut.ensures.value c.index.ensures in
    total-down c.args.crowds.now.items c.in-Some.index c.args.arena c.index_mut.result.now here c.index_mut.ensures.value (omega arith)

pub returns-else-index-gt1-clause-kept : goal.returns-else-index-gt1-clause-kept
returns-else-index-gt1-clause-kept c =
    subst IsTable (sym c.swap_remove.ensures.items)
    (table-swap_remove c.args.crowds.now.items c.in-Some.index c.args.arena c.swap_remove.result c.requires.kept (sym (ap (arena_at c.in-Some.index) c.deref.ensures.value) ∙ c.in-Some.ensures.here) c.swap_remove.ensures.value)

pub returns-else-index-gt1-clause-sizes : goal.returns-else-index-gt1-clause-sizes
returns-else-index-gt1-clause-sizes c = λ a.
    let here = sym (ap (arena_at c.in-Some.index) c.deref.ensures.value) ∙ c.in-Some.ensures.here in
    let filled = filled-at c.args.crowds.now.items c.in-Some.index c.args.arena c.index.result.now c.requires.kept.filled here c.index.ensures in
    let same = same-size c.args.crowds.now.items c.in-Some.index c.args.arena c.swap_remove.result c.index.result.now here c.swap_remove.ensures.value c.index.ensures in
    sizes-swap_remove c.args.crowds.now.items c.in-Some.index c.args.arena a c.swap_remove.result here c.swap_remove.ensures.value (omega arith)
    ∙ ap (λ crowds. size_at a crowds + one_if (eqb c.args.arena a)) (sym c.swap_remove.ensures.items)

pub returns-else-index-gt1-clause-total : goal.returns-else-index-gt1-clause-total
returns-else-index-gt1-clause-total c =
    let here = sym (ap (arena_at c.in-Some.index) c.deref.ensures.value) ∙ c.in-Some.ensures.here in
    let filled = filled-at c.args.crowds.now.items c.in-Some.index c.args.arena c.index.result.now c.requires.kept.filled here c.index.ensures in
    let same = same-size c.args.crowds.now.items c.in-Some.index c.args.arena c.swap_remove.result c.index.result.now here c.swap_remove.ensures.value c.index.ensures in
    total-swap_remove c.args.crowds.now.items c.in-Some.index c.args.arena c.swap_remove.result here c.swap_remove.ensures.value (omega arith)
    ∙ ap (λ crowds. total_size crowds + 1) (sym c.swap_remove.ensures.items)

pub point_at-requires : goal.point_at-requires
point_at-requires c =
    let few = crowds-few c.args.crowds.now.items c.requires.kept.filled in
    record { few = omega (arith, few, c.requires.few, c.swap_remove.ensures.len, c.deref-else-index-gt1.ensures.value) }
