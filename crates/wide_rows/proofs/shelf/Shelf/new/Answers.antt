use Rattle.std.proofs.Common.{◌≡◌, length, ap}
use Rattle.wide_rows.proofs.Edits.{no_leaves, no_index}
use Rattle.wide_rows.proofs.TwoStoreys.{known}
use Rattle.wide_rows.proofs.shelf.Shelf.new.Goals as goal

pub invariant_of-result : goal.invariant_of-result
invariant_of-result c =
    let xs = c.in_ok-with_capacity.field-0.items in
    let none : length xs ≡ 0 = ap (λ l. length l) c.in_ok-with_capacity.ensures.items in
    record { leaves = no_leaves xs none; known = known _ _ _ (no_index c.new.result xs none c.new.ensures); room = c.in_ok-with_capacity.ensures.exact }
