use Rattle.std.proofs.Common.{◌≡◌, length, ap, ◌∙◌, arith}
use Rattle.wide_rows.specs.Shelves.{Shelved, leaf_at}
use Rattle.wide_rows.proofs.Edits.{no_leaves}
use Rattle.wide_rows.proofs.TwoStoreys.{unused}
use Rattle.wide_rows.proofs.shelf.Shelf.only_leaf.Goals as goal

pub invariant_of-self : goal.invariant_of-self
invariant_of-self c =
    let xs = c.self.inside.leaves.items in
    let ys = c.pop.new.self.items in
    let one : length xs ≡ 1 = omega (arith, c.requires, ap (λ (v : Shelved). v.leaves) c.self.view_is) in
    let none : length ys ≡ 0 = omega (arith, c.pop.new.self.ok.0, c.self.inside.leaves.ok.0, c.in-Some.ensures.len, one) in
    let k = c.self.invariant.known in
    record {
      leaves = no_leaves ys none;
      known = record {
        indexed = λ l. absurd (omega (arith, l, none));
        wide = k.wide;
        unused = λ g l q. unused c.self.inside.storeys (leaf_at xs) (leaf_at ys) (length xs) (length ys) g k (omega (arith, one, none)) (omega (arith, one)) l q;
      };
      room = c.in-Some.ensures.capacity ∙ c.self.invariant.room;
    }
