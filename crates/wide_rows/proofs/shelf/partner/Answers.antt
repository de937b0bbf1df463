use Rattle.std.proofs.Common.{◌≡◌, List, length, ap, ◌∙◌, arith}
use Rattle.market_types.specs.declared.row.Row.{Row}
use Rattle.wide_rows.specs.Shelves.{leaf_at}
use Rattle.wide_rows.proofs.OfShelves.{leaf_there}
use Rattle.wide_rows.proofs.shelf.partner.Goals as goal

pub returns-then-count-gt-MERGED : goal.returns-then-count-gt-MERGED
returns-then-count-gt-MERGED c =
    let xs = c.args.leaves.now.items in
    let count : c.len-count.result ≡ length (leaf_at xs c.args.place) =
    c.len-count.ensures.exact ∙ ap (λ (rows : List Row). length rows) (c.deref.ensures ∙ leaf_there xs c.args.place c.index.result.now c.index.result.now c.requires.there c.index.ensures) in
    record {
      some = omega (arith, count, c.if-count-gt-MERGED.true);
      right = λ l. omega (arith, count, c.if-count-gt-MERGED.true);
      left = λ l. omega (arith, count, c.if-count-gt-MERGED.true);
    }
