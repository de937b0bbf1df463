use Rattle.std.proofs.Common.{◌≡◌, ◌+◌, ◌*◌, ◌/◌, ◌%◌, List, is_some, length, ap, ◌∙◌, arith}
use Rattle.market_types.specs.Rows.{first_mandated}
use Rattle.market_types.specs.declared.row.Row.{Row}
use Rattle.wide_rows.specs.Shelves.{leaf_at}
use Rattle.wide_rows.specs.Storeys.{IsStorey, block_of, block_rows, lanes, blocks_for}
use Rattle.wide_rows.proofs.OfShelves.{leaf_there}
use Rattle.wide_rows.proofs.TwoStoreys.{block_change, top_change, old_block, block_more, block_come, top_less, top_gone, top_more, top_come, noted_is, block_now_is}
use Rattle.wide_rows.proofs.storeys.Storeys.note.Goals as goal

pub change-requires-clause-more : goal.change-requires-clause-more
change-requires-clause-more c = block_more _ _ _ _ _ c.requires.was

pub change-requires-clause-come : goal.change-requires-clause-come
change-requires-clause-come c = block_come _ _ _ _ _ c.requires.was

pub change-requires-2-clause-less : goal.change-requires-2-clause-less
change-requires-2-clause-less c = top_less _ _ _ _ _ c.requires.was

pub change-requires-2-clause-more : goal.change-requires-2-clause-more
change-requires-2-clause-more c = top_more _ _ _ _ _ c.requires.was

pub change-requires-2-clause-gone : goal.change-requires-2-clause-gone
change-requires-2-clause-gone c = top_gone _ _ _ _ _ c.requires.was

pub change-requires-2-clause-come : goal.change-requires-2-clause-come
change-requires-2-clause-come c = top_come _ _ _ _ _ c.requires.was

-- the block after the change
block_now : (c : goal.After-change-2) → IsStorey c.change.new.self (block_of (leaf_at c.args.leaves.now.items) (c.args.place / 16)) (lanes (length c.args.leaves.now.items) (c.args.place / 16))
block_now c =
    let was = c.requires.was in
    let r = leaf_at c.args.leaves.now.items in
    let n = length c.args.leaves.now.items in
    let place_is : c.args.place ≡ 16 * (c.args.place / 16) + c.args.place % 16 = omega arith in
    c.change.ensures.rows (block_of was.rows (c.args.place / 16)) (block_of r (c.args.place / 16)) (lanes n (c.args.place / 16)) (old_block _ _ _ _ _ was) (block_change _ _ _ _ _ was)
    (c.has_mandated.ensures
    ∙ ap (λ (rows : List Row). is_some (first_mandated rows)) (c.deref.ensures ∙ leaf_there c.args.leaves.now.items c.args.place c.index.result.now c.index.result.now was.changed.there c.index.ensures ∙ ap r place_is))

pub returns : goal.returns
returns c =
    let was = c.requires.was in
    let r = leaf_at c.args.leaves.now.items in
    let n = length c.args.leaves.now.items in
    noted_is _ _ _ _ _ was c.change.new.self c.change-2.new.self (block_now c) c.change.ensures.oldest
    (c.change-2.ensures.rows (block_rows was.rows) (block_rows r) (blocks_for n) was.indexed.top (top_change _ _ _ _ _ was)
    (c.has_mandated-mandated.ensures _ _ (block_now c) ∙ ap (λ (rows : List Row). is_some (first_mandated rows)) (block_now_is _ _ _ _ _ was)))
    c.change-2.ensures.oldest
