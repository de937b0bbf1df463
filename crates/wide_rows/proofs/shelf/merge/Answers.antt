use Rattle.std.specs.Box.{with_value}
use Rattle.std.specs.declared.alloc.Global.{Global}
use Rattle.std.proofs.Common.{◌≡◌, ◌+◌, ◌++◌, suc, List, Box, length, ap, sym, subst, ◌∙◌, arith}
use Rattle.market_types.specs.declared.row.Row.{Row}
use Rattle.market_types.specs.Rows.{IsNewestFirst}
use Rattle.wide_rows.specs.Shelves.{leaf_at}
use Rattle.wide_rows.proofs.OfShelves.{leaf_there}
use Rattle.wide_rows.proofs.Edits.{leaf_out_below, leaf_out_above, leaf_set_same, leaf_set_other}
use Rattle.wide_rows.proofs.shelf.merge.Goals as goal

pub absorb-requires-clause-room : goal.absorb-requires-clause-room
absorb-requires-clause-room c =
    let xs = c.args.leaves.now.items in
    let ys = c.remove-gone.new.self.items in
    let p = c.args.place in
    let out = c.remove-gone.ensures.items in
    let long : length ys + 1 ≡ length xs = omega (arith, c.remove-gone.ensures.len, c.args.leaves.now.ok.0, c.remove-gone.new.self.ok.0) in
    let gone = leaf_there xs (p + 1) c.remove-gone.result c.remove-gone.result c.requires.there c.remove-gone.ensures.value in
    let first = leaf_there ys p c.index_mut.result.now c.index_mut.result.now (omega (arith, long, c.requires.there)) c.index_mut.ensures.value
    ∙ ap (λ (l : List (Box (List Row) Global)). leaf_at l p) out ∙ leaf_out_below xs (p + 1) p c.requires.there (omega arith) in
    omega (arith, c.requires.room, ap (λ (rows : List Row). length rows) (c.deref.ensures ∙ gone), ap (λ (rows : List Row). length rows) (c.deref_mut.ensures.value ∙ first))

pub absorb-requires-clause-newest : goal.absorb-requires-clause-newest
absorb-requires-clause-newest c =
    let xs = c.args.leaves.now.items in
    let ys = c.remove-gone.new.self.items in
    let p = c.args.place in
    let out = c.remove-gone.ensures.items in
    let long : length ys + 1 ≡ length xs = omega (arith, c.remove-gone.ensures.len, c.args.leaves.now.ok.0, c.remove-gone.new.self.ok.0) in
    let gone = leaf_there xs (p + 1) c.remove-gone.result c.remove-gone.result c.requires.there c.remove-gone.ensures.value in
    let first = leaf_there ys p c.index_mut.result.now c.index_mut.result.now (omega (arith, long, c.requires.there)) c.index_mut.ensures.value
    ∙ ap (λ (l : List (Box (List Row) Global)). leaf_at l p) out ∙ leaf_out_below xs (p + 1) p c.requires.there (omega arith) in
    let both = ap (λ l. l ++ c.deref_mut.result.now) (c.deref.ensures ∙ gone) ∙ ap (λ l. leaf_at xs (p + 1) ++ l) (c.deref_mut.ensures.value ∙ first) in
    subst IsNewestFirst (sym both) c.requires.newest

pub returns-clause-before : goal.returns-clause-before
returns-clause-before c =
    let xs = c.args.leaves.now.items in
    let ys = c.remove-gone.new.self.items in
    let p = c.args.place in
    let out = c.remove-gone.ensures.items in
    let long : length ys + 1 ≡ length xs = omega (arith, c.remove-gone.ensures.len, c.args.leaves.now.ok.0, c.remove-gone.new.self.ok.0) in
    let gone = leaf_there xs (p + 1) c.remove-gone.result c.remove-gone.result c.requires.there c.remove-gone.ensures.value in
    let first = leaf_there ys p c.index_mut.result.now c.index_mut.result.now (omega (arith, long, c.requires.there)) c.index_mut.ensures.value
    ∙ ap (λ (l : List (Box (List Row) Global)). leaf_at l p) out ∙ leaf_out_below xs (p + 1) p c.requires.there (omega arith) in
    let b = with_value c.index_mut.result.now c.absorb.new.self in
    λ k l. leaf_set_other ys p b k (omega (arith, l)) ∙ ap (λ (l : List (Box (List Row) Global)). leaf_at l k) out ∙ leaf_out_below xs (p + 1) k c.requires.there (omega (arith, l))

pub returns-clause-here : goal.returns-clause-here
returns-clause-here c =
    let xs = c.args.leaves.now.items in
    let ys = c.remove-gone.new.self.items in
    let p = c.args.place in
    let out = c.remove-gone.ensures.items in
    let long : length ys + 1 ≡ length xs = omega (arith, c.remove-gone.ensures.len, c.args.leaves.now.ok.0, c.remove-gone.new.self.ok.0) in
    let gone = leaf_there xs (p + 1) c.remove-gone.result c.remove-gone.result c.requires.there c.remove-gone.ensures.value in
    let first = leaf_there ys p c.index_mut.result.now c.index_mut.result.now (omega (arith, long, c.requires.there)) c.index_mut.ensures.value
    ∙ ap (λ (l : List (Box (List Row) Global)). leaf_at l p) out ∙ leaf_out_below xs (p + 1) p c.requires.there (omega arith) in
    let b = with_value c.index_mut.result.now c.absorb.new.self in
    let both = ap (λ l. l ++ c.deref_mut.result.now) (c.deref.ensures ∙ gone) ∙ ap (λ l. leaf_at xs (p + 1) ++ l) (c.deref_mut.ensures.value ∙ first) in
    leaf_set_same ys p b (omega (arith, long, c.requires.there)) ∙ c.absorb.ensures ∙ both

pub returns-clause-behind : goal.returns-clause-behind
returns-clause-behind c =
    let xs = c.args.leaves.now.items in
    let ys = c.remove-gone.new.self.items in
    let p = c.args.place in
    let out = c.remove-gone.ensures.items in
    let long : length ys + 1 ≡ length xs = omega (arith, c.remove-gone.ensures.len, c.args.leaves.now.ok.0, c.remove-gone.new.self.ok.0) in
    let gone = leaf_there xs (p + 1) c.remove-gone.result c.remove-gone.result c.requires.there c.remove-gone.ensures.value in
    let first = leaf_there ys p c.index_mut.result.now c.index_mut.result.now (omega (arith, long, c.requires.there)) c.index_mut.ensures.value
    ∙ ap (λ (l : List (Box (List Row) Global)). leaf_at l p) out ∙ leaf_out_below xs (p + 1) p c.requires.there (omega arith) in
    let b = with_value c.index_mut.result.now c.absorb.new.self in
    λ k l. leaf_set_other ys p b k (omega (arith, l)) ∙ ap (λ (l : List (Box (List Row) Global)). leaf_at l k) out
    ∙ leaf_out_above xs (p + 1) k c.requires.there (omega (arith, l)) ∙ ap (leaf_at xs) (let e : suc k ≡ k + 1 = omega arith in e)
