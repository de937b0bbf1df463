use Rattle.std.proofs.Common.{◌≡◌, ◌+◌, List, length, ap, ◌∙◌, arith}
use Rattle.market_types.specs.declared.row.Row.{Row}
use Rattle.wide_rows.specs.Shelves.{leaf_at}
use Rattle.wide_rows.proofs.OfShelves.{leaf_there}
use Rattle.wide_rows.proofs.shelf.are_few.Goals as goal

pub returns-then-older-eq0-clause-together : goal.returns-then-older-eq0-clause-together
returns-then-older-eq0-clause-together c =
    let xs = c.args.leaves.now.items in
    let older : c.len-older.result ≡ length (leaf_at xs c.args.first) =
    c.len-older.ensures.exact ∙ ap (λ (rows : List Row). length rows) (c.deref.ensures ∙ leaf_there xs c.args.first c.index.result.now c.index.result.now (omega (arith, c.requires.there)) c.index.ensures) in
    let newer : c.len-newer.result ≡ length (leaf_at xs (c.args.first + 1)) =
    c.len-newer.ensures.exact ∙ ap (λ (rows : List Row). length rows) (c.deref-2.ensures ∙ leaf_there xs (c.args.first + 1) c.index-2.result.now c.index-2.result.now c.requires.there c.index-2.ensures) in
    λ e. omega (arith, older, newer, c.len-older.ensures.exact, c.len-older.ensures.most, c.len-newer.ensures.exact, c.len-newer.ensures.most, c.if-older-eq0.true)

pub returns-then-newer-eq0-clause-together : goal.returns-then-newer-eq0-clause-together
returns-then-newer-eq0-clause-together c =
    let xs = c.args.leaves.now.items in
    let older : c.len-older.result ≡ length (leaf_at xs c.args.first) =
    c.len-older.ensures.exact ∙ ap (λ (rows : List Row). length rows) (c.deref.ensures ∙ leaf_there xs c.args.first c.index.result.now c.index.result.now (omega (arith, c.requires.there)) c.index.ensures) in
    let newer : c.len-newer.result ≡ length (leaf_at xs (c.args.first + 1)) =
    c.len-newer.ensures.exact ∙ ap (λ (rows : List Row). length rows) (c.deref-2.ensures ∙ leaf_there xs (c.args.first + 1) c.index-2.result.now c.index-2.result.now c.requires.there c.index-2.ensures) in
    λ e. omega (arith, older, newer, c.len-older.ensures.exact, c.len-older.ensures.most, c.len-newer.ensures.exact, c.len-newer.ensures.most, c.if-newer-eq0.true)

pub returns-then-older-newer-le-MERGED-clause-together : goal.returns-then-older-newer-le-MERGED-clause-together
returns-then-older-newer-le-MERGED-clause-together c =
    let xs = c.args.leaves.now.items in
    let older : c.len-older.result ≡ length (leaf_at xs c.args.first) =
    c.len-older.ensures.exact ∙ ap (λ (rows : List Row). length rows) (c.deref.ensures ∙ leaf_there xs c.args.first c.index.result.now c.index.result.now (omega (arith, c.requires.there)) c.index.ensures) in
    let newer : c.len-newer.result ≡ length (leaf_at xs (c.args.first + 1)) =
    c.len-newer.ensures.exact ∙ ap (λ (rows : List Row). length rows) (c.deref-2.ensures ∙ leaf_there xs (c.args.first + 1) c.index-2.result.now c.index-2.result.now c.requires.there c.index-2.ensures) in
    λ e. omega (arith, older, newer, c.len-older.ensures.exact, c.len-older.ensures.most, c.len-newer.ensures.exact, c.len-newer.ensures.most, c.if-older-newer-le-MERGED.true)

pub returns-clause-apart : goal.returns-clause-apart
returns-clause-apart c =
    let xs = c.args.leaves.now.items in
    let older : c.len-older.result ≡ length (leaf_at xs c.args.first) =
    c.len-older.ensures.exact ∙ ap (λ (rows : List Row). length rows) (c.deref.ensures ∙ leaf_there xs c.args.first c.index.result.now c.index.result.now (omega (arith, c.requires.there)) c.index.ensures) in
    let newer : c.len-newer.result ≡ length (leaf_at xs (c.args.first + 1)) =
    c.len-newer.ensures.exact ∙ ap (λ (rows : List Row). length rows) (c.deref-2.ensures ∙ leaf_there xs (c.args.first + 1) c.index-2.result.now c.index-2.result.now c.requires.there c.index-2.ensures) in
    λ e. omega (arith, older, newer, c.len-older.ensures.exact, c.len-older.ensures.most, c.len-newer.ensures.exact, c.len-newer.ensures.most, c.if-older-eq0.false, c.if-newer-eq0.false, c.if-older-newer-le-MERGED.false)

pub returns-clause-some : goal.returns-clause-some
returns-clause-some c =
    let xs = c.args.leaves.now.items in
    let older : c.len-older.result ≡ length (leaf_at xs c.args.first) =
    c.len-older.ensures.exact ∙ ap (λ (rows : List Row). length rows) (c.deref.ensures ∙ leaf_there xs c.args.first c.index.result.now c.index.result.now (omega (arith, c.requires.there)) c.index.ensures) in
    let newer : c.len-newer.result ≡ length (leaf_at xs (c.args.first + 1)) =
    c.len-newer.ensures.exact ∙ ap (λ (rows : List Row). length rows) (c.deref-2.ensures ∙ leaf_there xs (c.args.first + 1) c.index-2.result.now c.index-2.result.now c.requires.there c.index-2.ensures) in
    λ e. omega (arith, older, newer, c.len-older.ensures.exact, c.len-older.ensures.most, c.len-newer.ensures.exact, c.len-newer.ensures.most, c.if-older-eq0.false, c.if-newer-eq0.false, c.if-older-newer-le-MERGED.false)

pub returns-clause-some_next : goal.returns-clause-some_next
returns-clause-some_next c =
    let xs = c.args.leaves.now.items in
    let older : c.len-older.result ≡ length (leaf_at xs c.args.first) =
    c.len-older.ensures.exact ∙ ap (λ (rows : List Row). length rows) (c.deref.ensures ∙ leaf_there xs c.args.first c.index.result.now c.index.result.now (omega (arith, c.requires.there)) c.index.ensures) in
    let newer : c.len-newer.result ≡ length (leaf_at xs (c.args.first + 1)) =
    c.len-newer.ensures.exact ∙ ap (λ (rows : List Row). length rows) (c.deref-2.ensures ∙ leaf_there xs (c.args.first + 1) c.index-2.result.now c.index-2.result.now c.requires.there c.index-2.ensures) in
    λ e. omega (arith, older, newer, c.len-older.ensures.exact, c.len-older.ensures.most, c.len-newer.ensures.exact, c.len-newer.ensures.most, c.if-older-eq0.false, c.if-newer-eq0.false, c.if-older-newer-le-MERGED.false)
