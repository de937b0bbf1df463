use Rattle.std.proofs.Common.{◌≡◌, ◌<◌, ℕ, length, get_or, set, ap, sym, subst, ◌∙◌, inl, inr, arith}
use Rattle.std.proofs.lemmas.Bool.{cases_lt, cases_eq}
use Rattle.std.proofs.lemmas.List.{get_or-set_same, get_or-set_other, length-set}
use Rattle.wide_rows.specs.Shelves.{leaf_at}
use Rattle.wide_rows.specs.Storeys.{IsStorey, IsBlock, block_at, block_of, block_rows, lanes, blocks_for}
use Rattle.wide_rows.specs.declared.index.Index.{Index}
use Rattle.wide_rows.proofs.Gathered.{block_low, block_few, next_block, gathered}
use Rattle.wide_rows.proofs.OfShelves.{leaf_past, few_leaves, asked_low, rows_few}
use Rattle.wide_rows.proofs.TwoStoreys.{known}
use Rattle.wide_rows.proofs.storeys.Storeys.rebuild.Goals as goal

pub loop-block-preserved : goal.loop-block-preserved
loop-block-preserved c =
    let leaves = c.args.leaves.now.items in
    let old = c.loop-block.self.blocks in
    let i = c.loop-block.invariant in
    let e = c.len-count.ensures ∙ c.args.leaves.now.ok.0 in
    let small : c.loop-block.block < 10 = omega (arith, c.loop-block-test.true, e, (few_leaves leaves c.requires.leaves).1) in
    record {
      wide = length-set old c.loop-block.block c.block_of.result ∙ i.wide;
      written = λ g l. elim (cases_eq g c.loop-block.block) [
        | inl z ↦ subst (λ (j : ℕ). IsBlock (block_at (set old c.loop-block.block c.block_of.result) j) (leaf_at leaves) (length leaves) j) (sym z)
            (subst (λ (x : Index). IsBlock x (leaf_at leaves) (length leaves) c.loop-block.block) (sym (get_or-set_same old c.loop-block.block c.block_of.result _ (omega (arith, small, i.wide)))) c.block_of.ensures)
        | inr ne ↦ subst (λ (x : Index). IsBlock x (leaf_at leaves) (length leaves) g) (sym (get_or-set_other old c.loop-block.block g c.block_of.result _ ne)) (i.written g (omega (arith, l, ne)))
      ];
      beyond = λ g l m. subst (λ (x : Index). IsBlock x (leaf_at leaves) (length leaves) g)
          (sym (get_or-set_other old c.loop-block.block g c.block_of.result _ (omega (arith, l, c.loop-block-test.true, e)))) (i.beyond g l m);
    }

pub loop-at-init : goal.loop-at-init
loop-at-init c = record {
  wide = c.loop-block.invariant.wide;
  written = λ g l. elim (cases_lt g c.loop-block.block) [
    | inl below ↦ c.loop-block.invariant.written g below
    | inr past ↦ c.loop-block.invariant.beyond g (omega (arith, past, c.loop-block-test.false, c.len-count.ensures, c.args.leaves.now.ok.0)) l
  ];
  storey = c.new-self.ensures (block_rows (leaf_at c.args.leaves.now.items));
  same = λ g l. absurd (omega (arith, l));
}

pub bounds-self-block : goal.bounds-self-block
bounds-self-block c = omega (arith, c.loop-block-test.true, c.len-count.ensures, c.args.leaves.now.ok.0, (few_leaves c.args.leaves.now.items c.requires.leaves).1)

pub offset_bounds-self-block : goal.offset_bounds-self-block
offset_bounds-self-block c = record { fits = omega (arith, c.loop-block-test.true, c.len-count.ensures, c.args.leaves.now.ok.0, (few_leaves c.args.leaves.now.items c.requires.leaves).1) }

pub block_of-requires-clause-block : goal.block_of-requires-clause-block
block_of-requires-clause-block c = omega (arith, c.loop-block-test.true, c.len-count.ensures, c.args.leaves.now.ok.0, (few_leaves c.args.leaves.now.items c.requires.leaves).1)

pub bounds-self-at : goal.bounds-self-at
bounds-self-at c = omega (arith, c.loop-at-test.true, c.len-count.ensures, (few_leaves c.args.leaves.now.items c.requires.leaves).1)

pub whole-entry-requires-clause-low : goal.whole-entry-requires-clause-low
whole-entry-requires-clause-low c =
    let leaves = c.args.leaves.now.items in
    let h = c.requires.leaves in
    block_low c.loop-at.self.blocks (leaf_at leaves) (length leaves) (omega (arith, (few_leaves leaves h).1)) (leaf_past leaves) h.some c.loop-at.invariant.written (asked_low leaves h) (rows_few leaves h) c.loop-at.at
    (omega (arith, c.loop-at-test.true, c.len-count.ensures))

pub whole-entry-requires-clause-few : goal.whole-entry-requires-clause-few
whole-entry-requires-clause-few c =
    let leaves = c.args.leaves.now.items in
    let h = c.requires.leaves in
    block_few c.loop-at.self.blocks (leaf_at leaves) (length leaves) (omega (arith, (few_leaves leaves h).1)) (leaf_past leaves) h.some c.loop-at.invariant.written (asked_low leaves h) (rows_few leaves h) c.loop-at.at
    (omega (arith, c.loop-at-test.true, c.len-count.ensures))

pub push-requires : goal.push-requires
push-requires c = record { room = omega (arith, c.loop-at.invariant.storey.len, c.loop-at-test.true, c.len-count.ensures, (few_leaves c.args.leaves.now.items c.requires.leaves).1) }

pub loop-at-preserved : goal.loop-at-preserved
loop-at-preserved c =
    let leaves = c.args.leaves.now.items in
    let h = c.requires.leaves in
    let i = c.loop-at.invariant in
    let g = c.loop-at.at in
    let within : g < blocks_for (length leaves) = omega (arith, c.loop-at-test.true, c.len-count.ensures) in
    let small : g < 10 = omega (arith, within, (few_leaves leaves h).1) in
    let next = next_block c.loop-at.self.blocks (leaf_at leaves) (length leaves) (omega (arith, (few_leaves leaves h).1)) (leaf_past leaves) h.some i.written (asked_low leaves h) (rows_few leaves h)
    c.loop-at.self.top g i.storey within i.same c.whole-entry.result c.whole-entry.ensures.oldest
    (c.whole-entry.ensures.rows (block_of (leaf_at leaves) g) (lanes (length leaves) g) (i.written g small).storey) in
    let len : c.loop-at.self.top.len ≡ g = i.storey.len in
    record {
      wide = i.wide;
      written = i.written;
      storey = c.push.ensures.rows (block_rows (leaf_at leaves)) g i.storey next;
      same = λ k l. elim (cases_eq k g) [
        | inl e ↦ subst (λ (j : ℕ). get_or c.push.new.self.oldest j 0 ≡ get_or (block_at c.loop-at.self.blocks j).oldest 0 0) (sym e)
            (ap (λ j. get_or c.push.new.self.oldest j 0) (sym len) ∙ c.push.ensures.oldest ∙ c.whole-entry.ensures.oldest)
        | inr ne ↦ c.push.ensures.others k (omega (arith, l, ne, len)) ∙ i.same k (omega (arith, l, ne))
      ];
    }

pub returns : goal.returns
returns c =
    let leaves = c.args.leaves.now.items in
    let h = c.requires.leaves in
    let i = c.loop-at.invariant in
    let all : c.loop-at.at ≡ blocks_for (length leaves) = omega (arith, c.loop-at-test.false, c.loop-at.auto.at-end, c.len-count.ensures) in
    known c.loop-at.self (leaf_at leaves) (length leaves)
    (gathered c.loop-at.self.blocks (leaf_at leaves) (length leaves) (omega (arith, (few_leaves leaves h).1)) (leaf_past leaves) h.some i.written (asked_low leaves h) (rows_few leaves h)
    c.loop-at.self.top i.wide (subst (λ (n : ℕ). IsStorey c.loop-at.self.top (block_rows (leaf_at leaves)) n) all i.storey) (λ k l. i.same k (omega (arith, l, all))))
