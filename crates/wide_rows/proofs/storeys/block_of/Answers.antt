use Rattle.std.proofs.Common.{◌≡◌, ◌+◌, ◌-◌, ◌*◌, ◌<◌, ◌≤◌, ℕ, length, ap, sym, subst, ◌∙◌, arith}
use Rattle.wide_rows.specs.Shelves.{leaf_at}
use Rattle.wide_rows.specs.Storeys.{block_of}
use Rattle.wide_rows.proofs.Gathered.{IsEntry, begun_none, begun_more, begun_all, next_leaf}
use Rattle.wide_rows.proofs.storeys.block_of.Goals as goal

pub loop-place-init : goal.loop-place-init
loop-place-init c = record {
  from = omega arith;
  to = omega arith;
  begun = begun_none (leaf_at c.args.leaves.now.items) c.args.block c.new-index.result c.new-index.ensures _ (omega arith);
}

pub loop-place-preserved : goal.loop-place-preserved
loop-place-preserved c =
    let leaves = c.args.leaves.now.items in
    let r = leaf_at leaves in
    let b = c.args.block in
    let q = c.loop-place.place - 16 * b in
    let from = c.loop-place.invariant.from in
    let within : c.loop-place.place < length leaves = omega (arith, c.loop-place-test.true, c.len.ensures) in
    let at : c.loop-place.place ≡ 16 * b + q = omega (arith, from) in
    let d = c.entry_of-entry.ensures in
    let is : IsEntry c.entry_of-entry.result r (16 * b + q) = subst (IsEntry c.entry_of-entry.result r) at (record { sum = d.sum; count_is = d.count_is; mandated = d.mandated; first = d.first; least = d.least; older = d.older }) in
    let some : (k : ℕ) → k < q → 0 < length (r (16 * b + k)) = λ k l. c.requires.leaves.some (16 * b + k) (omega (arith, l, within)) in
    let begun = c.loop-place.invariant.begun in
    let len : c.loop-place.index.len ≡ q = begun.storey.len in
    record {
      from = omega (arith, from);
      to = omega (arith, within, c.if-place-block.true, from);
      begun = begun_more r b c.loop-place.index q begun some c.entry_of-entry.result is c.push.new.self (c.push.ensures.rows (block_of r b) q begun.storey (next_leaf r b c.loop-place.index q begun some c.entry_of-entry.result is))
          (ap (λ k. Rattle.std.proofs.Common.get_or c.push.new.self.oldest k 0) (sym len) ∙ c.push.ensures.oldest) (λ k l. c.push.ensures.others k (omega (arith, l, len))) _ (omega (arith, from));
    }

pub returns-after-loop-place : goal.returns-after-loop-place
returns-after-loop-place c =
    begun_all (leaf_at c.args.leaves.now.items) c.args.block c.loop-place.index (c.loop-place.place - 16 * c.args.block) (length c.args.leaves.now.items) c.loop-place.invariant.begun
    (omega (arith, c.loop-place.invariant.from, c.loop-place.invariant.to, c.loop-place-test.false, c.len.ensures))
