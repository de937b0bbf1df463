use Rattle.std.proofs.Common.{List, get_or, ap, ◌∙◌, arith}
use Rattle.journal_chart.specs.Rows.{Row}
use Rattle.journal_chart.specs.declared.row.Known.{Known}
use Rattle.journal_chart.specs.Steps.{nothing_known, seen_row, taken_row}
use Rattle.journal_chart.proofs.Pairs.{get-any, paired-more, paired-all, pairwise-map}
use Rattle.journal_chart.proofs.nearby.look_rows.Goals as goal

pub loop-index-preserved : goal.loop-index-preserved
loop-index-preserved c =
    let i = c.loop-index.index in
    let row : Row = get_or c.loop-index.rows i c.index-rows-index.result in
    let known : Known = get_or c.loop-index.known i nothing_known in
    paired-more (λ (r : Row) (k : Known). seen_row c.args.place c.args.market.now c.args.cmd.now c.args.reply.now r) c.args.rows.now c.args.known.now c.loop-index.rows c.loop-index.known i row c.look.new.self
    known c.look.result c.loop-index.invariant (omega arith) (get-any c.loop-index.rows i c.index-rows-index.result row (omega arith))
    (get-any c.loop-index.known i nothing_known known (omega (arith, c.loop-index.invariant.same))) c.look.ensures

pub returns-clause-rows : goal.returns-clause-rows
returns-clause-rows c =
    (paired-all (λ (r : Row) (k : Known). seen_row c.args.place c.args.market.now c.args.cmd.now c.args.reply.now r) c.args.rows.now c.args.known.now c.loop-index.rows c.loop-index.known c.loop-index.index
    c.loop-index.invariant (omega arith)).0
    ∙ ap (λ (p : List Row × List Known). p.0)
    (pairwise-map (taken_row c.args.place c.args.market.now c.args.cmd.now c.args.reply.now) (λ (r : Row). (seen_row c.args.place c.args.market.now c.args.cmd.now c.args.reply.now r).1) c.args.rows.now
    c.args.known.now c.requires.each)

pub returns-clause-known : goal.returns-clause-known
returns-clause-known c =
    (paired-all (λ (r : Row) (k : Known). seen_row c.args.place c.args.market.now c.args.cmd.now c.args.reply.now r) c.args.rows.now c.args.known.now c.loop-index.rows c.loop-index.known c.loop-index.index
    c.loop-index.invariant (omega arith)).1
    ∙ ap (λ (p : List Row × List Known). p.1)
    (pairwise-map (taken_row c.args.place c.args.market.now c.args.cmd.now c.args.reply.now) (λ (r : Row). (seen_row c.args.place c.args.market.now c.args.cmd.now c.args.reply.now r).1) c.args.rows.now
    c.args.known.now c.requires.each)
