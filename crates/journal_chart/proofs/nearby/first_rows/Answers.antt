use Rattle.std.proofs.Common.{get_or, ap, ◌∙◌, arith, rules}
use Rattle.journal_chart.specs.declared.row.Known.{Known}
use Rattle.journal_chart.specs.Rows.{Row}
use Rattle.journal_chart.specs.Shares.{Shared}
use Rattle.journal_chart.specs.Steps.{first_row, nothing_known, pairwise}
use Rattle.journal_chart.proofs.AtRest.{first-made}
use Rattle.journal_chart.proofs.Pairs.{get-any, paired-more, paired-none}
use Rattle.journal_chart.proofs.nearby.first_rows.Goals as goal

pub loop-index-init : goal.loop-index-init
loop-index-init c = record { paired = paired-none (first_row c.args.place c.args.market.now c.args.cmd.now c.args.reply.now c.args.now.now) c.args.rows.now c.args.known.now c.requires.each; divided = search rules }

pub first_row-requires-clause-divided : goal.first_row-requires-clause-divided
first_row-requires-clause-divided c = c.loop-index.invariant.divided

pub loop-index-preserved : goal.loop-index-preserved
loop-index-preserved c =
    let i = c.loop-index.index in
    let row : Row = get_or c.loop-index.rows i c.index-rows-index.result in
    let known : Known = get_or c.loop-index.known i nothing_known in
    record {
      paired =
          paired-more (first_row c.args.place c.args.market.now c.args.cmd.now c.args.reply.now c.args.now.now) c.args.rows.now c.args.known.now c.loop-index.rows c.loop-index.known i row
          c.first_row.new.row known c.first_row.new.known c.loop-index.invariant.paired (omega (arith, c.loop-index.invariant.paired.count, c.requires.within)) (get-any c.loop-index.rows i c.index-rows-index.result row (omega (arith, c.loop-index.invariant.paired.count, c.requires.within)))
          (get-any c.loop-index.known i nothing_known known (omega (arith, c.loop-index.invariant.paired.same, c.loop-index.invariant.paired.count, c.requires.within))) c.first_row.ensures.exact;
      divided = c.first_row.ensures.divided;
    }

pub returns-clause-rows : goal.returns-clause-rows
returns-clause-rows c =
    (first-made c.args.place c.args.market.now c.args.cmd.now c.args.reply.now c.args.now.now c.args.rows.now c.args.known.now c.loop-index.rows c.loop-index.known c.loop-index.index c.args.count
    c.loop-index.invariant.paired (omega arith) c.requires.left).0
    ∙ ap (λ (now : Shared). (pairwise (first_row c.args.place c.args.market.now c.args.cmd.now c.args.reply.now now) c.args.rows.now c.args.known.now).0) c.requires.shares

pub returns-clause-known : goal.returns-clause-known
returns-clause-known c =
    (first-made c.args.place c.args.market.now c.args.cmd.now c.args.reply.now c.args.now.now c.args.rows.now c.args.known.now c.loop-index.rows c.loop-index.known c.loop-index.index c.args.count
    c.loop-index.invariant.paired (omega arith) c.requires.left).1
    ∙ ap (λ (now : Shared). (pairwise (first_row c.args.place c.args.market.now c.args.cmd.now c.args.reply.now now) c.args.rows.now c.args.known.now).1) c.requires.shares
