use Rattle.std.proofs.Common.{get_or, drop, subst, sym, ◌≡◌, arith, rules}
use Rattle.journal_chart.specs.declared.row.Known.{Known}
use Rattle.journal_chart.specs.Rows.{Row}
use Rattle.journal_chart.specs.Steps.{near_row, nothing_known}
use Rattle.journal_chart.proofs.Pairs.{get-any, paired-more, paired-none}
use Rattle.journal_chart.proofs.AtRest.{near-made}
use Rattle.journal_chart.proofs.nearby.rows_about.Goals as goal

pub loop-index-init : goal.loop-index-init
loop-index-init g c = record { paired = paired-none (near_row c.args.place c.args.market.now c.args.cmd.now c.args.reply.now c.args.now.now c.args.kept.now) c.args.rows.now c.args.known.now c.requires.each; divided = search rules }

pub near_row-requires-clause-divided : goal.near_row-requires-clause-divided
near_row-requires-clause-divided g c = c.loop-index.invariant.divided

pub loop-index-preserved : goal.loop-index-preserved
loop-index-preserved g c =
    let i = c.loop-index.index in
    let row : Row = get_or c.loop-index.rows i c.index-rows-index.result in
    let known : Known = get_or c.loop-index.known i nothing_known in
    record {
      paired =
          paired-more (near_row c.args.place c.args.market.now c.args.cmd.now c.args.reply.now c.args.now.now c.args.kept.now) c.args.rows.now c.args.known.now c.loop-index.rows c.loop-index.known i row
          c.near_row.new.row known c.near_row.new.known c.loop-index.invariant.paired (omega (arith, c.loop-index.invariant.paired.count)) (get-any c.loop-index.rows i c.index-rows-index.result row (omega (arith, c.loop-index.invariant.paired.count)))
          (get-any c.loop-index.known i nothing_known known (omega (arith, c.loop-index.invariant.paired.same, c.loop-index.invariant.paired.count))) c.near_row.ensures.exact;
      divided = c.near_row.ensures.divided;
    }

pub returns-clause-rows : goal.returns-clause-rows
returns-clause-rows g c =
    (near-made c.args.place c.args.market.now c.args.cmd.now c.args.reply.now c.args.now.now c.args.kept.now c.args.rows.now c.args.known.now c.loop-index.rows c.loop-index.known c.loop-index.index c.args.count
    c.loop-index.invariant.paired (omega arith) c.requires.left).0

pub returns-clause-known : goal.returns-clause-known
returns-clause-known g c =
    (near-made c.args.place c.args.market.now c.args.cmd.now c.args.reply.now c.args.now.now c.args.kept.now c.args.rows.now c.args.known.now c.loop-index.rows c.loop-index.known c.loop-index.index c.args.count
    c.loop-index.invariant.paired (omega arith) c.requires.left).1

pub returns-clause-rest : goal.returns-clause-rest
returns-clause-rest g c =
    let all : c.args.count ≡ c.loop-index.index = omega arith in
    subst (λ n. drop n c.loop-index.rows ≡ drop n c.args.rows.now) (sym all) c.loop-index.invariant.paired.rest
