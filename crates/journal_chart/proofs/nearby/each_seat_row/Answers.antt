use Rattle.std.proofs.Common.{get_or, drop, subst, sym, ◌≡◌, arith}
use Rattle.journal_chart.specs.declared.row.Known.{Known}
use Rattle.journal_chart.specs.Rows.{Row}
use Rattle.journal_chart.specs.Resting.{AreLeft}
use Rattle.journal_chart.specs.Steps.{nothing_known, pairwise, seat_row, subject}
use Rattle.journal_chart.proofs.Pairs.{get-any, paired-more, paired-part}
use Rattle.journal_chart.proofs.AtRest.{seat-rest}
use Rattle.journal_chart.proofs.nearby.each_seat_row.Goals as goal
use Rattle.journal_chart.proofs.nearby.each_seat_row.Goals.{After-loop-index}

pub loop-index-preserved : goal.loop-index-preserved
loop-index-preserved c =
    let i = c.loop-index.index in
    let row : Row = get_or c.loop-index.rows i c.index-rows-index.result in
    let known : Known = get_or c.loop-index.known i nothing_known in
    paired-more (seat_row c.args.place c.args.market.now c.args.cmd.now c.args.reply.now c.args.more c.args.now.now) c.args.rows.now c.args.known.now c.loop-index.rows c.loop-index.known i row
    c.seat_row.new.row known c.seat_row.new.known c.loop-index.invariant (omega (arith, c.loop-index.invariant.count)) (get-any c.loop-index.rows i c.index-rows-index.result row (omega (arith, c.loop-index.invariant.count)))
    (get-any c.loop-index.known i nothing_known known (omega (arith, c.loop-index.invariant.same, c.loop-index.invariant.count))) c.seat_row.ensures

-- what becomes of all rows
module _ (c : After-loop-index) where
  abbrev row-made : Row → Known → Row × Known
  row-made = seat_row c.args.place c.args.market.now c.args.cmd.now c.args.reply.now c.args.more c.args.now.now

  all-made : (c.loop-index.rows ≡ (pairwise row-made c.args.rows.now c.args.known.now).0) × (c.loop-index.known ≡ (pairwise row-made c.args.rows.now c.args.known.now).1)
  all-made =
      let all : c.args.count ≡ c.loop-index.index = omega arith in
      let left : AreLeft c.loop-index.index (subject c.args.cmd.now c.args.reply.now) c.args.rows.now = subst (λ n. AreLeft n (subject c.args.cmd.now c.args.reply.now) c.args.rows.now) all c.requires.left in
      paired-part row-made c.args.rows.now c.args.known.now c.loop-index.rows c.loop-index.known c.loop-index.index c.loop-index.invariant
      (seat-rest c.args.place c.args.market.now c.args.cmd.now c.args.reply.now c.args.more c.args.now.now (drop c.loop-index.index c.args.rows.now) left)

pub returns-clause-rows : goal.returns-clause-rows
returns-clause-rows c = (all-made (goal.at.returns-clause-rows c).After-loop-index).0

pub returns-clause-known : goal.returns-clause-known
returns-clause-known c = (all-made (goal.at.returns-clause-known c).After-loop-index).1

pub returns-clause-rest : goal.returns-clause-rest
returns-clause-rest c =
    let all : c.args.count ≡ c.loop-index.index = omega arith in
    subst (λ n. drop n c.loop-index.rows ≡ drop n c.args.rows.now) (sym all) c.loop-index.invariant.rest
