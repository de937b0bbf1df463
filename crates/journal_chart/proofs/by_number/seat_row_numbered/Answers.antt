use Rattle.std.proofs.Common.{◌≡◌, ◌<◌, length, set, get_or, sym, arith}
use Rattle.journal_chart.specs.declared.row.Known.{Known}
use Rattle.journal_chart.specs.Rows.{Row}
use Rattle.journal_chart.specs.Steps.{nothing_known, pairwise, seat_row}
use Rattle.journal_chart.proofs.Numbered.{seat-others}
use Rattle.journal_chart.proofs.Pairs.{get-any, pairwise-one, still-all}
use Rattle.journal_chart.proofs.by_number.seat_row_numbered.Goals as goal
use Rattle.journal_chart.proofs.by_number.seat_row_numbered.Goals.{After-seat_row, Then-own-count}

-- no row is told
module _ (c : Then-own-count) where
  abbrev told : Row → Known → Row × Known
  told = seat_row c.args.place c.args.market.now c.args.cmd.now c.args.reply.now c.args.more c.args.now.now

  still : pairwise told c.args.rows.now c.args.known.now ≡ (c.args.rows.now, c.args.known.now)
  still =
      still-all told c.args.rows.now c.args.known.now
      (λ j d inside k. seat-others c.args.place c.args.market.now c.args.cmd.now c.args.reply.now c.args.more c.args.now.now c.args.first c.args.moved c.place_of-own.result c.args.count
      c.args.rows.now c.place_of-own.ensures.alone c.requires.numbered c.requires.left c.requires.moved j d inside (λ within e. omega (arith, within, e, c.if-own-count.true)) k)

pub returns-then-own-count-clause-rows : goal.returns-then-own-count-clause-rows
returns-then-own-count-clause-rows c = λ i. (sym (still c) i).0

pub returns-then-own-count-clause-known : goal.returns-then-own-count-clause-known
returns-then-own-count-clause-known c = λ i. (sym (still c) i).1

-- one row is told
module _ (c : After-seat_row) where
  abbrev told-one : Row → Known → Row × Known
  told-one = seat_row c.args.place c.args.market.now c.args.cmd.now c.args.reply.now c.args.more c.args.now.now

  one : (set c.args.rows.now c.place_of-own.result c.seat_row.new.row ≡ (pairwise told-one c.args.rows.now c.args.known.now).0)
      × (set c.args.known.now c.place_of-own.result c.seat_row.new.known ≡ (pairwise told-one c.args.rows.now c.args.known.now).1)
  one =
      let own = c.place_of-own.result in
      let row : Row = get_or c.args.rows.now own c.index-rows-own.result in
      let known : Known = get_or c.args.known.now own nothing_known in
      let within : own < length c.args.rows.now = omega (arith, c.requires.within, c.place_of-own.ensures.within, c.if-own-count.false) in
      pairwise-one told-one c.args.rows.now c.args.known.now own row c.seat_row.new.row known c.seat_row.new.known c.requires.each within
      (get-any c.args.rows.now own c.index-rows-own.result row within) (get-any c.args.known.now own nothing_known known (omega (arith, within, c.requires.each))) c.seat_row.ensures
      (λ j d inside apart k. seat-others c.args.place c.args.market.now c.args.cmd.now c.args.reply.now c.args.more c.args.now.now c.args.first c.args.moved own c.args.count
      c.args.rows.now c.place_of-own.ensures.alone c.requires.numbered c.requires.left c.requires.moved j d inside (λ low e. apart e) k)

pub returns-clause-rows : goal.returns-clause-rows
returns-clause-rows c = (one c).0

pub returns-clause-known : goal.returns-clause-known
returns-clause-known c = (one c).1
