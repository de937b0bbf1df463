use Rattle.std.proofs.Common.{◌≡◌, ◌<◌, length, set, get_or, refl, sym, ◌∙◌, arith}
use Rattle.journal_chart.specs.declared.row.Known.{Known}
use Rattle.journal_chart.specs.Rows.{Row}
use Rattle.journal_chart.specs.Steps.{near_row, nothing_known, pairwise}
use Rattle.journal_chart.proofs.Numbered.{kept-others, own-told}
use Rattle.journal_chart.proofs.Pairs.{get-any, pairwise-one, still-all}
use Rattle.journal_chart.proofs.by_number.own_row_numbered.Goals as goal
use Rattle.journal_chart.proofs.by_number.own_row_numbered.Goals.{After-retold_row, Then-own-count}

-- no row is told
module _ (c : Then-own-count) where
  abbrev told : Row → Known → Row × Known
  told = near_row c.args.place c.args.market.now c.args.cmd.now c.args.reply.now c.args.now.now c.args.kept.now

  still : pairwise told c.args.rows.now c.args.known.now ≡ (c.args.rows.now, c.args.known.now)
  still =
      still-all told c.args.rows.now c.args.known.now
      (λ j d inside k. kept-others c.args.place c.args.market.now c.args.cmd.now c.args.reply.now c.args.now.now c.args.kept.now c.args.first c.args.about c.place_of-own.result c.args.count
      c.args.rows.now c.place_of-own.ensures.alone c.requires.numbered c.requires.left c.requires.about c.requires.kept c.are_at_levels.ensures j d inside (λ within e. omega (arith, within, e, c.if-own-count.true)) k)

pub returns-then-own-count-clause-rows : goal.returns-then-own-count-clause-rows
returns-then-own-count-clause-rows c = λ i. (sym (still c) i).0

pub returns-then-own-count-clause-known : goal.returns-then-own-count-clause-known
returns-then-own-count-clause-known c = λ i. (sym (still c) i).1

-- one row is told
module _ (c : After-retold_row) where
  abbrev told-one : Row → Known → Row × Known
  told-one = near_row c.args.place c.args.market.now c.args.cmd.now c.args.reply.now c.args.now.now c.args.kept.now

  one : (set c.args.rows.now c.place_of-own.result c.retold_row.new.row ≡ (pairwise told-one c.args.rows.now c.args.known.now).0)
      × (set c.args.known.now c.place_of-own.result c.retold_row.new.known ≡ (pairwise told-one c.args.rows.now c.args.known.now).1)
  one =
      let own = c.place_of-own.result in
      let row : Row = get_or c.args.rows.now own c.index-rows-own.result in
      let known : Known = get_or c.args.known.now own nothing_known in
      let within : own < length c.args.rows.now = omega (arith, c.requires.within, c.place_of-own.ensures.within, c.if-own-count.false) in
      let made : (c.retold_row.new.row, c.retold_row.new.known) ≡ told-one row known =
      c.retold_row.ensures
      ∙ sym (own-told c.args.place c.args.market.now c.args.cmd.now c.args.reply.now c.args.now.now c.args.kept.now c.args.first c.args.about own c.args.rows.now c.args.rows.now known c.requires.numbered
      (c.place_of-own.ensures.there (omega (arith, c.place_of-own.ensures.within, c.if-own-count.false))) c.requires.about c.index-rows-own.result within refl) in
      pairwise-one told-one c.args.rows.now c.args.known.now own row c.retold_row.new.row known c.retold_row.new.known c.requires.each within
      (get-any c.args.rows.now own c.index-rows-own.result row within) (get-any c.args.known.now own nothing_known known (omega (arith, within, c.requires.each))) made
      (λ j d inside apart k. kept-others c.args.place c.args.market.now c.args.cmd.now c.args.reply.now c.args.now.now c.args.kept.now c.args.first c.args.about own c.args.count
      c.args.rows.now c.place_of-own.ensures.alone c.requires.numbered c.requires.left c.requires.about c.requires.kept c.are_at_levels.ensures j d inside (λ low e. apart e) k)

pub returns-clause-rows : goal.returns-clause-rows
returns-clause-rows c = (one c).0

pub returns-clause-known : goal.returns-clause-known
returns-clause-known c = (one c).1
