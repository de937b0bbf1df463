use Rattle.std.proofs.Common.{◌≡◌, ℕ, Option, Some, false, get_or, drop, sym, ap, ◌∙◌, subst, arith}
use Rattle.market_types.specs.Allotment.{is_just}
use Rattle.journal_chart.specs.declared.row.Known.{Known}
use Rattle.journal_chart.specs.Rows.{Row}
use Rattle.journal_chart.specs.Resting.{AreLeft}
use Rattle.journal_chart.specs.Steps.{near_row, nothing_known, subject}
use Rattle.journal_chart.proofs.AtRest.{near-made}
use Rattle.journal_chart.proofs.Numbered.{own-told, still-apart}
use Rattle.journal_chart.proofs.Pairs.{Paired, get-any, paired-more, paired-none}
use Rattle.journal_chart.proofs.by_number.rows_numbered.Goals as goal

pub loop-index-init : goal.loop-index-init
loop-index-init c = paired-none (near_row c.args.place c.args.market.now c.args.cmd.now c.args.reply.now c.args.now.now c.args.kept.now) c.args.rows.now c.args.known.now c.requires.each

pub loop-index-preserved : goal.loop-index-preserved
loop-index-preserved c =
    let i = c.loop-index.index in
    let row : Row = get_or c.loop-index.rows i c.index-rows-index.result in
    let known : Known = get_or c.loop-index.known i nothing_known in
    let left : AreLeft c.args.count (Some c.args.about) c.args.rows.now = subst (λ (o : Option ℕ). AreLeft c.args.count o c.args.rows.now) (sym c.requires.about) c.requires.left in
    let other : is_just row.arena (subject c.args.cmd.now c.args.reply.now) ≡ false =
    ap (is_just row.arena) (sym c.requires.about)
    ∙ still-apart c.args.first c.args.about c.place_of-own.result c.args.count c.args.rows.now c.loop-index.rows c.place_of-own.ensures.alone c.requires.numbered left i c.index-rows-index.result
    (omega (arith, c.requires.within, c.place_of-own.ensures.within)) (λ e. omega (arith, e)) c.loop-index.invariant.rest in
    paired-more (near_row c.args.place c.args.market.now c.args.cmd.now c.args.reply.now c.args.now.now c.args.kept.now) c.args.rows.now c.args.known.now c.loop-index.rows c.loop-index.known i row
    c.level_row.new.row known c.level_row.new.known c.loop-index.invariant (omega (arith, c.loop-index.invariant.count, c.requires.within, c.place_of-own.ensures.within)) (get-any c.loop-index.rows i c.index-rows-index.result row (omega (arith, c.loop-index.invariant.count, c.requires.within, c.place_of-own.ensures.within)))
    (get-any c.loop-index.known i nothing_known known (omega (arith, c.loop-index.invariant.same, c.loop-index.invariant.count, c.requires.within, c.place_of-own.ensures.within)))
    (c.level_row.ensures c.args.cmd.now c.args.reply.now c.args.kept.now c.requires.alone other)

pub returns-then-own-count-clause-rows : goal.returns-then-own-count-clause-rows
returns-then-own-count-clause-rows c =
    (near-made c.args.place c.args.market.now c.args.cmd.now c.args.reply.now c.args.now.now c.args.kept.now c.args.rows.now c.args.known.now c.loop-index.rows c.loop-index.known c.loop-index.index c.args.count
    c.loop-index.invariant (omega (arith, c.place_of-own.ensures.within)) c.requires.left).0

pub returns-then-own-count-clause-known : goal.returns-then-own-count-clause-known
returns-then-own-count-clause-known c =
    (near-made c.args.place c.args.market.now c.args.cmd.now c.args.reply.now c.args.now.now c.args.kept.now c.args.rows.now c.args.known.now c.loop-index.rows c.loop-index.known c.loop-index.index c.args.count
    c.loop-index.invariant (omega (arith, c.place_of-own.ensures.within)) c.requires.left).1

pub returns-then-own-count-clause-rest : goal.returns-then-own-count-clause-rest
returns-then-own-count-clause-rest c =
    let all : c.args.count ≡ c.loop-index.index = omega (arith, c.place_of-own.ensures.within) in
    subst (λ n. drop n c.loop-index.rows ≡ drop n c.args.rows.now) (sym all) c.loop-index.invariant.rest

pub loop-index-2-init : goal.loop-index-2-init
loop-index-2-init c =
    let own = c.place_of-own.result in
    let at : c.loop-index.index ≡ own = omega arith in
    let row : Row = get_or c.loop-index.rows own c.index-rows-own.result in
    let known : Known = get_or c.loop-index.known own nothing_known in
    let before : Paired (near_row c.args.place c.args.market.now c.args.cmd.now c.args.reply.now c.args.now.now c.args.kept.now) c.args.rows.now c.args.known.now c.loop-index.rows c.loop-index.known own =
    subst (Paired (near_row c.args.place c.args.market.now c.args.cmd.now c.args.reply.now c.args.now.now c.args.kept.now) c.args.rows.now c.args.known.now c.loop-index.rows c.loop-index.known) at c.loop-index.invariant in
    let made : (c.retold_row.new.row, c.retold_row.new.known) ≡ near_row c.args.place c.args.market.now c.args.cmd.now c.args.reply.now c.args.now.now c.args.kept.now row known =
    c.retold_row.ensures
    ∙ sym (own-told c.args.place c.args.market.now c.args.cmd.now c.args.reply.now c.args.now.now c.args.kept.now c.args.first c.args.about own c.args.rows.now c.loop-index.rows known c.requires.numbered
    (c.place_of-own.ensures.there (omega (arith, c.place_of-own.ensures.within, c.if-own-count.false))) c.requires.about c.index-rows-own.result (omega (arith, before.count, c.requires.within, c.place_of-own.ensures.within, c.if-own-count.false)) before.rest) in
    paired-more (near_row c.args.place c.args.market.now c.args.cmd.now c.args.reply.now c.args.now.now c.args.kept.now) c.args.rows.now c.args.known.now c.loop-index.rows c.loop-index.known own row
    c.retold_row.new.row known c.retold_row.new.known before (omega (arith, before.count, c.requires.within, c.place_of-own.ensures.within)) (get-any c.loop-index.rows own c.index-rows-own.result row (omega (arith, before.count, c.requires.within, c.place_of-own.ensures.within)))
    (get-any c.loop-index.known own nothing_known known (omega (arith, before.same, before.count, c.requires.within, c.place_of-own.ensures.within))) made

pub loop-index-2-preserved : goal.loop-index-2-preserved
loop-index-2-preserved c =
    let i = c.loop-index-2.index in
    let row : Row = get_or c.loop-index-2.rows i c.index-rows-index-in-loop-index-2.result in
    let known : Known = get_or c.loop-index-2.known i nothing_known in
    let left : AreLeft c.args.count (Some c.args.about) c.args.rows.now = subst (λ (o : Option ℕ). AreLeft c.args.count o c.args.rows.now) (sym c.requires.about) c.requires.left in
    let other : is_just row.arena (subject c.args.cmd.now c.args.reply.now) ≡ false =
    ap (is_just row.arena) (sym c.requires.about)
    ∙ still-apart c.args.first c.args.about c.place_of-own.result c.args.count c.args.rows.now c.loop-index-2.rows c.place_of-own.ensures.alone c.requires.numbered left i c.index-rows-index-in-loop-index-2.result
    (omega (arith, c.requires.within, c.place_of-own.ensures.within)) (λ e. omega (arith, e)) c.loop-index-2.invariant.rest in
    paired-more (near_row c.args.place c.args.market.now c.args.cmd.now c.args.reply.now c.args.now.now c.args.kept.now) c.args.rows.now c.args.known.now c.loop-index-2.rows c.loop-index-2.known i row
    c.level_row-in-loop-index-2.new.row known c.level_row-in-loop-index-2.new.known c.loop-index-2.invariant (omega (arith, c.loop-index-2.invariant.count, c.requires.within, c.place_of-own.ensures.within)) (get-any c.loop-index-2.rows i c.index-rows-index-in-loop-index-2.result row (omega (arith, c.loop-index-2.invariant.count, c.requires.within, c.place_of-own.ensures.within)))
    (get-any c.loop-index-2.known i nothing_known known (omega (arith, c.loop-index-2.invariant.same, c.loop-index-2.invariant.count, c.requires.within, c.place_of-own.ensures.within)))
    (c.level_row-in-loop-index-2.ensures c.args.cmd.now c.args.reply.now c.args.kept.now c.requires.alone other)

pub returns-clause-rows : goal.returns-clause-rows
returns-clause-rows c =
    (near-made c.args.place c.args.market.now c.args.cmd.now c.args.reply.now c.args.now.now c.args.kept.now c.args.rows.now c.args.known.now c.loop-index-2.rows c.loop-index-2.known c.loop-index-2.index c.args.count
    c.loop-index-2.invariant (omega (arith, c.place_of-own.ensures.within)) c.requires.left).0

pub returns-clause-known : goal.returns-clause-known
returns-clause-known c =
    (near-made c.args.place c.args.market.now c.args.cmd.now c.args.reply.now c.args.now.now c.args.kept.now c.args.rows.now c.args.known.now c.loop-index-2.rows c.loop-index-2.known c.loop-index-2.index c.args.count
    c.loop-index-2.invariant (omega (arith, c.place_of-own.ensures.within)) c.requires.left).1

pub returns-clause-rest : goal.returns-clause-rest
returns-clause-rest c =
    let all : c.args.count ≡ c.loop-index-2.index = omega (arith, c.place_of-own.ensures.within) in
    subst (λ n. drop n c.loop-index-2.rows ≡ drop n c.args.rows.now) (sym all) c.loop-index-2.invariant.rest
