use Rattle.std.proofs.Common.{◌≡◌, List, length, ◌+◌, false, true, nat_le, nat_lt, refl, sym, ap, ◌∙◌, subst, arith}
use Rattle.std.proofs.lemmas.Bool.Decides.{nat_tests}
use Rattle.std.proofs.lemmas.List.{length-map}
use Rattle.journal_chart.specs.Rows.{Row}
use Rattle.journal_chart.specs.Numbers.{Charted}
use Rattle.journal_chart.specs.Steps.{Followed, Making, made_more, next_chart, passed_chart}
use Rattle.journal_chart.specs.Numbering.{AreNumbered, arenas_of}
use Rattle.journal_chart.proofs.Arenas.{next-arenas, numbered-still, passed-arenas}
use Rattle.journal_chart.proofs.Next.{next-more}
use Rattle.journal_chart.proofs.journal.MakingWatcher.see.Goals as goal

pub invariant_of-self : goal.invariant_of-self
invariant_of-self c =
    let was : List Row = c.self.inside.chart.lines.rows in
    let moments : c.pass.new.self.moments ≡ c.self.inside.chart.moments = ap (λ (d : Charted). d.moments) c.pass.ensures.step in
    let rows : length c.pass.new.self.lines.rows ≡ length was = ap (λ (d : Charted). length d.lines.rows) c.pass.ensures.step ∙ length-map was _ in (
      omega (arith, moments, c.self.invariant.0),
      (
        c.self.invariant.1.0 ∙ sym rows,
        numbered-still c.self.inside.notes.first was c.pass.new.self.lines.rows
            (ap (λ (d : Charted). arenas_of d.lines.rows) c.pass.ensures.step ∙ passed-arenas c.args.cmd.now c.args.reply.now was) c.self.invariant.1.1,
      ),
    )

pub invariant_of-self-2 : goal.invariant_of-self-2
invariant_of-self-2 c =
    let inside = c.self.inside in
    let from : Followed = record { chart = inside.chart; known = inside.notes.known.items; shares = inside.notes.shares } in
    let more = next-more c.args.market.now c.args.cmd.now c.args.reply.now from in
    let moments = ap (λ (d : Charted). d.moments) c.take_next.ensures.chart ∙ more.moments in
    let rows = ap (λ (d : Charted). length d.lines.rows) c.take_next.ensures.chart ∙ more.rows in (
      omega (arith, moments, c.self.invariant.0),
      (
        c.take_next.ensures.each ∙ c.self.invariant.1.0 ∙ sym rows,
        subst (λ first. AreNumbered first c.take_next.new.self.lines.rows) (sym c.take_next.ensures.first)
            (numbered-still inside.notes.first inside.chart.lines.rows c.take_next.new.self.lines.rows
            (ap (λ (d : Charted). arenas_of d.lines.rows) c.take_next.ensures.chart ∙ next-arenas c.args.market.now c.args.cmd.now c.args.reply.now from) c.self.invariant.1.1),
      ),
    )

pub returns : goal.returns
returns c =
    let s = c.args.market.now in
    let cmd = c.args.cmd.now in
    let reply = c.args.reply.now in
    let inside = c.self.inside in
    let followed : record { chart = c.take_next.new.self; known = c.take_next.new.notes.known.items; shares = c.take_next.new.notes.shares }
    ≡ next_chart s cmd reply (record { chart = inside.chart; known = inside.notes.known.items; shares = inside.notes.shares }) =
    λ i. record { chart = c.take_next.ensures.chart i; known = c.take_next.ensures.known i; shares = c.take_next.ensures.shares i } in
    let open_ : nat_le inside.to inside.seen ≡ false = let e = c.if-self.false in grind (arith, nat_tests) in
    let late : nat_lt inside.seen inside.before ≡ false = let e = c.if-self-2.false in grind (arith, nat_tests) in
    let made : record { before = inside.before; to = inside.to; seen = inside.seen + 1; followed = next_chart s cmd reply (record { chart = inside.chart; known = inside.notes.known.items; shares = inside.notes.shares }) }
    ≡ made_more (record { before = inside.before; to = inside.to; seen = inside.seen; followed = record { chart = inside.chart; known = inside.notes.known.items; shares = inside.notes.shares } }) s cmd reply =
    rw (open_, late) refl in
    (λ i. record { before = inside.before; to = inside.to; seen = inside.seen + 1; followed = followed i })
    ∙ made
    ∙ ap (λ (m : Making). made_more m s cmd reply) c.self.view_is

pub returns-then-self : goal.returns-then-self
returns-then-self c =
    let inside = c.self.inside in
    let was : Making = record { before = inside.before; to = inside.to; seen = inside.seen; followed = record { chart = inside.chart; known = inside.notes.known.items; shares = inside.notes.shares } } in
    let past : nat_le inside.to inside.seen ≡ true = let e = c.if-self.true in grind (arith, nat_tests) in
    let made : was ≡ made_more was c.args.market.now c.args.cmd.now c.args.reply.now = rw (past) refl in
    sym c.self.view_is ∙ made ∙ ap (λ (m : Making). made_more m c.args.market.now c.args.cmd.now c.args.reply.now) c.self.view_is

pub returns-then-self-2 : goal.returns-then-self-2
returns-then-self-2 c =
    let s = c.args.market.now in
    let cmd = c.args.cmd.now in
    let reply = c.args.reply.now in
    let inside = c.self.inside in
    let was : Making = record { before = inside.before; to = inside.to; seen = inside.seen; followed = record { chart = inside.chart; known = inside.notes.known.items; shares = inside.notes.shares } } in
    let open_ : nat_le inside.to inside.seen ≡ false = let e = c.if-self.false in grind (arith, nat_tests) in
    let early : nat_lt inside.seen inside.before ≡ true = let e = c.if-self-2.true in grind (arith, nat_tests) in
    let made : record { before = inside.before; to = inside.to; seen = inside.seen + 1; followed = record { chart = passed_chart cmd reply inside.chart; known = inside.notes.known.items; shares = inside.notes.shares } }
    ≡ made_more was s cmd reply =
    rw (open_, early) refl in
    (λ i. record { before = inside.before; to = inside.to; seen = inside.seen + 1; followed = record { chart = c.pass.ensures.step i; known = inside.notes.known.items; shares = inside.notes.shares } })
    ∙ made
    ∙ ap (λ (m : Making). made_more m s cmd reply) c.self.view_is
