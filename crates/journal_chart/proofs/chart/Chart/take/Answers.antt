use Rattle.std.proofs.Common.{◌≡◌, ◌++◌, [], ◌∷◌, sym, ap, ◌∙◌}
use Rattle.journal_chart.specs.Numbers.{Charted, chart_of}
use Rattle.journal_chart.specs.Steps.{taken_chart}
use Rattle.journal_chart.proofs.Charts.{chart-more, chart-step}
use Rattle.journal_chart.proofs.chart.Chart.take.Goals as goal

pub returns : goal.returns
returns c =
    record {
      exact = λ arenas moments s seat answered is.
          let most : c.self.inside.columns ≡ c.args.self.now.most = ap (λ (d : Charted). d.most) c.self.view_is in
          chart-more c.self.inside.columns c.self.inside.moments c.self.inside.width c.make_room.new.width c.place_of-place.result
          c.self.inside.lines c.make_room.new.lines c.take.new.self arenas moments s c.args.market.now seat c.args.cmd.now c.args.reply.now
          c.self.invariant.0 c.self.invariant.1 c.make_room.ensures.width c.make_room.ensures.lines c.place_of-place.ensures.exact c.take.ensures answered
          (c.self.view_is ∙ is ∙ ap (λ m. chart_of m arenas moments s) (sym most))
          ∙ ap (λ m. chart_of m arenas (moments ++ c.args.market.now ∷ []) c.args.market.now) most;
      step =
          chart-step c.self.inside.columns c.self.inside.moments c.self.inside.width c.make_room.new.width c.place_of-place.result
          c.self.inside.lines c.make_room.new.lines c.take.new.self c.args.market.now c.args.cmd.now c.args.reply.now
          c.self.invariant.1 c.make_room.ensures.width c.make_room.ensures.lines c.place_of-place.ensures.exact c.take.ensures
          ∙ ap (taken_chart c.args.market.now c.args.cmd.now c.args.reply.now) c.self.view_is;
    }
