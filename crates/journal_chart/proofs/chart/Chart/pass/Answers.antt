use Rattle.std.proofs.Common.{◌≡◌, ap, ◌∙◌}
use Rattle.journal_chart.specs.Steps.{passed_chart}
use Rattle.journal_chart.proofs.Charts.{charted, chart-passed}
use Rattle.journal_chart.proofs.chart.Chart.pass.Goals as goal

pub returns : goal.returns
returns c =
    let is : charted c.self.inside.columns c.self.inside.moments c.pass.new.self ≡ passed_chart c.args.cmd.now c.args.reply.now c.args.self.now =
    (λ i. charted c.self.inside.columns c.self.inside.moments (c.pass.ensures i)) ∙ ap (passed_chart c.args.cmd.now c.args.reply.now) c.self.view_is in
    record {
      exact = λ arenas moments s t seat answered was.
          is ∙ ap (passed_chart c.args.cmd.now c.args.reply.now) was ∙ chart-passed c.args.self.now.most arenas moments s t seat c.args.cmd.now c.args.reply.now answered;
      step = is;
    }
