use Rattle.std.proofs.lemmas.Result.{IfOk-weaker}
use Rattle.market_words.proofs.words.market_command.Goals as goal

pub returns : goal.returns
returns c =
    let run = c.in_ok-command.ensures _ _ c.bare_command.ensures c.run_command.ensures in
    let explain = c.in_ok-command-2.ensures _ _ run c.explain_command.ensures in
    let replay = c.in_ok-command-3.ensures _ _ explain c.replay_command.ensures in
    let drive = c.in_ok-command-4.ensures _ _ replay c.drive_command.ensures in
    IfOk-weaker c.with_made-5.result _ _ (λ r is. is.is) (c.with_made-5.ensures _ _ drive c.chart_command.ensures)
