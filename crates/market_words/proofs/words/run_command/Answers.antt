use Rattle.market_words.proofs.words.run_command.Goals as goal

pub returns : goal.returns
returns c = c.with_progress.ensures _ (c.with_flag-command.ensures _ c.script_command-command.ensures)
