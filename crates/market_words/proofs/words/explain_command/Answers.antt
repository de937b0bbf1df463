use Rattle.market_words.proofs.words.explain_command.Goals as goal

pub returns : goal.returns
returns c = c.with_progress.ensures _ c.script_command-command.ensures
