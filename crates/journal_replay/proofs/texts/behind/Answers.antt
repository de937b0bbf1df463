use Rattle.std.proofs.lemmas.Bool.Decides.{Decides-eqb}
use Rattle.std.proofs.lemmas.Slice.Eq.{strip_prefix_is}
use Rattle.journal_replay.proofs.PlainTexts.{some-part}
use Rattle.journal_replay.proofs.texts.behind.Goals as goal

pub returns : goal.returns
returns c = some-part _ _ c.strip_prefix.result (strip_prefix_is Decides-eqb c.args.text.now c.args.label.now c.strip_prefix.result c.strip_prefix.ensures.cases)
