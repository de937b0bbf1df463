use Rattle.market_texts.proofs.Written.{extends_trans}
use Rattle.market_texts.proofs.writing.push_lists.Goals as goal

pub returns-clause-grows : goal.returns-clause-grows
returns-clause-grows c =
    extends_trans (extends_trans c.push_text.ensures.grows c.push_counts.ensures.grows)
    (extends_trans c.push_text-2.ensures.grows c.push_counts-2.ensures.grows)

pub returns-in_err-push_counts-clause-grows : goal.returns-in_err-push_counts-clause-grows
returns-in_err-push_counts-clause-grows c = extends_trans c.push_text.ensures.grows c.push_counts.ensures.grows

pub returns-in_err-push_text-2-clause-grows : goal.returns-in_err-push_text-2-clause-grows
returns-in_err-push_text-2-clause-grows c = extends_trans c.push_text.ensures.grows (extends_trans c.push_counts.ensures.grows c.push_text-2.ensures.grows)
