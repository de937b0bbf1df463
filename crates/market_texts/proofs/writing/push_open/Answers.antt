use Rattle.std.proofs.Common.{◌++◌, codes, decimal}
use Rattle.market_texts.proofs.Written.{extends_trans, in-three}
use Rattle.market_texts.proofs.writing.push_open.Goals as goal

pub returns-in_err-push_part-2-clause-grows : goal.returns-in_err-push_part-2-clause-grows
returns-in_err-push_part-2-clause-grows c = extends_trans c.push_part.ensures.grows c.push_part-2.ensures.grows

pub returns-clause-grows : goal.returns-clause-grows
returns-clause-grows c = extends_trans c.push_part.ensures.grows (extends_trans c.push_part-2.ensures.grows c.push_word.ensures.grows)

pub returns-clause-ok : goal.returns-clause-ok
returns-clause-ok c =
    let whole = in-three c.args.out.now.items c.push_part.new.out.items c.push_part-2.new.out.items
    (codes "open " ++ decimal c.args.slots) (codes " " ++ decimal c.args.reserved) (codes " " ++ c.args.level.now)
    c.in_ok-push_part.ensures.ok c.in_ok-push_part-2.ensures.ok in
    rw (← whole) c.push_word.ensures.ok
