use Rattle.market_texts.specs.Written.{seats_text}
use Rattle.std.proofs.Common.{◌≡◌, ◌++◌, ◌∙◌, ap, codes, decimal}
use Rattle.market_texts.specs.Texts.{view_text}
use Rattle.market_texts.proofs.Views.{view-parts}
use Rattle.market_texts.proofs.Written.{extends_trans}
use Rattle.market_texts.proofs.writing.push_view.Goals as goal

pub returns-in_err-push_text-clause-grows : goal.returns-in_err-push_text-clause-grows
returns-in_err-push_text-clause-grows c =
    extends_trans (extends_trans c.push_part.ensures.grows c.push_part-2.ensures.grows)
    (extends_trans c.push_part-3.ensures.grows c.push_text.ensures.grows)

pub returns-in_err-push_answer-clause-grows : goal.returns-in_err-push_answer-clause-grows
returns-in_err-push_answer-clause-grows c =
    extends_trans (extends_trans c.push_part.ensures.grows c.push_part-2.ensures.grows)
    (extends_trans c.push_part-3.ensures.grows (extends_trans c.push_text.ensures.grows c.push_answer.ensures.grows))

pub returns-clause-grows : goal.returns-clause-grows
returns-clause-grows c =
    extends_trans (extends_trans c.push_part.ensures.grows c.push_part-2.ensures.grows)
    (extends_trans c.push_part-3.ensures.grows (extends_trans c.push_text.ensures.grows (extends_trans c.push_answer.ensures.grows c.push_seats.ensures.grows)))

pub returns-clause-ok : goal.returns-clause-ok
returns-clause-ok c =
    let whole : c.push_answer.new.out.items ++ seats_text c.args.view.now ≡ c.args.out.now.items ++ view_text c.args.view.now =
    view-parts c.args.out.now.items c.push_part.new.out.items c.push_part-2.new.out.items c.push_part-3.new.out.items c.push_text.new.out.items c.push_answer.new.out.items c.args.view.now
    (c.in_ok-push_part.ensures.ok ∙ ap (λ n. c.args.out.now.items ++ (codes "arena " ++ decimal n)) c.get.ensures)
    c.in_ok-push_part-2.ensures.ok
    c.in_ok-push_part-3.ensures.ok
    c.in_ok-push_text.ensures.ok
    c.in_ok-push_answer.ensures.ok in
    rw (← whole) c.push_seats.ensures.ok
