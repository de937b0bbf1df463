use Rattle.std.proofs.Common.{◌++◌, codes, decimal, ap, ◌∙◌, to_z-of_z}
use Rattle.std.specs.Fmt.{signed_decimal}
use Rattle.market_texts.proofs.Written.{extends_trans, in-three}
use Rattle.market_texts.proofs.writing.push_request.Goals as goal

pub returns-clause-ok : goal.returns-clause-ok
returns-clause-ok c =
    let whole = in-three c.args.out.now.items c.push_part.new.out.items c.push_signed.new.out.items
    (codes "request " ++ decimal c.args.arena) (codes " " ++ signed_decimal c.args.workers) (codes " " ++ signed_decimal c.args.mandatory)
    c.in_ok-push_part.ensures.ok
    (c.in_ok-push_signed.ensures.ok ∙ ap (λ n. c.push_part.new.out.items ++ (codes " " ++ signed_decimal n)) (to_z-of_z c.ranges.workers)) in
    rw (← whole, ← to_z-of_z c.ranges.mandatory) c.push_signed-2.ensures.ok

pub returns-in_err-push_signed-clause-grows : goal.returns-in_err-push_signed-clause-grows
returns-in_err-push_signed-clause-grows c = extends_trans c.push_part.ensures.grows c.push_signed.ensures.grows

pub returns-clause-grows : goal.returns-clause-grows
returns-clause-grows c = extends_trans c.push_part.ensures.grows (extends_trans c.push_signed.ensures.grows c.push_signed-2.ensures.grows)
