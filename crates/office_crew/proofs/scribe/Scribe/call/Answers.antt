use Rattle.std.proofs.Common.{◌∙◌, sym, subst}
use Rattle.market_lock.specs.Seen.{OfPass}
use Rattle.office_crew.specs.Written.{HasWrittenAll}
use Rattle.office_crew.proofs.Alone.{others_none, others_by, seen_by}
use Rattle.office_crew.proofs.Fronts.{still-written}
use Rattle.office_crew.proofs.scribe.Scribe.call.Goals as goal

pub returns-clause-still_all : goal.returns-clause-still_all
returns-clause-still_all g c = λ all alone.
    let p : OfPass = c.self.inside.pass in
    let q : OfPass = c.call.new.pass in
    let n = c.self.inside.next in
    let had = subst HasWrittenAll (sym c.self.view_is) all in
    let seen = seen_by p q c.args.cmd c.call.result c.call.ensures.answered c.call.ensures.failed in
    let others = others_by p q c.args.cmd c.call.result c.call.ensures.answered c.call.ensures.failed in
    still-written n p.seen q.seen seen c.self.invariant ∙ (had ∙ sym (others_none p q c.call.ensures.same.2 alone others))
