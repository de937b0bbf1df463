use Rattle.std.proofs.Common.{◌≡◌, ◌++◌, ◌+◌, List, length, ap, sym, subst, ◌∙◌}
use Rattle.std.proofs.lemmas.List.{length-take-le}
use Rattle.market_types.specs.declared.reply.Entry.{Entry}
use Rattle.market_lock.specs.Seen.{OfPass}
use Rattle.office_crew.specs.Written.{OfScribe, HasWrittenAll}
use Rattle.office_crew.proofs.Alone.{others_none, begins_there, with_part}
use Rattle.office_crew.proofs.Fronts.{still-written, now-written}
use Rattle.office_crew.proofs.scribe.Scribe.cut.Goals as goal

pub returns-clause-written : goal.returns-clause-written
returns-clause-written g c =
    let part : List Entry = c.in-Some.part.entries.items in
    let end = c.in-Some.ensures.part in
    let at : c.in-Some.part.from ≡ c.self.inside.next = c.if-part-self.false in
    let len : c.len.result ≡ length part = c.len.ensures ∙ c.in-Some.part.entries.ok.0 in
    now-written c.self.inside.next c.self.inside.pass.seen c.cut.new.pass.seen end.0 part c.in-Some.ensures.looks.0 c.self.invariant end.1 (end.2 ∙ at) (c.in-Some.part.from + c.len.result) (λ i. at i + len i)
    ∙ ap (λ (s : OfScribe). s.written ++ part) c.self.view_is

-- none was cut
pub returns-in_default-clause-still_all : goal.returns-in_default-clause-still_all
returns-in_default-clause-still_all g c = λ all alone.
    let p : OfPass = c.self.inside.pass in
    let q : OfPass = c.cut.new.pass in
    let had = subst HasWrittenAll (sym c.self.view_is) all in
    still-written c.self.inside.next p.seen q.seen c.in_default.ensures.looks.0 c.self.invariant ∙ (had ∙ sym (others_none p q c.in_default.ensures.same.2 alone c.in_default.ensures.cuts))

-- the part begins where the last one of the scribe ended
pub returns-then-part-self-clause-alone : goal.returns-then-part-self-clause-alone
returns-then-part-self-clause-alone g c = λ all alone.
    let p : OfPass = c.self.inside.pass in
    let had = subst HasWrittenAll (sym c.self.view_is) all in
    let at = begins_there p c.cut.new.pass c.in-Some.ensures.same.2 alone c.in-Some.part c.in-Some.ensures.cuts in
    absurd (c.if-part-self.true (at ∙ (ap length (sym had) ∙ length-take-le c.self.inside.next p.seen c.self.invariant)))

pub returns-then-part-self-clause-still_all : goal.returns-then-part-self-clause-still_all
returns-then-part-self-clause-still_all g c = λ all alone.
    let p : OfPass = c.self.inside.pass in
    let had = subst HasWrittenAll (sym c.self.view_is) all in
    let at = begins_there p c.cut.new.pass c.in-Some.ensures.same.2 alone c.in-Some.part c.in-Some.ensures.cuts in
    absurd (c.if-part-self.true (at ∙ (ap length (sym had) ∙ length-take-le c.self.inside.next p.seen c.self.invariant)))

pub returns-clause-still_all : goal.returns-clause-still_all
returns-clause-still_all g c = λ all alone.
    let part : List Entry = c.in-Some.part.entries.items in
    let end = c.in-Some.ensures.part in
    let at : c.in-Some.part.from ≡ c.self.inside.next = c.if-part-self.false in
    let len : c.len.result ≡ length part = c.len.ensures ∙ c.in-Some.part.entries.ok.0 in
    let had = subst HasWrittenAll (sym c.self.view_is) all in
    now-written c.self.inside.next c.self.inside.pass.seen c.cut.new.pass.seen end.0 part c.in-Some.ensures.looks.0 c.self.invariant end.1 (end.2 ∙ at) (c.in-Some.part.from + c.len.result) (λ i. at i + len i)
    ∙ (ap (λ l. l ++ part) had ∙ sym (with_part c.self.inside.pass c.cut.new.pass c.in-Some.ensures.same.2 alone c.in-Some.part c.in-Some.ensures.cuts))
