use Rattle.std.proofs.Common.{rules, ◌≡◌, ◌++◌, ◌∷◌, [], ◌∙◌, ap, subst, take, true, arith}
use Rattle.std.proofs.lemmas.List.{take_all}
use Rattle.journal_replay.specs.Plain.{are_plain}
use Rattle.journal_replay.proofs.Inside.{inside-more, inside-plain, inside-then}
use Rattle.journal_replay.proofs.texts.undo.Goals as goal

pub loop-at-preserved : goal.loop-at-preserved
loop-at-preserved c =
    let rest = c.loop-at.rest.now in
    let at = c.loop-at.at in
    let byte = c.in_ok-byte.byte in
    let pushed : c.push.new.self.items ≡ c.extend_from_slice.new.self.items ++ byte ∷ [] = search rules in
    let held : c.extend_from_slice.new.self.items ≡ c.loop-at.room.items ++ take at rest = search rules in
    let items = pushed ∙ ap (λ xs. xs ++ byte ∷ []) held in (
      λ tail. rw items (inside-more c.args.inside.now rest c.in_ok-byte.more.now tail c.loop-at.room.items at byte (c.loop-at.invariant.0 tail) c.loop-at.invariant.2 (c.in_ok-byte.ensures.inside tail)),
      c.plain_front-at-in-loop-at.ensures.within,
      c.plain_front-at-in-loop-at.ensures.plain,
    )

pub returns : goal.returns
returns c = λ tail.
    let rest = c.loop-at.rest.now in
    let at = c.loop-at.at in
    let whole : take at rest ≡ rest = take_all at rest (omega (arith, c.loop-at-test.false)) in
    let plain : are_plain rest ≡ true = subst (λ xs. are_plain xs ≡ true) whole c.loop-at.invariant.2 in
    let pushed : c.extend_from_slice-2.new.self.items ≡ c.loop-at.room.items ++ rest = search rules in
    rw (c.as_slice.ensures.value, pushed) (
    inside-then (c.args.inside.now ++ tail) (rest ++ tail) tail c.loop-at.room.items rest (c.loop-at.invariant.0 tail) (inside-plain rest tail plain))
