use Rattle.std.proofs.Common.{◌≡◌, ◌++◌, None, Some}
use Rattle.std.proofs.lemmas.Bool.Decides.{Decides-eqb}
use Rattle.std.proofs.lemmas.Slice.Eq.{strip_prefix_is}
use Rattle.market_texts.proofs.Words.{follows-none, follows-some, other_word}
use Rattle.market_texts.proofs.field.after_word.Goals as goal

pub returns-in_err-strip_prefix-clause-none : goal.returns-in_err-strip_prefix-clause-none
returns-in_err-strip_prefix-clause-none c =
    let text = c.args.text.now in
    let word = c.args.word.now in
    rw c.from_residual.ensures (other_word word text (strip_prefix_is Decides-eqb text word None c.in_err-strip_prefix.ensures.cases))

pub returns : goal.returns
returns c =
    let text = c.args.text.now in
    let word = c.args.word.now in
    let rest = c.in_ok-strip_prefix.field-0.now in
    let begins : text ≡ word ++ rest = strip_prefix_is Decides-eqb text word (Some c.in_ok-strip_prefix.field-0) c.in_ok-strip_prefix.ensures.cases in
    record { none = follows-none word text rest c.follows.result begins c.requires c.follows.ensures; some = follows-some word text rest c.follows.result begins c.requires c.follows.ensures }
