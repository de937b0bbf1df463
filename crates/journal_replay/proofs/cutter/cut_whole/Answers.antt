use Rattle.std.proofs.Common.{rules, ◌≡◌, ◌+◌, ◌∷◌, ◌∙◌, [], Some, ap, decimal, length, sym, true}
use Rattle.json.specs.Lex.{token}
use Rattle.json.specs.Token.{number as number_token}
use Rattle.json.specs.Word.{ends_word}
use Rattle.market_texts.specs.Fields.{front_digits}
use Rattle.market_texts.specs.Reading.{number, number_below}
use Rattle.market_texts.proofs.Numbers.{are_front}
use Rattle.journal_replay.proofs.CutLines.{cut-digits, cut-then}
use Rattle.journal_replay.proofs.cutter.cut_whole.Goals as goal

pub returns-clause-cut : goal.returns-clause-cut
unfolding number
returns-clause-cut c =
    let text = c.skip_space.result.now in
    let digits = front_digits text in
    let n = c.in_ok-number.number in
    let rest = c.in_ok-number.rest.now in
    let ends : ends_word rest ≡ true = search rules in
    let reads : Some n ≡ number digits = c.in_ok-number.ensures.number ∙ ap (λ most. number_below (most + 1) digits) c.from.ensures in
    cut-then c.args.text.now text rest [] (token (number_token (decimal n)) ∷ []) c.skip_space.ensures
    (cut-digits text digits rest (length digits) n (sym (are_front text).taken) (c.in_ok-number.ensures.rest ∙ sym (are_front text).left) reads ends)
