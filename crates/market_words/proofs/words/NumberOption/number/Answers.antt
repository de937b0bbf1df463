use Rattle.std.proofs.Common.{◌≡◌, ◌∙◌, ◌<◌, ◌^◌, ap, sym, subst, List, ℕ, Some, option_map, arith, pos}
use Rattle.clap.proofs.WalkLemmas.{first_value-rows}
use Rattle.clap.specs.Words.{IsSignedIn, found_of}
use Rattle.market_words.proofs.Numbers.{range_parses}
use Rattle.market_words.proofs.words.NumberOption.number.Goals as goal

pub unreachable-requires : goal.unreachable-requires
unreachable-requires c =
    let has : option_map (λ s. s.now) c.get_str.result ≡ Some c.requires.word =
    c.get_str.ensures ∙ first_value-rows (found_of c.args.matches.now) c.args.self.name.now ∙ c.requires.found in
    let bad = rw c.in_default.is at has in
    cc

pub unreachable-requires-in_default-parse : goal.unreachable-requires-in_default-parse
unreachable-requires-in_default-parse c =
    let has : option_map (λ s. s.now) c.get_str.result ≡ Some c.requires.word =
    c.get_str.ensures ∙ first_value-rows (found_of c.args.matches.now) c.args.self.name.now ∙ c.requires.found in
    let same : c.in-Some.word.now ≡ c.requires.word = cc (rw c.in-Some.is at has) in
    let fits : c.args.self.high < 2 ^ 32 = omega arith in
    let read = range_parses c.args.self.high c.in-Some.word.now c.parse.result fits
    (subst (λ (t : List ℕ). IsSignedIn (pos 1) (pos c.args.self.high) t) (sym same) c.requires.within) c.parse.ensures.value.0 in
    let bad = read.1 in
    cc (c.in_default-parse.is, bad)

pub returns : goal.returns
returns c =
    let has : option_map (λ s. s.now) c.get_str.result ≡ Some c.requires.word =
    c.get_str.ensures ∙ first_value-rows (found_of c.args.matches.now) c.args.self.name.now ∙ c.requires.found in
    let same : c.in-Some.word.now ≡ c.requires.word = cc (rw c.in-Some.is at has) in
    let fits : c.args.self.high < 2 ^ 32 = omega arith in
    let read = range_parses c.args.self.high c.in-Some.word.now c.parse.result fits
    (subst (λ (t : List ℕ). IsSignedIn (pos 1) (pos c.args.self.high) t) (sym same) c.requires.within) c.parse.ensures.value.0 in
    let is : c.in-Ok.number ≡ read.0 = cc (c.in-Ok.is, read.1) in
    record {
      word = c.in-Some.word.now;
      found = c.requires.found ∙ ap Some (sym same);
      number = c.in-Ok.ensures.value.0;
      least = rw is read.2;
      most = rw is read.3;
    }
