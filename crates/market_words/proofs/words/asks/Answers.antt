use Rattle.std.proofs.Common.{◌≡◌, ◌∙◌, ap, codes, false, bytes_eq, List, ℕ, Option, option_map}
use Rattle.std.specs.Option.{option_map_or}
use Rattle.clap.proofs.WalkLemmas.{first_value-rows}
use Rattle.clap.specs.Words.{first_of, found_of, rows_of}
use Rattle.market_words.proofs.words.asks.Goals as goal

pub returns-in_default : goal.returns-in_default
returns-in_default c =
    let has : option_map (λ s. s.now) c.get_str.result ≡ first_of c.args.name.now (rows_of (found_of c.args.matches.now)) =
    c.get_str.ensures ∙ first_value-rows (found_of c.args.matches.now) c.args.name.now in
    let none = rw c.in_default.is at has in
    ap (λ (o : Option (List ℕ)). option_map_or (λ word. bytes_eq word (codes "true")) o false) none

pub returns : goal.returns
returns c =
    let has : option_map (λ s. s.now) c.get_str.result ≡ first_of c.args.name.now (rows_of (found_of c.args.matches.now)) =
    c.get_str.ensures ∙ first_value-rows (found_of c.args.matches.now) c.args.name.now in
    let some = rw c.in-Some.is at has in
    c.eq.ensures ∙ ap (λ (o : Option (List ℕ)). option_map_or (λ word. bytes_eq word (codes "true")) o false) some
