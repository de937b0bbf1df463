use Rattle.std.proofs.Common.{◌≡◌, List, Option, codes, map, option_map, ◌∙◌, subst, arith}
use Rattle.std.proofs.lemmas.List.{length-take}
use Rattle.std.proofs.lemmas.Result.{IfOk-weaker}
use Rattle.clap.proofs.WalkLemmas.{raw_values-rows}
use Rattle.clap.specs.Words.{Text, all_of, found_of, rows_of}
use Rattle.market_words.specs.Words.{AreArenasOf, AreSpelled}
use Rattle.market_words.proofs.Spelling.{front-words, spelled-few}
use Rattle.market_words.proofs.words.arenas_in.Goals as goal

pub returns-in-Some-clause-exact : goal.returns-in-Some-clause-exact
returns-in-Some-clause-exact c =
    let found = found_of c.args.matches.now in
    let has : option_map (λ s. map (λ v. v.now) s.now) c.get_strs.result ≡ all_of (codes "arena") (rows_of found) = c.get_strs.ensures ∙ raw_values-rows found (codes "arena") in
    let some = rw c.in-Some.is at has in
    let front = front-words (λ s. s.now) c.min.result 16 c.in-Some.words.now c.min.ensures in
    IfOk-weaker c.read_arenas.result _ _ (λ arenas is. subst (λ (o : Option (List Text)). AreArenasOf o arenas.items) some (subst (λ (ws : List Text). AreSpelled ws arenas.items) front is)) c.read_arenas.ensures

pub returns-in-Some-clause-few : goal.returns-in-Some-clause-few
returns-in-Some-clause-few c =
    let front = front-words (λ s. s.now) c.min.result 16 c.in-Some.words.now c.min.ensures in
    IfOk-weaker c.read_arenas.result _ _ (λ arenas is.
    let few = spelled-few _ arenas.items (subst (λ (ws : List Text). AreSpelled ws arenas.items) front is) in
    omega (arith, few, length-take 16 (map (λ s. s.now) c.in-Some.words.now))) c.read_arenas.ensures

pub returns-in-None-clause-exact : goal.returns-in-None-clause-exact
returns-in-None-clause-exact c =
    let found = found_of c.args.matches.now in
    let has : option_map (λ s. map (λ v. v.now) s.now) c.get_strs.result ≡ all_of (codes "arena") (rows_of found) = c.get_strs.ensures ∙ raw_values-rows found (codes "arena") in
    let none = rw c.in-None.is at has in
    IfOk-weaker c.first_arenas.result _ _ (λ arenas is. subst (λ (o : Option (List Text)). AreArenasOf o arenas.items) none is) c.first_arenas.ensures
