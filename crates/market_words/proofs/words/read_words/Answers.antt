use Rattle.std.proofs.Common.{◌≡◌, ◌∙◌, sym, ap, subst, map, Some, option_map}
use Rattle.clap.specs.Words.{found_of, is_simple, rows_of, subcommand_of, subcommand_rows_of}
use Rattle.std.proofs.lemmas.Result.{err_from_is_err_and}
use Rattle.clap.specs.Kinds.{HasKind}
use Rattle.clap.specs.Faults.{fault_of, is_simple_and_free}
use Rattle.market_words.specs.Passed.{NamesSubcommand}
use Rattle.market_words.proofs.Commands.{market_is_free, market_is_simple, subcommand_found}
use Rattle.market_words.proofs.Entered.{entered_one}
use Rattle.market_words.proofs.words.read_words.Goals as goal

pub returns : goal.returns
returns c =
    let is = c.in_ok-market_command.ensures in
    let words = map (λ s. s.now) c.args.words.now in
    let rows = c.in_ok-matches.ensures.matches (ap is_simple is ∙ market_is_simple) in
    let fault = c.in_ok-matches.ensures.kinds (ap is_simple_and_free is ∙ market_is_free) in
    let met : subcommand_rows_of c.in_ok-matches.matches ≡ Some (c.in-Some.name.now, rows_of (found_of c.in-Some.found.now)) =
    subcommand_found _ _ _ _ _ c.in-Some.ensures.name c.in-Some.ensures.rows in
    record {
      choice = record {
        subcommand = (c.in-Some.name.now, rows_of (found_of c.in-Some.found.now));
        found = ap (λ a. subcommand_of a words) (sym is) ∙ sym rows.1 ∙ met;
        chosen = c.in_ok-choice.ensures;
      };
      fault = ap (λ a. fault_of a words) (sym is) ∙ fault;
    }

pub choice_of-requires : goal.choice_of-requires
choice_of-requires c =
    let is = c.in_ok-market_command.ensures in
    let words = map (λ s. s.now) c.args.words.now in
    let rows = c.in_ok-matches.ensures.matches (ap is_simple is ∙ market_is_simple) in
    let fault = c.in_ok-matches.ensures.kinds (ap is_simple_and_free is ∙ market_is_free) in
    let met : subcommand_rows_of c.in_ok-matches.matches ≡ Some (c.in-Some.name.now, rows_of (found_of c.in-Some.found.now)) =
    subcommand_found _ _ _ _ _ c.in-Some.ensures.name c.in-Some.ensures.rows in
    let run = entered_one words (ap (λ a. fault_of a words) (sym is) ∙ fault) in
    let both : Some run.0 ≡ Some (c.in-Some.name.now, rows_of (found_of c.in-Some.found.now)) =
    sym run.1 ∙ (ap (λ a. subcommand_of a words) (sym is) ∙ sym rows.1 ∙ met) in
    let same : run.0 ≡ (c.in-Some.name.now, rows_of (found_of c.in-Some.found.now)) = cc in
    subst NamesSubcommand same run.2

pub unreachable-requires : goal.unreachable-requires
unreachable-requires c =
    let is = c.in_ok-market_command.ensures in
    let words = map (λ s. s.now) c.args.words.now in
    let rows = c.in_ok-matches.ensures.matches (ap is_simple is ∙ market_is_simple) in
    let fault = c.in_ok-matches.ensures.kinds (ap is_simple_and_free is ∙ market_is_free) in
    let run = entered_one words (ap (λ a. fault_of a words) (sym is) ∙ fault) in
    let none = rw c.in_default.is at c.subcommand.ensures.rows in
    let some = rows.1 ∙ ap (λ a. subcommand_of a words) is ∙ run.1 in
    let bad = none ∙ ap (option_map (λ p. p.1)) some in
    cc

pub returns-in_err-matches-clause-fault : goal.returns-in_err-matches-clause-fault
returns-in_err-matches-clause-fault c =
    let is = c.in_ok-market_command.ensures in
    let words = map (λ s. s.now) c.args.words.now in
    let kinds = c.in_err-matches.ensures.kinds (ap is_simple_and_free is ∙ market_is_free) in
    let fault = subst (λ a. HasKind (fault_of a words) c.in_err-matches.field-0.0) is kinds in
    let p = err_from_is_err_and c.from_residual-in_err-matches.result c.from_residual-in_err-matches.ensures.1 in
    rw (p.1, p.2) fault
