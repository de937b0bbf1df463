use Rattle.std.proofs.Common.{◌∙◌, ap, subst}
use Rattle.std.proofs.lemmas.Result.{IfOk-weaker}
use Rattle.std.specs.Prelude.{IfOk}
use Rattle.std.specs.Result.{result_from_control_flow}
use Rattle.market_words.specs.Command.{IsCommandOf}
use Rattle.market_words.proofs.Commands.{command_with_subcommand}
use Rattle.market_words.proofs.words.with_made.Goals as goal

pub returns : goal.returns
returns c = λ app below is made.
    let given = c.branch-subcommand.ensures ∙ ap result_from_control_flow c.in_ok-subcommand.is in
    let sub = subst (λ r. IfOk r (λ sub. IsCommandOf sub below)) given made in
    IfOk-weaker c.subcommand.result _ _ (λ r adds. command_with_subcommand _ _ r _ _ adds sub is) c.subcommand.ensures
