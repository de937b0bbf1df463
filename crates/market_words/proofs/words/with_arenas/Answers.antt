use Rattle.std.proofs.Common.{◌∙◌, ap, subst}
use Rattle.std.proofs.lemmas.Result.{IfOk-weaker}
use Rattle.std.specs.Prelude.{IfOk}
use Rattle.std.specs.Result.{result_from_control_flow}
use Rattle.market_words.specs.Command.{IsCommandOf}
use Rattle.market_words.proofs.Commands.{command_with_arg}
use Rattle.market_words.proofs.words.with_arenas.Goals as goal

pub returns : goal.returns
returns c = λ app made.
    let given = c.branch-command.ensures ∙ ap result_from_control_flow c.in_ok-command.is in
    let is = subst (λ r. IfOk r (λ d. IsCommandOf d app)) given made in
    IfOk-weaker c.arg.result _ _ (λ r adds. command_with_arg _ r _ _ _ adds c.arena_arg.ensures.rule c.arena_arg.ensures.global is) c.arg.ensures
