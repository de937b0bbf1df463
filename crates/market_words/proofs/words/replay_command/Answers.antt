use Rattle.std.proofs.Common.{codes, refl}
use Rattle.clap.specs.Simple.{new_app}
use Rattle.market_words.specs.Command.{IsCommandOf}
use Rattle.market_words.proofs.Commands.{command_with_setting}
use Rattle.market_words.proofs.words.replay_command.Goals as goal

pub returns : goal.returns
returns c =
    let start : IsCommandOf c.new.result (new_app (codes "replay")) = record { is = c.new.ensures.app; local = c.new.ensures.local } in
    let about = command_with_setting _ _ _ (λ a. a) _ c.about.ensures refl refl start in
    let help = command_with_setting _ _ _ (λ a. a) _ c.after_help-command.ensures refl refl about in
    c.with_progress.ensures _ help
