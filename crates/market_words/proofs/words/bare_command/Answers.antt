use Rattle.std.proofs.Common.{codes, refl, true}
use Rattle.clap.specs.Simple.{new_app, on_top}
use Rattle.market_words.specs.Command.{IsCommandOf}
use Rattle.market_words.proofs.Commands.{command_with_help_asked, command_with_setting, command_with_subcommand_asked}
use Rattle.market_words.proofs.words.bare_command.Goals as goal

pub returns : goal.returns
returns c =
    let start : IsCommandOf c.new.result (new_app (codes "market")) = record { is = c.new.ensures.app; local = c.new.ensures.local } in
    let about = command_with_setting _ _ _ (λ a. a) _ c.about.ensures refl refl start in
    let version = command_with_setting _ _ _ (on_top (λ s. record s { has_version = true })) _ c.version.ensures refl refl about in
    let after = command_with_setting _ _ _ (λ a. a) _ c.after_help.ensures refl refl version in
    let help = command_with_help_asked _ _ _ c.arg_required_else_help.ensures after in
    command_with_subcommand_asked _ _ _ c.subcommand_required.ensures help
