use Rattle.std.proofs.Common.{refl}
use Rattle.clap.specs.Simple.{new_app}
use Rattle.market_words.specs.Command.{IsCommandOf}
use Rattle.market_words.proofs.Commands.{command_with_setting}
use Rattle.market_words.proofs.words.script_command.Goals as goal

pub returns : goal.returns
returns c =
    let start : IsCommandOf c.new.result (new_app c.args.name.now) = record { is = c.new.ensures.app; local = c.new.ensures.local } in
    let about = command_with_setting _ _ _ (λ a. a) _ c.about.ensures refl refl start in
    let help = command_with_setting _ _ _ (λ a. a) _ c.after_help.ensures refl refl about in
    let base = c.with_number-command.ensures _ help in
    let hard = c.with_number-command-2.ensures _ base in
    let seats = c.with_number-command-3.ensures _ hard in
    let levels = c.with_number-command-4.ensures _ seats in
    c.with_number.ensures _ levels
