-- A command of clap's, step by step.
use Rattle.std.proofs.Common.{◌≡◌, ◌∙◌, ◌||◌, Bool, true, false, refl, ap, ap₂, Option, Some, None, option_map}
use Rattle.clap.specs.Simple.{App, app_of, app_of_fields, is_simple, on_top, with_rule, with_subcommand}
use Rattle.clap.specs.Faults.{is_simple_and_free}
use Rattle.clap.proofs.OnLiterals.{clap_on_literals}
use Rattle.market_words.specs.Words.{market_app}
use Rattle.clap.specs.Walk.{Rule, rule_of}
use Rattle.clap.specs.Built.{AddsArg, AddsSubcommand}
use Rattle.clap.specs.declared.builder.arg.Arg.{Arg}
use Rattle.clap.specs.declared.builder.command.Command.{Command}
use Rattle.clap.specs.declared.builder.command.Command.TheOpen.{Command-F}
use Rattle.clap.specs.declared.builder.command.Command.TheViews.{out-Command}
use Rattle.market_words.specs.Command.{IsCommandOf}

-- a setting, with what the reading of words sees of it
pub command_with_setting : (old new : Command) (fields : Command-F Command) (change : App → App) (app : App) → out-Command new ≡ fields
    → app_of_fields fields ≡ change (app_of old) → fields.has_globals ≡ (out-Command old).has_globals → IsCommandOf old app → IsCommandOf new (change app)
command_with_setting old new fields change app is changed globals was = record {
  is = ap app_of_fields is ∙ changed ∙ ap change was.is;
  local = ap (λ (f : Command-F Command). f.has_globals) is ∙ globals ∙ was.local;
}

-- with no argument at all, the command answers with its help
pub command_with_help_asked : (old new : Command) (app : App) → out-Command new ≡ record (out-Command old) { arg_required_else_help = true } → IsCommandOf old app
    → IsCommandOf new (on_top (λ s. record s { arg_required_else_help = true }) app)
command_with_help_asked old new app is =
    command_with_setting old new (record (out-Command old) { arg_required_else_help = true }) (on_top (λ s. record s { arg_required_else_help = true })) app is refl refl

-- a subcommand is asked for
pub command_with_subcommand_asked : (old new : Command) (app : App) → out-Command new ≡ record (out-Command old) { subcommand_required = true } → IsCommandOf old app
    → IsCommandOf new (on_top (λ s. record s { subcommand_required = true }) app)
command_with_subcommand_asked old new app is =
    command_with_setting old new (record (out-Command old) { subcommand_required = true }) (on_top (λ s. record s { subcommand_required = true })) app is refl refl

-- what an option's setting changes of its rule
pub rule_with_setting : (old new fields : Arg) (change : Rule → Rule) (rule : Rule) → new ≡ fields → rule_of fields ≡ change (rule_of old) → rule_of old ≡ rule
    → rule_of new ≡ change rule
rule_with_setting old new fields change rule is changed was = ap rule_of is ∙ changed ∙ ap change was

-- one more option
pub command_with_arg : (old new : Command) (a : Arg) (app : App) (rule : Rule) → AddsArg old a new → rule_of a ≡ rule → a.global ≡ false → IsCommandOf old app
    → IsCommandOf new (with_rule app rule)
command_with_arg old new a app rule adds is single was = record {
  is = adds.shape single ∙ ap₂ with_rule was.is is;
  local = adds.globals ∙ ap₂ (λ (x y : Bool). x || y) was.local single;
}

-- one more subcommand
pub command_with_subcommand : (old sub new : Command) (app below : App) → AddsSubcommand old sub new → IsCommandOf sub below → IsCommandOf old app
    → IsCommandOf new (with_subcommand app below.top)
command_with_subcommand old sub new app below adds is was = record {
  is = adds.shape is.local ∙ ap₂ with_subcommand was.is (ap (λ (a : App). a.top) is.is);
  local = adds.globals ∙ ap₂ (λ (x y : Bool). x || y) was.local is.local;
}

-- a subcommand's name and matches, from what clap says of each
pub subcommand_found : {Z A B : Type 0} (o : Option Z) (f : Z → A) (g : Z → B) (a : A) (b : B) → Some a ≡ option_map f o
    → Some b ≡ option_map (λ (p : A × B). p.1) (option_map {U = A × B} (λ z. (f z, g z)) o) → option_map {U = A × B} (λ z. (f z, g z)) o ≡ Some (a, b)
subcommand_found None f g a b h k = absurd (cc)
subcommand_found (Some z) f g a b h k =
    let e : a ≡ f z = cc in
    let i : b ≡ g z = cc in
    rw (e, i) refl

-- the market's command is one whose matches and faults clap gives as functions of the words
pub market_is_simple : is_simple market_app ≡ true
unfolding clap_on_literals
market_is_simple = refl

pub market_is_free : is_simple_and_free market_app ≡ true
unfolding clap_on_literals
market_is_free = refl
