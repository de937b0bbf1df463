-- Command lines worked out by hand.
use Rattle.std.proofs.Common.{◌≡◌, refl, Bool, true, false, List, [], ◌∷◌, Option, Some, codes, option_map}
use Rattle.clap.specs.Faults.{fault_of}
use Rattle.clap.specs.Kinds.{Kinds}
use Rattle.clap.specs.Walk.{Text, first_of}
use Rattle.clap.specs.Simple.{subcommand_of}
use Rattle.clap.specs.declared.error.kind.ErrorKind.TheVariants.{ArgumentConflict, DisplayHelp, DisplayHelpOnMissingArgumentOrSubcommand, InvalidSubcommand, InvalidValue, UnknownArgument, ValueValidation}
use Rattle.clap.proofs.OnLiterals.{clap_on_literals}
use Rattle.market_words.specs.Words.{asks, market_app}

-- the words after `market`
abbrev line : List Text → List Text
line words = codes "market" ∷ words

abbrev run_line : List Text → List Text
run_line words = line (codes "run" ∷ words)

abbrev chosen : List Text → Option Text
chosen words = option_map (λ found. found.0) (subcommand_of market_app words)

abbrev word_of : Text → List Text → Option (Option Text)
word_of name words = option_map (λ found. first_of name found.1) (subcommand_of market_app words)

defaults : (chosen (run_line []) ≡ Some (codes "run"))
    × (word_of (codes "base") (run_line []) ≡ Some (Some (codes "8"))) × (word_of (codes "hard") (run_line []) ≡ Some (Some (codes "64")))
    × (word_of (codes "seats") (run_line []) ≡ Some (Some (codes "4"))) × (word_of (codes "levels") (run_line []) ≡ Some (Some (codes "3")))
unfolding clap_on_literals
defaults = (refl, refl, refl, refl, refl)

given : (word_of (codes "base") (run_line (codes "--base" ∷ codes "3" ∷ codes "--levels=8" ∷ [])) ≡ Some (Some (codes "3")))
    × (word_of (codes "levels") (run_line (codes "--base" ∷ codes "3" ∷ codes "--levels=8" ∷ [])) ≡ Some (Some (codes "8")))
    × (word_of (codes "seats") (run_line (codes "--base" ∷ codes "3" ∷ codes "--levels=8" ∷ [])) ≡ Some (Some (codes "4")))
unfolding clap_on_literals
given = (refl, refl, refl)

abbrev fault : List Text → Kinds
fault words = fault_of market_app words

abbrev option_fault : Text → Text → Kinds
option_fault name word = fault (run_line (name ∷ word ∷ []))

ends_of_ranges : (option_fault (codes "--base") (codes "1") ≡ []) × (option_fault (codes "--base") (codes "65536") ≡ [])
    × (option_fault (codes "--hard") (codes "65535") ≡ []) × (option_fault (codes "--seats") (codes "64") ≡ []) × (option_fault (codes "--levels") (codes "8") ≡ [])
unfolding clap_on_literals
ends_of_ranges = (refl, refl, refl, refl, refl)

past_the_ranges : (option_fault (codes "--base") (codes "0") ≡ ValueValidation ∷ []) × (option_fault (codes "--base") (codes "65537") ≡ ValueValidation ∷ [])
    × (option_fault (codes "--hard") (codes "65536") ≡ ValueValidation ∷ []) × (option_fault (codes "--seats") (codes "65") ≡ ValueValidation ∷ [])
    × (option_fault (codes "--levels") (codes "9") ≡ ValueValidation ∷ []) × (option_fault (codes "--levels") (codes "three") ≡ ValueValidation ∷ [])
unfolding clap_on_literals
past_the_ranges = (refl, refl, refl, refl, refl, refl)

explain_has_the_same_options : (chosen (line (codes "explain" ∷ [])) ≡ Some (codes "explain"))
    × (word_of (codes "seats") (line (codes "explain" ∷ codes "--seats=2" ∷ [])) ≡ Some (Some (codes "2")))
    × (word_of (codes "hard") (line (codes "explain" ∷ codes "--seats=2" ∷ [])) ≡ Some (Some (codes "64")))
    × (fault (line (codes "explain" ∷ codes "--levels" ∷ codes "9" ∷ [])) ≡ ValueValidation ∷ [])
unfolding clap_on_literals
explain_has_the_same_options = (refl, refl, refl, refl)

replay_has_no_options : (chosen (line (codes "replay" ∷ [])) ≡ Some (codes "replay")) × (fault (line (codes "replay" ∷ [])) ≡ [])
    × (fault (line (codes "replay" ∷ codes "--base=8" ∷ [])) ≡ UnknownArgument ∷ [])
    × (fault (line (codes "replay" ∷ codes "--journal" ∷ [])) ≡ UnknownArgument ∷ [])
    × (fault (line (codes "replay" ∷ codes "first.journal" ∷ [])) ≡ UnknownArgument ∷ [])
unfolding clap_on_literals
replay_has_no_options = (refl, refl, refl, refl, refl)

abbrev drive_line : List Text → List Text
drive_line words = line (codes "drive" ∷ words)

abbrev progress_asked : List Text → Option Bool
progress_asked words = option_map (λ found. asks (codes "progress") found.1) (subcommand_of market_app (drive_line words))

drive_has_a_number_of_workers : (chosen (drive_line []) ≡ Some (codes "drive"))
    × (word_of (codes "workers") (drive_line []) ≡ Some (Some (codes "4")))
    × (word_of (codes "workers") (drive_line (codes "--workers" ∷ codes "16" ∷ [])) ≡ Some (Some (codes "16")))
    × (fault (drive_line (codes "--workers=0" ∷ [])) ≡ ValueValidation ∷ [])
    × (fault (drive_line (codes "--workers=17" ∷ [])) ≡ ValueValidation ∷ [])
    × (fault (drive_line (codes "--base=8" ∷ [])) ≡ UnknownArgument ∷ [])
unfolding clap_on_literals
drive_has_a_number_of_workers = (refl, refl, refl, refl, refl, refl)

drive_tells_its_progress : (progress_asked [] ≡ Some false) × (progress_asked (codes "--progress" ∷ codes "--workers=1" ∷ []) ≡ Some true)
unfolding clap_on_literals
drive_tells_its_progress = (refl, refl)

no_subcommand : (fault (line []) ≡ DisplayHelpOnMissingArgumentOrSubcommand ∷ []) × (fault (line (codes "fly" ∷ [])) ≡ UnknownArgument ∷ InvalidSubcommand ∷ [])
unfolding clap_on_literals
no_subcommand = (refl, refl)

bad_options : (fault (run_line (codes "--base" ∷ [])) ≡ InvalidValue ∷ []) × (fault (run_line (codes "--fast" ∷ [])) ≡ UnknownArgument ∷ [])
    × (fault (run_line (codes "--base=3" ∷ codes "--base=4" ∷ [])) ≡ ArgumentConflict ∷ [])
unfolding clap_on_literals
bad_options = (refl, refl, refl)

help_asked_for : (fault (line (codes "--help" ∷ [])) ≡ DisplayHelp ∷ []) × (fault (run_line (codes "-h" ∷ [])) ≡ DisplayHelp ∷ [])
    × (fault (line (codes "help" ∷ codes "run" ∷ [])) ≡ DisplayHelp ∷ InvalidSubcommand ∷ [])
unfolding clap_on_literals
help_asked_for = (refl, refl, refl)
