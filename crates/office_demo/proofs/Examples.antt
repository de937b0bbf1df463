-- Command lines worked out by hand.
use Rattle.std.proofs.Common.{◌≡◌, refl, [], ◌∷◌, List, codes}
use Rattle.demo_callers.specs.declared.forever.Record.TheVariants.{Nothing, Journal}
use Rattle.office_demo.specs.Choices.{Word, choice_of}
use Rattle.office_demo.specs.declared.choice.Choice.{Choice}
use Rattle.office_demo.specs.declared.choice.Choice.TheVariants.{Work, Forever, Help, Unknown}

-- `office_demo` with one word, two and three
abbrev one : Word → Choice
one word = choice_of (word ∷ [])

abbrev two : Word → Word → Choice
two first second = choice_of (first ∷ second ∷ [])

abbrev forever : List Word → Choice
forever words = choice_of (codes "--forever" ∷ words)

numbers : (choice_of [] ≡ Work 4 250) × (one (codes "64") ≡ Work 64 250) × (two (codes "1") (codes "0") ≡ Work 1 0) × (two (codes "+2") (codes "4294967295") ≡ Work 2 4294967295)
numbers = (refl, refl, refl, refl)

no_numbers : (one (codes "0") ≡ Unknown) × (one (codes "65") ≡ Unknown) × (one (codes "") ≡ Unknown) × (one (codes "-1") ≡ Unknown) × (one (codes "2x") ≡ Unknown)
    × (two (codes "2") (codes "4294967296") ≡ Unknown) × (choice_of (codes "1" ∷ codes "2" ∷ codes "3" ∷ []) ≡ Unknown)
no_numbers = (refl, refl, refl, refl, refl, refl, refl)

help : (one (codes "--help") ≡ Help) × (one (codes "-h") ≡ Help) × (two (codes "--help") (codes "2") ≡ Unknown)
help = (refl, refl, refl)

lasting : (forever (codes "60" ∷ []) ≡ Forever 4 60 Nothing) × (forever (codes "60" ∷ codes "64" ∷ []) ≡ Forever 64 60 Nothing)
    × (forever (codes "60" ∷ codes "--journal" ∷ []) ≡ Forever 4 60 Journal) × (forever (codes "60" ∷ codes "63" ∷ codes "--journal" ∷ []) ≡ Forever 63 60 Journal)
lasting = (refl, refl, refl, refl)

not_lasting : (forever [] ≡ Unknown) × (forever (codes "--journal" ∷ []) ≡ Unknown) × (forever (codes "60" ∷ codes "65" ∷ []) ≡ Unknown)
    × (forever (codes "60" ∷ codes "64" ∷ codes "--journal" ∷ []) ≡ Unknown) × (forever (codes "60" ∷ codes "4" ∷ codes "journal" ∷ []) ≡ Unknown)
    × (forever (codes "60" ∷ codes "4" ∷ codes "--journal" ∷ codes "4" ∷ []) ≡ Unknown)
not_lasting = (refl, refl, refl, refl, refl, refl)
