-- What a device did to the bytes that it has taken, where they are known.
use Rattle.std.specs.Prelude.{◌≡◌, ℕ, List, ◌++◌, Option}
use Rattle.std.specs.Io.KnownBytes.{Appends}

-- text begins with front
abbrev pub IsPrefixOf : List ℕ → List ℕ → Type 0
IsPrefixOf front text = (rest : List ℕ) × (text ≡ front ++ rest)

-- out was written, a prefix of the text
pub record WritesFront (before after : Option (List ℕ)) (text : List ℕ) : Type 0 where
  pub out : List ℕ
  pub wrote : Appends before after out
  pub front : IsPrefixOf out text
