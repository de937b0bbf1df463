-- What is read of an input that is wanted whole (own).
use Rattle.std.specs.Prelude.{ℕ, List, Bool, false, Option}
use Rattle.std.specs.Io.KnownBytes.{Consumes}
use Rattle.line_engine.specs.Input.{CauseOf, longest_input}
use Rattle.line_engine.specs.declared.fault.InputFault.{InputFault}

-- This much of an input of at most `longest_input` bytes was read, and no more could be. No line was taken and none written.
pub record StopsReading {F : Type 0} (left left' : Option (List ℕ)) (source_failed : Bool) (fault : InputFault F) : Type 0 where
  pub input : List ℕ
  pub read : Consumes left left' input
  pub cause : CauseOf (λ _. ⊥) (λ _. longest_input) fault input source_failed false
