-- What was written of a text, and why no more.
use Rattle.std.specs.Prelude.{◌≡◌, ℕ, Bool, true, false, List, ◌++◌, Option}
use Rattle.std.specs.Io.KnownBytes.{Appends}
use Rattle.byte_devices.specs.declared.out_fault.OutFault.{OutFault}
use Rattle.byte_devices.specs.declared.out_fault.OutFault.TheVariants.{Write, Memory}

-- a write failed, or none did
abbrev pub IsOutFault : OutFault → Bool → Type 0
IsOutFault Write failed = failed ≡ true
IsOutFault Memory failed = failed ≡ false

-- the text was written up to what waits (no public clause has this word)
pub record Fronts (before after : Option (List ℕ)) (waiting text : List ℕ) : Type 0 where
  pub out : List ℕ
  pub wrote : Appends before after out
  pub rest : text ≡ out ++ waiting
