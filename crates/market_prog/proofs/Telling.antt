-- A journal that was not read whole has no verdict that is told.
use Rattle.std.specs.Prelude.{◌≡◌, ℕ, List, [], Bool, false, Option, ⊤}
use Rattle.std.proofs.Common.{refl, sym, subst}
use Rattle.std.proofs.KnownBytes.{Appends-nil}
use Rattle.line_engine.specs.Input.{CauseOf}
use Rattle.line_engine.specs.declared.fault.InputFault.{InputFault}
use Rattle.line_engine.specs.declared.fault.InputFault.TheVariants.{Read as ReadFault, TooLong as LongInput, Write as WriteFault, Memory as InputMemory, Taker}
use Rattle.journal_replay.specs.Verdicts.{StopsReading, limit_of, verdict}
use Rattle.market_prog.specs.Faults.{run_fault_of_input}
use Rattle.market_prog.specs.Replay.{StopsTelling, TellingCauseOf, verdict_line}

pub telling-cause : {F : Type 0} (fault : InputFault F) (text : List ℕ) (failed : Bool) → CauseOf (λ _. ⊤) limit_of fault text failed false → TellingCauseOf (run_fault_of_input fault) text failed false
telling-cause ReadFault text failed c = c
telling-cause LongInput text failed c = c
telling-cause WriteFault text failed c = c
telling-cause InputMemory text failed c = c
telling-cause (Taker fault) text failed c = (c.0, c.1, c.2)

pub stops-telling : {F : Type 0} (fault : InputFault F) (left left' taken : Option (List ℕ)) (failed sink_failed : Bool) → sink_failed ≡ false → StopsReading left left' failed fault
    → StopsTelling left left' taken taken failed sink_failed (run_fault_of_input fault)
stops-telling fault left left' taken failed sink_failed working h =
    subst (λ (b : Bool). StopsTelling left left' taken taken failed b (run_fault_of_input fault)) (sym working) (
    record {
      journal = h.text;
      read = h.read;
      wrote = record { out = []; wrote = Appends-nil taken; front = (verdict_line (verdict h.text), refl) };
      cause = telling-cause fault h.text failed h.cause;
    })
