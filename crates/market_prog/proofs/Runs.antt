-- A run of a script is its lines, taken and answered.
use Rattle.std.proofs.Common.{◌≡◌, ℕ, List, Bool, true, Option, true≢false, refl, sym, ap, ◌∙◌, subst}
use Rattle.std.specs.Io.KnownBytes.{Appends}
use Rattle.byte_devices.specs.Devices.{WritesFront}
use Rattle.market_types.specs.State.{State}
use Rattle.line_engine.specs.Lines.{Line, lines_of}
use Rattle.line_engine.specs.Input.{TakesAll, StopsAt, CauseOf as InputCauseOf, Stops as InputStops, HandsOver as InputHandsOver, longest_input}
use Rattle.line_engine.specs.Reading.{StopsReading}
use Rattle.line_engine.specs.declared.fault.InputFault.{InputFault}
use Rattle.line_engine.specs.declared.fault.InputFault.TheVariants.{Read as ReadFault, TooLong as LongInput, Write as WriteFault, Memory as InputMemory, Taker}
use Rattle.market_prog.specs.declared.fault.RunFault.TheVariants.{Read, Write}
use Rattle.market_prog.specs.Faults.{run_fault_of_input}
use Rattle.market_prog.specs.Run.{Answers, CauseOf, Stops, HandsOver}
use Rattle.market_prog.specs.Sessions.{script_rule}
use Rattle.market_prog.proofs.Told.{replies-told, unread-told, replies-told_lines}

-- the session begins with the market, and no unread line
pub begun : (m s : State) (n : ℕ) → m ≡ s → n ≡ 0 → ◌≡◌ {A = State × ℕ} (m, n) (s, 0)
begun m s n e f = cc

pub run-answers : (m s : State) (n : ℕ) (last : State × ℕ) (left left' taken taken' : Option (List ℕ)) → m ≡ s → n ≡ 0
    → TakesAll (script_rule true) 256 (λ _. longest_input) (m, n) last left left' taken taken' → Answers s left left' taken taken' last.1
run-answers m s n last left left' taken taken' e f h = let t = subst (λ (q : State × ℕ). TakesAll (script_rule true) 256 (λ _. longest_input) q last left left' taken taken') (begun m s n e f) h in record {
  script = t.input;
  read = t.read;
  within = t.within;
  wrote = subst (λ text. Appends taken taken' text) (replies-told s 0 t.input) t.wrote;
  count = ap (λ (q : State × ℕ). q.1) t.state ∙ unread-told true s t.input;
}

pub cause-of : {F : Type 0} (stops : F → Type 0) (fault : InputFault F) (input : List ℕ) (source_failed sink_failed : Bool)
    → InputCauseOf stops (λ _. longest_input) fault input source_failed sink_failed → CauseOf (run_fault_of_input fault) input source_failed sink_failed
cause-of stops ReadFault input x y c = c
cause-of stops LongInput input x y c = (c.0.above, c.1, c.2)
cause-of stops WriteFault input x y c = c
cause-of stops InputMemory input x y c = c
cause-of stops (Taker fault) input x y c = (c.0, c.1, c.2)

pub run-stops : {F : Type 0} (stops : State × ℕ → Line → F → Type 0) (m s : State) (n : ℕ) (left left' taken taken' : Option (List ℕ)) (source_failed sink_failed : Bool) (fault : InputFault F) → m ≡ s → n ≡ 0
    → InputStops (script_rule true) 256 (λ _. longest_input) stops (m, n) left left' taken taken' source_failed sink_failed fault → Stops s left left' taken taken' source_failed sink_failed (run_fault_of_input fault)
run-stops stops m s n left left' taken taken' source_failed sink_failed fault e f h =
    let t = subst (λ (q : State × ℕ). InputStops (script_rule true) 256 (λ _. longest_input) stops q left left' taken taken' source_failed sink_failed fault) (begun m s n e f) h in record {
      script = t.input;
      read = t.read;
      wrote = subst (λ text. WritesFront taken taken' text) (replies-told s 0 t.input) t.wrote;
      cause = cause-of (StopsAt (script_rule true) stops (s, 0) (lines_of 256 t.input)) fault t.input source_failed sink_failed t.cause;
    }

pub run-prompt : (m s : State) (n : ℕ) (left left' taken taken' : Option (List ℕ)) → m ≡ s → n ≡ 0 → InputHandsOver (script_rule true) 256 (m, n) left left' taken taken' → HandsOver s left left' taken taken'
run-prompt m s n left left' taken taken' e f h = let t = subst (λ (q : State × ℕ). InputHandsOver (script_rule true) 256 q left left' taken taken') (begun m s n e f) h in record {
  script = t.input;
  read = t.read;
  wrote = subst (λ text. Appends taken taken' text) (replies-told_lines s 0 t.input) t.wrote;
}

-- only a read fault is told as one
pub read-fault : {F : Type 0} (fault : InputFault F) → run_fault_of_input fault ≡ Read → fault ≡ ReadFault
read-fault ReadFault e = refl
read-fault LongInput e = absurd (cc)
read-fault WriteFault e = absurd (cc)
read-fault InputMemory e = absurd (cc)
read-fault (Taker fault) e = absurd (cc)

-- reading a whole input never ends in a write
pub no-write : {F : Type 0} (left left' : Option (List ℕ)) (source_failed : Bool) (fault : InputFault F) → StopsReading left left' source_failed fault → run_fault_of_input fault ≡ Write → ⊥
no-write left left' x ReadFault h e = cc
no-write left left' x LongInput h e = cc
no-write left left' x WriteFault h e = true≢false (sym h.cause.2)
no-write left left' x InputMemory h e = cc
no-write left left' x (Taker fault) h e = cc
