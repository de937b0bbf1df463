-- A script that is explained is its lines, taken and not answered, and then the explanation.
use Rattle.std.proofs.Common.{◌≡◌, ◌↔◌, ℕ, ◌≤◌, ◌++◌, List, [], ◌∷◌, length, Bool, false, Option, Result, Ok, Err, IsOk, inl, inr, arith, refl, sym, ap, ◌∙◌, subst}
use Rattle.std.specs.Io.KnownBytes.{Consumes, Appends}
use Rattle.std.proofs.KnownBytes.{Appends-trans, Appends-nil, Consumes-nil}
use Rattle.byte_devices.specs.Devices.{WritesFront}
use Rattle.byte_devices.specs.Output.{IsOutFault}
use Rattle.byte_devices.specs.declared.out_fault.OutFault.{OutFault}
use Rattle.byte_devices.specs.declared.out_fault.OutFault.TheVariants.{Write as WriteFailed, Memory as OutMemory}
use Rattle.market_types.specs.declared.reply.OpenFault.{OpenFault}
use Rattle.market_types.specs.declared.reply.OpenFault.TheVariants.{Memory as NoMemory}
use Rattle.market_types.specs.Opening.{MemoryAside}
use Rattle.market_types.specs.State.{State}
use Rattle.market_texts.specs.Script.{told}
use Rattle.line_engine.specs.Lines.{Line, lines_of}
use Rattle.line_engine.specs.Rule.{replies_to}
use Rattle.line_engine.specs.Input.{TakesAll, StopsAt, Stops as InputStops, longest_input}
use Rattle.line_engine.specs.declared.fault.InputFault.{InputFault}
use Rattle.line_engine.specs.declared.fault.InputFault.TheVariants.{Read as ReadFault, TooLong as LongInput, Write as WriteFault, Memory as InputMemory, Taker}
use Rattle.explainer.specs.Explanation.{explanation_text}
use Rattle.market_prog.specs.declared.fault.RunFault.{RunFault}
use Rattle.market_prog.specs.declared.fault.RunFault.TheVariants.{Open, Memory}
use Rattle.market_prog.specs.Faults.{run_fault_of_input, run_fault_of_output}
use Rattle.market_prog.specs.Explain.{explanation_after, Explains, WritesBefore, StopsExplaining}
use Rattle.market_prog.specs.Sessions.{script_rule}
use Rattle.market_prog.proofs.Told.{unread-told, last-told}
use Rattle.market_prog.proofs.Runs.{begun, cause-of}

-- no line is answered by anything
abbrev pub Silent : Type 0
Silent = (now : State × ℕ) (lines : List Line) → replies_to (script_rule false) now lines ≡ []

-- the lines were taken, and the text was written behind
pub explain-answers : Silent → (m s : State) (n : ℕ) (last : State × ℕ) (left left' a b c : Option (List ℕ)) → m ≡ s → n ≡ 0
    → TakesAll (script_rule false) 256 (λ _. longest_input) (m, n) last left left' a b → Appends b c (explanation_text last.0) → Explains s left left' a c last.1
explain-answers silent m s n last left left' a b c e f h wrote =
    let t = subst (λ (q : State × ℕ). TakesAll (script_rule false) 256 (λ _. longest_input) q last left left' a b) (begun m s n e f) h in
    let none : Appends a b [] = subst (λ text. Appends a b text) (silent (s, 0) (lines_of 256 t.input)) t.wrote in
    let market : last.0 ≡ (told s t.input).last = ap (λ (q : State × ℕ). q.0) t.state ∙ last-told false s t.input in
    record {
      script = t.input;
      read = t.read;
      within = t.within;
      wrote = subst (λ (x : State). Appends a c (explanation_text x)) market (Appends-trans a b c [] (explanation_text last.0) none wrote);
      count = ap (λ (q : State × ℕ). q.1) t.state ∙ unread-told false s t.input;
    }

-- the text was not written whole
pub explain-breaks : Silent → (m s : State) (n : ℕ) (last : State × ℕ) (left left' a b c : Option (List ℕ)) (source_failed sink_failed : Bool) (fault : OutFault) → m ≡ s → n ≡ 0
    → TakesAll (script_rule false) 256 (λ _. longest_input) (m, n) last left left' a b → source_failed ≡ false → WritesFront b c (explanation_text last.0) → IsOutFault fault sink_failed
    → StopsExplaining s left left' a c source_failed sink_failed (run_fault_of_output fault)
explain-breaks silent m s n last left left' a b c source_failed sink_failed fault e f h working wrote why =
    let t = subst (λ (q : State × ℕ). TakesAll (script_rule false) 256 (λ _. longest_input) q last left left' a b) (begun m s n e f) h in
    let none : Appends a b [] = subst (λ text. Appends a b text) (silent (s, 0) (lines_of 256 t.input)) t.wrote in
    let market : last.0 ≡ (told s t.input).last = ap (λ (q : State × ℕ). q.0) t.state ∙ last-told false s t.input in
    let front : WritesFront a c (explanation_after s t.input) =
    subst (λ (x : State). WritesFront a c (explanation_text x)) market (record { out = wrote.out; wrote = Appends-trans a b c [] wrote.out none wrote.wrote; front = wrote.front }) in
    by fault why t.input t.read front t.within
  where
    by : (fault : OutFault) → IsOutFault fault sink_failed → (input : List ℕ) → Consumes left left' input → WritesFront a c (explanation_after s input)
        → length input ≤ longest_input → StopsExplaining s left left' a c source_failed sink_failed (run_fault_of_output fault)
    by WriteFailed failed input read front within = record { script = input; read = read; wrote = front; cause = (within, working, failed) }
    by OutMemory none input read front within = record { script = input; read = read; wrote = front; cause = (within, working, none) }

-- the lines were not all taken
pub explain-stops : Silent → {F : Type 0} (stops : State × ℕ → Line → F → Type 0) (m s : State) (n : ℕ) (left left' taken taken' : Option (List ℕ)) (source_failed sink_failed : Bool) (fault : InputFault F) → m ≡ s → n ≡ 0
    → InputStops (script_rule false) 256 (λ _. longest_input) stops (m, n) left left' taken taken' source_failed sink_failed fault → StopsExplaining s left left' taken taken' source_failed sink_failed (run_fault_of_input fault)
explain-stops silent {F = F} stops m s n left left' taken taken' source_failed sink_failed fault e f h =
    let t = subst (λ (q : State × ℕ). InputStops (script_rule false) 256 (λ _. longest_input) stops q left left' taken taken' source_failed sink_failed fault) (begun m s n e f) h in
    let all : [] ≡ t.wrote.out ++ t.wrote.front.0 = sym (silent (s, 0) (lines_of 256 t.input)) ∙ t.wrote.front.1 in
    let none : Appends taken taken' [] = subst (λ text. Appends taken taken' text) (no-front t.wrote.out t.wrote.front.0 all) t.wrote.wrote in
    record {
      script = t.input;
      read = t.read;
      wrote = by fault (explanation_after s t.input) none;
      cause = cause-of (StopsAt (script_rule false) stops (s, 0) (lines_of 256 t.input)) fault t.input source_failed sink_failed t.cause;
    }
  where
    no-front : (out rest : List ℕ) → [] ≡ out ++ rest → out ≡ []
    no-front [] rest is = refl
    no-front (x ∷ out) rest is = cc

    by : (fault : InputFault F) (text : List ℕ) → Appends taken taken' [] → WritesBefore (run_fault_of_input fault) taken taken' text
    by ReadFault text none = none
    by LongInput text none = none
    by WriteFault text none = record { out = []; wrote = none; front = (text, refl) }
    by InputMemory text none = record { out = []; wrote = none; front = (text, refl) }
    by (Taker fault) text none = record { out = []; wrote = none; front = (text, refl) }

-- there was no memory for the market
pub explain-unopened : (s : State) (left taken : Option (List ℕ)) (source_failed sink_failed : Bool) → source_failed ≡ false → sink_failed ≡ false
    → StopsExplaining s left left taken taken source_failed sink_failed Memory
explain-unopened s left taken source_failed sink_failed e f = record {
  script = [];
  read = Consumes-nil left;
  wrote = record { out = []; wrote = Appends-nil taken; front = (explanation_after s [], refl) };
  cause = (let none : 0 ≤ longest_input = omega arith in none, e, f);
}

-- where an opening is not refused, only memory can be wanting
pub unopened-memory : (due : Result State OpenFault) (fault : OpenFault) → IsOk due → MemoryAside due (Err fault) → fault ≡ NoMemory
unopened-memory (Ok s) fault ok (inl e) = absurd (cc)
unopened-memory (Ok s) fault ok (inr e) = let same = e.1 in cc
unopened-memory (Err x) fault ok h = cc

-- where the market was opened, its text's writing has no fault of an opening
pub written-opening : (due : Result State OpenFault) (s : State) (r : Result ℕ RunFault) (out : OutFault) → MemoryAside due (Ok s) → r ≡ Err (run_fault_of_output out)
    → (fault : OpenFault) → (r ≡ Err (Open fault)) ↔ (due ≡ Err fault)
written-opening due s r WriteFailed (inl e) is fault = (λ opening. absurd (cc), λ refused. absurd (cc))
written-opening due s r WriteFailed (inr e) is fault = let none = e.1 in (λ opening. absurd (cc), λ refused. absurd (cc))
written-opening due s r OutMemory (inl e) is fault = (λ opening. absurd (cc), λ refused. absurd (cc))
written-opening due s r OutMemory (inr e) is fault = let none = e.1 in (λ opening. absurd (cc), λ refused. absurd (cc))
