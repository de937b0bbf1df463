-- A script's journal is its lines, taken and recorded, and then the text of their history.
use Rattle.std.proofs.Common.{◌≡◌, ℕ, ◌≤◌, ◌++◌, ◌||◌, ◌==◌, cond, nat_lt, inl, inr, List, [], ◌∷◌, length, Bool, true, false, Option, Result, Ok, Err, arith, refl, sym, ap, ◌∙◌, subst}
use Rattle.std.specs.Io.KnownBytes.{Consumes, Appends}
use Rattle.std.proofs.KnownBytes.{Appends-trans, Appends-nil, Consumes-nil}
use Rattle.byte_devices.specs.Devices.{WritesFront}
use Rattle.byte_devices.specs.Output.{IsOutFault}
use Rattle.byte_devices.specs.declared.out_fault.OutFault.{OutFault}
use Rattle.byte_devices.specs.declared.out_fault.OutFault.TheVariants.{Write as WriteFailed, Memory as OutMemory}
use Rattle.edit_history.specs.Chronicled.{Chronicled, opened_by}
use Rattle.edit_history.specs.declared.keeping.Keeping.TheVariants.{Everything}
use Rattle.edit_history.specs.declared.terms.Terms.{Terms}
use Rattle.edit_history.specs.declared.fault.CallFault.{CallFault}
use Rattle.edit_history.specs.declared.fault.CallFault.TheVariants.{Memory as CallMemory, HistoryFull as NoPlace}
use Rattle.journal_replay.specs.Journal.{journal_text}
use Rattle.market_types.specs.declared.reply.OpenFault.{OpenFault}
use Rattle.market_types.specs.declared.reply.OpenFault.TheVariants.{BadBase, BadHard, BadSeats, BadLevels}
use Rattle.market_types.specs.declared.opening.Opening.{Opening}
use Rattle.market_types.specs.Opening.{MemoryAside, opened_with, opening_with}
use Rattle.market_types.specs.State.{State}
use Rattle.market_texts.specs.Script.{told}
use Rattle.line_engine.specs.Lines.{Line, lines_of}
use Rattle.line_engine.specs.Rule.{replies_to}
use Rattle.line_engine.specs.Input.{TakesAll, StopsAt, CauseOf as InputCauseOf, Stops as InputStops, longest_input}
use Rattle.line_engine.specs.declared.fault.InputFault.{InputFault}
use Rattle.line_engine.specs.declared.fault.InputFault.TheVariants.{Read as ReadFault, TooLong as LongInput, Write as WriteFault, Memory as InputMemory, Taker}
use Rattle.market_prog.specs.declared.fault.RunFault.TheVariants.{Memory}
use Rattle.market_prog.specs.Faults.{run_fault_of_recording, run_fault_of_output}
use Rattle.market_prog.specs.Explain.{WritesBefore}
use Rattle.market_prog.specs.Journal.{journal_of, unwritten, Journals, JournalCauseOf, StopsJournaling}
use Rattle.market_prog.specs.Recorded.{history_of}
use Rattle.market_prog.specs.Recording.{lengthened, recording_rule, start_of, StopsRecording}
use Rattle.market_prog.proofs.Told.{unread-told}
use Rattle.market_prog.proofs.History.{both, unread-after, history-after}

-- no line is answered by anything
abbrev pub Silent : Type 0
Silent = (now : Chronicled × ℕ) (lines : List Line) → replies_to recording_rule now lines ≡ []

-- what a chronicle's journal is
abbrev pub journal_told : Chronicled → List ℕ
journal_told c = journal_text c.start c.log

-- all lines were taken: what the chronicle and the number of unread lines are then, and that nothing was written
record Recorded (s : State) (last : Chronicled × ℕ) (left left' a b : Option (List ℕ)) : Type 0 where
  pub script : List ℕ
  pub read : Consumes left left' script
  pub within : length script ≤ longest_input
  pub none : Appends a b []
  pub text : journal_told last.0 ≡ journal_of s script
  pub count : last.1 ≡ (told s script).unread

all-recorded : Silent → (c : Chronicled) (s : State) (n : ℕ) (last : Chronicled × ℕ) (left left' a b : Option (List ℕ)) → c ≡ unwritten s → n ≡ 0
    → TakesAll recording_rule 256 (λ _. longest_input) (c, n) last left left' a b → Recorded s last left left' a b
all-recorded silent c s n last left left' a b e f h =
    let t = subst (λ (q : Chronicled × ℕ). TakesAll recording_rule 256 (λ _. longest_input) q last left left' a b) (both c (unwritten s) n 0 e f) h in
    let begun : Chronicled × ℕ = (unwritten s, 0) in
    let history : last.0 ≡ lengthened (unwritten s) (history_of s t.input) = ap (λ (q : Chronicled × ℕ). q.0) t.state ∙ history-after (unwritten s) 0 t.input in
    record {
      script = t.input;
      read = t.read;
      within = t.within;
      none = subst (λ text. Appends a b text) (silent begun (lines_of 256 t.input)) t.wrote;
      text = ap journal_told history;
      count = ap (λ (q : Chronicled × ℕ). q.1) t.state ∙ (unread-after (unwritten s) s 0 (lines_of 256 t.input) refl ∙ unread-told false s t.input);
    }

-- the lines were taken, and the text was written behind
pub journal-answers : Silent → (c : Chronicled) (s : State) (n : ℕ) (last : Chronicled × ℕ) (left left' x y z : Option (List ℕ)) → c ≡ unwritten s → n ≡ 0
    → TakesAll recording_rule 256 (λ _. longest_input) (c, n) last left left' x y → Appends y z (journal_told last.0) → Journals s left left' x z last.1
journal-answers silent c s n last left left' x y z e f h wrote =
    let r = all-recorded silent c s n last left left' x y e f h in
    record {
      script = r.script;
      read = r.read;
      within = r.within;
      wrote = subst (λ text. Appends x z text) r.text (Appends-trans x y z [] (journal_told last.0) r.none wrote);
      count = r.count;
    }

-- the text was not written whole
pub journal-breaks : Silent → (c : Chronicled) (s : State) (n : ℕ) (last : Chronicled × ℕ) (left left' x y z : Option (List ℕ)) (source_failed sink_failed : Bool) (fault : OutFault) → c ≡ unwritten s → n ≡ 0
    → TakesAll recording_rule 256 (λ _. longest_input) (c, n) last left left' x y → source_failed ≡ false → WritesFront y z (journal_told last.0) → IsOutFault fault sink_failed
    → StopsJournaling s left left' x z source_failed sink_failed (run_fault_of_output fault)
journal-breaks silent c s n last left left' x y z source_failed sink_failed fault e f h working wrote why =
    let r = all-recorded silent c s n last left left' x y e f h in
    let front : WritesFront x z (journal_of s r.script) =
    subst (λ text. WritesFront x z text) r.text (record { out = wrote.out; wrote = Appends-trans x y z [] wrote.out r.none wrote.wrote; front = wrote.front }) in
    by fault why r.script r.read front r.within
  where
    by : (fault : OutFault) → IsOutFault fault sink_failed → (input : List ℕ) → Consumes left left' input → WritesFront x z (journal_of s input)
        → length input ≤ longest_input → StopsJournaling s left left' x z source_failed sink_failed (run_fault_of_output fault)
    by WriteFailed failed input read front within = record { script = input; read = read; wrote = front; cause = (within, working, failed) }
    by OutMemory none input read front within = record { script = input; read = read; wrote = front; cause = (within, working, none) }

-- the lines were not all taken
pub journal-stops : Silent → (c : Chronicled) (s : State) (n : ℕ) (left left' taken taken' : Option (List ℕ)) (source_failed sink_failed : Bool) (fault : InputFault CallFault) → c ≡ unwritten s → n ≡ 0
    → InputStops recording_rule 256 (λ _. longest_input) StopsRecording (c, n) left left' taken taken' source_failed sink_failed fault → StopsJournaling s left left' taken taken' source_failed sink_failed (run_fault_of_recording fault)
journal-stops silent c s n left left' taken taken' source_failed sink_failed fault e f h =
    let t = subst (λ (q : Chronicled × ℕ). InputStops recording_rule 256 (λ _. longest_input) StopsRecording q left left' taken taken' source_failed sink_failed fault) (both c (unwritten s) n 0 e f) h in
    let begun : Chronicled × ℕ = (unwritten s, 0) in
    let all : [] ≡ t.wrote.out ++ t.wrote.front.0 = sym (silent begun (lines_of 256 t.input)) ∙ t.wrote.front.1 in
    let none : Appends taken taken' [] = subst (λ text. Appends taken taken' text) (no-front t.wrote.out t.wrote.front.0 all) t.wrote.wrote in
    record {
      script = t.input;
      read = t.read;
      wrote = by fault (journal_of s t.input) none;
      cause = why fault t.input t.cause;
    }
  where
    no-front : (out rest : List ℕ) → [] ≡ out ++ rest → out ≡ []
    no-front [] rest is = refl
    no-front (x ∷ out) rest is = cc

    by : (fault : InputFault CallFault) (text : List ℕ) → Appends taken taken' [] → WritesBefore (run_fault_of_recording fault) taken taken' text
    by ReadFault text none = none
    by LongInput text none = none
    by WriteFault text none = record { out = []; wrote = none; front = (text, refl) }
    by InputMemory text none = record { out = []; wrote = none; front = (text, refl) }
    by (Taker CallMemory) text none = record { out = []; wrote = none; front = (text, refl) }
    by (Taker NoPlace) text none = none

    why : (fault : InputFault CallFault) (input : List ℕ) → InputCauseOf (StopsAt recording_rule StopsRecording (unwritten s, 0) (lines_of 256 input)) (λ _. longest_input) fault input source_failed sink_failed
        → JournalCauseOf (run_fault_of_recording fault) s input source_failed sink_failed
    why ReadFault input c = c
    why LongInput input c = (c.0.above, c.1, c.2)
    why WriteFault input c = c
    why InputMemory input c = c
    why (Taker CallMemory) input c = (c.0, c.1, c.2)
    why (Taker NoPlace) input c = c

-- there was no memory for the market
pub journal-unopened : (s : State) (left taken : Option (List ℕ)) (source_failed sink_failed : Bool) → source_failed ≡ false → sink_failed ≡ false
    → StopsJournaling s left left taken taken source_failed sink_failed Memory
journal-unopened s left taken source_failed sink_failed e f = record {
  script = [];
  read = Consumes-nil left;
  wrote = record { out = []; wrote = Appends-nil taken; front = (journal_of s [], refl) };
  cause = (let none : 0 ≤ longest_input = omega arith in none, e, f);
}

-- all entries are kept
pub journal-whole : (c : Chronicled) (s : State) (n : ℕ) (last : Chronicled × ℕ) (left left' x y : Option (List ℕ)) → c ≡ unwritten s → n ≡ 0
    → TakesAll recording_rule 256 (λ _. longest_input) (c, n) last left left' x y → last.0.from ≡ 0
journal-whole c s n last left left' x y e f h =
    let t = subst (λ (q : Chronicled × ℕ). TakesAll recording_rule 256 (λ _. longest_input) q last left left' x y) (both c (unwritten s) n 0 e f) h in
    ap (λ (q : Chronicled × ℕ). q.0.from) t.state ∙ ap (λ (d : Chronicled). d.from) (history-after (unwritten s) 0 t.input)

-- ---- the opening

-- a chronicle is opened as its market is
abbrev chronicle_on : Result State OpenFault → Result Chronicled OpenFault
chronicle_on (Ok s) = Ok (unwritten s)
chronicle_on (Err fault) = Err fault

-- by what is out of range, how a market is opened
abbrev opened_in_order : Bool → Bool → Bool → Bool → State → Result State OpenFault
opened_in_order a b c d s = cond a (Err BadBase) (cond b (Err BadHard) (cond c (Err BadSeats) (cond d (Err BadLevels) (Ok s))))

-- the terms of a script's chronicle
abbrev pub script_terms : Opening → Terms
script_terms o = record { opening = o; places = 1048576; keeping = Everything }

opened-both : (o : Opening) → opened_by (script_terms o) ≡ chronicle_on (opened_with o)
opened-both o = go (o.base == 0 || nat_lt 65536 o.base) (o.hard == 0 || nat_lt 65535 o.hard) (o.seats == 0 || nat_lt 64 o.seats) (o.levels == 0 || nat_lt 8 o.levels)
  where
    s : State
    s = opening_with o

    go : (a b c d : Bool) → cond a (Err BadBase) (cond b (Err BadHard) (cond c (Err BadSeats) (cond d (Err BadLevels) (Ok (unwritten s))))) ≡ chronicle_on (opened_in_order a b c d s)
    go true b c d = refl
    go false true c d = refl
    go false false true d = refl
    go false false false true = refl
    go false false false false = refl

due-start : (due : Result State OpenFault) (r : Result Chronicled OpenFault) → MemoryAside (chronicle_on due) r → MemoryAside due (start_of r)
due-start (Ok s) r (inl e) = inl (ap start_of e)
due-start (Ok s) r (inr e) = inr (e.0, ap start_of e.1)
due-start (Err fault) r (inl e) = inl (ap start_of e)
due-start (Err fault) r (inr e) = inr (e.0, ap start_of e.1)

pub opened-exact : (o : Opening) (r : Result Chronicled OpenFault) → MemoryAside (opened_by (script_terms o)) r → MemoryAside (opened_with o) (start_of r)
opened-exact o r h = due-start (opened_with o) r (subst (λ (due : Result Chronicled OpenFault). MemoryAside due r) (opened-both o) h)
