-- What is written of a journal's chart.
use Rattle.std.specs.Prelude.{◌≡◌, ◌≢◌, ℕ, ◌-◌, ◌≤◌, List, [], ◌∷◌, length, map, take, Bool, false, Option, ⊤}
use Rattle.std.specs.Io.KnownBytes.{Appends}
use Rattle.std.proofs.Common.{suc, refl, sym, ap, ◌∙◌, subst, true≢false, arith}
use Rattle.std.proofs.KnownBytes.{Appends-nil}
use Rattle.std.proofs.lemmas.List.{length-drop, length-map, length-take}
use Rattle.byte_devices.specs.Devices.{WritesFront}
use Rattle.market_types.specs.declared.command.Call.{Call}
use Rattle.market_types.specs.State.{State}
use Rattle.market_types.specs.Step.{step}
use Rattle.line_engine.specs.Input.{CauseOf}
use Rattle.line_engine.specs.declared.fault.InputFault.{InputFault}
use Rattle.line_engine.specs.declared.fault.InputFault.TheVariants.{Read as ReadFault, TooLong as LongInput, Write as WriteFault, Memory as InputMemory, Taker}
use Rattle.journal_replay.specs.declared.verdict.Verdict.{Verdict}
use Rattle.journal_replay.specs.declared.verdict.Verdict.TheVariants.{Legal, BadHeader, BadJson, BadRecord, WrongReply}
use Rattle.journal_replay.specs.Verdicts.{StopsReading, limit_of}
use Rattle.journal_chart.specs.Numbers.{Charted, moments_of}
use Rattle.journal_chart.specs.Journals.{Charts, IsChartOf}
use Rattle.journal_chart.specs.Picture.{picture_text}
use Rattle.market_words.specs.declared.words.ChartOptions.{ChartOptions}
use Rattle.market_prog.specs.declared.fault.RunFault.{RunFault}
use Rattle.market_prog.specs.declared.fault.RunFault.TheVariants.{Open, Read, TooLong, Write, Memory, HistoryFull}
use Rattle.market_prog.specs.Faults.{run_fault_of_input}
use Rattle.market_prog.specs.Drawing.{Draws, DrawsBefore, IsDrawnOf, StopsDrawing, columns_of}
use Rattle.market_prog.specs.Replay.{IsTellingFault}
use Rattle.market_prog.proofs.Telling.{telling-cause}

-- ---- how much is drawn

moments-count : (s : State) (calls : List Call) → length (moments_of s calls) ≡ length calls
moments-count s [] = refl
moments-count s (c ∷ calls) = ap (λ n. suc n) (moments-count (step s c.seat c.cmd).1 calls)

pub few-moments : (most : ℕ) (arenas : List ℕ) (from to : ℕ) (text : List ℕ) (chart : Charted) → IsChartOf most arenas from to text chart → chart.moments ≤ to
few-moments most arenas from to text chart is =
    let calls : List Call = map (λ e. e.call) is.history in
    omega (arith, ap (λ (c : Charted). c.moments) is.is, length-drop (from - 1) (moments_of is.start (take to calls)), moments-count is.start (take to calls), length-take to calls)

pub few-rows : (most : ℕ) (arenas : List ℕ) (from to : ℕ) (text : List ℕ) (chart : Charted) → IsChartOf most arenas from to text chart → length chart.lines.rows ≡ length arenas
few-rows most arenas from to text chart is = ap (λ (c : Charted). length c.lines.rows) is.is ∙ length-map arenas _

-- ---- what is written

pub draws-legal : (o : ChartOptions) (left left' taken taken' : Option (List ℕ)) (found : Verdict) (n : ℕ) (chart : Charted) → found ≡ Legal n
    → Charts (columns_of o) o.arenas.items o.from o.to left left' found chart → Appends taken taken' (picture_text (o.from - 1) chart) → Draws o left left' taken taken' found
draws-legal o left left' taken taken' found n chart legal h wrote =
    record {
      journal = h.text;
      read = h.read;
      within = h.within;
      is = h.is;
      text = picture_text (o.from - 1) chart;
      drawn = subst (λ (v : Verdict). IsDrawnOf o h.text v (picture_text (o.from - 1) chart)) (sym legal) (record { chart = chart; charted = h.charted n legal; is = refl });
      wrote = wrote;
    }

not-drawn : (o : ChartOptions) (journal : List ℕ) (found : Verdict) → ((n : ℕ) → found ≡ Legal n → ⊥) → IsDrawnOf o journal found []
not-drawn o journal (Legal n) other = absurd (other n refl)
not-drawn o journal BadHeader other = refl
not-drawn o journal (BadJson line) other = refl
not-drawn o journal (BadRecord line) other = refl
not-drawn o journal (WrongReply line due) other = refl

pub draws-nothing : (o : ChartOptions) (left left' taken : Option (List ℕ)) (found : Verdict) (chart : Charted) → ((n : ℕ) → found ≡ Legal n → ⊥)
    → Charts (columns_of o) o.arenas.items o.from o.to left left' found chart → Draws o left left' taken taken found
draws-nothing o left left' taken found chart other h =
    record {
      journal = h.text;
      read = h.read;
      within = h.within;
      is = h.is;
      text = [];
      drawn = not-drawn o h.text found other;
      wrote = Appends-nil taken;
    }

-- ---- faults

-- a journal that was not read whole is not drawn
nothing-before : {F : Type 0} (fault : InputFault F) (o : ChartOptions) (text : List ℕ) (taken : Option (List ℕ)) (failed : Bool) → CauseOf (λ _. ⊤) limit_of fault text failed false
    → DrawsBefore (run_fault_of_input fault) o text taken taken
nothing-before ReadFault o text taken failed c = Appends-nil taken
nothing-before LongInput o text taken failed c = Appends-nil taken
nothing-before WriteFault o text taken failed c = absurd (true≢false (sym c.2))
nothing-before InputMemory o text taken failed c = Appends-nil taken
nothing-before (Taker fault) o text taken failed c = Appends-nil taken

pub stops-reading : {F : Type 0} (fault : InputFault F) (o : ChartOptions) (left left' taken : Option (List ℕ)) (failed sink_failed : Bool) → sink_failed ≡ false
    → StopsReading left left' failed fault → StopsDrawing o left left' taken taken failed sink_failed (run_fault_of_input fault)
stops-reading fault o left left' taken failed sink_failed working h =
    subst (λ (b : Bool). StopsDrawing o left left' taken taken failed b (run_fault_of_input fault)) (sym working) (
    record {
      journal = h.text;
      read = h.read;
      wrote = nothing-before fault o h.text taken failed h.cause;
      cause = telling-cause fault h.text failed h.cause;
    })

-- a journal's picture was not written whole, or there was no memory for it
pub stops-writing : (fault : RunFault) (o : ChartOptions) (left left' taken taken' : Option (List ℕ)) (source_failed sink_failed : Bool) (found : Verdict) (n : ℕ) (chart : Charted)
    → found ≡ Legal n → Charts (columns_of o) o.arenas.items o.from o.to left left' found chart → source_failed ≡ false
    → IsTellingFault fault sink_failed → (fault ≢ Write → (taken' ≡ taken) × (sink_failed ≡ false)) → WritesFront taken taken' (picture_text (o.from - 1) chart)
    → StopsDrawing o left left' taken taken' source_failed sink_failed fault
stops-writing Write o left left' taken taken' source_failed sink_failed found n chart legal h read cause same front =
    record {
      journal = h.text;
      read = h.read;
      wrote = record { text = picture_text (o.from - 1) chart; drawn = record { chart = chart; charted = h.charted n legal; is = refl }; wrote = front };
      cause = (h.within, read, cause);
    }
stops-writing Memory o left left' taken taken' source_failed sink_failed found n chart legal h read cause same front =
    let still = same (λ bad. cc) in
    record {
      journal = h.text;
      read = h.read;
      wrote = subst (λ (t : Option (List ℕ)). Appends taken t []) (sym still.0) (Appends-nil taken);
      cause = (h.within, read, still.1);
    }
stops-writing Read o left left' taken taken' source_failed sink_failed found n chart legal h read cause same front = absurd cause
stops-writing TooLong o left left' taken taken' source_failed sink_failed found n chart legal h read cause same front = absurd cause
stops-writing HistoryFull o left left' taken taken' source_failed sink_failed found n chart legal h read cause same front = absurd cause
stops-writing (Open f) o left left' taken taken' source_failed sink_failed found n chart legal h read cause same front = absurd cause
