-- A journal that is found legal tells a legal history, and the other way round.
use Rattle.std.specs.Str.{bytes_eq}
use Rattle.std.proofs.Common.{◌≡◌, ℕ, ◌+◌, ◌<◌, ◌≤◌, Bool, true, false, cond, List, [], ◌∷◌, length, Option, Some, None, option_and_then, refl, sym, ap, ◌∙◌, subst, arith}
use Rattle.std.proofs.lemmas.Bool.Decides.{nat_tests}
use Rattle.std.proofs.lemmas.Slice.Eq.{bytes_eq-Decides}
use Rattle.serde_json.specs.Data.{Data}
use Rattle.market_types.specs.declared.command.Cmd.{Cmd}
use Rattle.market_types.specs.declared.reply.Entry.{Entry}
use Rattle.market_types.specs.State.{State}
use Rattle.market_types.specs.Step.{step}
use Rattle.market_texts.specs.Texts.{reply_text}
use Rattle.market_types.specs.History.{IsLegal, calls_of, state_after}
use Rattle.line_engine.specs.Lines.{Line, lines_of}
use Rattle.line_engine.specs.Rule.{after}
use Rattle.journal_replay.specs.declared.checker.Progress.{Progress}
use Rattle.journal_replay.specs.declared.checker.Progress.TheVariants.{Unopened, Replaying, Faulty}
use Rattle.journal_replay.specs.declared.header.Extent.{Extent}
use Rattle.journal_replay.specs.declared.header.Extent.TheVariants.{Limited, Endless}
use Rattle.journal_replay.specs.declared.reading.Opened.{Opened}
use Rattle.journal_replay.specs.declared.verdict.Verdict.{Verdict}
use Rattle.journal_replay.specs.declared.verdict.Verdict.TheVariants.{Legal, BadHeader, BadJson, BadRecord, WrongReply}
use Rattle.journal_replay.specs.Reading.{Recorded, header_of, entry_in}
use Rattle.journal_replay.specs.Verdicts.{json_by, longest_line, most_entries, is_full, after_header, after_reply, after_entry, after_json, journal_rule, verdict_of, verdict}
use Rattle.journal_replay.specs.Legality.{IsEntryLine, AreEntryLines, IsLegalJournal}

-- no command changes how many seats and levels there are
abbrev pub KeepsNumbers : Type 0
KeepsNumbers = (s : State) (seat : ℕ) (cmd : Cmd) → (length (step s seat cmd).1.seats ≡ length s.seats) × ((step s seat cmd).1.levels ≡ s.levels)

-- the first fault stays
fault-stays : (v : Verdict) (extent : Extent) (lines : List Line) → after journal_rule (Faulty v extent) lines ≡ Faulty v extent
fault-stays v extent [] = refl
fault-stays v extent (line ∷ lines) = fault-stays v extent lines

found-fault : (v : Verdict) (extent : Extent) (lines : List Line) (n : ℕ) → verdict_of (after journal_rule (Faulty v extent) lines) ≡ Legal n → v ≡ Legal n
found-fault v extent lines n h = sym (ap verdict_of (fault-stays v extent lines)) ∙ h

-- ---- when entries are too many

room-left : (extent : Extent) (k : ℕ) → is_full extent k ≡ false → extent ≡ Limited → k < most_entries
room-left Limited k left limited = grind (arith, nat_tests)
room-left Endless k left limited = absurd (cc)

pub not-full : (extent : Extent) (k : ℕ) → (extent ≡ Limited → k < most_entries) → is_full extent k ≡ false
not-full Limited k few = let small = few refl in grind (arith, nat_tests)
not-full Endless k few = refl

-- ---- what is found legal is so

-- the lines read as a legal history, behind k entries
record Found (extent : Extent) (s : State) (k : ℕ) (lines : List Line) (n : ℕ) : Type 0 where
  pub history : List Entry
  pub entries : AreEntryLines (length s.seats) s.levels lines history
  pub legal : IsLegal s history
  pub count : k + length history ≡ n
  pub few : extent ≡ Limited → n ≤ most_entries

abbrev FoundAfter : Extent → List Line → ℕ → Type 0
FoundAfter extent lines n =
    (s : State) (k : ℕ) → (extent ≡ Limited → k ≤ most_entries) → verdict_of (after journal_rule (Replaying s k extent) lines) ≡ Legal n → Found extent s k lines n

module _ (keeps : KeepsNumbers) (extent : Extent) where
  found-more : (s : State) (k : ℕ) (line : Line) (lines : List Line) (n : ℕ) (e : Recorded) → (extent ≡ Limited → k < most_entries)
      → option_and_then (entry_in (length s.seats) s.levels) (json_by line.form line.bytes) ≡ Some e
      → reply_text (step s e.seat e.cmd).0 ≡ e.reply → Found extent (step s e.seat e.cmd).1 (k + 1) lines n → Found extent s k (line ∷ lines) n
  found-more s k line lines n e small reads same f =
      let o = step s e.seat e.cmd in
      let first : Entry = record { call = record { seat = e.seat; cmd = e.cmd }; reply = o.0 } in
      let is : IsEntryLine (length s.seats) s.levels line first = reads ∙ ap (λ text. Some (record { seat = e.seat; cmd = e.cmd; reply = text })) (sym same) in
      let rest : AreEntryLines (length s.seats) s.levels lines f.history =
      subst (λ (z : ℕ × ℕ). AreEntryLines z.0 z.1 lines f.history) (λ i. ((keeps s e.seat e.cmd).0 i, (keeps s e.seat e.cmd).1 i)) f.entries in
      record {
        history = first ∷ f.history;
        entries = (is, rest);
        legal = ap (λ rs. o.0 ∷ rs) f.legal;
        count = omega (arith, f.count);
        few = f.few;
      }

  found-reply : (b : Bool) (s : State) (k : ℕ) (line : Line) (lines : List Line) (n : ℕ) (e : Recorded) → bytes_eq (reply_text (step s e.seat e.cmd).0) e.reply ≡ b → (extent ≡ Limited → k < most_entries)
      → option_and_then (entry_in (length s.seats) s.levels) (json_by line.form line.bytes) ≡ Some e
      → verdict_of (after journal_rule (cond b (Replaying (step s e.seat e.cmd).1 (k + 1) extent) (Faulty (WrongReply (k + 2) (reply_text (step s e.seat e.cmd).0)) extent)) lines) ≡ Legal n
      → FoundAfter extent lines n → Found extent s k (line ∷ lines) n
  found-reply true s k line lines n e same small reads h more =
      found-more s k line lines n e small reads ((bytes_eq-Decides (reply_text (step s e.seat e.cmd).0) e.reply).0 same) (more (step s e.seat e.cmd).1 (k + 1) (λ limited. omega (arith, small limited)) h)
  found-reply false s k line lines n e same small reads h more = absurd (let wrong = found-fault (WrongReply (k + 2) (reply_text (step s e.seat e.cmd).0)) extent lines n h in cc)

  found-entry : (r : Option Recorded) (s : State) (k : ℕ) (line : Line) (lines : List Line) (n : ℕ) → (extent ≡ Limited → k < most_entries)
      → option_and_then (entry_in (length s.seats) s.levels) (json_by line.form line.bytes) ≡ r
      → verdict_of (after journal_rule (after_entry s k extent r) lines) ≡ Legal n → FoundAfter extent lines n → Found extent s k (line ∷ lines) n
  found-entry None s k line lines n small reads h more = absurd (let bad = found-fault (BadRecord (k + 2)) extent lines n h in cc)
  found-entry (Some e) s k line lines n small reads h more = found-reply (bytes_eq (reply_text (step s e.seat e.cmd).0) e.reply) s k line lines n e refl small reads h more

  found-record : (b : Bool) (d : Data) (s : State) (k : ℕ) (line : Line) (lines : List Line) (n : ℕ) → is_full extent k ≡ b → json_by line.form line.bytes ≡ Some d
      → verdict_of (after journal_rule (cond b (Faulty (BadRecord (k + 2)) extent) (after_entry s k extent (entry_in (length s.seats) s.levels d))) lines) ≡ Legal n → FoundAfter extent lines n → Found extent s k (line ∷ lines) n
  found-record true d s k line lines n many reads h more = absurd (let bad = found-fault (BadRecord (k + 2)) extent lines n h in cc)
  found-record false d s k line lines n many reads h more =
      found-entry (entry_in (length s.seats) s.levels d) s k line lines n (room-left extent k many) (ap (option_and_then (entry_in (length s.seats) s.levels)) reads) h more

  found-json : (j : Option Data) (s : State) (k : ℕ) (line : Line) (lines : List Line) (n : ℕ) → json_by line.form line.bytes ≡ j
      → verdict_of (after journal_rule (after_json s k extent j) lines) ≡ Legal n → FoundAfter extent lines n → Found extent s k (line ∷ lines) n
  found-json None s k line lines n reads h more = absurd (let bad = found-fault (BadJson (k + 2)) extent lines n h in cc)
  found-json (Some d) s k line lines n reads h more = found-record (is_full extent k) d s k line lines n refl reads h more

  found-lines : (lines : List Line) (n : ℕ) → FoundAfter extent lines n
  found-lines [] n s k small h = record { history = []; entries = tt; legal = refl; count = (let same : k ≡ n = cc in omega arith); few = λ limited. (let same : k ≡ n = cc in omega (arith, small limited)) }
  found-lines (line ∷ lines) n s k small h = found-json (json_by line.form line.bytes) s k line lines n refl h (found-lines lines n)

module _ (keeps : KeepsNumbers) where
  found-header : (o : Option Opened) (text : List ℕ) (line : Line) (lines : List Line) (n : ℕ) → lines_of longest_line text ≡ line ∷ lines → option_and_then header_of (json_by line.form line.bytes) ≡ o
      → verdict_of (after journal_rule (after_header o) lines) ≡ Legal n → IsLegalJournal text n
  found-header None text line lines n are reads h = absurd (let bad = found-fault BadHeader Limited lines n h in cc)
  found-header (Some o) text line lines n are reads h =
      let f : Found o.extent o.market 0 lines n = found-lines keeps o.extent lines n o.market 0 (λ limited. omega arith) h in
      record {
        start = o.market;
        extent = o.extent;
        history = f.history;
        reads = record { header = line; lines = lines; are = are; opens = reads; entries = f.entries };
        legal = f.legal;
        count = omega (arith, f.count);
        few = f.few;
      }

  found-text : (lines : List Line) (text : List ℕ) (n : ℕ) → lines_of longest_line text ≡ lines → verdict_of (after journal_rule Unopened lines) ≡ Legal n → IsLegalJournal text n
  found-text [] text n are h = absurd (cc)
  found-text (line ∷ lines) text n are h = found-header (option_and_then header_of (json_by line.form line.bytes)) text line lines n are refl h

  pub found-legal : (text : List ℕ) (n : ℕ) → verdict text ≡ Legal n → IsLegalJournal text n
  found-legal text n h = found-text (lines_of longest_line text) text n refl h

-- ---- what is so is found legal

module _ (keeps : KeepsNumbers) (extent : Extent) where
  legal-reply : (s : State) (k : ℕ) (e : Entry) → e.reply ≡ (step s e.call.seat e.call.cmd).0
      → after_reply k extent (reply_text e.reply) (step s e.call.seat e.call.cmd) ≡ Replaying (step s e.call.seat e.call.cmd).1 (k + 1) extent
  legal-reply s k e due =
      let o = step s e.call.seat e.call.cmd in
      let same : bytes_eq (reply_text o.0) (reply_text e.reply) ≡ true = (bytes_eq-Decides (reply_text o.0) (reply_text e.reply)).1 (ap reply_text (sym due)) in
      rw same refl

  pub legal-line : (j : Option Data) (s : State) (k : ℕ) (e : Entry) → (extent ≡ Limited → k < most_entries)
      → option_and_then (entry_in (length s.seats) s.levels) j ≡ Some (record { seat = e.call.seat; cmd = e.call.cmd; reply = reply_text e.reply })
      → e.reply ≡ (step s e.call.seat e.call.cmd).0 → after_json s k extent j ≡ Replaying (step s e.call.seat e.call.cmd).1 (k + 1) extent
  legal-line None s k e small reads due = absurd (cc)
  legal-line (Some d) s k e small reads due =
      let few : is_full extent k ≡ false = not-full extent k small in
      rw few (ap (after_entry s k extent) reads ∙ legal-reply s k e due)

  legal-lines : (lines : List Line) (history : List Entry) (s : State) (k : ℕ) → AreEntryLines (length s.seats) s.levels lines history → IsLegal s history → (extent ≡ Limited → k + length history ≤ most_entries)
      → after journal_rule (Replaying s k extent) lines ≡ Replaying (state_after s (calls_of history)) (k + length history) extent
  legal-lines [] [] s k are legal few = ap (λ n. Replaying s n extent) (let same : k ≡ k + length {A = Entry} [] = omega arith in same)
  legal-lines (line ∷ lines) (e ∷ history) s k are legal few =
      let o = step s e.call.seat e.call.cmd in
      let due : e.reply ≡ o.0 = cc in
      let rest : IsLegal o.1 history = cc in
      let these : AreEntryLines (length o.1.seats) o.1.levels lines history =
      subst (λ (z : ℕ × ℕ). AreEntryLines z.0 z.1 lines history) (λ i. (sym (keeps s e.call.seat e.call.cmd).0 i, sym (keeps s e.call.seat e.call.cmd).1 i)) are.1 in
      let small : extent ≡ Limited → k < most_entries = λ limited. omega (arith, few limited) in
      ap (λ (p : Progress). after journal_rule p lines) (legal-line (json_by line.form line.bytes) s k e small are.0 due)
      ∙ legal-lines lines history o.1 (k + 1) these rest (λ limited. omega (arith, few limited))
      ∙ ap (λ n. Replaying (state_after o.1 (calls_of history)) n extent) (let same : k + 1 + length history ≡ k + length (e ∷ history) = omega arith in same)
  legal-lines [] (e ∷ history) s k are legal few = absurd are
  legal-lines (line ∷ lines) [] s k are legal few = absurd are

module _ (keeps : KeepsNumbers) where
  pub legal-found : (text : List ℕ) (n : ℕ) → IsLegalJournal text n → verdict text ≡ Legal n
  legal-found text n j =
      let few : j.extent ≡ Limited → 0 + length j.history ≤ most_entries = λ limited. omega (arith, j.count, j.few limited) in
      ap (λ (ls : List Line). verdict_of (after journal_rule Unopened ls)) j.reads.are
      ∙ ap (λ (o : Option Opened). verdict_of (after journal_rule (after_header o) j.reads.lines)) j.reads.opens
      ∙ ap verdict_of (legal-lines keeps j.extent j.reads.lines j.history j.start 0 j.reads.entries j.legal few)
      ∙ ap Legal (let same : 0 + length j.history ≡ n = omega (arith, j.count) in same)
