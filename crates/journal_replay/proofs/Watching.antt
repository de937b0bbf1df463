-- What a watcher has seen of a journal that is legal.
use Rattle.std.proofs.Common.{◌≡◌, ℕ, ◌+◌, ◌<◌, ◌≤◌, false, List, [], ◌∷◌, length, Option, Some, None, option_and_then, refl, sym, ap, ◌∙◌, subst, arith}
use Rattle.serde_json.specs.Data.{Data}
use Rattle.market_types.specs.declared.reply.Entry.{Entry}
use Rattle.market_types.specs.State.{State}
use Rattle.market_types.specs.Step.{step}
use Rattle.market_texts.specs.Texts.{reply_text}
use Rattle.market_types.specs.History.{IsLegal}
use Rattle.line_engine.specs.Lines.{Line, lines_of}
use Rattle.line_engine.specs.Rule.{after}
use Rattle.line_engine.specs.Input.{TakesAll}
use Rattle.journal_replay.specs.declared.checker.Progress.{Progress}
use Rattle.journal_replay.specs.declared.checker.Progress.TheVariants.{Unopened, Replaying}
use Rattle.journal_replay.specs.declared.header.Extent.{Extent}
use Rattle.journal_replay.specs.declared.header.Extent.TheVariants.{Limited}
use Rattle.journal_replay.specs.declared.reading.Opened.{Opened}
use Rattle.journal_replay.specs.Reading.{Recorded, entry_in}
use Rattle.journal_replay.specs.Verdicts.{after_header, after_json, is_full, journal_rule, json_by, longest_line, most_bytes, most_entries, verdict_of}
use Rattle.journal_replay.specs.Legality.{AreEntryLines, IsLegalJournal}
use Rattle.journal_replay.specs.Watched.{Seen, Watched, Watches, seen_all, seen_by_entry, seen_by_json, watched_rule}
use Rattle.journal_replay.proofs.Legal.{KeepsNumbers, found-legal, legal-line, not-full}
use Rattle.journal_replay.proofs.Limits.{watched-progress}

module _ {W : Type 0} (seen : Seen W) (keeps : KeepsNumbers) (extent : Extent) where
  -- an entry is seen as it stands in the history
  seen-line : (j : Option Data) (s : State) (k : ℕ) (e : Entry) (w : W) → (extent ≡ Limited → k < most_entries)
      → option_and_then (entry_in (length s.seats) s.levels) j ≡ Some (record { seat = e.call.seat; cmd = e.call.cmd; reply = reply_text e.reply })
      → e.reply ≡ (step s e.call.seat e.call.cmd).0 → seen_by_json seen s k extent j w ≡ seen w (step s e.call.seat e.call.cmd).1 e.call.cmd e.reply
  seen-line None s k e w small reads due = absurd (cc)
  seen-line (Some d) s k e w small reads due =
      let few : is_full extent k ≡ false = not-full extent k small in
      rw few (ap (λ (r : Option Recorded). seen_by_entry seen s r w) reads ∙ ap (λ r. seen w (step s e.call.seat e.call.cmd).1 e.call.cmd r) (sym due))

  seen-lines : (lines : List Line) (history : List Entry) (s : State) (k : ℕ) (w : W) → AreEntryLines (length s.seats) s.levels lines history → IsLegal s history
      → (extent ≡ Limited → k + length history ≤ most_entries) → (after (watched_rule seen) (Replaying s k extent, w) lines).1 ≡ seen_all seen s history w
  seen-lines [] [] s k w are legal few = refl
  seen-lines (line ∷ lines) (e ∷ history) s k w are legal few =
      let o = step s e.call.seat e.call.cmd in
      let due : e.reply ≡ o.0 = cc in
      let rest : IsLegal o.1 history = cc in
      let these : AreEntryLines (length o.1.seats) o.1.levels lines history =
      subst (λ (z : ℕ × ℕ). AreEntryLines z.0 z.1 lines history) (λ i. (sym (keeps s e.call.seat e.call.cmd).0 i, sym (keeps s e.call.seat e.call.cmd).1 i)) are.1 in
      let small : extent ≡ Limited → k < most_entries = λ limited. omega (arith, few limited) in
      let progress : after_json s k extent (json_by line.form line.bytes) ≡ Replaying o.1 (k + 1) extent = legal-line keeps extent (json_by line.form line.bytes) s k e small are.0 due in
      let saw : seen_by_json seen s k extent (json_by line.form line.bytes) w ≡ seen w o.1 e.call.cmd e.reply = seen-line (json_by line.form line.bytes) s k e w small are.0 due in
      (λ i. (after (watched_rule seen) (progress i, saw i) lines).1)
      ∙ seen-lines lines history o.1 (k + 1) (seen w o.1 e.call.cmd e.reply) these rest (λ limited. omega (arith, few limited))
  seen-lines [] (e ∷ history) s k w are legal few = absurd are
  seen-lines (line ∷ lines) [] s k w are legal few = absurd are

module _ {W : Type 0} (seen : Seen W) (keeps : KeepsNumbers) where
  watched-text : (text : List ℕ) (n : ℕ) (w : W) → IsLegalJournal text n → Watched seen text w (after (watched_rule seen) (Unopened, w) (lines_of longest_line text)).1
  watched-text text n w j =
      let few : j.extent ≡ Limited → 0 + length j.history ≤ most_entries = λ limited. omega (arith, j.count, j.few limited) in
      record {
        start = j.start;
        extent = j.extent;
        history = j.history;
        reads = j.reads;
        legal = j.legal;
        is =
            ap (λ (ls : List Line). (after (watched_rule seen) (Unopened, w) ls).1) j.reads.are
            ∙ ap (λ (o : Option Opened). (after (watched_rule seen) (after_header o, w) j.reads.lines).1) j.reads.opens
            ∙ seen-lines seen keeps j.extent j.reads.lines j.history j.start 0 w j.reads.entries j.legal few;
      }

  -- whoever has taken all lines of a text has watched it
  pub watches : (start end : Progress × W) (left left' taken taken' : Option (List ℕ)) → start.0 ≡ Unopened
      → TakesAll (watched_rule seen) longest_line (λ now. most_bytes now.0) start end left left' taken taken'
      → Watches seen start.1 end.1 left left' (verdict_of end.0)
  watches start end left left' taken taken' begun h =
      let lines = lines_of longest_line h.input in
      let is : start ≡ (Unopened, start.1) = λ i. (begun i, start.1) in
      let progress : end.0 ≡ after journal_rule Unopened lines =
      ap (λ (now : Progress × W). now.0) h.state ∙ watched-progress seen start lines ∙ ap (λ s. after journal_rule s lines) begun in
      record {
        text = h.input;
        read = h.read;
        within = subst (λ n. length h.input ≤ n) (ap most_bytes progress) h.within;
        is = ap verdict_of progress;
        watched = λ n found. subst (λ (w' : W). Watched seen h.input start.1 w')
            (sym (ap (λ (now : Progress × W). now.1) h.state ∙ ap (λ (now : Progress × W). (after (watched_rule seen) now lines).1) is))
            (watched-text h.input n start.1 (found-legal keeps h.input n (sym (ap verdict_of progress) ∙ found)));
      }
