use Rattle.std.proofs.Common.{◌≡◌, ◌++◌, ◌+◌, codes, List, [], ℕ, take, ap, sym, subst, ◌∙◌, append_assoc}
use Rattle.std.specs.Io.KnownBytes.{Appends}
use Rattle.byte_devices.specs.Devices.{WritesFront}
use Rattle.market_types.specs.declared.reply.Entry.{Entry}
use Rattle.journal_replay.specs.Journal.{entry_line, entry_lines}
use Rattle.journal_replay.proofs.Lines.{at-err, lines-more, fronts-more, fronts-written, front-of-whole, front-then, lines-split, moved-fronts}
use Rattle.journal_replay.proofs.journal.write_lines.Goals as goal
use Rattle.journal_replay.proofs.journal.write_lines.Goals.{then-len-ge-PIECE+in_ok-put_all, else-len-ge-PIECE}

pub returns-in_err-push_entry-clause-prefix : goal.returns-in_err-push_entry-clause-prefix
returns-in_err-push_entry-clause-prefix g c =
    at-err _ c.from_residual.result (front-of-whole _ _ c.loop-index.waiting.items c.args.waiting.now.items c.args.levels c.loop-index.index c.args.entries.now c.loop-index.invariant.1)

pub returns-in_err-put_all-clause-prefix : goal.returns-in_err-put_all-clause-prefix
returns-in_err-put_all-clause-prefix g c =
    let levels : ℕ = c.args.levels in
    let log : List Entry = c.args.entries.now in
    let start : List ℕ = c.args.waiting.now.items in
    let e : Entry = c.entry_at.result.now in
    let more : c.push_entry.new.waiting.items ≡ c.loop-index.waiting.items ++ (entry_line levels e ++ codes "\n") = c.in_ok-push_entry.ensures in
    let longer : start ++ entry_lines levels (take (c.loop-index.index + 1) log) ≡ (start ++ entry_lines levels (take c.loop-index.index log)) ++ (entry_line levels e ++ codes "\n") =
    ap (λ xs. start ++ xs) (lines-more levels c.loop-index.index log e c.entry_at.ensures.exact) ∙ sym (append_assoc start (entry_lines levels (take c.loop-index.index log)) (entry_line levels e ++ codes "\n")) in
    let grown = fronts-more _ _ _ _ _ _ _ c.loop-index.invariant.1 more longer in
    at-err _ c.from_residual-in_err-put_all.result (front-then _ _ _ _ _ _ _ grown (lines-split start levels (c.loop-index.index + 1) log)
    (subst (λ xs. WritesFront (g.W.Sink.taken c.loop-index.sink) (g.W.Sink.taken c.put_all.new.sink) xs) c.deref.ensures.value c.in_err-put_all.ensures.prefix))

pub loop-index-preserved : goal.loop-index-preserved
loop-index-preserved g c =
    let levels : ℕ = c.args.levels in
    let log : List Entry = c.args.entries.now in
    let start : List ℕ = c.args.waiting.now.items in
    let e : Entry = c.entry_at.result.now in
    let more : c.push_entry.new.waiting.items ≡ c.loop-index.waiting.items ++ (entry_line levels e ++ codes "\n") = c.in_ok-push_entry.ensures in
    let longer : start ++ entry_lines levels (take (c.loop-index.index + 1) log) ≡ (start ++ entry_lines levels (take c.loop-index.index log)) ++ (entry_line levels e ++ codes "\n") =
    ap (λ xs. start ++ xs) (lines-more levels c.loop-index.index log e c.entry_at.ensures.exact) ∙ sym (append_assoc start (entry_lines levels (take c.loop-index.index log)) (entry_line levels e ++ codes "\n")) in
    let grown = fronts-more _ _ _ _ _ _ _ c.loop-index.invariant.1 more longer in
    elim c.if-len-ge-PIECE.branch [
      | then-len-ge-PIECE+in_ok-put_all w ↦
          let all : Appends (g.W.Sink.taken c.loop-index.sink) (g.W.Sink.taken w.put_all.new.sink) c.push_entry.new.waiting.items =
          subst (λ xs. Appends (g.W.Sink.taken c.loop-index.sink) (g.W.Sink.taken w.put_all.new.sink) xs) w.deref.ensures.value w.in_ok-put_all.ensures.all in
          let nothing : c.if-len-ge-PIECE.waiting.items ≡ [] = ap (λ v. v.items) w.waiting-is ∙ w.clear.ensures.items in (
            ap g.W.Sink.failed w.sink-is ∙ w.in_ok-put_all.ensures.working ∙ c.loop-index.invariant.0,
            moved-fronts _ _ _ _ _ _ (ap g.W.Sink.taken w.sink-is) nothing (fronts-written _ _ _ _ _ grown all),
          )
      | else-len-ge-PIECE w ↦ (
        ap g.W.Sink.failed w.sink-is ∙ c.loop-index.invariant.0,
        moved-fronts _ _ _ _ _ _ (ap g.W.Sink.taken w.sink-is) (ap (λ v. v.items) w.waiting-is) grown,
      )
    ]
