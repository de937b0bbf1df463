use Rattle.std.proofs.Common.{◌≡◌, ◌++◌, codes, ap, subst, ◌∙◌}
use Rattle.std.specs.Io.KnownBytes.{Appends}
use Rattle.byte_devices.specs.Devices.{WritesFront}
use Rattle.journal_replay.specs.declared.header.Extent.TheVariants.{Limited}
use Rattle.journal_replay.specs.Journal.{header_for}
use Rattle.journal_replay.proofs.Lines.{at-err, header-is, all-written, some-written}
use Rattle.market_types.specs.State.{State}
use Rattle.journal_replay.proofs.Json.{same-header}
use Rattle.journal_replay.proofs.journal.write_journal.Goals as goal

pub returns-in_err-write_entries-clause-prefix : goal.returns-in_err-write_entries-clause-prefix
returns-in_err-write_entries-clause-prefix g c =
    let start : State = c.args.chronicle.now.start in
    let same : c.of-header.result ≡ header_for Limited start = c.of-header.ensures ∙ same-header Limited start c.market.result.now c.market.ensures.numbers in
    let waits : c.push_line.new.waiting.items ≡ c.deref.result.now ++ codes "\n" = c.in_ok-push_line.ensures ∙ ap (λ xs. xs ++ (c.deref.result.now ++ codes "\n")) c.new-waiting.ensures.items in
    let whole = header-is Limited start c.of-header.result c.args.chronicle.now.log c.deref.result.now c.push_line.new.waiting.items same (c.deref.ensures.value ∙ c.in_ok-line.ensures) waits in
    at-err _ c.from_residual-in_err-write_entries.result
    (subst (λ xs. WritesFront (g.W.Sink.taken c.args.sink.now) (g.W.Sink.taken c.write_entries.new.sink) xs) whole c.in_err-write_entries.ensures.prefix)

pub returns-in_err-put_all-clause-prefix : goal.returns-in_err-put_all-clause-prefix
returns-in_err-put_all-clause-prefix g c =
    let start : State = c.args.chronicle.now.start in
    let same : c.of-header.result ≡ header_for Limited start = c.of-header.ensures ∙ same-header Limited start c.market.result.now c.market.ensures.numbers in
    let waits : c.push_line.new.waiting.items ≡ c.deref.result.now ++ codes "\n" = c.in_ok-push_line.ensures ∙ ap (λ xs. xs ++ (c.deref.result.now ++ codes "\n")) c.new-waiting.ensures.items in
    let whole = header-is Limited start c.of-header.result c.args.chronicle.now.log c.deref.result.now c.push_line.new.waiting.items same (c.deref.ensures.value ∙ c.in_ok-line.ensures) waits in
    at-err _ c.from_residual-in_err-put_all.result
    (some-written _ _ _ _ _ _ whole c.in_ok-write_entries.ensures.all
    (subst (λ xs. WritesFront (g.W.Sink.taken c.write_entries.new.sink) (g.W.Sink.taken c.put_all.new.sink) xs) c.deref-2.ensures.value c.in_err-put_all.ensures.prefix))

pub returns-clause-all : goal.returns-clause-all
returns-clause-all g c =
    let start : State = c.args.chronicle.now.start in
    let same : c.of-header.result ≡ header_for Limited start = c.of-header.ensures ∙ same-header Limited start c.market.result.now c.market.ensures.numbers in
    let waits : c.push_line.new.waiting.items ≡ c.deref.result.now ++ codes "\n" = c.in_ok-push_line.ensures ∙ ap (λ xs. xs ++ (c.deref.result.now ++ codes "\n")) c.new-waiting.ensures.items in
    let whole = header-is Limited start c.of-header.result c.args.chronicle.now.log c.deref.result.now c.push_line.new.waiting.items same (c.deref.ensures.value ∙ c.in_ok-line.ensures) waits in
    all-written _ _ _ _ _ _ whole c.in_ok-write_entries.ensures.all
    (subst (λ xs. Appends (g.W.Sink.taken c.write_entries.new.sink) (g.W.Sink.taken c.put_all.new.sink) xs) c.deref-2.ensures.value c.in_ok-put_all.ensures.all)

pub returns-clause-legal : goal.returns-clause-legal
returns-clause-legal g c =
    c.journals_of_legal_histories_are_legal.ensures Limited c.args.chronicle.now.start c.args.chronicle.now.log c.market.ensures.opened c.market.ensures.legal c.market.ensures.calls
    (λ _. c.in_ok-write_entries.ensures.few)
