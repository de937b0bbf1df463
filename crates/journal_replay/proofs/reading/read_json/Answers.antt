use Rattle.std.proofs.Common.{sym, ◌∙◌, ap}
use Rattle.std.proofs.lemmas.Bool.{false≢true}
use Rattle.serde_json.specs.Read.{read}
use Rattle.journal_replay.proofs.Json.{json-read, json-none}
use Rattle.journal_replay.proofs.reading.read_json.Goals as goal

pub returns-in_default : goal.returns-in_default
returns-in_default c = sym (json-none c.args.text.now c.in_default.ensures.cases.0)

pub returns-in-Ok-from_str : goal.returns-in-Ok-from_str
returns-in-Ok-from_str c =
    let utf8 = c.in-Ok.ensures.cases in
    sym (json-read c.args.text.now utf8.1 ∙ ap read (sym utf8.0) ∙ c.in-Ok-from_str.ensures.ok)

pub returns-else-is_memory : goal.returns-else-is_memory
returns-else-is_memory c =
    let utf8 = c.in-Ok.ensures.cases in
    sym (json-read c.args.text.now utf8.1 ∙ ap read (sym utf8.0) ∙ c.in-Err.ensures.err (λ memory. false≢true (c.if-is_memory.ensures.1 memory)))
