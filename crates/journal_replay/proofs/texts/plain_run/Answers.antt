use Rattle.std.proofs.Common.{◌≡◌, ◌<◌, get_or, length, arith}
use Rattle.std.proofs.lemmas.Simd.{length-chunk, run_in_chunk_fails, run_in_chunk_le}
use lib.Lanes.{chunk}
use Rattle.journal_replay.proofs.PlainRuns.{is_other, plain-byte, run-of-all, run-of-some}
use Rattle.journal_replay.proofs.texts.plain_run.Goals as goal

pub returns-then-bits-eq0-clause-plain : goal.returns-then-bits-eq0-clause-plain
returns-then-bits-eq0-clause-plain c = λ k le lt.
    let text = c.args.text.now in
    let i = c.args.index in
    let long : length (chunk i 16 text) ≡ 16 = length-chunk i 16 text c.requires.room in
    let byte : get_or text k 0 < 256 = omega (arith, c.type_inv.text k) in
    plain-byte (get_or text k 0) byte (run_in_chunk_fails is_other text i 16 16 0 c.requires.room (run-of-all (chunk i 16 text) long c.if-bits-eq0.true) k le lt)

pub returns-clause-within : goal.returns-clause-within
returns-clause-within c =
    let text = c.args.text.now in
    let i = c.args.index in
    let long : length (chunk i 16 text) ≡ 16 = length-chunk i 16 text c.requires.room in
    run_in_chunk_le is_other text i 16 _ 0 c.requires.room (run-of-some (chunk i 16 text) long c.if-bits-eq0.false)

pub returns-clause-plain : goal.returns-clause-plain
returns-clause-plain c = λ k le lt.
    let text = c.args.text.now in
    let i = c.args.index in
    let long : length (chunk i 16 text) ≡ 16 = length-chunk i 16 text c.requires.room in
    let byte : get_or text k 0 < 256 = omega (arith, c.type_inv.text k) in
    plain-byte (get_or text k 0) byte (run_in_chunk_fails is_other text i 16 _ 0 c.requires.room (run-of-some (chunk i 16 text) long c.if-bits-eq0.false) k le lt)
