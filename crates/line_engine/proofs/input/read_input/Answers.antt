use Rattle.std.proofs.Common.{◌≡◌, ◌+◌, ◌-◌, ◌≤◌, ◌++◌, length, take, refl, arith, length-append, length-take}
use Rattle.std.proofs.KnownBytes.{Consumes-trans}
use Rattle.std.proofs.lemmas.Result.{err_from_is_err_and}
use Rattle.line_engine.specs.Input.{longest_input}
use Rattle.line_engine.proofs.Running.{cause-of-read}
use Rattle.line_engine.proofs.input.read_input.Goals as goal

pub returns-in_err-count-clause-stops : goal.returns-in_err-count-clause-stops
returns-in_err-count-clause-stops g c =
    let l = c.loop-input in
    let r = c.from_residual-in_err-count in
    let p = err_from_is_err_and r.result r.ensures.1 in
    let broken = c.in_err-count.ensures.breaks_off in
    let room : length l.input.items + (longest_input - c.len.result) ≡ longest_input = omega (arith, l.input.ok.0, l.invariant.within, c.len.ensures) in
    rw (p.1, p.2) (record {
      input = l.input.items ++ broken.piece;
      read = Consumes-trans _ _ _ l.input.items broken.piece l.invariant.read broken.read;
      cause = cause-of-read (λ _. ⊥) (λ _. longest_input) c.in_err-count.field-0.0 l.input.items broken.piece (longest_input - c.len.result) _ room broken.why;
    })

pub returns-in_err-extend_from_slice-clause-stops : goal.returns-in_err-extend_from_slice-clause-stops
returns-in_err-extend_from_slice-clause-stops g c =
    let l = c.loop-input in
    let r = c.from_residual-in_err-extend_from_slice in
    let p = err_from_is_err_and r.result r.ensures.1 in
    let piece = take c.in_ok-count.count c.read_piece.new.buffer in
    let within : length (l.input.items ++ piece) ≤ longest_input =
    omega (arith, length-append l.input.items piece, length-take c.in_ok-count.count c.read_piece.new.buffer, c.in_ok-count.ensures.bound, c.in_ok-count.ensures.within, l.input.ok.0, l.invariant.within, c.len.ensures) in
    rw (p.1, p.2) (record {
      input = l.input.items ++ piece;
      read = Consumes-trans _ _ _ l.input.items piece l.invariant.read c.in_ok-count.ensures.read;
      cause = (within, c.in_ok-count.ensures.working, refl);
    })
