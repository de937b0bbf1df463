use Rattle.std.proofs.Common.{◌++◌, ap, sym, ◌∙◌}
use Rattle.demo_callers.specs.Notes.{note_of}
use Rattle.demo_callers.proofs.Lines.{notes-more}
use Rattle.demo_callers.proofs.note.Notes.agree.Goals as goal

pub loop-index-preserved : goal.loop-index-preserved
loop-index-preserved c =
    c.in_ok-push_entry.ensures ∙ (ap (λ xs. xs ++ note_of c.args.seat c.entry.result.now) c.loop-index.invariant
    ∙ sym (notes-more c.args.seat c.loop-index.index c.args.chronicle.now.log c.entry.result.now c.entry.ensures.exact))
