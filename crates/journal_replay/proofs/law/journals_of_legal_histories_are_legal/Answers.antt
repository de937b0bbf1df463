use Rattle.journal_replay.proofs.Told.{journal-told}
use Rattle.journal_replay.proofs.law.journals_of_legal_histories_are_legal.Goals as goal

pub returns : goal.returns
returns c = λ extent start history opened legal calls few.
    c.legal_journals_tell_legal_histories.ensures.legal _ _
    (journal-told start extent history opened legal calls (c.written_lines_are_short.ensures start history opened legal)
    (λ cmd fits. c.texts_spell_commands.ensures.reads_back start.levels cmd fits) few)
