use Rattle.journal_replay.proofs.Lines.{parts-are-journal}
use Rattle.journal_replay.proofs.law.header_and_parts_are_the_journal.Goals as goal

pub returns : goal.returns
returns c = λ extent start history parts row. parts-are-journal extent start history parts (c.parts_in_a_row_are_the_history.ensures history parts row)
