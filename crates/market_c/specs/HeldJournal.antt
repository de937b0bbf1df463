-- What a `HeldJournal` owns: nothing, or what a box of a journal owns (own).
use base.Fml.{Fml, ftrue}
use base.Stored.{Coded}
use denote.RawPtr.{Ptr}
use Rattle.std.specs.Prelude.{Option, Some, None}
use Rattle.std.specs.Coded.{coded_option}
use Rattle.std.specs.Box.Ownership.{box_owns}
use Rattle.std.specs.Global.{Global}
use Rattle.std_heap.specs.contracts.GlobalAllocator.TheImpl.{ghosts}
use Rattle.journal_text.specs.contracts.unread.Unread.{the_row}

abbrev pub journal_owns : Global → Ptr → Option the_row.Denot → Fml
journal_owns alloc p (Some m) = box_owns (ghosts.dealloc_token alloc) the_row p m
journal_owns alloc p None = ftrue

abbrev pub journal_coded : Coded (Option the_row.Denot)
journal_coded = coded_option the_row.coded
