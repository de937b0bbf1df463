-- The text of a journal: a line for what the market was opened with, and a line for each call with its reply (own).
use Rattle.std.specs.Prelude.{ℕ, Bool, true, false, ◌==◌, ◌&&◌, if◌then◌else◌, List, [], ◌∷◌, ◌++◌, length, flat_map, codes, decimal}
use Rattle.json.specs.Print.{quoted}
use Rattle.serde_json.specs.Data.{Data, number, unsigned, string, object, no_members, member}
use Rattle.market_types.specs.declared.reply.Entry.{Entry}
use Rattle.market_types.specs.State.{State, usual_last}
use Rattle.market_types.specs.Opening.{numbers_of}
use Rattle.edit_history.specs.declared.part.Part.{Part}
use Rattle.market_texts.specs.Texts.{cmd_text, reply_text}
use Rattle.journal_replay.specs.declared.header.Extent.{Extent}
use Rattle.journal_replay.specs.declared.header.Extent.TheVariants.{Limited, Endless}
use Rattle.journal_replay.specs.declared.header.Header.{Header}

-- ---- what a header tells

-- the header of a journal of so many entries, of a market that was opened so
abbrev pub header_for : Extent → State → Header
header_for extent s =
    record { opening = numbers_of s; extent = extent }

abbrev pub is_limited : Extent → Bool
is_limited Limited = true
is_limited Endless = false

-- version 2 tells all of it: no other last number than the usual one, and no journal without a limit
abbrev pub fits_second : Header → Bool
fits_second h = is_limited h.extent && (h.opening.last == usual_last)

-- ---- as JSON

abbrev pub second_data : Header → Data
second_data h =
    object (member (codes "base") (number (unsigned h.opening.base))
    (member (codes "hard") (number (unsigned h.opening.hard))
    (member (codes "journal") (number (unsigned 2))
    (member (codes "levels") (number (unsigned h.opening.levels))
    (member (codes "seats") (number (unsigned h.opening.seats)) no_members)))))

abbrev pub third_data : Header → Data
third_data h =
    object (member (codes "base") (number (unsigned h.opening.base))
    (member (codes "hard") (number (unsigned h.opening.hard))
    (member (codes "journal") (number (unsigned 3))
    (member (codes "last") (number (unsigned h.opening.last))
    (member (codes "levels") (number (unsigned h.opening.levels))
    (member (codes "seats") (number (unsigned h.opening.seats)) no_members))))))

abbrev pub header_data : Header → Data
header_data h = if fits_second h then second_data h else third_data h

abbrev pub entry_data : List ℕ → List ℕ → ℕ → Data
entry_data cmd reply seat =
    object (member (codes "cmd") (string cmd)
    (member (codes "reply") (string reply)
    (member (codes "seat") (number (unsigned seat)) no_members)))

-- ---- as text

-- the line of a header in version 2
abbrev pub second_line : Header → List ℕ
second_line h =
    codes "{\"base\":" ++ (decimal h.opening.base ++ (codes ",\"hard\":" ++ (decimal h.opening.hard ++ (codes ",\"journal\":" ++ (decimal 2
    ++ (codes ",\"levels\":" ++ (decimal h.opening.levels ++ (codes ",\"seats\":" ++ (decimal h.opening.seats ++ codes "}")))))))))

-- the line of a header in version 3
abbrev pub third_line : Header → List ℕ
third_line h =
    codes "{\"base\":" ++ (decimal h.opening.base ++ (codes ",\"hard\":" ++ (decimal h.opening.hard ++ (codes ",\"journal\":" ++ (decimal 3 ++ (codes ",\"last\":" ++ (decimal h.opening.last
    ++ (codes ",\"levels\":" ++ (decimal h.opening.levels ++ (codes ",\"seats\":" ++ (decimal h.opening.seats ++ codes "}")))))))))))

-- the line of a header: it is of version 3 only where version 2 doesn't tell all of it
abbrev pub header_line : Header → List ℕ
header_line h = if fits_second h then second_line h else third_line h

-- the line of a command's text, a reply's text and a seat
abbrev pub fields_line : List ℕ → List ℕ → ℕ → List ℕ
fields_line cmd reply seat =
    codes "{\"cmd\":" ++ (quoted cmd ++ (codes ",\"reply\":" ++ (quoted reply ++ (codes ",\"seat\":" ++ (decimal seat ++ codes "}")))))

-- the line of an entry, in a market of so many levels
abbrev pub entry_line : ℕ → Entry → List ℕ
entry_line levels e = fields_line (cmd_text levels e.call.cmd) (reply_text e.reply) e.call.seat

-- each entry's line, with its LF
abbrev pub entry_lines : ℕ → List Entry → List ℕ
entry_lines levels history = flat_map (λ (e : Entry). entry_line levels e ++ codes "\n") history

-- the journal of a history from this opening, of so many entries as its header says
abbrev pub journal_in : Extent → State → List Entry → List ℕ
journal_in extent start history = header_line (header_for extent start) ++ (codes "\n" ++ entry_lines start.levels history)

-- the journal of a history that has at most 1,048,576 entries
abbrev pub journal_text : State → List Entry → List ℕ
journal_text start history = journal_in Limited start history

-- the lines of parts of a history, one part after the other
abbrev pub part_lines : ℕ → List Part → List ℕ
part_lines levels [] = []
part_lines levels (p ∷ ps) = entry_lines levels p.entries.items ++ part_lines levels ps
