use Rattle.std.specs.Prelude.{ℕ, ◌+◌, ◌^◌, ◌%◌, length, Option, Some, None}
use Rattle.market_types.specs.declared.reply.Reply.{Reply}
use Rattle.market_types.specs.declared.reply.Reply.TheVariants.{Opened, Closed, Moved, Resized, Requested, Controlled, Uncontrolled, Placed, Idle, Stays, Recalled, Left, Shown, Listed, Limits, Refused}

-- what a reply adds to a sum of replies; nothing of a refusal
abbrev pub number_in : Reply → Option ℕ
number_in (Opened arena) = Some arena
number_in (Placed arena) = Some arena
number_in (Stays arena) = Some arena
number_in (Recalled arena) = Some arena
number_in (Left arena) = Some arena
number_in (Controlled control) = Some control
number_in (Resized request) = Some request
number_in (Requested request) = Some request
number_in (Shown view) = Some view.allot
number_in (Listed lists) = Some ((length lists.recalls + length lists.hires) % 2 ^ 64)
number_in (Limits limits) = Some limits.effective
number_in Closed = Some 1
number_in Moved = Some 1
number_in Uncontrolled = Some 1
number_in Idle = Some 1
number_in (Refused fault) = None
