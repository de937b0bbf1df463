-- A caller of an office, a pass or a worker that is placed; and what the office of a meeting is opened with (own).
use Rattle.std.specs.Prelude.{ℕ, Bool, true, false, Option, Some, None}
use Rattle.market_types.specs.declared.command.Cmd.{Cmd}
use Rattle.market_types.specs.declared.command.Cmd.TheVariants.{Join, Stay, Leave}
use Rattle.market_lock.specs.Seen.{OfPass, OfPlaced}
use Rattle.edit_history.specs.declared.terms.Terms as office
use Rattle.office_crew.specs.declared.caller.Caller.{Caller}
use Rattle.office_crew.specs.declared.caller.Caller.TheVariants.{Free, Working}
use Rattle.office_crew.specs.declared.meeting.MeetingTerms as crew

-- what is known of it
abbrev pub who_is : Caller OfPass OfPlaced → OfPass
who_is (Free p) = p
who_is (Working q) = q.who

-- where it is placed
abbrev pub arena_of : Caller OfPass OfPlaced → Option ℕ
arena_of (Free p) = None
arena_of (Working q) = Some q.arena

-- whether a command is given by who is placed there: who is not placed neither stays nor leaves, and who is placed asks for no arena (own)
abbrev pub may_give : Option ℕ → Cmd → Bool
may_give None Stay = false
may_give None Leave = false
may_give None _ = true
may_give (Some _) Join = false
may_give (Some _) _ = true

abbrev pub may_ask : Caller OfPass OfPlaced → Cmd → Bool
may_ask caller cmd = may_give (arena_of caller) cmd

-- the terms with so many seats, as an office keeps them
abbrev pub terms_of : crew.MeetingTerms → ℕ → office.Terms
terms_of t seats = record { opening = record { base = t.base; hard = t.hard; seats = seats; levels = t.levels; last = t.last }; places = t.places; keeping = t.keeping }
