-- What the code does to the lines of a chart, moment by moment. What it comes to is in Numbers.
use Rattle.std.specs.Prelude.{ℕ, ◌+◌, ◌*◌, ◌/◌, ◌%◌, ◌==◌, ◌&&◌, ◌||◌, ◌-◌, ◌^◌, min, Bool, true, false, nat_le, nat_lt, if◌then◌else◌, List, [], ◌∷◌, get_or, map, replicate, slice_index, unwrap_or, Option, Some, None}
use Rattle.std.specs.Option.{option_map}
use Rattle.market_types.specs.declared.command.Cmd.{Cmd}
use Rattle.market_types.specs.declared.command.Cmd.TheVariants.{Open, Close, Priority, Resize, Request, Join, Stay, Leave}
use Rattle.market_types.specs.declared.reply.ArenaView.{ArenaView}
use Rattle.market_types.specs.declared.reply.Reply.{Reply}
use Rattle.market_types.specs.declared.reply.Reply.TheVariants.{Opened, Closed, Moved, Resized, Requested, Placed, Recalled, Left, Idle, Stays, Shown, Listed, Limits, Refused}
use Rattle.market_types.specs.State.{State}
use Rattle.market_types.specs.Allotment.{allotment_of, at_level, effective_limit_of, is_just, limit_of}
use Rattle.journal_chart.specs.declared.span.Span.{Span}
use Rattle.journal_chart.specs.Rows.{Row}
use Rattle.journal_chart.specs.declared.row.Known.{Known}
use Rattle.journal_chart.specs.declared.covered.Covered.{Covered}
use Rattle.journal_chart.specs.Lines.{added, at, halved}
use Rattle.journal_chart.specs.Covering.{covered, covers, exactly, none_covered}
use Rattle.market_core.specs.Ahead.{asked_ahead}
use Rattle.journal_chart.specs.declared.spot.Spot.{Spot}
use Rattle.journal_chart.specs.Spots.{holds, no_spot, place_told, spot_told}
use Rattle.journal_chart.specs.Shares.{Shared, all_asked, apart, placed_of, shared_at, shared_of}
use Rattle.journal_chart.specs.Columns.{width_of}
use Rattle.journal_chart.specs.Numbers.{Charted, Drawn, view_at}

-- ---- where an arena stands after a command and its reply, by where it stood before

abbrev pub after_open : ℕ → ℕ → Option ℕ → Reply → Option ℕ
after_open a level stands (Opened b) = if b == a then Some level else stands
after_open a level stands _ = stands

abbrev pub after_close : ℕ → ℕ → Option ℕ → Reply → Option ℕ
after_close a b stands Closed = if b == a then None else stands
after_close a b stands _ = stands

abbrev pub after_priority : ℕ → ℕ → ℕ → Option ℕ → Reply → Option ℕ
after_priority a b level stands Moved = if b == a then Some level else stands
after_priority a b level stands _ = stands

abbrev pub stands_after : ℕ → Option ℕ → Cmd → Reply → Option ℕ
stands_after a stands (Open slots reserved level) reply = after_open a level stands reply
stands_after a stands (Close b) reply = after_close a b stands reply
stands_after a stands (Priority b level) reply = after_priority a b level stands reply
stands_after a stands _ reply = stands

-- ---- what an entry is about

-- the arena that a reply names, if the entry changed it
abbrev pub told : Reply → Option ℕ
told (Opened a) = Some a
told (Placed a) = Some a
told (Recalled a) = Some a
told (Left a) = Some a
told _ = None

-- the arena whose claim, level or seats a command may have changed
abbrev pub subject : Cmd → Reply → Option ℕ
subject (Close a) reply = Some a
subject (Priority a level) reply = Some a
subject (Resize a slots reserved) reply = Some a
subject (Request a workers mandatory) reply = Some a
subject _ reply = told reply

-- no arena and no limit changes: at most a seat goes to an arena, or away from it
abbrev pub moves_seat : Cmd → Bool
moves_seat Join = true
moves_seat Stay = true
moves_seat Leave = true
moves_seat _ = false

-- ---- rows

-- the row of an arena before all moments
abbrev pub empty_row : ℕ → ℕ → Row
empty_row most a =
    record {
      arena = a;
      stands = None;
      level = replicate most None;
      request = replicate most None;
      allot = replicate most None;
      active = replicate most None;
      recall = replicate most None;
      hire = replicate most None;
    }

abbrev pub halved_row : Row → Row
halved_row r =
    record r {
      level = halved r.level;
      request = halved r.request;
      allot = halved r.allot;
      active = halved r.active;
      recall = halved r.recall;
      hire = halved r.hire;
    }

-- in a column the level at which the arena stands
abbrev pub standing_row : ℕ → Row → Row
standing_row place r = record r { level = added place r.stands r.level }

-- in a column what is seen of the arena
abbrev pub viewed_row : ℕ → Option ArenaView → Row → Row
viewed_row place view r =
    record r {
      request = added place (option_map (λ (v : ArenaView). v.request) view) r.request;
      allot = added place (option_map (λ (v : ArenaView). v.allot) view) r.allot;
      active = added place (option_map (λ (v : ArenaView). v.active) view) r.active;
      recall = added place (option_map (λ (v : ArenaView). v.recall) view) r.recall;
      hire = added place (option_map (λ (v : ArenaView). v.hire) view) r.hire;
    }

-- in a column the moment after a command and its reply
abbrev pub taken_row : ℕ → State → Cmd → Reply → Row → Row
taken_row place s cmd reply r =
    viewed_row place (view_at r.arena s) (standing_row place (record r { stands = stands_after r.arena r.stands cmd reply }))

-- nothing is drawn, but where the arena stands is known
abbrev pub passed_row : Cmd → Reply → Row → Row
passed_row cmd reply r = record r { stands = stands_after r.arena r.stands cmd reply }

-- ---- what is known of an arena between two moments

-- what is known of an arena that asks for so many workers and has so many, and whose column of the last moment is at this place
abbrev pub known_in : ℕ → ℕ → ℕ → Row → Known
known_in place request active r =
    record {
      request = request;
      active = active;
      covered = covered (at r.allot place) (at r.recall place) (at r.hire place) active;
      spot = no_spot;
    }

-- before it is looked at, and of one that does not live
abbrev pub nothing_known : Known
nothing_known = record { request = 0; active = 0; covered = none_covered; spot = no_spot }

-- the same of an arena that is seen so
abbrev pub known_of : ℕ → Option ArenaView → Row → Known
known_of place None r = nothing_known
known_of place (Some v) r = known_in place v.request v.active r

-- what is known after an entry that is about the arena, where its reply tells that
abbrev pub requested : Reply → Known → Option Known
requested (Requested n) k = Some (record k { request = n; spot = no_spot })
requested (Resized n) k = Some (record k { request = n; spot = no_spot })
requested _ k = None

abbrev pub retold : Cmd → Reply → Known → Option Known
retold (Resize a slots reserved) reply k = requested reply k
retold (Request a workers mandatory) reply k = requested reply k
retold _ reply k = None

-- the same after a command of a seat: whether one more seat is placed than before is known
abbrev pub seated : ℕ → Bool → Reply → Known → Row → Option Known
seated place more (Placed a) k r = if more && nat_lt k.active 64 then Some (known_in place k.request (k.active + 1) r) else None
seated place more (Recalled a) k r = Some (known_in place k.request (k.active - 1) r)
seated place more (Left a) k r = Some (known_in place k.request (k.active - 1) r)
seated place more _ k r = None

-- ---- a row at a moment in the column of the last

-- the arenas stand in the order in which they stood
abbrev pub keeps_order : Cmd → Bool
keeps_order (Priority a level) = false
keeps_order _ = true

-- what levels are given says what their arenas are allotted: some worker may be active; and a level is one of 8
abbrev pub is_divided : Shared → ℕ → Bool
is_divided now level = nat_lt 0 now.limit && (nat_le 1 level && nat_le level 8)

-- what is asked for before an arena changes by no more than what its level asks for does, or where arenas change their order by no more than all
-- that it asked for: for these it counts twice
abbrev pub reordered : Cmd → List ℕ → ℕ
reordered cmd was = if keeps_order cmd then 0 else 2 * apart 8 (replicate 8 0) was

-- how far what so many levels ask for has drifted, once they ask for this
abbrev pub drifted : Cmd → Shared → ℕ → List ℕ → ℕ
drifted cmd was levels asked = min (was.drift + (apart levels was.asked asked + reordered cmd was.asked)) (2 ^ 32 - 1)

-- a level that is given this of what it asks for shares it out as it did: it is given what it was of what it asked for, or nothing each time,
-- or each time all
abbrev pub is_same_part : ℕ → ℕ → ℕ → ℕ → Bool
is_same_part was_given given was_asked asked =
    ((was_given == given) && (was_asked == asked)) || (((was_given == 0) && (given == 0)) || ((was_given == was_asked) && (given == asked)))

-- the arenas of a level are allotted what they were, but for the one that the entry is about
abbrev pub is_same_share : Shared → Shared → ℕ → Bool
is_same_share was now level =
    (is_divided was level && is_divided now level)
    && is_same_part (slice_index was.given (level - 1)) (slice_index now.given (level - 1)) (slice_index was.asked (level - 1)) (slice_index now.asked (level - 1))

-- no worker may be active, not even one for enqueued work
abbrev pub is_idle : Shared → Bool
is_idle now = now.effective == 0

-- the same in a market of so many levels, where none stands at a level above them; or no arena was allotted any worker, and none is
abbrev pub is_kept : Cmd → Shared → Shared → ℕ → ℕ → Bool
is_kept cmd was now levels level = nat_lt levels level || ((is_idle was && is_idle now) || (keeps_order cmd && is_same_share was now level))

-- so for each of eight levels
abbrev pub kept_levels : Cmd → Shared → Shared → ℕ → List Bool
kept_levels cmd was now levels =
    is_kept cmd was now levels 1 ∷ is_kept cmd was now levels 2 ∷ is_kept cmd was now levels 3 ∷ is_kept cmd was now levels 4
    ∷ is_kept cmd was now levels 5 ∷ is_kept cmd was now levels 6 ∷ is_kept cmd was now levels 7 ∷ is_kept cmd was now levels 8 ∷ []

-- an arena that stands at such a level, or at none, is allotted what it was
abbrev pub stands_kept : List Bool → Option ℕ → Bool
stands_kept kept None = true
stands_kept kept (Some level) = nat_le 1 level && get_or kept (level - 1) false

-- a column has all that an arena may be allotted of which this is covered, where the limit is 0: one worker for enqueued work at most
abbrev pub has_few : Shared → Covered → Bool
has_few now c = (now.limit == 0) && ((c.from == 0) && nat_lt now.effective c.below)

-- a column has all that an arena of a level may be allotted, of which this is known
abbrev pub is_covered : Shared → Known → ℕ → Bool
is_covered now k level =
    if is_divided now level then covers k.covered k.request (slice_index now.given (level - 1)) (slice_index now.asked (level - 1))
    else has_few now k.covered

-- what an arena of a level is allotted, which what the level is given may tell, or that none is given any; else the market tells it
abbrev pub share_of : State → Shared → Known → ℕ → ℕ → ℕ
share_of s now k a level =
    if is_divided now level then unwrap_or (exactly k.request (slice_index now.given (level - 1)) (slice_index now.asked (level - 1))) (allotment_of s a)
    else if is_idle now then 0
    else allotment_of s a

-- nothing is added to the column of an arena of a level, of which this is known, wherever in the level it may stand
abbrev pub is_spared : Shared → Known → ℕ → Bool
is_spared now k level =
    is_divided now level
    && (nat_lt 0 (slice_index now.asked (level - 1)) && holds k.spot now.drift (slice_index now.given (level - 1)) (slice_index now.asked (level - 1)))

abbrev pub is_spared_at : Shared → Known → Option ℕ → Bool
is_spared_at now k None = false
is_spared_at now k (Some level) = is_spared now k level

-- what is asked for before an arena of a level, of which this is known, if that may be of use
abbrev pub place_of : State → Shared → Known → ℕ → ℕ → Option ℕ
place_of s now k a level =
    if is_divided now level
    then place_told (exactly k.request (slice_index now.given (level - 1)) (slice_index now.asked (level - 1))) (asked_ahead a (at_level level s.arenas)) (slice_index now.given (level - 1)) (slice_index now.asked (level - 1))
    else None

-- where an arena stands of which the market was asked, if it was, once this is covered
abbrev pub spot_of : State → Shared → Known → ℕ → Option ℕ → Covered → Spot
spot_of s now k a None c = no_spot
spot_of s now k a (Some level) c =
    spot_told (place_of s now k a level) c k.request (slice_index now.given (level - 1)) (slice_index now.asked (level - 1)) now.drift

-- what becomes of a row, and what is known of its arena, whose spot is this
abbrev pub spotted : Spot → Row × Known → Row × Known
spotted spot p = (p.0, record p.1 { spot = spot })

-- the same of a spot that goes by what is then covered
abbrev pub respotted : (Covered → Spot) → Row × Known → Row × Known
respotted spot p = spotted (spot p.1.covered) p

-- a number in the column of the last moment, at which it was this: it adds something only where it changed
abbrev pub changed : ℕ → ℕ → ℕ → List (Option Span) → List (Option Span)
changed place was now columns = if was == now then columns else added place (Some now) columns

-- in the column of the last moment, at which this was known of an arena, what it asks for and has now
abbrev pub needing_row : ℕ → Known → Known → Row → Row
needing_row place was k r = record r { request = changed place was.request k.request r.request; active = changed place was.active k.active r.active }

-- in a column the level of an arena, what it asks for and has, and what it is allotted
abbrev pub shared_row : ℕ → Known → ℕ → Row → Row
shared_row place k allot r =
    record r {
      level = added place r.stands r.level;
      request = added place (Some k.request) r.request;
      allot = added place (Some allot) r.allot;
      active = added place (Some k.active) r.active;
      recall = added place (Some (k.active - allot)) r.recall;
      hire = added place (Some (allot - k.active)) r.hire;
    }

-- a row that takes a moment, and what is then known of its arena
abbrev pub seen_row : ℕ → State → Cmd → Reply → Row → Row × Known
seen_row place s cmd reply r = (taken_row place s cmd reply r, known_of place (view_at r.arena s) (taken_row place s cmd reply r))

-- the same, where what the arena asks for and has is known, and what it is allotted
abbrev pub told_row : ℕ → State → Cmd → Reply → Known → Row → Option ℕ → Row × Known
told_row place s cmd reply k r None = seen_row place s cmd reply r
told_row place s cmd reply k r (Some allot) = (shared_row place k allot r, known_in place k.request k.active (shared_row place k allot r))

-- the same of an arena that stands at a level; one that stands nowhere has none to tell
abbrev pub settled_at : ℕ → State → Cmd → Reply → Shared → Known → Row → Option ℕ → Row × Known
settled_at place s cmd reply now k r None = (r, k)
settled_at place s cmd reply now k r (Some level) = told_row place s cmd reply k r (Some (share_of s now k r.arena level))

abbrev pub settled_row : ℕ → State → Cmd → Reply → Shared → Known → Row → Row × Known
settled_row place s cmd reply now k r = settled_at place s cmd reply now k r r.stands

-- nothing is added to the column of an arena of which this is known, if it is allotted so many workers
abbrev pub has_share : Known → ℕ → Bool
has_share k allot = nat_le k.covered.from allot && nat_lt allot k.covered.below

-- the same in the column of the last moment: the row becomes another where the column has what the arena is allotted
abbrev pub closed_row : ℕ → State → Cmd → Reply → Known → Row → Row → Option ℕ → Row × Known
closed_row place s cmd reply k r other None = seen_row place s cmd reply r
closed_row place s cmd reply k r other (Some allot) = if has_share k allot then (other, k) else told_row place s cmd reply k r (Some allot)

-- a column has all that an arena may be allotted, if it stands at a level
abbrev pub is_covered_at : Shared → Known → Option ℕ → Bool
is_covered_at now k None = false
is_covered_at now k (Some level) = is_covered now k level

-- the row of the arena that an entry is about, by what was known of it and what is then
abbrev pub own_row : ℕ → State → Cmd → Reply → Shared → Known → Row → Option Known → Row × Known
own_row place s cmd reply now was r None = seen_row place s cmd reply r
own_row place s cmd reply now was r (Some k) =
    if is_covered_at now k r.stands then (needing_row place was k r, k)
    else closed_row place s cmd reply k r (needing_row place was k r) (option_map (share_of s now k r.arena) r.stands)

-- a row that has the moment before in the same column
abbrev pub near_row : ℕ → State → Cmd → Reply → Shared → List Bool → Row → Known → Row × Known
near_row place s cmd reply now kept r k =
    if is_just r.arena (subject cmd reply) then spotted no_spot (own_row place s cmd reply now k r (retold cmd reply k))
    else if stands_kept kept r.stands then (r, k)
    else if is_covered_at now k r.stands then (r, k)
    else if is_spared_at now k r.stands then (r, k)
    else respotted (spot_of s now k r.arena r.stands) (closed_row place s cmd reply k r r (option_map (share_of s now k r.arena) r.stands))

-- such a row after a command of a seat
abbrev pub seat_row : ℕ → State → Cmd → Reply → Bool → Shared → Row → Known → Row × Known
seat_row place s cmd reply more now r k =
    if is_just r.arena (subject cmd reply) then spotted no_spot (own_row place s cmd reply now k r (seated place more reply k r)) else (r, k)

-- a row at the first moment of a column, by what is known of its arena at the moment before
abbrev pub first_row : ℕ → State → Cmd → Reply → Shared → Row → Known → Row × Known
first_row place s cmd reply now r k = if is_just r.arena (subject cmd reply) then seen_row place s cmd reply r else settled_row place s cmd reply now k r

-- what levels are given after a command of a seat, and after any
abbrev pub after_seat : State → Shared → Shared
after_seat s was = record was { placed = placed_of s }

abbrev pub shared_after : Cmd → Shared → State → Shared
shared_after cmd was s = shared_at s (drifted cmd was s.levels (all_asked s))

abbrev pub now_shared : Cmd → State → Shared → Shared
now_shared cmd s was = if moves_seat cmd then after_seat s was else shared_after cmd was s

-- one more seat is placed than before
abbrev pub is_joined : Shared → Shared → Bool
is_joined was now = now.placed == was.placed + 1

-- ---- all lines

abbrev pub empty_lines : ℕ → List ℕ → Drawn
empty_lines most arenas = record { limit = replicate most None; effective = replicate most None; rows = map (empty_row most) arenas }

abbrev pub halved_lines : Drawn → Drawn
halved_lines d = record { limit = halved d.limit; effective = halved d.effective; rows = map halved_row d.rows }

-- the limits alone in a column
abbrev pub limited_lines : ℕ → State → Drawn → Drawn
limited_lines place s d = record d { limit = added place (Some (limit_of s)) d.limit; effective = added place (Some (effective_limit_of s)) d.effective }

abbrev pub taken_lines : ℕ → State → Cmd → Reply → Drawn → Drawn
taken_lines place s cmd reply d =
    record {
      limit = added place (Some (limit_of s)) d.limit;
      effective = added place (Some (effective_limit_of s)) d.effective;
      rows = map (taken_row place s cmd reply) d.rows;
    }

-- two lists, one element of each after another
abbrev pub pairwise : {X Y : Type 0} → (X → Y → X × Y) → List X → List Y → List X × List Y
pairwise f [] ys = ([], ys)
pairwise f (x ∷ xs) [] = (x ∷ xs, [])
pairwise f (x ∷ xs) (y ∷ ys) = ((f x y).0 ∷ (pairwise f xs ys).0, (f x y).1 ∷ (pairwise f xs ys).1)

-- rows that have the moment before in the same column, and what is known of their arenas: after a command of a seat, after another, and
-- after any
abbrev pub seat_rows : ℕ → State → Cmd → Reply → Shared → List Row → List Known → List Row × List Known
seat_rows place s cmd reply was rows ks = pairwise (seat_row place s cmd reply (is_joined was (after_seat s was)) (after_seat s was)) rows ks

abbrev pub each_row : ℕ → State → Cmd → Reply → Shared → List Row → List Known → List Row × List Known
each_row place s cmd reply was rows ks = pairwise (near_row place s cmd reply (shared_after cmd was s) (kept_levels cmd was (shared_of s) s.levels)) rows ks

abbrev pub near_rows : ℕ → State → Cmd → Reply → Shared → List Row → List Known → List Row × List Known
near_rows place s cmd reply was rows ks = if moves_seat cmd then seat_rows place s cmd reply was rows ks else each_row place s cmd reply was rows ks

-- rows at the first moment of a column
abbrev pub first_rows : ℕ → State → Cmd → Reply → List Row → List Known → List Row × List Known
first_rows place s cmd reply rows ks = pairwise (first_row place s cmd reply (shared_of s)) rows ks

-- what is known of the arenas of rows that take a moment
abbrev pub known_rows : ℕ → State → Cmd → Reply → List Row → List Known
known_rows place s cmd reply rows = map (λ (r : Row). (seen_row place s cmd reply r).1) rows

abbrev pub near_lines : ℕ → State → Cmd → Reply → Shared → List Known → Drawn → Drawn
near_lines place s cmd reply was ks d =
    record {
      limit = changed place was.limit (now_shared cmd s was).limit d.limit;
      effective = changed place was.effective (now_shared cmd s was).effective d.effective;
      rows = (near_rows place s cmd reply was d.rows ks).0;
    }

-- the same after a command that is none of a seat
abbrev pub arena_lines : ℕ → State → Cmd → Reply → Shared → List Known → Drawn → Drawn
arena_lines place s cmd reply was ks d =
    record {
      limit = changed place was.limit (limit_of s) d.limit;
      effective = changed place was.effective (effective_limit_of s) d.effective;
      rows = (each_row place s cmd reply was d.rows ks).0;
    }

-- at the first moment of a column
abbrev pub begun_lines : ℕ → State → Cmd → Reply → List Known → Drawn → Drawn
begun_lines place s cmd reply ks d =
    record {
      limit = added place (Some (limit_of s)) d.limit;
      effective = added place (Some (effective_limit_of s)) d.effective;
      rows = (first_rows place s cmd reply d.rows ks).0;
    }

abbrev pub passed_lines : Cmd → Reply → Drawn → Drawn
passed_lines cmd reply d = record d { rows = map (passed_row cmd reply) d.rows }

-- ---- a chart

-- its lines with room for a moment more
abbrev pub roomed_lines : Charted → Drawn
roomed_lines c = if nat_le (c.most * width_of c.most c.moments) c.moments then halved_lines c.lines else c.lines

-- a chart with the moment after a command and its reply
abbrev pub taken_chart : State → Cmd → Reply → Charted → Charted
taken_chart s cmd reply c =
    record {
      most = c.most;
      moments = c.moments + 1;
      lines = taken_lines (c.moments / width_of c.most (c.moments + 1)) s cmd reply (roomed_lines c);
    }

-- the market is as it was before: nothing was asked of it that changes it, or it was refused
abbrev pub is_still : Reply → Bool
is_still Idle = true
is_still (Stays a) = true
is_still (Shown view) = true
is_still (Listed lists) = true
is_still (Limits view) = true
is_still (Refused fault) = true
is_still _ = false

-- the next moment goes into the column of the last
abbrev pub goes_on : Charted → Bool
goes_on c = nat_lt 0 (c.moments % width_of c.most c.moments)

-- a chart with a moment more that is as the last was, in the same column
abbrev pub counted_chart : Charted → Charted
counted_chart c = record c { moments = c.moments + 1 }

-- a chart, what is known of its arenas, and what the levels of its market were given at its last moment
pub record Followed : Type 0 where
  pub chart : Charted
  pub known : List Known
  pub shares : Shared

-- with a moment more in the column of the last
abbrev pub near_chart : State → Cmd → Reply → Followed → Followed
near_chart s cmd reply f =
    record {
      chart = record f.chart { moments = f.chart.moments + 1; lines = near_lines (f.chart.moments / width_of f.chart.most (f.chart.moments + 1)) s cmd reply f.shares f.known f.chart.lines };
      known = (near_rows (f.chart.moments / width_of f.chart.most (f.chart.moments + 1)) s cmd reply f.shares f.chart.lines.rows f.known).1;
      shares = now_shared cmd s f.shares;
    }

-- with the first moment of all
abbrev pub first_chart : State → Cmd → Reply → Charted → Followed
first_chart s cmd reply c =
    record {
      chart = taken_chart s cmd reply c;
      known = known_rows (c.moments / width_of c.most (c.moments + 1)) s cmd reply (roomed_lines c).rows;
      shares = shared_of s;
    }

-- with the first moment of a column after another
abbrev pub begun_chart : State → Cmd → Reply → Followed → Followed
begun_chart s cmd reply f =
    record {
      chart =
          record {
            most = f.chart.most;
            moments = f.chart.moments + 1;
            lines = begun_lines (f.chart.moments / width_of f.chart.most (f.chart.moments + 1)) s cmd reply f.known (roomed_lines f.chart);
          };
      known = (first_rows (f.chart.moments / width_of f.chart.most (f.chart.moments + 1)) s cmd reply (roomed_lines f.chart).rows f.known).1;
      shares = shared_of s;
    }

-- with the moment after a command and its reply: of a chart that has taken the moment before, if any, and of what was known then
abbrev pub next_chart : State → Cmd → Reply → Followed → Followed
next_chart s cmd reply f =
    if goes_on f.chart then (if is_still reply then record f { chart = counted_chart f.chart } else near_chart s cmd reply f)
    else if f.chart.moments == 0 then first_chart s cmd reply f.chart
    else begun_chart s cmd reply f

-- a chart that lets this moment pass
abbrev pub passed_chart : Cmd → Reply → Charted → Charted
passed_chart cmd reply c = record c { lines = passed_lines cmd reply c.lines }

-- ---- a chart of some of a journal's entries

-- a chart in the making: how many entries come before the first that is drawn, the last that is drawn, how many were seen, and what was
-- made of those that are drawn
pub record Making : Type 0 where
  pub before : ℕ
  pub to : ℕ
  pub seen : ℕ
  pub followed : Followed

-- one entry more, which is drawn where it lies between the first and the last
abbrev pub made_more : Making → State → Cmd → Reply → Making
made_more m s cmd reply =
    if nat_le m.to m.seen then m
    else if nat_lt m.seen m.before then record m { seen = m.seen + 1; followed = record m.followed { chart = passed_chart cmd reply m.followed.chart } }
    else record m { seen = m.seen + 1; followed = next_chart s cmd reply m.followed }
