-- How the workers of a level are shared out among the rows of its arenas, in order.
use Rattle.std.specs.Prelude.{◌≡◌, ℕ, ◌<◌, ◌≤◌, length, max, None, ◌+◌, ◌*◌, ◌/◌, ◌%◌, ◌==◌, if◌then◌else◌, List, [], ◌∷◌, ◌++◌, Option}
use Rattle.std.specs.List.{fold, count_by}
use Rattle.market_types.specs.declared.row.Row.{Row}
use Rattle.market_types.specs.Allotment.{is_just}
use Rattle.recall_hire.specs.declared.rows.Staffing.{Staffing}
use Rattle.recall_hire.specs.Staffed.{first_in_need, searches, above_zero_in, recall_in, hire_in, imbalances, looks, actives}
use Rattle.market_types.specs.Counts.{Counts}
use Rattle.recall_hire.specs.declared.sharing.Sharing.{Sharing}
use Rattle.recall_hire.specs.declared.sharing.Sharing.TheVariants.{Carried, Picked}

-- the workers that a row is allotted, by the carry before it (the market's `share_of`, of a row)
abbrev pub row_share : Sharing → ℕ → Row → ℕ
row_share (Carried workers demand) carry row = if row.request == 0 then 0 else (row.request * workers + carry) / demand
row_share (Picked arena workers) carry row = if is_just row.arena arena then workers else 0

-- the carry after a row (the market's `carry_past`, of a row)
abbrev pub row_carry : Sharing → ℕ → Row → ℕ
row_carry (Carried workers demand) carry row = if row.request == 0 then carry else (row.request * workers + carry) % demand
row_carry (Picked arena workers) carry row = carry

-- rows beside what their arenas are allotted and have: one carry goes through all of them
abbrev pub staffed : Sharing → List (Option ℕ) → ℕ → List Row → List Staffing
staffed sharing seats carry [] = []
staffed sharing seats carry (row ∷ rows) =
    record { arena = row.arena; allotted = row_share sharing carry row; active = count_by (is_just row.arena) seats }
    ∷ staffed sharing seats (row_carry sharing carry row) rows

-- the carry after rows
abbrev pub carry_after : Sharing → ℕ → List Row → ℕ
carry_after sharing carry rows = fold (row_carry sharing) carry rows

-- what a level is assigned is part of what it asks for, and less than a worker is carried (private functions alone cite this)
pub record CanShare (workers demand carry : ℕ) : Type 0 where
  pub within : workers ≤ demand
  pub small : demand ≤ 1024 * 65535
  pub carried : carry < demand

-- a look at rows, one after the other: whom it found in need, the carry after them where it found nobody, and its visits, which
-- are one at least for each row that is allotted a worker, up to and with the one that it found, and no more than one for each
-- row (private functions alone cite this)
pub record IsLook (workers demand : ℕ) (seats : List (Option ℕ)) (rows : List Row) (before after visits more : ℕ) (found : Option ℕ) : Type 0 where
  pub found_is : found ≡ first_in_need (staffed (Carried workers demand) seats before rows)
  pub carried : found ≡ None → after ≡ carry_after (Carried workers demand) before rows
  pub below : found ≡ None → after < demand
  pub looked : visits + searches (staffed (Carried workers demand) seats before rows) ≤ more
  pub once : more ≤ visits + length rows

-- a search through rows, each with so many visits at most on its account: whom it found, and its visits, as those of a look, and no more
-- than so many for each row that is allotted a worker (private functions alone cite this)
pub record IsSearch (workers demand : ℕ) (seats : List (Option ℕ)) (rows : List Row × ℕ) (before visits more : ℕ) (found : Option ℕ) : Type 0 where
  pub found_is : found ≡ first_in_need (staffed (Carried workers demand) seats before rows.0)
  pub looked : visits + searches (staffed (Carried workers demand) seats before rows.0) ≤ more
  pub once : more ≤ visits + length rows.0
  pub most : more ≤ visits + rows.1 * searches (staffed (Carried workers demand) seats before rows.0)

-- what a caller has to know of a level that is listed, whose rows ask for `asked` together: that they can share, where they do
abbrev pub CanShareAll : Sharing → ℕ → ℕ → Type 0
CanShareAll (Carried workers demand) carry asked = (workers ≤ demand) × ((demand ≤ 1024 * 65535) × ((asked ≤ demand) × (0 < asked → carry < demand)))
CanShareAll (Picked arena workers) carry asked = Unit {0}

-- the lists have these rows at their end
pub record IsListed (rows : List Staffing) (before after : Counts) : Type 0 where
  pub recalls : after.recalls ≡ before.recalls ++ above_zero_in recall_in rows
  pub hires : after.hires ≡ before.hires ++ above_zero_in hire_in rows

-- less than a worker is carried, and nothing where nobody asks or the enqueued work of an arena is served (private functions
-- alone cite this)
abbrev pub IsLow : Sharing → ℕ → Type 0
IsLow (Carried workers demand) carry = carry < max demand 1
IsLow (Picked arena workers) carry = carry ≡ 0

-- a walk over rows: what it listed, the carry after it, the seats that it met, and its visits, which are one at least for each
-- row that it listed, and for each at which it has to look, and no more than one for each row (private functions alone cite this)
pub record IsWalk (sharing : Sharing) (seats : List (Option ℕ)) (rows : List Row) (carry after unmet left visits more : ℕ) (before lists : Counts) : Type 0 where
  pub listed : IsListed (staffed sharing seats carry rows) before lists
  pub carried : after ≡ carry_after sharing carry rows
  pub met : unmet ≡ left + actives (staffed sharing seats carry rows)
  pub looked : visits + imbalances (staffed sharing seats carry rows) ≤ more
  pub met_first : visits + looks unmet (staffed sharing seats carry rows) ≤ more
  pub once : more ≤ visits + length rows

-- the first of these rows are passed over, of which none is listed and none has seats (private functions alone cite this)
pub record IsOver (sharing : Sharing) (seats : List (Option ℕ)) (rows rest : List Row) (carry after unmet : ℕ) : Type 0 where
  pub passed : List Row
  pub rows_are : rows ≡ passed ++ rest
  pub walked : (visits : ℕ) (lists : Counts) → IsWalk sharing seats passed carry after unmet unmet visits visits lists lists
