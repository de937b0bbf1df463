-- What the levels of a market are given of what they ask for. Private functions alone cite these words.
use Rattle.std.specs.Prelude.{◌≡◌, ℕ, zero, suc, ◌+◌, ◌-◌, ◌*◌, ◌≤◌, nat_lt, if◌then◌else◌, List, [], ◌∷◌, is_some, replicate, slice_index}
use Rattle.std.specs.List.{count_by}
use Rattle.market_types.specs.State.{State}
use Rattle.market_types.specs.Allotment.{assigned_to, demand, effective_limit_of, limit_of}

-- how many workers may be active, one for enqueued work included in the second number, how many seats are placed, in places for eight levels
-- what each is given and what it asks for, and how far that has drifted
pub record Shared : Type 0 where
  pub limit : ℕ
  pub effective : ℕ
  pub placed : ℕ
  pub given : List ℕ
  pub asked : List ℕ
  pub drift : ℕ

-- no level is given more than it asks for, and none asks for more than all arenas can
pub record AreFew (given asked : List ℕ) : Type 0 where
  pub within : (place : ℕ) → slice_index given place ≤ slice_index asked place
  pub small : (place : ℕ) → slice_index asked place ≤ 1024 * 65535

-- levels above so many, at most eight, are given nothing, and ask for nothing
pub record AreNoneAbove (levels : ℕ) (given asked : List ℕ) : Type 0 where
  pub few : levels ≤ 8
  pub none_given : (place : ℕ) → levels ≤ place → slice_index given place ≡ 0
  pub none_asked : (place : ℕ) → levels ≤ place → slice_index asked place ≡ 0

-- those of no market
abbrev pub no_shares : Shared
no_shares = record { limit = 0; effective = 0; placed = 0; given = replicate 8 0; asked = replicate 8 0; drift = 0 }

-- what the level at a place asks for, and 0 above the levels of a market
abbrev pub asked_at : State → ℕ → ℕ
asked_at s place = if nat_lt place s.levels then demand s (place + 1) else 0

abbrev pub all_asked : State → List ℕ
all_asked s = asked_at s 0 ∷ asked_at s 1 ∷ asked_at s 2 ∷ asked_at s 3 ∷ asked_at s 4 ∷ asked_at s 5 ∷ asked_at s 6 ∷ asked_at s 7 ∷ []

-- how many seats of a market are placed
abbrev pub placed_of : State → ℕ
placed_of s = count_by is_some s.seats

-- those of a market
abbrev pub shared_of : State → Shared
shared_of s =
    record {
      limit = limit_of s;
      effective = effective_limit_of s;
      placed = placed_of s;
      given = assigned_to (all_asked s) (effective_limit_of s);
      asked = all_asked s;
      drift = 0;
    }

-- the same once its levels have drifted so far
abbrev pub shared_at : State → ℕ → Shared
shared_at s drift = record (shared_of s) { drift = drift }

-- how much what so many levels ask for differs
abbrev pub apart : ℕ → List ℕ → List ℕ → ℕ
apart zero asked other = 0
apart (suc n) asked other = apart n asked other + (slice_index asked n - slice_index other n + (slice_index other n - slice_index asked n))
