-- What is known of the place of an arena in its level, from one moment to the next.
use Rattle.std.proofs.Common.{◌≡◌, ℕ, ◌+◌, ◌-◌, ◌*◌, ◌/◌, ◌^◌, ◌<◌, ◌≤◌, Option, None, Some, refl}
use Rattle.market_core.specs.Ahead.{asked_ahead}
use Rattle.market_types.specs.State.{Arena, State}
use Rattle.market_types.specs.Allotment.{at_level, total_request}
use Rattle.market_types.specs.Step.{arena_at}
use Rattle.market_types.specs.declared.reply.ArenaView.{ArenaView}
use Rattle.journal_chart.specs.declared.covered.Covered.{Covered}
use Rattle.journal_chart.specs.declared.row.Known.{Known}
use Rattle.journal_chart.specs.declared.spot.Spot.{Spot}
use Rattle.journal_chart.specs.Rows.{Row}
use Rattle.journal_chart.specs.Spots.{no_spot}
use Rattle.journal_chart.specs.Steps.{known_of}

-- where `p` are asked for before an arena, `d` in all, it is as near to where it stands as its spot allows, once the levels have drifted so far: where it
-- stands `b` are asked for before it, `a` in all
pub record IsNear (o : Spot) (drift b a p d : ℕ) : Type 0 where
  pub up : 2 * p + drift + a ≤ 2 * b + o.until + o.asked
  pub more : 2 * d + 2 * b + drift ≤ a + 2 * p + o.until + o.asked
  pub down : 2 * b + drift + o.asked ≤ 2 * p + o.until + a
  pub less : 2 * p + drift + o.asked + a ≤ 2 * d + 2 * b + o.until

-- wherever it is as near as that, what it is allotted is covered
abbrev pub Spares : Covered → ℕ → Spot → ℕ → ℕ → ℕ → Type 0
Spares c request o drift b a =
    (p d n : ℕ) → IsNear o drift b a p d → 0 < d → n ≡ (p + request) * o.given / d - p * o.given / d → (c.from ≤ n) × (n < c.below)

pub record IsPlaced (s : State) (a drift : ℕ) (c : Covered) (request : ℕ) (o : Spot) (x : Arena) : Type 0 where
  pub low : 1 ≤ x.level
  pub few : x.level ≤ 8
  pub spares : Spares c request o drift (asked_ahead a (at_level x.level s.arenas)) (total_request (at_level x.level s.arenas))

-- the spot that is known of an arena is right, if it lives, and its place is known
abbrev pub IsSpot : State → ℕ → ℕ → Known → Type 0
IsSpot s a drift k =
    0 < k.spot.until + k.spot.asked → drift < 2 ^ 32 - 1 → (x : Arena) → arena_at a s.arenas ≡ Some x
    → IsPlaced s a drift k.covered k.request k.spot x

-- ---- what is known of an arena, but for its spot

abbrev pub bare : Known → Known
bare k = record k { spot = no_spot }

abbrev pub bared : Row × Known → Row × Known
bared p = (p.0, bare p.1)

pub known-bare : (place : ℕ) (view : Option ArenaView) (r : Row) → bare (known_of place view r) ≡ known_of place view r
known-bare place None r = refl
known-bare place (Some v) r = refl

pub known-unspotted : (place : ℕ) (view : Option ArenaView) (r : Row) → (known_of place view r).spot ≡ no_spot
known-unspotted place None r = refl
known-unspotted place (Some v) r = refl
