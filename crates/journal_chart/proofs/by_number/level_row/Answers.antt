use Rattle.std.specs.Prelude.{nat_le, nat_lt, slice_index, unwrap_or}
use Rattle.std.proofs.Common.{◌≡◌, ℕ, ◌-◌, ◌<◌, Bool, List, Option, Some, true, false, refl, sym, ap, ◌∙◌, arith, subst}
use Rattle.std.proofs.lemmas.Bool.{le-leb}
use Rattle.std.proofs.lemmas.Bool.Decides.{nat_tests}
use Rattle.market_core.specs.Ahead.{asked_ahead}
use Rattle.market_types.specs.Allotment.{allotment_of, at_level}
use Rattle.market_types.specs.State.{State}
use Rattle.journal_chart.specs.declared.row.Known.{Known}
use Rattle.journal_chart.specs.declared.covered.Covered.{Covered}
use Rattle.journal_chart.specs.Covering.{covers, exactly}
use Rattle.journal_chart.specs.Shares.{Shared}
use Rattle.journal_chart.specs.Spots.{holds, place_told, spot_told}
use Rattle.journal_chart.specs.Unkept.{IsAlone, IsAtLevel}
use Rattle.journal_chart.specs.Steps.{closed_row, is_covered, is_spared, respotted, share_of, spot_of, stands_kept}
use Rattle.journal_chart.proofs.Numbered.{covered-row, just-is, other-level, other-row}
use Rattle.journal_chart.proofs.Sharing.{shared-asked, shared-given}
use Rattle.journal_chart.proofs.by_number.level_row.Goals as goal

-- a level that is given this of what it asks for, in a market in which some worker may be active, whose levels have drifted so far
module _ (now : Shared) (known : Known) (level given asked drift : ℕ) (found : 0 < now.limit) (fits : IsAtLevel (Some level))
    (given_is : given ≡ slice_index now.given (level - 1)) (asked_is : asked ≡ slice_index now.asked (level - 1)) (drift_is : drift ≡ now.drift) where
  any : nat_lt 0 now.limit ≡ true
  any = grind (arith, nat_tests, found)

  low : nat_le 1 level ≡ true
  low = le-leb 1 level fits.0

  high : nat_le level 8 ≡ true
  high = le-leb level 8 fits.1

  -- it is not kept where it alone is not
  moved : (kept : List Bool) → IsAlone kept level → (stands : Option ℕ) → stands ≡ Some level → stands_kept kept stands ≡ false
  moved kept alone stands at = ap (stands_kept kept) at ∙ rw (low, alone.open_) refl

  -- whether an arena at it is covered, and whether it is spared, is told by these numbers
  is-covered : (told : Bool) → covers known.covered known.request given asked ≡ told → is_covered now known level ≡ told
  is-covered told h = rw (any, low, high) ((λ i. covers known.covered known.request (sym given_is i) (sym asked_is i)) ∙ h)

  is-spared : (told : Bool) → 0 < asked → holds known.spot drift given asked ≡ told → is_spared now known level ≡ told
  is-spared told some h =
      let asks : nat_lt 0 (slice_index now.asked (level - 1)) ≡ true = let e = asked_is in grind (arith, nat_tests, some) in
      rw (any, low, high, asks) ((λ i. holds known.spot (sym drift_is i) (sym given_is i) (sym asked_is i)) ∙ h)

  -- so is what it is allotted, and where it stands
  share-is : (s : State) (arena : ℕ) → unwrap_or (exactly known.request given asked) (allotment_of s arena) ≡ share_of s now known arena level
  share-is s arena = (λ i. unwrap_or (exactly known.request (given_is i) (asked_is i)) (allotment_of s arena)) ∙ sym (rw (any, low, high) refl)

  spot-is : (s : State) (arena : ℕ) (c : Covered)
      → spot_told (place_told (exactly known.request given asked) (asked_ahead arena (at_level level s.arenas)) given asked) c known.request given asked drift
      ≡ spot_of s now known arena (Some level) c
  spot-is s arena c =
      (λ i. spot_told (place_told (exactly known.request (given_is i) (asked_is i)) (asked_ahead arena (at_level level s.arenas)) (given_is i) (asked_is i)) c known.request (given_is i) (asked_is i) (drift_is i))
      ∙ sym (rw (any, low, high) refl)

pub returns-then-not-is_at : goal.returns-then-not-is_at
returns-then-not-is_at c cmd reply kept alone other =
    sym (other-level c.args.place c.args.market.now cmd reply c.args.now.now kept c.args.row.now c.args.known.now c.args.level alone other c.is_at.ensures.somewhere
    (sym c.is_at.ensures.exact ∙ c.if-not-is_at.true))

pub returns-then-covers_some : goal.returns-then-covers_some
returns-then-covers_some c cmd reply kept alone other =
    let now = c.args.now.now in
    let known = c.args.known.now in
    let level = c.args.level in
    let given = c.args.given in
    let asked = c.args.asked in
    let drift = c.args.drift in
    let at = just-is c.args.row.now.stands level (sym c.is_at.ensures.exact ∙ c.if-not-is_at.false) in
    let fits : IsAtLevel (Some level) = subst IsAtLevel at c.is_at.ensures.somewhere in
    let held = moved now known level given asked drift c.requires.found fits c.requires.given c.requires.asked c.requires.drift kept alone c.args.row.now.stands at in
    let covered = is-covered now known level given asked drift c.requires.found fits c.requires.given c.requires.asked c.requires.drift true (sym c.covers_some.ensures ∙ c.if-covers_some.true) in
    sym (covered-row c.args.place c.args.market.now cmd reply now kept c.args.row.now known level other held at covered)

pub returns-then-holds : goal.returns-then-holds
returns-then-holds c cmd reply kept alone other =
    let now = c.args.now.now in
    let known = c.args.known.now in
    let level = c.args.level in
    let given = c.args.given in
    let asked = c.args.asked in
    let drift = c.args.drift in
    let at = just-is c.args.row.now.stands level (sym c.is_at.ensures.exact ∙ c.if-not-is_at.false) in
    let fits : IsAtLevel (Some level) = subst IsAtLevel at c.is_at.ensures.somewhere in
    let held = moved now known level given asked drift c.requires.found fits c.requires.given c.requires.asked c.requires.drift kept alone c.args.row.now.stands at in
    let uncovered = is-covered now known level given asked drift c.requires.found fits c.requires.given c.requires.asked c.requires.drift false (sym c.covers_some.ensures ∙ c.if-covers_some.false) in
    let spared = is-spared now known level given asked drift c.requires.found fits c.requires.given c.requires.asked c.requires.drift true c.requires.some (sym c.holds.ensures ∙ c.if-holds.true) in
    sym (other-row c.args.place c.args.market.now cmd reply now kept c.args.row.now known level other held at uncovered ∙ rw spared refl)

pub returns : goal.returns
returns c cmd reply kept alone other =
    let s = c.args.market.now in
    let now = c.args.now.now in
    let row = c.args.row.now in
    let known = c.args.known.now in
    let level = c.args.level in
    let given = c.args.given in
    let asked = c.args.asked in
    let drift = c.args.drift in
    let at = just-is row.stands level (sym c.is_at.ensures.exact ∙ c.if-not-is_at.false) in
    let fits : IsAtLevel (Some level) = subst IsAtLevel at c.is_at.ensures.somewhere in
    let held = moved now known level given asked drift c.requires.found fits c.requires.given c.requires.asked c.requires.drift kept alone row.stands at in
    let uncovered = is-covered now known level given asked drift c.requires.found fits c.requires.given c.requires.asked c.requires.drift false (sym c.covers_some.ensures ∙ c.if-covers_some.false) in
    let spared = is-spared now known level given asked drift c.requires.found fits c.requires.given c.requires.asked c.requires.drift false c.requires.some (sym c.holds.ensures ∙ c.if-holds.false) in
    let share = share-is now known level given asked drift c.requires.found fits c.requires.given c.requires.asked c.requires.drift s row.arena in
    let spot = spot-is now known level given asked drift c.requires.found fits c.requires.given c.requires.asked c.requires.drift s row.arena in
    c.settle_given.ensures cmd reply
    ∙ (λ i. respotted (λ k. spot k i) (closed_row c.args.place s cmd reply known row row (Some (share i))))
    ∙ sym (other-row c.args.place s cmd reply now kept row known level other held at uncovered ∙ rw spared refl)

-- what the level is given is what the market gives it
pub settle_given-requires-clause-some : goal.settle_given-requires-clause-some
settle_given-requires-clause-some c = subst (λ (n : Shared). 0 < n.limit) c.requires.shares c.requires.found

pub settle_given-requires-clause-given : goal.settle_given-requires-clause-given
settle_given-requires-clause-given c = λ within.
    let fits : IsAtLevel (Some c.args.level) = subst IsAtLevel (just-is c.args.row.now.stands c.args.level (sym c.is_at.ensures.exact ∙ c.if-not-is_at.false)) c.is_at.ensures.somewhere in
    c.requires.given ∙ ap (λ (n : Shared). slice_index n.given (c.args.level - 1)) c.requires.shares
    ∙ shared-given c.args.market.now c.args.level fits.0 fits.1 within

pub settle_given-requires-clause-asked : goal.settle_given-requires-clause-asked
settle_given-requires-clause-asked c = λ within.
    let fits : IsAtLevel (Some c.args.level) = subst IsAtLevel (just-is c.args.row.now.stands c.args.level (sym c.is_at.ensures.exact ∙ c.if-not-is_at.false)) c.is_at.ensures.somewhere in
    c.requires.asked ∙ ap (λ (n : Shared). slice_index n.asked (c.args.level - 1)) c.requires.shares
    ∙ shared-asked c.args.market.now c.args.level fits.0 fits.1 within
