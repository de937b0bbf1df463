-- Where the place of an arena is known, no market is asked of it, and what it is allotted is covered all the same.
use Rattle.std.specs.Prelude.{◌&&◌, ◌==◌, nat_le, nat_lt, slice_index}
use Rattle.std.proofs.Common.{◌≡◌, ℕ, zero, suc, ◌+◌, ◌-◌, ◌*◌, ◌/◌, ◌%◌, ◌^◌, ◌<◌, ◌≤◌, min, true, None, Some, Option, refl, sym, ap, ◌∙◌, subst, arith, inl, inr}
use Rattle.std.proofs.lemmas.Bool.{cases_Bool}
use Rattle.std.proofs.lemmas.Bool.Decides.{nat_tests}
use Rattle.std.proofs.lemmas.Nat.{mod_below}
use Rattle.std.proofs.Math.Nat.{div-add-mod}
use Rattle.market_types.specs.State.{Arena, State}
use Rattle.market_types.specs.Claims.{request_of}
use Rattle.market_types.specs.Allotment.{allotment_of, assigned, at_level, demand}
use Rattle.market_types.specs.Step.{arena_at}
use Rattle.market_core.specs.Ahead.{asked_ahead}
use Rattle.journal_chart.specs.declared.covered.Covered.{Covered}
use Rattle.journal_chart.specs.declared.row.Known.{Known}
use Rattle.journal_chart.specs.declared.spot.Spot.{Spot}
use Rattle.journal_chart.specs.Shares.{shared_at, shared_of}
use Rattle.journal_chart.specs.Spots.{holds, is_told, no_spot, reach_of, spot_by, spot_told, spot_within}
use Rattle.journal_chart.specs.Steps.{is_divided, is_spared}
use Rattle.journal_chart.proofs.Bounds.{Whole, both}
use Rattle.journal_chart.proofs.Kept.{Fine, found-number}
use Rattle.journal_chart.proofs.Placed.{allotment-placed, quotient-parts, within-reach}
use Rattle.journal_chart.proofs.Sharing.{divides, leveled, shared-asked, shared-given}
use Rattle.journal_chart.proofs.Spots.{IsNear, IsPlaced, IsSpot, Spares}

-- ---- places that are right

-- no place is known
pub spot-none : (s : State) (a drift : ℕ) (k : Known) → k.spot ≡ no_spot → IsSpot s a drift k
spot-none s a drift k none = λ some small x found.
    let nothing : k.spot.until + k.spot.asked ≡ 0 = ap (λ (o : Spot). o.until + o.asked) none in
    absurd (omega (arith, some, nothing))

-- a part of the least of four numbers is no more than each of them
least-parts : (w x y z g : ℕ) → 0 < g
    → (min (min w x) (min y z) / g * g ≤ w) × ((min (min w x) (min y z) / g * g ≤ x) × ((min (min w x) (min y z) / g * g ≤ y) × (min (min w x) (min y z) / g * g ≤ z)))
least-parts w x y z g some =
    let least : ℕ = min (min w x) (min y z) in
    let part : least / g * g ≤ least = (quotient-parts least g some).0 in
    (omega (arith, part), (omega (arith, part), (omega (arith, part), omega (arith, part))))

-- a product that is greater than a number is of no 0
some-factor : (n m d : ℕ) → n < m * d → 0 < d
some-factor n m zero less = absurd (omega (arith, less))
some-factor n m (suc d) less = omega arith

-- within the reach of an arena what it is allotted is covered
reach-spares : (c : Covered) (r b g a e : ℕ) → 0 < g → is_told c r b g a (b * g / a) ≡ true
    → Spares c r (spot_within (reach_of c r b g a (b * g / a)) g a e) e b a
reach-spares c r b g a e some told p d n near some_d is =
    let w : ℕ = b * g / a in
    let t = both (nat_le (w + c.below) g) (nat_le ((w + c.from) * a) ((b + r) * g) && nat_lt ((b + r) * g) ((w + c.below) * a)) told in
    let u = both (nat_le ((w + c.from) * a) ((b + r) * g)) (nat_lt ((b + r) * g) ((w + c.below) * a)) t.1 in
    let enough : w + c.below ≤ g = let h = t.0 in grind (arith, nat_tests) in
    let start : (w + c.from) * a ≤ (b + r) * g = let h = u.0 in grind (arith, nat_tests) in
    let end : (b + r) * g < (w + c.below) * a = let h = u.1 in grind (arith, nat_tests) in
    let any : 0 < a = some-factor ((b + r) * g) (w + c.below) a end in
    let over : ℕ = b * g % a in
    let reach : ℕ = reach_of c r b g a w in
    let parts = least-parts over (a - 1 - over) ((b + r) * g - (w + c.from) * a) ((w + c.below) * a - 1 - (b + r) * g) g some in
    let whole : a * w + over ≡ b * g = div-add-mod (b * g) a in
    let rest : over < a = mod_below (b * g) a any in
    let turned : a * w ≡ w * a = omega arith in
    let next : (w + 1) * a ≡ w * a + a = omega arith in
    within-reach c.from c.below w r g b p a d reach n some_d is enough
    (low (w * a) over (b * g) (reach * g) (sym (ap (λ k. k + over) turned) ∙ whole) parts.0)
    (high (w * a) over (b * g) (reach * g) a ((w + 1) * a) (sym (ap (λ k. k + over) turned) ∙ whole) rest next parts.1.0)
    (far ((w + c.from) * a) ((b + r) * g) (reach * g) start parts.1.1.0)
    (short ((w + c.below) * a) ((b + r) * g) (reach * g) end parts.1.1.1)
    (omega (arith, near.down)) (omega (arith, near.more)) (omega (arith, near.up)) (omega (arith, near.less))
  where
    low : (x over y k : ℕ) → x + over ≡ y → k ≤ over → x + k ≤ y
    low x over y k is less = omega (arith, is, less)

    high : (x over y k a next : ℕ) → x + over ≡ y → over < a → next ≡ x + a → k ≤ a - 1 - over → y + k < next
    high x over y k a next is rest more less = omega (arith, is, rest, more, less)

    far : (x y k : ℕ) → x ≤ y → k ≤ y - x → x + k ≤ y
    far x y k on less = omega (arith, on, less)

    short : (x y k : ℕ) → y < x → k ≤ x - 1 - y → y + k < x
    short x y k on less = omega (arith, on, less)

-- an arena stands just where it was found to stand
spot-placed : (t : State) (a e given asked : ℕ) (y : Arena) (k : Known) → arena_at a t.arenas ≡ Some y → 1 ≤ y.level → y.level ≤ 8
    → asked ≡ demand t y.level
    → IsSpot t a e (record k { spot = spot_by k.covered k.request (asked_ahead a (at_level y.level t.arenas)) given asked e })
spot-placed t a e given asked y k found low few is =
    let b : ℕ = asked_ahead a (at_level y.level t.arenas) in
    let told : _ = nat_lt 0 given && (is_told k.covered k.request b given asked (b * given / asked) && nat_lt e (2 ^ 30)) in
    elim (cases_Bool told) [
      | inl yes_ ↦
          let g = both (nat_lt 0 given) (is_told k.covered k.request b given asked (b * given / asked) && nat_lt e (2 ^ 30)) yes_ in
          let h = both (is_told k.covered k.request b given asked (b * given / asked)) (nat_lt e (2 ^ 30)) g.1 in
          let some : 0 < given = let p = g.0 in grind (arith, nat_tests) in
          let spares = reach-spares k.covered k.request b given asked e some h.0 in
          rw yes_ (λ any small x there.
          let which : Some y ≡ Some x = sym found ∙ there in
          let same : y ≡ x = cc in
          subst (IsPlaced t a e k.covered k.request (spot_within (reach_of k.covered k.request b given asked (b * given / asked)) given asked e)) same
          (record {
            low = low;
            few = few;
            spares = subst (Spares k.covered k.request (spot_within (reach_of k.covered k.request b given asked (b * given / asked)) given asked e) e b) is spares;
          }))
      | inr not ↦ rw not (spot-none t a e (record k { spot = no_spot }) refl)
    ]

-- where the market is asked, the spot is right
pub spot-new : (t : State) (a e given asked : ℕ) (y : Arena) (k : Known) (place : Option ℕ) → arena_at a t.arenas ≡ Some y → 1 ≤ y.level → y.level ≤ 8
    → asked ≡ demand t y.level → ((before : ℕ) → place ≡ Some before → before ≡ asked_ahead a (at_level y.level t.arenas))
    → IsSpot t a e (record k { spot = spot_told place k.covered k.request given asked e })
spot-new t a e given asked y k None found low few is at = spot-none t a e (record k { spot = no_spot }) refl
spot-new t a e given asked y k (Some before) found low few is at =
    subst (λ b. IsSpot t a e (record k { spot = spot_by k.covered k.request b given asked e })) (sym (at before refl))
    (spot-placed t a e given asked y k found low few is)

-- ---- what a place spares

-- what the tests of a spot say
record Holds (o : Spot) (drift given asked : ℕ) : Type 0 where
  given_is : o.given ≡ given
  small : drift < 2 ^ 32 - 1
  high : drift + asked ≤ o.until + o.asked
  low : drift + o.asked ≤ o.until + asked

holding : (o : Spot) (drift given asked : ℕ) → holds o drift given asked ≡ true → Holds o drift given asked
holding o drift given asked h =
    let t = both (o.given == given) (nat_lt drift (2 ^ 32 - 1) && (nat_le (drift + asked) (o.until + o.asked) && nat_le (drift + o.asked) (o.until + asked))) h in
    let u = both (nat_lt drift (2 ^ 32 - 1)) (nat_le (drift + asked) (o.until + o.asked) && nat_le (drift + o.asked) (o.until + asked)) t.1 in
    let v = both (nat_le (drift + asked) (o.until + o.asked)) (nat_le (drift + o.asked) (o.until + asked)) u.1 in
    record {
      given_is = let e = t.0 in grind (arith, nat_tests);
      small = let e = u.0 in grind (arith, nat_tests);
      high = let e = v.0 in grind (arith, nat_tests);
      low = let e = v.1 in grind (arith, nat_tests);
    }

-- what is spared is covered
pub spared-covers : (whole : Whole) (t : State) (a e : ℕ) (y : Arena) (k : Known) → Fine t → arena_at a t.arenas ≡ Some y
    → request_of y.claim ≡ k.request → IsSpot t a e k → is_spared (shared_at t e) k y.level ≡ true
    → (k.covered.from ≤ allotment_of t y.number) × (allotment_of t y.number < k.covered.below)
spared-covers whole t a e y k fine found request spot h =
    let g : ℕ = slice_index (shared_of t).given (y.level - 1) in
    let d : ℕ = slice_index (shared_of t).asked (y.level - 1) in
    let b : ℕ = asked_ahead a (at_level y.level t.arenas) in
    let s = both (is_divided (shared_of t) y.level) (nat_lt 0 d && holds k.spot e g d) h in
    let u = both (nat_lt 0 d) (holds k.spot e g d) s.1 in
    let any : 0 < d = let p = u.0 in grind (arith, nat_tests) in
    let held = holding k.spot e g d u.1 in
    let levels = divides t y.level s.0 in
    let high : y.level ≤ t.levels = leveled t a y fine found in
    let given : g ≡ assigned t y.level = shared-given t y.level levels.low levels.few high in
    let asked : d ≡ demand t y.level = shared-asked t y.level levels.low levels.few high in
    let number : y.number ≡ a = found-number a t.arenas y found in
    let placed : IsPlaced t a e k.covered k.request k.spot y = spot (omega (arith, any, held.high)) held.small y found in
    let near : IsNear k.spot e b (demand t y.level) b (demand t y.level) =
    record {
      up = omega (arith, asked, held.high);
      more = omega (arith, asked, held.high);
      down = omega (arith, asked, held.low);
      less = omega (arith, asked, held.low);
    } in
    let some : 0 < demand t y.level = subst (λ n. 0 < n) asked any in
    let share : allotment_of t a ≡ (b + k.request) * k.spot.given / demand t y.level - b * k.spot.given / demand t y.level =
    allotment-placed whole a t y fine.once levels.any found levels.low high some
    ∙ (λ i. (b + request i) * (sym given ∙ sym held.given_is) i / demand t y.level - b * (sym given ∙ sym held.given_is) i / demand t y.level) in
    subst (λ n. (k.covered.from ≤ allotment_of t n) × (allotment_of t n < k.covered.below)) (sym number)
    (placed.spares b (demand t y.level) (allotment_of t a) near some share)
