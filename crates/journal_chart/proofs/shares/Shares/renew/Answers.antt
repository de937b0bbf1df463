use Rattle.std.specs.Prelude.{◌==◌, ◌&&◌, ◌||◌, nat_lt, nat_le, slice_index}
use Rattle.std.proofs.Common.{◌≡◌, ℕ, suc, ◌+◌, ◌-◌, ◌*◌, ◌^◌, ◌<◌, ◌≤◌, min, Bool, true, false, List, get_or, length, set, refl, sym, ap, subst, ◌∙◌, arith, inl, inr}
use Rattle.std.proofs.lemmas.Bool.{cases_eq, cases_lt, le-leb}
use Rattle.std.proofs.lemmas.Bool.Decides.{nat_tests}
use Rattle.std.proofs.lemmas.List.{ext_get_or, get_or-set_same, get_or-set_other}
use Rattle.std.proofs.Math.ListN.{length-set}
use Rattle.market_types.specs.State.{State}
use Rattle.market_types.specs.Allotment.{demand, effective_limit_of}
use Rattle.market_types.specs.declared.command.Cmd.{Cmd}
use Rattle.market_types.specs.declared.reply.LimitView.{LimitView}
use Rattle.journal_chart.specs.Unkept.{AreUnkept, unkept_of}
use Rattle.journal_chart.specs.Shares.{Shared, all_asked, apart, shared_of}
use Rattle.journal_chart.specs.Steps.{drifted, is_kept, is_same_part, keeps_order, kept_levels, reordered}
use Rattle.journal_chart.proofs.Bounds.{both}
use Rattle.journal_chart.proofs.Levels.{AreSoFar, kept-above, kept-at, so-far-all, so-far-kept, so-far-more}
use Rattle.journal_chart.proofs.Sharing.{all-asked}
use Rattle.journal_chart.proofs.Assigning.{Assigning, Cleared, Renewing, apart-more, apart-same, asked-all, assigning-all, cleared-none, given-all, renewing-more}
use Rattle.journal_chart.proofs.shares.Shares.renew.Goals as goal
use Rattle.journal_chart.proofs.shares.Shares.renew.Goals.{After-is_kept, After-loop-place-2}

-- ---- which levels are kept

-- a level that there is, by whether the limits divide workers
tests : (idle order was now same : Bool) → (idle || ((order && (was && now)) && same)) ≡ (idle || (order && (((was && true) && (now && true)) && same)))
tests true order was now same = refl
tests false false was now same = refl
tests false true false now same = refl
tests false true true false same = refl
tests false true true true same = refl

kept-form : (cmd : Cmd) (was now : Shared) (levels j : ℕ) → j < levels → j < 8
    → (((was.effective == 0) && (now.effective == 0)) || ((keeps_order cmd && (nat_lt 0 was.limit && nat_lt 0 now.limit)) && is_same_part (slice_index was.given j) (slice_index now.given j) (slice_index was.asked j) (slice_index now.asked j)))
    ≡ is_kept cmd was now levels (j + 1)
kept-form cmd was now levels j inside few =
    let place : j + 1 - 1 ≡ j = omega arith in
    let low : nat_le 1 (j + 1) ≡ true = le-leb 1 (j + 1) (omega arith) in
    let high : nat_le (j + 1) 8 ≡ true = le-leb (j + 1) 8 (omega (arith, few)) in
    let there : nat_lt levels (j + 1) ≡ false = grind (arith, nat_tests) in
    rw (there, low, high, place) (tests ((was.effective == 0) && (now.effective == 0)) (keeps_order cmd) (nat_lt 0 was.limit) (nat_lt 0 now.limit) (is_same_part (slice_index was.given j) (slice_index now.given j) (slice_index was.asked j) (slice_index now.asked j)))

-- ---- a level more

module _ (c : After-is_kept) where
  abbrev place : ℕ
  place = c.loop-place.place

  abbrev share : ℕ
  share = c.min-share.result

  abbrev wanted : ℕ
  wanted = c.demand-demand.result

  abbrev new_given : List ℕ
  new_given = set c.loop-place.self-inside.given place share

  abbrev new_asked : List ℕ
  new_asked = set c.loop-place.self-inside.asked place wanted

  few : place < 8
  few = omega (arith, c.loop-place-test.true, c.levels-levels.ensures.high)

  -- whether a level is kept, by what it is then given of what it asks for
  abbrev test : ℕ → List ℕ → List ℕ → Bool
  test j given asked = c.both_idle-idle.result || (c.both_divided-divided.result && is_same_part (slice_index c.self.inside.given j) (slice_index given j) (slice_index c.self.inside.asked j) (slice_index asked j))

  renewing : Renewing c.args.market.now (effective_limit_of c.args.market.now) c.self.inside.given c.self.inside.asked new_given new_asked (c.loop-place.left - share) (place + 1)
  renewing =
      let s : State = c.args.market.now in
      let next : place + 1 ≡ 1 + place = omega arith in
      renewing-more s (effective_limit_of s) c.self.inside.given c.self.inside.asked c.loop-place.self-inside.given c.loop-place.self-inside.asked c.loop-place.left place wanted share
      c.loop-place.invariant.renewing few (omega (arith, c.loop-place-test.true, c.levels-levels.ensures.exact))
      (c.demand-demand.ensures.exact ∙ ap (demand s) (c.from_index.ensures ∙ next)) c.demand-demand.ensures.small c.min-share.ensures

  -- how much what the levels so far ask for differs
  moved : c.loop-place.moved + c.change_of-same.result.1 ≡ apart (place + 1) c.self.inside.asked new_asked
  moved =
      apart-more place wanted c.loop-place.moved c.change_of-same.result.1 c.self.inside.asked c.loop-place.self-inside.asked
      (omega (arith, few, c.loop-place.invariant.renewing.size_asked)) (c.loop-place.invariant.renewing.rest_asked place (omega arith)) c.loop-place.invariant.moved differs
    where
      differs : c.change_of-same.result.1 ≡ slice_index c.loop-place.self-inside.asked place - wanted + (wanted - slice_index c.loop-place.self-inside.asked place)
      differs = c.change_of-same.ensures.moved

  small : c.loop-place.moved + c.change_of-same.result.1 ≤ (place + 1) * (1024 * 65535)
  small =
      omega (arith, c.loop-place.invariant.small, c.change_of-same.ensures.moved, c.demand-demand.ensures.small, c.loop-place.invariant.renewing.small place)

  held : c.is_kept.result ≡ test place new_given new_asked
  held =
      let h = c.loop-place.invariant in
      let given_in : place < length c.loop-place.self-inside.given = omega (arith, few, h.renewing.size_given) in
      let asked_in : place < length c.loop-place.self-inside.asked = omega (arith, few, h.renewing.size_asked) in
      let given_here : slice_index new_given place ≡ share = get_or-set_same c.loop-place.self-inside.given place share 0 given_in in
      let asked_here : slice_index new_asked place ≡ wanted = get_or-set_same c.loop-place.self-inside.asked place wanted 0 asked_in in
      let was_given : slice_index c.loop-place.self-inside.given place ≡ slice_index c.self.inside.given place = h.renewing.rest_given place (omega arith) in
      let was_asked : slice_index c.loop-place.self-inside.asked place ≡ slice_index c.self.inside.asked place = h.renewing.rest_asked place (omega arith) in
      let same : c.change_of-same.result.0 ≡ is_same_part (slice_index c.self.inside.given place) (slice_index new_given place) (slice_index c.self.inside.asked place) (slice_index new_asked place) =
      c.change_of-same.ensures.same ∙ (λ i. is_same_part (was_given i) (sym given_here i) (was_asked i) (sym asked_here i)) in
      c.is_kept.ensures ∙ ap (λ b. c.both_idle-idle.result || (c.both_divided-divided.result && b)) same

  -- so for each level so far
  told_so_far : (kept : List Bool) → get_or kept place false ≡ c.is_kept.result → ((j : ℕ) → j < place → get_or kept j false ≡ get_or c.loop-place.kept j false)
      → (j : ℕ) → j < place + 1 → get_or kept j false ≡ test j new_given new_asked
  told_so_far kept here before j less = elim (cases_eq j place) [
    | inl at ↦ ap (λ k. get_or kept k false) at ∙ here ∙ held ∙ ap (λ k. test k new_given new_asked) (sym at)
    | inr other ↦
        let first : j < place = omega (arith, less, other) in
        before j first
        ∙ c.loop-place.invariant.told j first
        ∙ (λ i. c.both_idle-idle.result || (c.both_divided-divided.result && is_same_part (slice_index c.self.inside.given j) (sym (get_or-set_other c.loop-place.self-inside.given place j share 0 other) i) (slice_index c.self.inside.asked j) (sym (get_or-set_other c.loop-place.self-inside.asked place j wanted 0 other) i)))
  ]

pub loop-place-preserved-then-is_kept : goal.loop-place-preserved-then-is_kept
loop-place-preserved-then-is_kept c =
    let here = (goal.at.loop-place-preserved-then-is_kept c).After-is_kept in
    let h = c.loop-place.invariant in
    let stands : get_or c.loop-place.kept c.loop-place.place false ≡ true = h.rest c.loop-place.place (omega arith) (few here) in
    record {
      renewing = renewing here;
      old = h.old;
      size = h.size;
      told = told_so_far here c.loop-place.kept (stands ∙ sym c.if-is_kept.true) (λ j less. refl);
      rest = λ j past low. h.rest j (omega (arith, past)) low;
      few = omega (arith, h.few);
      moved = moved here;
      small = small here;
      last = h.last;
      open_ = so-far-kept c.loop-place.kept c.loop-place.place (unkept_of c.loop-place.count c.loop-place.last) stands h.open_;
    }

pub loop-place-preserved : goal.loop-place-preserved
loop-place-preserved c =
    let here = (goal.at.loop-place-preserved c).After-is_kept in
    let h = c.loop-place.invariant in
    let place : ℕ = c.loop-place.place in
    let new_kept : List Bool = set c.loop-place.kept place false in
    let more : suc c.loop-place.count ≡ c.loop-place.count + 1 = omega arith in
    let now : get_or new_kept place false ≡ false = get_or-set_same c.loop-place.kept place false false (omega (arith, few here, h.size)) in
    record {
      renewing = renewing here;
      old = h.old;
      size = length-set c.loop-place.kept place false ∙ h.size;
      told = told_so_far here new_kept (now ∙ sym c.if-is_kept.false) (λ j less. get_or-set_other c.loop-place.kept place j false false (λ e. omega (arith, e, less)));
      rest = λ j past low. get_or-set_other c.loop-place.kept place j false false (λ e. omega (arith, e, past)) ∙ h.rest j (omega (arith, past)) low;
      few = omega (arith, h.few);
      moved = moved here;
      small = small here;
      last = few here;
      open_ =
          subst (λ n. AreSoFar new_kept (place + 1) (unkept_of n place)) more
          (so-far-more c.loop-place.kept new_kept place c.loop-place.count c.loop-place.last
          (λ j less. get_or-set_other c.loop-place.kept place j false false (λ e. omega (arith, e, less))) now h.open_);
    }

pub loop-place-2-init : goal.loop-place-2-init
loop-place-2-init c =
    record {
      given = cleared-none c.levels-levels.result c.loop-place.self-inside.given;
      asked = cleared-none c.levels-levels.result c.loop-place.self-inside.asked;
      low = omega arith;
      high = omega (arith, c.loop-place.invariant.old, c.self.invariant.1.few);
    }

-- ---- all levels

module _ (c : After-loop-place-2) where
  abbrev s : State
  s = c.args.market.now

  levels : c.levels-levels.result ≡ s.levels
  levels = omega (arith, c.levels-levels.ensures.exact)

  whole : Assigning s (effective_limit_of s) c.loop-place-2.self-inside.given c.loop-place-2.self-inside.asked c.loop-place.left s.levels
  whole =
      let all : c.loop-place.place ≡ s.levels = omega (arith, c.loop-place-test.false, c.loop-place.auto.place-end, levels) in
      let renewed : Renewing s (effective_limit_of s) c.self.inside.given c.self.inside.asked c.loop-place.self-inside.given c.loop-place.self-inside.asked c.loop-place.left s.levels =
      subst (Renewing s (effective_limit_of s) c.self.inside.given c.self.inside.asked c.loop-place.self-inside.given c.loop-place.self-inside.asked c.loop-place.left) all c.loop-place.invariant.renewing in
      let given : Cleared s.levels c.loop-place.self-inside.given c.loop-place-2.self-inside.given c.loop-place-2.place =
      subst (λ n. Cleared n c.loop-place.self-inside.given c.loop-place-2.self-inside.given c.loop-place-2.place) levels c.loop-place-2.invariant.given in
      let asked : Cleared s.levels c.loop-place.self-inside.asked c.loop-place-2.self-inside.asked c.loop-place-2.place =
      subst (λ n. Cleared n c.loop-place.self-inside.asked c.loop-place-2.self-inside.asked c.loop-place-2.place) levels c.loop-place-2.invariant.asked in
      assigning-all s (effective_limit_of s) c.self.inside.levels c.self.inside.given c.self.inside.asked c.loop-place.self-inside.given c.loop-place.self-inside.asked
      c.loop-place-2.self-inside.given c.loop-place-2.self-inside.asked c.loop-place.left c.loop-place-2.place renewed c.self.invariant.1 given asked
      (omega (arith, c.loop-place-2-test.false, c.loop-place.invariant.old))

  -- the first loop renewed all levels
  all_levels : c.loop-place.place ≡ s.levels
  all_levels = omega (arith, c.loop-place-test.false, c.loop-place.auto.place-end, levels)

  asked_now : (j : ℕ) → j < s.levels → slice_index c.loop-place.self-inside.asked j ≡ slice_index (all_asked s) j
  asked_now j inside =
      let few : j < 8 = omega (arith, inside, levels, c.levels-levels.ensures.high) in
      c.loop-place.invariant.renewing.done j (omega (arith, inside, all_levels)) ∙ sym (all-asked s j few)

  given_all : c.loop-place-2.self-inside.given ≡ (shared_of s).given
  given_all = given-all s (effective_limit_of s) c.loop-place-2.self-inside.given c.loop-place-2.self-inside.asked c.loop-place.left whole

  asked_all : c.loop-place-2.self-inside.asked ≡ (shared_of s).asked
  asked_all = asked-all s (effective_limit_of s) c.loop-place-2.self-inside.given c.loop-place-2.self-inside.asked c.loop-place.left whole

  limit_is : c.args.limits.now.limit ≡ (shared_of s).limit
  limit_is = ap (λ (v : LimitView). v.limit) c.requires

  effective_is : c.args.limits.now.effective ≡ (shared_of s).effective
  effective_is = ap (λ (v : LimitView). v.effective) c.requires

  -- of a level it is told whether it is given what it was
  told : (j : ℕ) → j < s.levels → j < 8 → get_or c.loop-place.kept j false ≡ is_kept c.args.cmd.now c.args.self.now (shared_of s) s.levels (j + 1)
  told j inside few =
      let cmd = c.args.cmd.now in
      let was : Shared = c.args.self.now in
      let now : Shared = shared_of s in
      let idle : c.both_idle-idle.result ≡ ((was.effective == 0) && (now.effective == 0)) =
      c.both_idle-idle.ensures ∙ (λ i. (((c.self.view_is i).effective) == 0) && ((effective_is i) == 0)) in
      let divided : c.both_divided-divided.result ≡ (keeps_order cmd && (nat_lt 0 was.limit && nat_lt 0 now.limit)) =
      c.both_divided-divided.ensures ∙ (λ i. keeps_order cmd && (nat_lt 0 ((c.self.view_is i).limit) && nat_lt 0 (limit_is i))) in
      let was_given : slice_index c.self.inside.given j ≡ slice_index was.given j = ap (λ (v : Shared). slice_index v.given j) c.self.view_is in
      let was_asked : slice_index c.self.inside.asked j ≡ slice_index was.asked j = ap (λ (v : Shared). slice_index v.asked j) c.self.view_is in
      let given : slice_index c.loop-place.self-inside.given j ≡ slice_index now.given j = sym (c.loop-place-2.invariant.given.low j (omega (arith, inside, levels))) ∙ ap (λ xs. slice_index xs j) given_all in
      let asked : slice_index c.loop-place.self-inside.asked j ≡ slice_index now.asked j = sym (c.loop-place-2.invariant.asked.low j (omega (arith, inside, levels))) ∙ ap (λ xs. slice_index xs j) asked_all in
      c.loop-place.invariant.told j (omega (arith, inside, c.loop-place-test.false, levels))
      ∙ (λ i. idle i || (divided i && is_same_part (was_given i) (given i) (was_asked i) (asked i)))
      ∙ kept-form cmd was now s.levels j inside few

pub invariant_of-self : goal.invariant_of-self
invariant_of-self c =
    let here = (goal.at.invariant_of-self c).After-loop-place-2 in
    let all = whole here in (
      record { within = all.within; small = all.small },
      record {
        few = c.levels-levels.ensures.high;
        none_given = λ place past. all.ungiven place (omega (arith, past, levels here));
        none_asked = λ place past. all.unasked place (omega (arith, past, levels here));
      },
    )

pub returns-clause-shares : goal.returns-clause-shares
returns-clause-shares c =
    let here = (goal.at.returns-clause-shares c).After-loop-place-2 in
    let was : Shared = c.args.self.now in
    let n : ℕ = c.args.market.now.levels in
    let before : c.self.inside.drift ≡ was.drift = ap (λ (v : Shared). v.drift) c.self.view_is in
    let asked : c.self.inside.asked ≡ was.asked = ap (λ (v : Shared). v.asked) c.self.view_is in
    let apart_ : c.loop-place.moved ≡ apart n was.asked (all_asked c.args.market.now) =
    c.loop-place.invariant.moved
    ∙ (λ i. apart (all_levels here i) (asked i) c.loop-place.self-inside.asked)
    ∙ apart-same n was.asked c.loop-place.self-inside.asked (all_asked c.args.market.now) (asked_now here) in
    let drift : c.drifted-self-inside.result ≡ drifted c.args.cmd.now was n (all_asked c.args.market.now) =
    c.drifted-self-inside.ensures ∙ (λ i. min (before i + (apart_ i + (c.reordered-reordered.ensures.exact ∙ ap (reordered c.args.cmd.now) asked) i)) (2 ^ 32 - 1)) in
    λ i. record {
      limit = limit_is here i;
      effective = effective_is here i;
      placed = c.placed-self-inside.ensures.exact i;
      given = given_all here i;
      asked = asked_all here i;
      drift = drift i;
    }

pub reordered-reordered-requires : goal.reordered-reordered-requires
reordered-reordered-requires c =
    record {
      divided = λ h.
          (both (keeps_order c.args.cmd.now) (nat_lt 0 c.self.inside.limit && nat_lt 0 c.args.limits.now.limit) (sym c.both_divided-divided.ensures ∙ h)).0;
      was = λ j. c.self.invariant.0.small j;
    }

pub drifted-self-inside-requires-clause-moved : goal.drifted-self-inside-requires-clause-moved
drifted-self-inside-requires-clause-moved c = omega (arith, c.loop-place.invariant.small, c.loop-place.auto.place-end, c.levels-levels.ensures.high)

pub returns-clause-kept : goal.returns-clause-kept
returns-clause-kept c =
    let here = (goal.at.returns-clause-kept c).After-loop-place-2 in
    let cmd = c.args.cmd.now in
    let was : Shared = c.args.self.now in
    let now : Shared = shared_of c.args.market.now in
    let n : ℕ = c.args.market.now.levels in
    ext_get_or false c.loop-place.kept (kept_levels cmd was now n) c.loop-place.invariant.size (λ j inside.
    let few : j < 8 = omega (arith, inside, c.loop-place.invariant.size) in
    elim (cases_lt j n) [
      | inl low ↦ told here j low few ∙ sym (kept-at cmd was now n j few)
      | inr above ↦
          c.loop-place.invariant.rest j (omega (arith, above, c.loop-place.auto.place-end, levels here)) few
          ∙ sym (kept-at cmd was now n j few ∙ kept-above cmd was now n (j + 1) (omega (arith, above)))
    ])

pub returns-clause-unkept : goal.returns-clause-unkept
returns-clause-unkept c =
    let here = (goal.at.returns-clause-unkept c).After-loop-place-2 in
    subst (AreUnkept c.loop-place.kept) (sym c.of.ensures)
    (so-far-all c.loop-place.kept c.loop-place.place (unkept_of c.loop-place.count c.loop-place.last) c.loop-place.invariant.rest c.loop-place.invariant.open_)
