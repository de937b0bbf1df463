use Rattle.std.proofs.Common.{ℕ, arith, sym, ap, ◌∙◌, ◌≡◌, ◌≤◌, ◌<◌, ◌-◌, ◌+◌, ◌*◌, suc, length}
use Rattle.market_types.specs.State.{State}
use Rattle.market_types.specs.Allotment.{at_level, limit_of}
use Rattle.arena_store.specs.Bits.{bits}
use Rattle.recall_hire.specs.Staffed.{need_among, rows_among, rows_of, searches}
use Rattle.market_core.specs.Divided.{rows_at}
use Rattle.market_core.specs.Sound.{IsSound}
use Rattle.market_core.proofs.InNeed.{need-found, need-later, need-done, needed-entered, found-some, searches-later, searches-found, searches-done, searched-within, searched-nobody}
use Rattle.market_core.proofs.LevelWalk.{coming-length, extra-none}
use Rattle.market_core.proofs.Meters.{picked-some, extra-none as least-none, extra-some as least-some}
use Rattle.market_core.proofs.Order.{levels_from, in_order-length}
use Rattle.market_core.proofs.Shares.{left-after}
use Rattle.market_core.proofs.market.Market.first_in_need.Goals as goal
use Rattle.market_core.proofs.market.Market.first_in_need.Goals.{After-in_need_at-found}

pub loop-index-init : goal.loop-index-init
loop-index-init c =
    let s = c.args.self.now in
    let all : s.levels ≡ s.levels - 0 = omega arith in
    let sound : IsSound s = rw c.self.view_is at c.self.invariant.sound in
    let some : 0 < limit_of s = omega (arith, c.limit-limit.ensures.exact, c.if-limit-eq0.false) in
    let rows : searches (rows_of s) ≡ searches (rows_among s (levels_from 1 (s.levels - 0) s.arenas)) = ap (λ n. searches (rows_among s (levels_from 1 n s.arenas))) all in
    let deep = 2 * bits (length s.arenas) in
    let lengths : length (levels_from 1 (s.levels - 0) s.arenas) ≡ length s.arenas = sym (ap (λ n. length (levels_from 1 n s.arenas)) all) ∙ in_order-length s sound.leveled in
    record {
      left = omega (arith, c.from-left.ensures, c.limit-limit.ensures.exact);
      needed = ap (λ n. need_among s (levels_from 1 n s.arenas)) all;
      counted = omega (arith, rows);
      bounded = omega (arith, ap (λ n. n * deep) rows, extra-none s some);
      once = omega (arith, lengths, extra-none s some);
    }

-- what the search of one level gives
module _ (c : After-in_need_at-found) where
  abbrev s : State
  s = c.args.self.now

  abbrev level : ℕ
  level = c.loop-index.index + 1

  abbrev later : ℕ
  later = s.levels - level

  one : s.levels - c.loop-index.index ≡ suc later
  one = omega (arith, ap (λ (t : State). t.levels) c.self.view_is, c.loop-index-test.true)

  here : c.in_need_at-found.result ≡ need_among s (at_level level s.arenas)
  here = c.in_need_at-found.ensures.exact ∙ ap (λ n. need_among s (at_level n s.arenas)) c.from_index-level.ensures

  looked : c.loop-index.visits + searches (rows_at s level) ≤ c.in_need_at-found.new.visits
  looked = rw c.from_index-level.ensures at c.in_need_at-found.ensures.looked

  once : c.in_need_at-found.new.visits ≤ c.loop-index.visits + length (rows_at s level)
  once = rw c.from_index-level.ensures at c.in_need_at-found.ensures.once

  most : c.in_need_at-found.new.visits ≤ c.loop-index.visits + searches (rows_at s level) * (2 * bits (length s.arenas))
  most = rw c.from_index-level.ensures at c.in_need_at-found.ensures.most

  lengths : length (levels_from level (s.levels - c.loop-index.index) s.arenas) ≡ length (rows_at s level) + length (levels_from (level + 1) later s.arenas)
  lengths = coming-length s level later (s.levels - c.loop-index.index) one

pub returns-then-is_some : goal.returns-then-is_some
returns-then-is_some c =
    let at = (goal.at.returns-then-is_some c).After-in_need_at-found in
    let s = c.args.self.now in
    let level = c.loop-index.index + 1 in
    let all_later = s.levels - c.loop-index.index in
    let visits = c.in_need_at-found.new.visits in
    let found = sym c.is_some.ensures ∙ c.if-is_some.true in
    let some : 0 < limit_of s = omega (arith, c.limit-limit.ensures.exact, c.if-limit-eq0.false) in
    let all : searches (rows_among s (levels_from level all_later s.arenas)) ≡ searches (rows_at s level) =
    searches-found s level (s.levels - level) all_later c.in_need_at-found.result (one at) found (here at) in
    record {
      exact = need-found s level (s.levels - level) all_later c.in_need_at-found.result (one at) found (here at) ∙ sym c.loop-index.invariant.needed;
      entered = found-some s (at_level level s.arenas) c.in_need_at-found.result visits (here at) (omega (arith, looked at));
      every_search = omega (arith, searched-within s visits (omega (arith, all, c.loop-index.invariant.counted, looked at)), least-none s some);
      most = omega (arith, ap (λ n. n * (2 * bits (length s.arenas))) all, lengths at, once at, c.loop-index.invariant.once, c.loop-index.invariant.bounded, most at);
    }

pub loop-index-preserved : goal.loop-index-preserved
loop-index-preserved c =
    let at = (goal.at.loop-index-preserved c).After-in_need_at-found in
    let s = c.args.self.now in
    let level = c.loop-index.index + 1 in
    let all_later = s.levels - c.loop-index.index in
    let nobody = sym c.is_some.ensures ∙ c.if-is_some.false in
    let apart = searches-later s level (s.levels - level) all_later c.in_need_at-found.result (one at) nobody (here at) in
    record {
      left = omega (arith, c.saturating_sub-left.ensures, left-after s c.loop-index.index c.from_index-level.result c.part_of-part.result.demand c.loop-index.left (c.from_index-level.ensures) (c.part_of-part.ensures.demand) c.loop-index.invariant.left);
      needed = c.loop-index.invariant.needed ∙ need-later s level (s.levels - level) all_later c.in_need_at-found.result (one at) nobody (here at);
      counted = omega (arith, apart, c.loop-index.invariant.counted, looked at);
      bounded = omega (arith, ap (λ n. n * (2 * bits (length s.arenas))) apart, c.loop-index.invariant.bounded, most at);
      once = omega (arith, lengths at, once at, c.loop-index.invariant.once);
    }

pub returns : goal.returns
returns c =
    let s = c.args.self.now in
    let level = c.loop-index.index in
    let levels : c.self.inside.opening.levels ≡ s.levels = ap (λ (t : State). t.levels) c.self.view_is in
    let over : s.levels - level ≡ 0 = omega (arith, levels, c.loop-index-test.false) in
    let some : 0 < limit_of s = omega (arith, c.limit-limit.ensures.exact, c.if-limit-eq0.false) in
    record {
      exact = sym (c.loop-index.invariant.needed ∙ need-done s (level + 1) (s.levels - level) over);
      entered = tt;
      every_search = omega (arith, searched-within s c.loop-index.visits (omega (arith, c.loop-index.invariant.counted, searches-done s (level + 1) (s.levels - level) over)), least-none s some);
      most = omega (arith, c.loop-index.invariant.bounded, c.loop-index.invariant.once);
    }

pub returns-then-limit-eq0-clause-entered : goal.returns-then-limit-eq0-clause-entered
returns-then-limit-eq0-clause-entered c =
    let s = c.args.self.now in
    let sound : IsSound s = rw c.self.view_is at c.self.invariant.sound in
    let none : limit_of s ≡ 0 = sym c.limit-limit.ensures.exact ∙ c.if-limit-eq0.true in
    needed-entered s c.mandatory_in_need.result c.mandatory_in_need.new.visits sound.leveled c.mandatory_in_need.ensures.exact
    (λ some. omega (arith, picked-some s.arenas s.levels sound.leveled some, least-some s none, c.mandatory_in_need.ensures.least))

pub returns-then-limit-eq0-clause-every_search : goal.returns-then-limit-eq0-clause-every_search
returns-then-limit-eq0-clause-every_search c =
    let s = c.args.self.now in
    let none : limit_of s ≡ 0 = sym c.limit-limit.ensures.exact ∙ c.if-limit-eq0.true in
    omega (arith, searched-nobody s 0 none, c.mandatory_in_need.ensures.least)
