use Rattle.std.proofs.Common.{arith, ap, subst, ◌∙◌, ◌≡◌, ◌+◌, ◌-◌, ◌≤◌, suc, length}
use Rattle.std.specs.Prelude.{is_some}
use Rattle.std.specs.List.{count_by}
use Rattle.recall_hire.specs.Staffed.{rows_of, rows_among, actives, imbalances, looks}
use Rattle.recall_hire.proofs.Listings.{looks-append}
use Rattle.market_types.specs.declared.lists.Correction.TheVariants.{Recall, Hire}
use Rattle.market_types.specs.Corrections.{counts_to}
use Rattle.market_types.specs.State.{State}
use Rattle.arena_store.specs.Arenas.{StandOnce}
use Rattle.market_types.specs.Step.{counts_of}
use Rattle.recall_hire.specs.Shared.{IsListed}
use Rattle.market_core.specs.Divided.{rows_at}
use Rattle.market_core.specs.Sound.{IsSound}
use Rattle.market_core.proofs.LevelWalk.{coming-length, coming-none}
use Rattle.market_core.proofs.Listing.{rows-parts, listing-from, level-listed, level-longer, listing-ends}
use Rattle.market_core.proofs.Order.{levels_from, in_order-length}
use Rattle.market_core.proofs.Seats.{unmet-begins, actives-coming}
use Rattle.market_core.proofs.market.Market.lists.Goals as goal

pub loop-level-init : goal.loop-level-init
loop-level-init c =
    let s = c.args.self.now in
    let all : s.levels - 0 ≡ s.levels = omega arith in
    let sound : IsSound s = rw c.self.view_is at c.self.invariant.sound in
    let lengths : length (levels_from 1 (s.levels - 0) s.arenas) ≡ length s.arenas = ap (λ n. length (levels_from 1 n s.arenas)) all ∙ in_order-length s sound.leveled in
    record {
      left = omega (arith, c.from-left.ensures, c.limit-limit.ensures.exact);
      listed = listing-from s (s.levels - 0) (counts_to Recall c.new.result.items) (counts_to Hire c.new.result.items) all (ap (counts_to Recall) c.new.ensures.items) (ap (counts_to Hire) c.new.ensures.items);
      unmet = unmet-begins s (s.levels - 0) c.placed-unmet.result (subst (λ (t : State). StandOnce t.arenas) c.self.view_is c.stand_once.ensures) sound.leveled all (c.placed-unmet.ensures.exact ∙ ap (λ (t : State). count_by is_some t.seats) c.self.view_is);
      looked = omega (arith, ap (λ xs. length (counts_to Recall xs)) c.new.ensures.items, ap (λ xs. length (counts_to Hire xs)) c.new.ensures.items);
      met_first =
          let placed : c.placed-unmet.result ≡ count_by is_some s.seats = c.placed-unmet.ensures.exact ∙ ap (λ (t : State). count_by is_some t.seats) c.self.view_is in
          omega (arith, c.served-served.ensures.least, ap (λ n. looks n (rows_of s)) placed, ap (λ n. looks c.placed-unmet.result (rows_among s (levels_from 1 n s.arenas))) all);
      visits = omega (arith, lengths, c.served-served.ensures.visits);
      few = omega (arith, lengths, c.served-served.ensures.few);
    }

pub list_level-requires-clause-unmet : goal.list_level-requires-clause-unmet
list_level-requires-clause-unmet c =
    let s = c.args.self.now in
    let level = c.loop-level.level in
    let levels : c.self.inside.opening.levels ≡ s.levels = ap (λ (t : State). t.levels) c.self.view_is in
    let one : s.levels - level ≡ suc (s.levels - (level + 1)) = omega (arith, levels, c.loop-level-test.true) in
    let here : actives (rows_at s (level + 1)) ≤ c.loop-level.unmet = omega (arith, actives-coming s (level + 1) (s.levels - (level + 1)) (s.levels - level) one, c.loop-level.invariant.unmet) in
    rw c.from_index-level.ensures here

pub loop-level-preserved : goal.loop-level-preserved
loop-level-preserved c =
    let s = c.args.self.now in
    let level = c.loop-level.level in
    let levels : c.self.inside.opening.levels ≡ s.levels = ap (λ (t : State). t.levels) c.self.view_is in
    let one : s.levels - level ≡ suc (s.levels - (level + 1)) = omega (arith, levels, c.loop-level-test.true) in
    let lengths = coming-length s (level + 1) (s.levels - (level + 1)) (s.levels - level) one in
    let more : c.list_level.new.visits ≤ c.loop-level.made + length (rows_at s (level + 1)) = rw c.from_index-level.ensures at c.in_ok-list_level.ensures.once in
    let looked : c.loop-level.made + imbalances (rows_at s (level + 1)) ≤ c.list_level.new.visits = rw c.from_index-level.ensures at c.in_ok-list_level.ensures.looked in
    let seen : c.loop-level.made + looks c.loop-level.unmet (rows_at s (level + 1)) ≤ c.list_level.new.visits = rw c.from_index-level.ensures at c.in_ok-list_level.ensures.met_first in
    let met : c.loop-level.unmet ≡ c.list_level.new.unmet + actives (rows_at s (level + 1)) = rw c.from_index-level.ensures at c.in_ok-list_level.ensures.met in
    let added : IsListed (rows_at s (level + 1)) c.loop-level.lists c.list_level.new.lists = rw c.from_index-level.ensures at c.in_ok-list_level.ensures.listed in
    record {
      left = rw c.from_index-level.ensures at c.sharing_at-sharing.ensures.left;
      listed = level-listed s (level + 1) (s.levels - (level + 1)) (s.levels - level) c.loop-level.lists c.list_level.new.lists (counts_of s) one added c.loop-level.invariant.listed;
      unmet = omega (arith, actives-coming s (level + 1) (s.levels - (level + 1)) (s.levels - level) one, met, c.loop-level.invariant.unmet);
      looked = omega (arith, level-longer s (level + 1) c.loop-level.lists c.list_level.new.lists added, looked, c.loop-level.invariant.looked);
      met_first =
          let later = rows_among s (levels_from (level + 1 + 1) (s.levels - (level + 1)) s.arenas) in
          let parts = looks-append c.loop-level.unmet (rows_at s (level + 1)) later in
          let rest : c.loop-level.unmet - actives (rows_at s (level + 1)) ≡ c.list_level.new.unmet = omega (arith, met) in
          omega (
            arith,
            c.loop-level.invariant.met_first,
            ap (looks c.loop-level.unmet) (rows-parts s (level + 1) (s.levels - (level + 1)) (s.levels - level) one),
            parts,
            ap (λ n. looks n later) rest,
            seen,
          );
      visits = omega (arith, lengths, more, c.loop-level.invariant.visits);
      few = omega (arith, lengths, more, c.loop-level.invariant.few);
    }

pub returns : goal.returns
returns c =
    let s = c.args.self.now in
    let level = c.loop-level.level in
    let levels : c.self.inside.opening.levels ≡ s.levels = ap (λ (t : State). t.levels) c.self.view_is in
    let over : s.levels - level ≡ 0 = omega (arith, levels, c.loop-level-test.false) in
    let none = coming-none s (level + 1) (s.levels - level) over in
    record {
      exact = listing-ends s (level + 1) (s.levels - level) c.loop-level.lists (counts_of s) over c.loop-level.invariant.listed;
      looked = c.loop-level.invariant.looked;
      met_first = omega (arith, c.loop-level.invariant.met_first, ap (λ n. looks c.loop-level.unmet (rows_among s (levels_from (level + 1) n s.arenas))) over);
      once = omega (arith, c.loop-level.invariant.visits);
    }
