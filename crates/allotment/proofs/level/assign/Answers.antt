use Rattle.std.proofs.Common.{◌≡◌, ℕ, ◌+◌, ◌-◌, ◌<◌, ◌≤◌, List, ◌++◌, length, get_or, min, set, take, drop, refl, ap, ◌∙◌, arith, add-one, append_assoc, drop-cons}
use Rattle.std.proofs.lemmas.Grind.{common_steps}
use Rattle.std.proofs.lemmas.List.{take_all}
use Rattle.std.proofs.Math.ListN.{length-set}
use Rattle.std.proofs.Math.Seq.{take-suc-set}
use Rattle.market_types.specs.Allotment.{assigned_to}
use Rattle.allotment.proofs.Levels.{assigned-padded, assigned_to-within}
use Rattle.allotment.proofs.level.assign.Goals as goal

-- one level more
assigned_to-more : (given ds : List ℕ) (i left k : ℕ) → i < length given → i < length ds → k ≡ min (get_or ds i 0) left
    → take (i + 1) (set given i k) ++ assigned_to (drop (i + 1) ds) (left - k) ≡ take i given ++ assigned_to (drop i ds) left
assigned_to-more given ds i left k p q e =
    rw (add-one, take-suc-set given i k p, drop-cons ds i 0 q, append_assoc, e) refl

-- nothing is due to no level
assigned_to-end : (given ds : List ℕ) (n left : ℕ) → length given ≤ n → length ds ≤ n → given ≡ take n given ++ assigned_to (drop n ds) left
assigned_to-end given ds n left p q = grind (arith, common_steps, take_all)

pub loop-i-preserved : goal.loop-i-preserved
loop-i-preserved c =
    record {
      size = ap length refl ∙ simp length-set c.loop-i.invariant.size;
      given =
          assigned_to-more c.loop-i.assigned c.args.demands.now c.loop-i.i c.loop-i.left _ (omega arith) (omega arith) c.min-given.ensures
          ∙ c.loop-i.invariant.given;
    }

pub returns-clause-exact : goal.returns-clause-exact
returns-clause-exact c =
    assigned_to-end c.loop-i.assigned c.args.demands.now c.loop-i.i c.loop-i.left (omega arith) (omega arith) ∙ c.loop-i.invariant.given

pub returns-clause-no_more_than_asked : goal.returns-clause-no_more_than_asked
returns-clause-no_more_than_asked c = λ i.
    let e = assigned_to-end c.loop-i.assigned c.args.demands.now c.loop-i.i c.loop-i.left (omega arith) (omega arith) ∙ c.loop-i.invariant.given in
    rw e (assigned_to-within c.args.demands.now c.args.workers i)

pub returns-clause-in_market : goal.returns-clause-in_market
returns-clause-in_market c = λ s padded bound level low high.
    let exact : c.loop-i.assigned ≡ assigned_to c.args.demands.now c.args.workers = assigned_to-end c.loop-i.assigned c.args.demands.now c.loop-i.i c.loop-i.left (omega arith) (omega arith) ∙ c.loop-i.invariant.given in
    rw (exact, bound) (assigned-padded s c.args.demands.now level padded)
