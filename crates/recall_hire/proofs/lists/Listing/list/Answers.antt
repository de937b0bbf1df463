use Rattle.std.proofs.Common.{[], ◌∷◌, ap, length, arith}
use Rattle.recall_hire.proofs.Listings.{ready-after, none-after, walk-ends, walk-row, walk-append}
use Rattle.recall_hire.proofs.lists.Listing.list.Goals as goal

pub loop-row-preserved : goal.loop-row-preserved
loop-row-preserved c =
    let w = c.args.self.now in
    let e = c.in-Some.ensures in
    let i = c.loop-row.invariant in
    let row = c.in-Some.row in
    let here = c.in_ok-carry.ensures in
    record {
      ready = ready-after w.sharing w.roster.now c.loop-row.rest (row ∷ []) c.next.new.self c.loop-row.carry c.in_ok-carry.carry c.loop-row.unmet c.add.new.unmet e.some here.carry here.met i.ready;
      few = omega (arith, i.few, e.counted, ap length e.some);
      goes = λ after left more lists rest.
          i.goes after left more lists
          (walk-append w.sharing w.roster.now c.loop-row.rest (row ∷ []) c.next.new.self c.loop-row.carry c.in_ok-carry.carry after c.loop-row.unmet c.add.new.unmet left c.loop-row.visits c.next.new.visits more c.loop-row.lists c.add.new.lists lists
          e.some (walk-row w.sharing w.roster.now row c.loop-row.carry c.in_ok-carry.carry c.loop-row.unmet c.add.new.unmet c.loop-row.visits c.next.new.visits c.loop-row.lists c.add.new.lists e.counted here.listed here.carry here.met) rest);
      nothing = λ none. none-after w.sharing w.roster.now c.loop-row.rest (row ∷ []) c.next.new.self c.loop-row.carry c.in_ok-carry.carry e.some here.carry (i.nothing none);
    }

pub returns-clause-walked : goal.returns-clause-walked
returns-clause-walked c =
    let w = c.args.self.now in
    c.loop-row.invariant.goes c.loop-row.carry c.loop-row.unmet c.next.new.visits c.loop-row.lists
    (walk-ends w.sharing w.roster.now c.loop-row.carry c.loop-row.unmet c.loop-row.visits c.next.new.visits c.loop-row.lists c.loop-row.rest c.in_default.ensures.none c.in_default.ensures.uncounted)
