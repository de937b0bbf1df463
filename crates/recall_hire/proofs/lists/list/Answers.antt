use Rattle.std.proofs.Common.{[], ◌++◌, refl, length-append, arith}
use Rattle.std.proofs.lemmas.Bool.{false≢true}
use Rattle.recall_hire.proofs.Listings.{IsReady, ListsNothing, ready-front, ready-after, none-front, none-after, walk-ends, walk-append, ready-past, none-past, walk-past}
use Rattle.recall_hire.proofs.lists.list.Goals as goal

pub list-requires-clause-shared : goal.list-requires-clause-shared
list-requires-clause-shared c =
    let s = c.args.sharing in
    let seats = c.args.roster.now in
    let quad = c.in-Some-next.quad in
    let left = quad ++ c.next.new.rest in
    (ready-front s seats left quad c.next.new.rest c.next.new.carry c.loop-quad.unmet refl
    (ready-past s seats c.loop-quad.rest left c.loop-quad.carry c.next.new.carry c.loop-quad.unmet c.in-Some-next.ensures.passed c.loop-quad.invariant.ready)).shared

pub list-requires-clause-low : goal.list-requires-clause-low
list-requires-clause-low c =
    let s = c.args.sharing in
    let seats = c.args.roster.now in
    (ready-past s seats c.loop-quad.rest (c.in-Some-next.quad ++ c.next.new.rest) c.loop-quad.carry c.next.new.carry c.loop-quad.unmet c.in-Some-next.ensures.passed c.loop-quad.invariant.ready).low

pub list-requires-clause-unmet : goal.list-requires-clause-unmet
list-requires-clause-unmet c =
    let s = c.args.sharing in
    let seats = c.args.roster.now in
    let quad = c.in-Some-next.quad in
    let left = quad ++ c.next.new.rest in
    (ready-front s seats left quad c.next.new.rest c.next.new.carry c.loop-quad.unmet refl
    (ready-past s seats c.loop-quad.rest left c.loop-quad.carry c.next.new.carry c.loop-quad.unmet c.in-Some-next.ensures.passed c.loop-quad.invariant.ready)).unmet

pub returns-in_err-carry-clause-succeeds : goal.returns-in_err-carry-clause-succeeds
returns-in_err-carry-clause-succeeds c = λ none.
    let s = c.args.sharing in
    let seats = c.args.roster.now in
    let quad = c.in-Some-next.quad in
    let left = quad ++ c.next.new.rest in
    let rest : ListsNothing s seats c.next.new.carry left = none-past s seats c.loop-quad.rest left c.loop-quad.carry c.next.new.carry c.loop-quad.unmet c.in-Some-next.ensures.passed (c.loop-quad.invariant.nothing none) in
    absurd (false≢true (c.in_err-carry.ensures.succeeds (none-front s seats left quad c.next.new.rest c.next.new.carry refl rest)))

pub loop-quad-preserved : goal.loop-quad-preserved
loop-quad-preserved c =
    let s = c.args.sharing in
    let seats = c.args.roster.now in
    let quad = c.in-Some-next.quad in
    let rest = c.next.new.rest in
    let left = quad ++ rest in
    let over = c.in-Some-next.ensures.passed in
    let i = c.loop-quad.invariant in
    let walked = c.in_ok-carry.ensures.walked in
    let ready : IsReady s seats left c.next.new.carry c.loop-quad.unmet = ready-past s seats c.loop-quad.rest left c.loop-quad.carry c.next.new.carry c.loop-quad.unmet over i.ready in
    record {
      ready = ready-after s seats left quad rest c.next.new.carry c.in_ok-carry.carry c.loop-quad.unmet c.list.new.unmet refl walked.carried walked.met ready;
      few = omega (arith, i.few, walked.once, c.in-Some-next.ensures.once);
      goes = λ after unmet more lists g.
          i.goes after unmet more lists
          (walk-past s seats c.loop-quad.rest left c.loop-quad.carry c.next.new.carry c.loop-quad.unmet over after unmet c.loop-quad.visits c.next.new.visits more c.loop-quad.lists lists c.in-Some-next.ensures.counted
          (omega (arith, c.in-Some-next.ensures.once, length-append quad rest))
          (walk-append s seats left quad rest c.next.new.carry c.in_ok-carry.carry after c.loop-quad.unmet c.list.new.unmet unmet c.next.new.visits c.list.new.visits more c.loop-quad.lists c.list.new.lists lists refl walked g));
      nothing = λ none.
          none-after s seats left quad rest c.next.new.carry c.in_ok-carry.carry refl walked.carried
          (none-past s seats c.loop-quad.rest left c.loop-quad.carry c.next.new.carry c.loop-quad.unmet over (i.nothing none));
    }

pub returns : goal.returns
returns c =
    let s = c.args.sharing in
    let seats = c.args.roster.now in
    let v = c.loop-quad.visits in
    let w = c.next.new.visits in
    let lists = c.loop-quad.lists in
    let e = c.in_default-next.ensures in
    let walked = c.loop-quad.invariant.goes c.next.new.carry c.loop-quad.unmet w lists
    (walk-past s seats c.loop-quad.rest [] c.loop-quad.carry c.next.new.carry c.loop-quad.unmet e.none c.next.new.carry c.loop-quad.unmet v w w lists lists e.counted (omega (arith, e.most))
    (walk-ends s seats c.next.new.carry c.loop-quad.unmet w w lists [] refl refl)) in
    record { listed = walked.listed; met = walked.met; looked = omega (arith, walked.looked); met_first = omega (arith, walked.met_first); once = omega (arith, walked.once); succeeds = λ _. refl }
