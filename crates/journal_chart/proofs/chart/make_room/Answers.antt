use Rattle.std.proofs.Common.{◌≡◌, ◌*◌, ◌/◌, ◌<◌, false, nat_le, refl, arith}
use Rattle.std.proofs.lemmas.Bool.Decides.{nat_tests}
use Rattle.std.proofs.Math.Nat.{div-lt_iff_lt-mul}
use Rattle.journal_chart.proofs.chart.make_room.Goals as goal
use Rattle.journal_chart.proofs.chart.make_room.Goals.{Then-place_of-from}

-- not all columns are full
free : (c : Then-place_of-from) → nat_le (c.args.columns * c.args.width.now) c.args.moments ≡ false
free c =
    let inside : c.args.moments / c.args.width.now < c.args.columns = omega (arith, c.place_of.ensures.exact, c.from.ensures, c.if-place_of-from.true) in
    let below : c.args.moments < c.args.columns * c.args.width.now = (div-lt_iff_lt-mul c.place_of.ensures.some).0 inside in
    grind (arith, nat_tests)

pub returns-then-place_of-from-clause-width : goal.returns-then-place_of-from-clause-width
returns-then-place_of-from-clause-width c = rw (free c) refl

pub returns-then-place_of-from-clause-lines : goal.returns-then-place_of-from-clause-lines
returns-then-place_of-from-clause-lines c = rw (free c) refl
