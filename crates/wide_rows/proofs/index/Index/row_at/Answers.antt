use Rattle.std.specs.List.{slice_get}
use Rattle.std.proofs.Common.{◌-◌, ◌<◌, length, ap, ◌∙◌, arith, length-append}
use Rattle.market_types.proofs.RowReadings.{get_left}
use Rattle.wide_rows.specs.Joined.{joined_below}
use Rattle.wide_rows.proofs.Joined.{split_newest, get_later}
use Rattle.wide_rows.proofs.index.Index.row_at.Goals as goal

pub returns-then-rest-count : goal.returns-then-rest-count
returns-then-rest-count c = λ rows count h.
    let p = c.loop-place.place in
    let within : p - 1 < count = omega (arith, h.len, c.loop-place.invariant.0, c.loop-place-test.true) in (
      within,
      omega (arith, c.if-rest-count.true, h.counts (p - 1) within),
      (c.loop-place.invariant.1 rows count h).1
          ∙ ap (λ l. slice_get l c.loop-place.rest) (split_newest rows p c.loop-place-test.true)
          ∙ get_left c.loop-place.rest (rows (p - 1)) (joined_below rows (p - 1)) (omega (arith, c.if-rest-count.true, h.counts (p - 1) within)),
    )

pub loop-place-preserved : goal.loop-place-preserved
loop-place-preserved c = (
  omega (arith, c.loop-place.invariant.0),
  λ rows count h.
      let p = c.loop-place.place in
      let within : p - 1 < count = omega (arith, h.len, c.loop-place.invariant.0, c.loop-place-test.true) in
      let split = split_newest rows p c.loop-place-test.true in
      let many = h.counts (p - 1) within in
      let was = c.loop-place.invariant.1 rows count h in (
        omega (arith, was.0, ap (λ l. length l) split, length-append (rows (p - 1)) (joined_below rows (p - 1)), many, c.if-rest-count.false),
        was.1 ∙ ap (λ l. slice_get l c.loop-place.rest) split ∙ get_later (rows (p - 1)) (joined_below rows (p - 1)) c.loop-place.rest _ (omega (arith, many, c.if-rest-count.false)),
      ),
)
