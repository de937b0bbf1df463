use Rattle.std.proofs.Common.{◌≡◌, suc, ◌+◌, ◌∷◌, ◌++◌, ap, ◌∙◌, arith}
use Rattle.wide_rows.specs.Leaves.{lane, rows_below, rows_in}
use Rattle.wide_rows.proofs.Whole.{pushed_rows}
use Rattle.wide_rows.proofs.columns.Columns.absorb.Goals as goal

-- the rows after a push
is : (c : goal.After-push) → rows_in c.push.new.self ≡ rows_below (lane c.args.newer.now) (c.loop-place.place + 1) ++ rows_in c.args.self.now
is c =
    pushed_rows c.loop-place.self c.push.new.self c.row-row.result (omega (arith, c.loop-place.invariant.1, c.loop-place-test.true, c.requires.room)) c.push.ensures.count c.push.ensures.rows
    ∙ ap (λ row. row ∷ rows_in c.loop-place.self) c.row-row.ensures
    ∙ ap (λ rows. lane c.args.newer.now c.loop-place.place ∷ rows) c.loop-place.invariant.2
    ∙ ap (λ n. rows_below (lane c.args.newer.now) n ++ rows_in c.args.self.now) (let e : suc c.loop-place.place ≡ c.loop-place.place + 1 = omega arith in e)

pub loop-place-preserved : goal.loop-place-preserved
loop-place-preserved c = (c.push.ensures.tidy, omega (arith, c.push.ensures.count, c.loop-place.invariant.1), is c)
