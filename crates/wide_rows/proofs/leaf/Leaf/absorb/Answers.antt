use Rattle.std.proofs.Common.{◌≡◌, ◌++◌, length, ap, sym, subst, ◌∙◌, arith}
use Rattle.market_types.specs.Rows.{IsNewestFirst}
use Rattle.wide_rows.specs.Leaves.{lane, rows_in}
use Rattle.wide_rows.proofs.Rows.{length-rows}
use Rattle.wide_rows.proofs.Whole.{joined_leaf}
use Rattle.wide_rows.proofs.leaf.Leaf.absorb.Goals as goal

pub absorb-requires-clause-room : goal.absorb-requires-clause-room
absorb-requires-clause-room c =
    let d = c.self.inside.columns in
    let e = c.newer.inside.columns in
    omega (arith, length-rows (lane d) d.count, length-rows (lane e) e.count, ap length c.self.view_is, ap length c.newer.view_is, c.requires.room)

-- the two lists joined
joined : (c : goal.After-absorb) → rows_in c.newer.inside.columns ++ rows_in c.self.inside.columns ≡ c.args.newer.now ++ c.args.self.now
joined c = ap (λ rows. rows ++ rows_in c.self.inside.columns) c.newer.view_is ∙ ap (λ rows. c.args.newer.now ++ rows) c.self.view_is

pub invariant_of-self : goal.invariant_of-self
invariant_of-self c =
    joined_leaf c.self.inside.columns c.self.invariant c.newer.inside.columns c.newer.invariant c.absorb.new.self (subst IsNewestFirst (sym (joined c)) c.requires.newest) c.absorb.ensures.tidy c.absorb.ensures.rows

pub returns : goal.returns
returns c = c.absorb.ensures.rows ∙ joined c
