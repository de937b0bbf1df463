use Rattle.std.specs.Prelude.{All}
use Rattle.std.proofs.Common.{◌≡◌, ◌<◌, ◌∷◌, length, ap, sym, subst, ◌∙◌, arith}
use Rattle.wide_rows.specs.Leaves.{lane, rows_in}
use Rattle.wide_rows.proofs.Rows.{length-rows}
use Rattle.wide_rows.proofs.Whole.{pushed_rows, pushed_leaf}
use Rattle.wide_rows.proofs.leaf.Leaf.push_newest.Goals as goal

pub push-requires-clause-room : goal.push-requires-clause-room
push-requires-clause-room c = let d = c.self.inside.columns in omega (arith, length-rows (lane d) d.count, ap length c.self.view_is, c.requires.room)

room : (c : goal.After-push) → c.self.inside.columns.count < 16
room c = let d = c.self.inside.columns in omega (arith, length-rows (lane d) d.count, ap length c.self.view_is, c.requires.room)

-- the rows after the write
is : (c : goal.After-push) → rows_in c.push.new.self ≡ c.args.row.now ∷ rows_in c.self.inside.columns
is c = pushed_rows c.self.inside.columns c.push.new.self c.args.row.now (room c) c.push.ensures.count c.push.ensures.rows

pub invariant_of-self : goal.invariant_of-self
invariant_of-self c =
    pushed_leaf c.self.inside.columns c.self.invariant c.args.row.now c.push.new.self (subst (λ rows. All (λ other. other.stamp < c.args.row.now.stamp) rows) (sym c.self.view_is) c.requires.newest)
    c.requires.request c.push.ensures.tidy (is c)

pub returns : goal.returns
returns c = is c ∙ ap (λ rows. c.args.row.now ∷ rows) c.self.view_is
