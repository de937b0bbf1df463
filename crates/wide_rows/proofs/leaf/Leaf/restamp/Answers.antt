use Rattle.std.proofs.Common.{length, ap, ◌∙◌}
use Rattle.wide_rows.proofs.Alone.{restamped_leaf, restamped_rows}
use Rattle.wide_rows.proofs.leaf.Leaf.restamp.Goals as goal

pub invariant_of-self : goal.invariant_of-self
invariant_of-self c = restamped_leaf c.self.inside.columns c.args.stamp c.self.invariant (ap length c.self.view_is ∙ c.requires.one)

pub returns : goal.returns
returns c row is = restamped_rows c.self.inside.columns c.args.stamp row c.self.invariant (c.self.view_is ∙ is)
