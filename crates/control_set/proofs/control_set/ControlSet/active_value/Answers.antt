use Rattle.control_set.proofs.Least.{least-low, least-high}
use Rattle.control_set.proofs.control_set.ControlSet.active_value.Goals as goal

pub returns-clause-low : goal.returns-clause-low
returns-clause-low c = λ h. rw c.unwrap_or.ensures (least-low c.self.inside.least c.self.inside.controls.items c.args.base c.self.invariant.least_kept c.self.invariant.values h)

pub returns-clause-high : goal.returns-clause-high
returns-clause-high c = λ h. rw c.unwrap_or.ensures (least-high c.self.inside.least c.self.inside.controls.items c.args.base c.self.invariant.least_kept c.self.invariant.values h)
