use Rattle.std.proofs.Common.{◌≡◌, Some, rules}
use Rattle.std.proofs.lemmas.List.Elements.{All-pop}
use Rattle.market_lock.specs.Seen.{OfPass}
use Rattle.office_crew.proofs.Seats.{seats_none, seats_one}
use Rattle.office_crew.proofs.meeting.seated.Goals as goal

pub loop-task-init : goal.loop-task-init
loop-task-init g c = (search rules, search rules, search rules, search rules, search rules, search rules, search rules, seats_none c.args.passes.now.items c.args.tasks.now.items c.args.members.now.items c.requires.empty)

pub loop-task-preserved : goal.loop-task-preserved
loop-task-preserved g c = (
  (All-pop (λ (p : OfPass). p.table ≡ g.B.Room.table) c.loop-task.passes.items c.pop-in-Some.new.self.items (Some c.in-Some-pop.pass) c.in-Some-pop.ensures.items c.loop-task.invariant.0).0,
  search rules,
  search rules,
  search rules,
  search rules,
  search rules,
  search rules,
  seats_one c.args.passes.now.items c.loop-task.passes.items c.pop-in-Some.new.self.items c.args.tasks.now.items c.loop-task.tasks.items c.pop.new.self.items c.loop-task.members.items c.push_reserved.new.self.items c.in-Some-pop.pass c.in-Some.task c.new.result
      c.in-Some-pop.ensures.items c.in-Some.ensures.items c.push_reserved.ensures.items c.new.ensures.caller c.new.ensures.task c.loop-task.invariant.7,
)
