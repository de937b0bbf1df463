use Rattle.std.proofs.Common.{length}
use Rattle.edit_history.specs.Chronicled.{Chronicled}
use Rattle.market_lock.proofs.Serving.{forgotten-again}
use Rattle.market_lock.proofs.desk.Desk.serve.Goals as goal

pub invariant_of-self-2 : goal.invariant_of-self-2
invariant_of-self-2 c =
    let after : Chronicled = c.answer.new.chronicle in
    forgotten-again after.keeping (length after.log) c.self.inside.chronicle.from after.from c.in_ok-reply.ensures.from
