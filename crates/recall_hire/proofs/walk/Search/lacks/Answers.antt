use Rattle.std.proofs.Common.{◌+◌, ◌-◌, ◌*◌, ◌<◌, ◌≤◌, sym, arith}
use Rattle.recall_hire.proofs.Shares.{share-below, carry-below, share-kept, carry-rest}
use Rattle.recall_hire.proofs.walk.Search.lacks.Goals as goal

pub returns-then-due-self-clause-no : goal.returns-then-due-self-clause-no
returns-then-due-self-clause-no c =
    let less : c.args.row.request * c.args.self.now.workers + c.args.carry.now < c.args.self.now.demand = rw c.from.ensures at c.if-due-self.true in
    rw (share-below c.args.row.request c.args.self.now.workers c.args.self.now.demand c.args.carry.now less) (omega arith)

pub returns-then-due-self-clause-carry : goal.returns-then-due-self-clause-carry
returns-then-due-self-clause-carry c =
    let less : c.args.row.request * c.args.self.now.workers + c.args.carry.now < c.args.self.now.demand = rw c.from.ensures at c.if-due-self.true in
    rw c.from.ensures (sym (carry-below c.args.row.request c.args.self.now.workers c.args.self.now.demand c.args.carry.now less))

pub returns-then-rest-self-clause-no : goal.returns-then-rest-self-clause-no
returns-then-rest-self-clause-no c =
    let w = c.args.self.now in
    let due : w.demand ≤ c.args.row.request * w.workers + c.args.carry.now = rw c.from.ensures at c.if-due-self.false in
    let kept : c.from-2.result * w.demand ≤ c.args.row.request * w.workers + c.args.carry.now = rw c.from.ensures at c.if-due-kept.false in
    let few : c.args.row.request * w.workers + c.args.carry.now - c.from-2.result * w.demand < w.demand = rw c.from.ensures at c.if-rest-self.true in
    omega (
      arith,
      share-kept c.args.row.request w.workers w.demand c.args.carry.now c.from-2.result c.requires.shared.carried due kept few,
      c.from-2.ensures,
      c.active.ensures.exact,
    )

pub returns-then-rest-self-clause-carry : goal.returns-then-rest-self-clause-carry
returns-then-rest-self-clause-carry c =
    let w = c.args.self.now in
    let due : w.demand ≤ c.args.row.request * w.workers + c.args.carry.now = rw c.from.ensures at c.if-due-self.false in
    let kept : c.from-2.result * w.demand ≤ c.args.row.request * w.workers + c.args.carry.now = rw c.from.ensures at c.if-due-kept.false in
    let few : c.args.row.request * w.workers + c.args.carry.now - c.from-2.result * w.demand < w.demand = rw c.from.ensures at c.if-rest-self.true in
    rw c.from.ensures (sym (carry-rest c.args.row.request w.workers w.demand c.args.carry.now c.from-2.result c.requires.shared.carried due kept few))
