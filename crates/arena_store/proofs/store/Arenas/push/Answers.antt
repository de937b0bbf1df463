use Rattle.std.proofs.Common.{arith, ap, ◌∙◌, ◌≡◌, ◌+◌, ◌-◌, ◌<◌, cond, ltb, length}
use Rattle.market_types.specs.State.{Claim}
use Rattle.market_types.specs.declared.row.Row.{Row}
use Rattle.wide_rows.specs.Leveled.{with_first}
use Rattle.arena_store.proofs.ByStamp.{length-by_stamp}
use Rattle.arena_store.proofs.Stored.{total-stored, list-newest, list-visits_one, list-put, list-put_alone, stored-pushed, view-pushed}
use Rattle.arena_store.proofs.store.Arenas.push.Goals as goal

pub reserve-requires : goal.reserve-requires
reserve-requires c = omega (arith, length-by_stamp c.self.inside.table.arenas, ap length c.self.view_is, c.requires.room)

pub push-requires-clause-room : goal.push-requires-clause-room
push-requires-clause-room c =
    let s = c.self.inside in
    let room : length s.table.arenas < 1024 = omega (arith, length-by_stamp s.table.arenas, ap length c.self.view_is, c.requires.room) in
    omega (arith, total-stored s.table.arenas s.lists s.enqueued c.self.invariant, room)

pub push-requires-clause-newest : goal.push-requires-clause-newest
push-requires-clause-newest c =
    let s = c.self.inside in
    let level : c.index.result ≡ c.args.arena.level - 1 = omega (arith, c.level.ensures) in
    let older = rw (← c.self.view_is) at c.requires.newest in
    let stamp : c.row.result.stamp ≡ c.args.arena.stamp = ap (λ (r : Row). r.stamp) c.row.ensures.exact in
    rw stamp (list-newest s.table.arenas s.lists s.enqueued c.self.invariant c.args.arena.level c.index.result (omega arith) (omega arith) level c.args.arena.stamp older)

pub invariant_of-self-2 : goal.invariant_of-self-2
invariant_of-self-2 c =
    let s = c.self.inside in
    let level : c.index.result ≡ c.args.arena.level - 1 = omega (arith, c.level.ensures) in
    let older = rw (← c.self.view_is) at c.requires.newest in
    let last = rw (← c.self.view_is) at c.requires.last in
    let room : length s.table.arenas < 1024 = omega (arith, length-by_stamp s.table.arenas, ap length c.self.view_is, c.requires.room) in
    let lists = c.in_ok-push.ensures.pushed ∙ ap (λ (r : Row). with_first c.index.result r s.lists) c.row.ensures.exact in
    rw (c.push_reserved.ensures, c.in_ok-reserve.ensures.unchanged, lists)
    (stored-pushed s.table.arenas s.lists s.enqueued c.args.arena c.index.result _ c.self.invariant room older last (omega arith, omega arith) level
    (ap (λ k. s.enqueued + k) (c.counted.ensures ∙ ap (λ (q : Claim). cond (ltb 0 q.mandatory) 1 0) c.claim.ensures)))

pub returns-clause-pushed : goal.returns-clause-pushed
returns-clause-pushed c =
    let s = c.self.inside in
    let older = rw (← c.self.view_is) at c.requires.newest in
    rw (c.push_reserved.ensures, c.in_ok-reserve.ensures.unchanged, ← c.self.view_is) (view-pushed s.table.arenas c.args.arena older)

pub returns-clause-visits : goal.returns-clause-visits
returns-clause-visits c =
    let s = c.self.inside in
    let level : c.index.result ≡ c.args.arena.level - 1 = omega (arith, c.level.ensures) in
    rw (← c.self.view_is) (list-visits_one s.table.arenas s.lists s.enqueued c.self.invariant c.args.arena.level c.index.result (omega arith) (omega arith) level
    c.args.visits.now c.push.new.visits c.in_ok-push.ensures.visits)

pub returns-clause-alone : goal.returns-clause-alone
returns-clause-alone c =
    let s = c.self.inside in
    let level : c.index.result ≡ c.args.arena.level - 1 = omega (arith, c.level.ensures) in
    rw (← c.self.view_is) (list-put_alone s.table.arenas s.lists s.enqueued c.self.invariant c.args.arena.level c.index.result (omega arith) (omega arith) level
    c.args.visits.now c.push.new.visits c.in_ok-push.ensures.alone)

pub returns-clause-least : goal.returns-clause-least
returns-clause-least c =
    let s = c.self.inside in
    let level : c.index.result ≡ c.args.arena.level - 1 = omega (arith, c.level.ensures) in
    rw (← c.self.view_is) (list-put s.table.arenas s.lists s.enqueued c.self.invariant c.args.arena.level c.index.result (omega arith) (omega arith) level
    c.args.visits.now c.push.new.visits c.in_ok-push.ensures.least)
