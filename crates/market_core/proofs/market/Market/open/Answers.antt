use Rattle.std.proofs.Common.{◌≡◌, ℕ, ◌+◌, ◌<◌, ◌≤◌, length, sym, ap, ◌∙◌, subst, arith}
use Rattle.std.specs.List.{All}
use Rattle.market_types.specs.State.{State, Arena}
use Rattle.market_types.specs.Allotment.{at_level}
use Rattle.arena_store.specs.Bits.{bits}
use Rattle.market_core.proofs.Meters.{put-alone}
use Rattle.market_core.proofs.market.Market.open.Goals as goal

pub push-requires-clause-room : goal.push-requires-clause-room
push-requires-clause-room c = subst (λ (n : ℕ). n < 1024) c.len.ensures.exact c.if-len-ge-MOST_ARENAS.false

pub push-requires-clause-newest : goal.push-requires-clause-newest
push-requires-clause-newest c =
    subst (λ (n : ℕ). All (λ (a : Arena). a.stamp < n) c.self.inside.arenas) (sym (ap (λ (a : Arena). a.stamp) c.new-stored.ensures)) c.self.invariant.sound.stamped

pub push-requires-clause-last : goal.push-requires-clause-last
push-requires-clause-last c =
    subst (λ (n : ℕ). All (λ (a : Arena). a.number < n) c.self.inside.arenas) (sym (ap (λ (a : Arena). a.number) c.new-stored.ensures ∙ c.new-arena.ensures)) c.self.invariant.sound.numbered

pub returns-clause-alone : goal.returns-clause-alone
returns-clause-alone c few =
    let level : c.new-stored.result.level ≡ c.args.level = ap (λ (a : Arena). a.level) c.new-stored.ensures in
    let arenas : c.self.inside.arenas ≡ c.args.self.now.arenas = ap (λ (s : State). s.arenas) c.self.view_is in
    let short : length (at_level c.args.level c.args.self.now.arenas) ≤ 12 = few c.args.level in
    let alone : length (at_level c.args.level c.args.self.now.arenas) ≤ 12 → c.push.new.visits ≡ c.args.visits.now + bits (length (at_level c.args.level c.args.self.now.arenas) + 1) = rw (← level, ← arenas) c.in_ok-push.ensures.alone in
    omega (arith, c.requires.uncounted, alone short, put-alone (length (at_level c.args.level c.args.self.now.arenas)) short)
