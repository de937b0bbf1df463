use Rattle.std.proofs.Common.{ap, arith, sym, ◌∙◌, ◌≡◌, None}
use Rattle.market_types.specs.State.{State}
use Rattle.market_types.specs.Allotment.{allotment_of}
use Rattle.market_types.specs.Step.{arena_at}
use Rattle.market_core.proofs.Allotted.{allotment_of-missing}
use Rattle.market_core.proofs.Meters.{seen-none}
use Rattle.market_core.proofs.market.Market.allotment_by_number.Goals as goal

pub returns-in_default-clause-exact : goal.returns-in_default-clause-exact
returns-in_default-clause-exact c =
    let missing = sym c.get.ensures.exact ∙ c.in_default.is in
    sym (allotment_of-missing c.args.self.now c.args.arena (ap (λ (s : State). arena_at c.args.arena s.arenas) (sym c.self.view_is) ∙ missing))

pub returns-in_default-clause-least : goal.returns-in_default-clause-least
returns-in_default-clause-least c =
    let missing : arena_at c.args.arena c.args.self.now.arenas ≡ None = ap (λ (s : State). arena_at c.args.arena s.arenas) (sym c.self.view_is) ∙ sym c.get.ensures.exact ∙ c.in_default.is in
    omega (arith, seen-none c.args.self.now (arena_at c.args.arena c.args.self.now.arenas) missing)

pub returns-in_default-clause-alone : goal.returns-in_default-clause-alone
returns-in_default-clause-alone c few =
    let missing : arena_at c.args.arena c.args.self.now.arenas ≡ None = ap (λ (s : State). arena_at c.args.arena s.arenas) (sym c.self.view_is) ∙ sym c.get.ensures.exact ∙ c.in_default.is in
    omega (arith, c.requires.uncounted, seen-none c.args.self.now (arena_at c.args.arena c.args.self.now.arenas) missing)

pub allotment_of-requires-clause-there : goal.allotment_of-requires-clause-there
allotment_of-requires-clause-there c =
    ap (λ n. arena_at n c.args.self.now.arenas) c.in-Some.ensures.number
    ∙ ap (λ (s : State). arena_at c.args.arena s.arenas) (sym c.self.view_is) ∙ sym c.get.ensures.exact ∙ c.in-Some.is

pub returns-clause-exact : goal.returns-clause-exact
returns-clause-exact c = c.allotment_of.ensures.exact ∙ ap (allotment_of c.args.self.now) c.in-Some.ensures.number
