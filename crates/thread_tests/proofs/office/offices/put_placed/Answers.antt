use Rattle.std.proofs.Common.{◌≡◌, sym, subst, All, arith}
use Rattle.std.proofs.lemmas.List.Elements.{All-push}
use Rattle.market_lock.specs.Seen.{OfPlaced}
use Rattle.thread_tests.proofs.office.offices.put_placed.Goals as goal

pub returns-clause-all : goal.returns-clause-all
returns-clause-all c =
    subst (All (λ (p : OfPlaced). p.who.table ≡ c.args.office.now.table)) (sym c.push_reserved.ensures.items)
    (All-push (λ (p : OfPlaced). p.who.table ≡ c.args.office.now.table) c.args.placed.now.items c.args.worker (λ k d h. absurd (omega (arith, h, c.requires.room.0, c.args.placed.now.ok.0))) c.requires.own)
