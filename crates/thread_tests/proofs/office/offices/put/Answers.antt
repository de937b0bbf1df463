use Rattle.std.proofs.Common.{◌≡◌, sym, subst, All}
use Rattle.std.proofs.lemmas.List.Elements.{All-push}
use Rattle.market_lock.specs.Seen.{OfPass}
use Rattle.thread_tests.proofs.office.offices.put.Goals as goal

pub returns-clause-all : goal.returns-clause-all
returns-clause-all c =
    subst (All (λ (p : OfPass). p.table ≡ c.args.office.now.table)) (sym c.push_reserved.ensures.items)
    (All-push (λ (p : OfPass). p.table ≡ c.args.office.now.table) c.args.passes.now.items c.args.pass c.requires.all c.requires.own)
