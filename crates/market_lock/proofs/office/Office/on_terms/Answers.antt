use Rattle.market_lock.proofs.Endless.{endless-by, endless-of}
use Rattle.market_lock.proofs.office.Office.on_terms.Goals as goal

pub returns-clause-endless : goal.returns-clause-endless
returns-clause-endless c = λ keeps places.
    endless-of c.with_chronicle.result c.args.terms c.with_chronicle.ensures.terms (endless-by c.a_forgetful_chronicle_is_never_full.ensures c.args.terms keeps places)
