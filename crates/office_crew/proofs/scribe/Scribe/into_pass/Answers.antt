use Rattle.std.proofs.Common.{subst}
use mathlib.Core.List.{IsPrefix}
use Rattle.office_crew.specs.Written.{OfScribe}
use Rattle.office_crew.proofs.Fronts.{first-ones}
use Rattle.office_crew.proofs.scribe.Scribe.into_pass.Goals as goal

pub returns-clause-front : goal.returns-clause-front
returns-clause-front c = subst (λ (s : OfScribe). IsPrefix s.written c.self.inside.pass.seen) c.self.view_is (first-ones c.self.inside.next c.self.inside.pass.seen)
