use Rattle.std.proofs.Common.{ap, sym, ◌∙◌}
use Rattle.recall_hire.specs.declared.crowd.Crowd.{Crowd}
use Rattle.recall_hire.proofs.Tables.{size-here}
use Rattle.recall_hire.proofs.crowd.size_of.Goals as goal

pub returns-in-Some : goal.returns-in-Some
returns-in-Some c =
    ap (λ (x : Crowd). x.size) (sym c.index-crowds-index.is)
    ∙ size-here c.args.crowds.now c.in-Some.index c.args.arena c.index-crowds-index.result c.requires.kept c.in-Some.ensures.here c.index-crowds-index.is
