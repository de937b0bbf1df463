use Rattle.std.proofs.Common.{◌≡◌, eqb, false, arith}
use Rattle.std.proofs.lemmas.Bool.Decides.{nat_tests}
use Rattle.journal_chart.proofs.Texts.{behind}
use Rattle.journal_chart.proofs.figure.write_area.Goals as goal

pub returns-clause-text : goal.returns-clause-text
returns-clause-text c =
    let part : eqb c.args.allot.least c.args.allot.most ≡ false = let apart = c.if-allot.false in grind (arith, nat_tests) in
    rw part (behind _ _ _ _ _ c.write_foot-2.ensures.text c.write_foot-3.ensures.text)
