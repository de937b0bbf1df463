use Rattle.std.proofs.Common.{◌∷◌, []}
use Rattle.json.specs.Lex.{token}
use Rattle.json.specs.Token.{string}
use Rattle.journal_replay.proofs.CutLines.{cut-same, cut-then}
use Rattle.journal_replay.proofs.cutter.cut_text.Goals as goal

pub returns : goal.returns
returns c =
    let text = c.skip_space.result.now in
    let inside = c.in_ok-inside.inside.now in
    let rest = c.in_ok-found.rest.now in
    let found = token (string c.in_ok-found.found.now) ∷ [] in
    cut-then c.args.text.now text rest [] found c.skip_space.ensures (cut-same text (34 ∷ inside) rest found c.in_ok-inside.ensures c.in_ok-found.ensures)
