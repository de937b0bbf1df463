-- What the parts of a journal are, one after the other.
use Rattle.std.specs.Prelude.{codes}
use Rattle.std.specs.Io.KnownBytes.{Appends}
use Rattle.std.proofs.Common.{◌≡◌, ℕ, List, ◌++◌, Option, ap, sym, ◌∙◌, subst}
use Rattle.std.proofs.KnownBytes.{Appends-trans}
use Rattle.std.proofs.lemmas.Grind.{flat_map-append}
use Rattle.market_types.specs.declared.reply.Entry.{Entry}
use Rattle.journal_replay.specs.Journal.{entry_line, entry_lines}

-- where the lines of some entries were taken, and then those of the next ones, those of all were
pub one_more : (a b c : Option (List ℕ)) (old part new : List Entry) → new ≡ old ++ part → Appends a b (entry_lines 3 old) → Appends b c (entry_lines 3 part) → Appends a c (entry_lines 3 new)
one_more a b c old part new is before after =
    let whole : entry_lines 3 new ≡ entry_lines 3 old ++ entry_lines 3 part = ap (entry_lines 3) is ∙ flat_map-append (λ (e : Entry). entry_line 3 e ++ codes "\n") old part in
    subst (λ l. Appends a c l) (sym whole) (Appends-trans a b c (entry_lines 3 old) (entry_lines 3 part) before after)
