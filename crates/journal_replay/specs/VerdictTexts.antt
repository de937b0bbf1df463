-- The texts of verdicts (own).
use Rattle.std.specs.Prelude.{ℕ, List, ◌++◌, codes, decimal}
use Rattle.journal_replay.specs.declared.verdict.Verdict.{Verdict}
use Rattle.journal_replay.specs.declared.verdict.Verdict.TheVariants.{Legal, BadHeader, BadJson, BadRecord, WrongReply}

abbrev pub verdict_text : Verdict → List ℕ
verdict_text (Legal entries) = codes "legal " ++ decimal entries
verdict_text BadHeader = codes "J1 bad header"
verdict_text (BadJson line) = codes "J2 bad json line " ++ decimal line
verdict_text (BadRecord line) = codes "J3 bad record line " ++ decimal line
verdict_text (WrongReply line due) = codes "J4 wrong reply line " ++ (decimal line ++ (codes " due " ++ due))
