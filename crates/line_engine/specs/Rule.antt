-- What a taker makes of lines, one after the other (own).
use Rattle.std.specs.Prelude.{ℕ, List, [], ◌∷◌, ◌++◌}
use Rattle.line_engine.specs.Lines.{Line}

-- by its state, the text that answers a line, and the state after it
pub record LineRule (S : Type 0) : Type 0 where
  pub reply : S → Line → List ℕ
  pub next : S → Line → S

-- the state after some lines
abbrev pub after : {S : Type 0} → LineRule S → S → List Line → S
after rule s [] = s
after rule s (line ∷ lines) = after rule (rule.next s line) lines

-- the text that answers some lines
abbrev pub replies_to : {S : Type 0} → LineRule S → S → List Line → List ℕ
replies_to rule s [] = []
replies_to rule s (line ∷ lines) = rule.reply s line ++ replies_to rule (rule.next s line) lines
