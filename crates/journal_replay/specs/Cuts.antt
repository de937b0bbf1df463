-- What is cut from the front of a text, as the lexer of JSON finds it.
use Rattle.std.specs.Prelude.{◌≡◌, ◌≤◌, ℕ, List, ◌++◌, length, IsUtf8}
use Rattle.json.specs.Lex.{Lexeme, between, in_string, lex}
use Rattle.json.specs.Text.{content, plain, prepend}

-- before `rest` the text has these lexemes, and what is cut is UTF-8
pub record IsCut (text rest : List ℕ) (found : List Lexeme) : Type 0 where
  pub lexed : lex between text ≡ found ++ lex between rest
  pub utf8 : IsUtf8 rest → IsUtf8 text
  pub within : length rest ≤ length text

-- inside of a string, before `rest` the text has this content, and it is UTF-8
pub record IsInside (text rest found : List ℕ) : Type 0 where
  pub reads : content plain text ≡ prepend found (content plain rest)
  pub lexed : lex in_string text ≡ lex in_string rest
  pub utf8 : IsUtf8 rest → IsUtf8 text
  pub within : length rest ≤ length text
