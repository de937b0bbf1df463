-- The members of an entry, as tokens of JSON, as what its lexer finds, and as data.
use Rattle.std.specs.Prelude.{◌≡◌, ◌<◌, ◌^◌, ℕ, List, [], ◌∷◌, ◌++◌, Option, Some, None, option_and_then, codes, decimal, ⊤}
use Rattle.std.specs.Borrow.{Bor}
use Rattle.json.specs.Token.{Token, key}
use Rattle.json.specs.Token as json_token
use Rattle.json.specs.Lex.{Lexeme, colon, token}
use Rattle.json.specs.Json as json
use Rattle.serde_json.specs.Data.{Data, Members, no_members, member, put, string, number, unsigned}
use Rattle.serde_json.specs.Read.{of_json, max_depth}
use Rattle.journal_replay.specs.Cuts.{IsCut}
use Rattle.journal_replay.specs.declared.fields.Fields.{Fields}
use Rattle.journal_replay.specs.declared.fields.Member.{Member}
use Rattle.journal_replay.specs.declared.fields.Member.TheVariants.{Cmd, Reply, Seat}

-- the tokens of a member
abbrev pub member_tokens : Member → List Token
member_tokens (Cmd text) = key (codes "cmd") ∷ json_token.string text.now ∷ []
member_tokens (Reply text) = key (codes "reply") ∷ json_token.string text.now ∷ []
member_tokens (Seat seat) = key (codes "seat") ∷ json_token.number (decimal seat) ∷ []

-- what tokens are as JSON: what a text is of which they are the tokens
abbrev pub data_of : List Token → Option Data
data_of ts = option_and_then of_json (option_and_then (λ p. json.if_last p.0 p.1) (json.value max_depth ts))

-- the lexemes of a member
abbrev pub member_lexemes : Member → List Lexeme
member_lexemes (Cmd text) = token (json_token.string (codes "cmd")) ∷ colon ∷ token (json_token.string text.now) ∷ []
member_lexemes (Reply text) = token (json_token.string (codes "reply")) ∷ colon ∷ token (json_token.string text.now) ∷ []
member_lexemes (Seat seat) = token (json_token.string (codes "seat")) ∷ colon ∷ token (json_token.number (decimal seat)) ∷ []

-- a seat's number is one that is counted
abbrev pub IsCounted : Member → Type 0
IsCounted (Cmd text) = ⊤
IsCounted (Reply text) = ⊤
IsCounted (Seat seat) = seat < 2 ^ 64

-- the members of an object with one more: the last of a key stays
abbrev pub with_member : Member → Members → Members
with_member (Cmd text) ms = put (codes "cmd") (string text.now) ms
with_member (Reply text) ms = put (codes "reply") (string text.now) ms
with_member (Seat seat) ms = put (codes "seat") (number (unsigned seat)) ms

abbrev pub if_seat : Option ℕ → Members
if_seat None = no_members
if_seat (Some seat) = member (codes "seat") (number (unsigned seat)) no_members

abbrev pub if_reply : Option (Bor (List ℕ)) → Members → Members
if_reply None ms = ms
if_reply (Some text) ms = member (codes "reply") (string text.now) ms

abbrev pub if_cmd : Option (Bor (List ℕ)) → Members → Members
if_cmd None ms = ms
if_cmd (Some text) ms = member (codes "cmd") (string text.now) ms

-- the members of an object that has these fields
abbrev pub members_of : Fields → Members
members_of f = if_cmd f.cmd (if_reply f.reply (if_seat f.seat))

-- a member is cut from the front of a text, behind these lexemes, and the object has it besides
pub record CutsMember (before : List Lexeme) (text rest : List ℕ) (found found' : Members) : Type 0 where
  pub next : Member
  pub cut : IsCut text rest (before ++ member_lexemes next)
  pub counted : IsCounted next
  pub made : found' ≡ with_member next found
