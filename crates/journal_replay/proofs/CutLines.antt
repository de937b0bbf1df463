-- What is cut from the front of a line is what the lexer of JSON finds there.
use Rattle.std.specs.Prelude.{IfSome, IsUtf8, nat_lt}
use Rattle.std.proofs.Common.{◌≡◌, ◌<◌, ◌^◌, ℕ, Bool, true, false, cond, List, [], ◌∷◌, ◌++◌, length, take, drop, codes, decimal, Bor, Option, Some, None, refl, sym, ap, ◌∙◌, subst, arith, append_assoc, length-append}
use Rattle.std.proofs.lemmas.List.{take-append-drop}
use Rattle.std.proofs.lemmas.Bool.{false≢true}
use Rattle.std.proofs.lemmas.Bool.Decides.{nat_tests}
use Rattle.std.proofs.lemmas.Str.{IsUtf8-append, IsUtf8-nil}
use Rattle.json.specs.Token.{Token, begin_object, end_object, string, number}
use Rattle.json.specs.Word.{ends_word, is_operator}
use Rattle.json.specs.Lex.{Lexeme, token, comma, colon, Place, fresh, after_value, after_comma, after_key, begins_colon, may_begin, quote, backslash, operator, space, other, class, operator_lexeme, between, lex, lex_byte, punctuate, tokens}
use Rattle.json.proofs.Printed.Numbers.{lex-number}
use Rattle.json.proofs.Printed.Decimals.{IsNumber-decimal}
use Rattle.json.proofs.Printed.Utf8.{are_ascii, IsUtf8-are_ascii}
use Rattle.serde_json.specs.Data.{Members, no_members, object}
use Rattle.serde_json.proofs.OnLiterals.{serde_json_on_literals}
use Rattle.journal_replay.specs.declared.fields.Member.{Member}
use Rattle.journal_replay.specs.declared.fields.Member.TheVariants.{Cmd, Reply, Seat}
use Rattle.journal_replay.specs.Cuts.{IsCut}
use Rattle.journal_replay.specs.Members.{CutsMember, member_lexemes, member_tokens, with_member}
use Rattle.journal_replay.specs.Journal.{entry_data, fields_line}
use Rattle.journal_replay.specs.Plain.{are_plain}
use Rattle.journal_replay.specs.Reading.{json_of}
use Rattle.journal_replay.proofs.Inside.{cut-string, inside-plain}
use Rattle.journal_replay.proofs.Json.{json-read}
use Rattle.journal_replay.proofs.PlainTexts.{ascii-plain, fields-plain}
use Rattle.journal_replay.proofs.PlainWritten.{plain-decimal}
use Rattle.journal_replay.proofs.ReadMembers.{Goes, goes-first, goes-last, goes-more}
use Rattle.market_texts.specs.Reading.{number as number_of}
use Rattle.market_texts.proofs.Decimals.{number_only}

-- ---- cuts

-- nothing is cut
pub cut-nothing : (text : List ℕ) → IsCut text text []
cut-nothing text = record { lexed = refl; utf8 = λ u. u; within = omega arith }

-- bytes of ASCII are cut
cut-front : (front rest : List ℕ) (found : List Lexeme) → are_ascii front ≡ true → lex between (front ++ rest) ≡ found ++ lex between rest → IsCut (front ++ rest) rest found
cut-front front rest found ascii lexed = record {
  lexed = lexed;
  utf8 = λ u. IsUtf8-append front rest (IsUtf8-are_ascii front ascii) u;
  within = omega (arith, length-append front rest);
}

-- one cut behind the other
pub cut-then : (text mid rest : List ℕ) (front back : List Lexeme) → IsCut text mid front → IsCut mid rest back → IsCut text rest (front ++ back)
cut-then text mid rest front back p q = record {
  lexed = p.lexed ∙ ap (λ ls. front ++ ls) q.lexed ∙ sym (append_assoc front back (lex between rest));
  utf8 = λ u. p.utf8 (q.utf8 u);
  within = omega (arith, p.within, q.within);
}

-- the same text
pub cut-same : (text same rest : List ℕ) (found : List Lexeme) → text ≡ same → IsCut same rest found → IsCut text rest found
cut-same text same rest found is p = subst (λ t. IsCut t rest found) (sym is) p

-- ---- what is cut

-- white space is passed over
pub cut-space : (x : ℕ) (rest : List ℕ) → class x ≡ space → x < 128 → IsCut (x ∷ rest) rest []
unfolding lex
cut-space x rest is small =
    let ascii : nat_lt x 128 ≡ true = grind (arith, nat_tests) in
    cut-front (x ∷ []) rest [] (rw ascii refl) (ap (λ c. lex_byte between c x rest (λ next. lex next rest)) is)

-- so are eight spaces
pub cut-eight : (rest : List ℕ) → IsCut (codes "        " ++ rest) rest []
unfolding lex
cut-eight rest = cut-front (codes "        ") rest [] refl refl

operator-by : (q b o s : Bool) → cond q quote (cond b backslash (cond o operator (cond s space other))) ≡ operator → o ≡ true
operator-by true b o s h = absurd (cc)
operator-by false true o s h = absurd (cc)
operator-by false false true s h = refl
operator-by false false false true h = absurd (cc)
operator-by false false false false h = absurd (cc)

operator-ascii : (x : ℕ) → is_operator x ≡ true → nat_lt x 128 ≡ true
operator-ascii x h = grind (arith, nat_tests)

-- an operator is a lexeme of its own
pub cut-operator : (x : ℕ) (rest : List ℕ) → class x ≡ operator → IsCut (x ∷ rest) rest (operator_lexeme x ∷ [])
unfolding lex
cut-operator x rest is =
    cut-front (x ∷ []) rest (operator_lexeme x ∷ []) (rw (operator-ascii x (operator-by _ _ _ _ is)) refl) (ap (λ c. lex_byte between c x rest (λ next. lex next rest)) is)

-- a plain text in quotes is a string
pub cut-text : (text rest : List ℕ) → are_plain text ≡ true → IsCut (34 ∷ (text ++ 34 ∷ rest)) rest (token (string text) ∷ [])
cut-text text rest is = cut-string (text ++ 34 ∷ rest) rest text (inside-plain text (34 ∷ rest) is)

-- a number before what ends it
cut-decimal : (n : ℕ) (rest : List ℕ) → n < 2 ^ 64 → ends_word rest ≡ true → IsCut (decimal n ++ rest) rest (token (number (decimal n)) ∷ [])
cut-decimal n rest fits ends = cut-front (decimal n) rest (token (number (decimal n)) ∷ []) (ascii-plain (decimal n) (plain-decimal n)) (lex-number (decimal n) rest (IsNumber-decimal n fits) ends)

pub cut-digits : (text digits rest : List ℕ) (count n : ℕ) → digits ≡ take count text → rest ≡ drop count text → Some n ≡ number_of digits → ends_word rest ≡ true → IsCut text rest (token (number (decimal n)) ∷ [])
cut-digits text digits rest count n front back reads ends =
    let read = number_only digits n (sym reads) in
    let cut : text ≡ decimal n ++ rest = rw (sym read.0, front, back) (sym (take-append-drop count text)) in
    cut-same text (decimal n ++ rest) rest (token (number (decimal n)) ∷ []) cut (cut-decimal n rest (omega (arith, read.1)) ends)

-- a member: its key, a colon and its value, which may stand behind white space
pub cut-member : (name text mid after rest : List ℕ) (value : Token) → are_plain name ≡ true → text ≡ 34 ∷ (name ++ 34 ∷ mid) → IsCut mid after (colon ∷ []) → IsCut after rest (token value ∷ [])
    → IsCut text rest (token (string name) ∷ colon ∷ token value ∷ [])
cut-member name text mid after rest value clean is colons valued =
    cut-same text (34 ∷ (name ++ 34 ∷ mid)) rest (token (string name) ∷ colon ∷ token value ∷ []) is
    (cut-then (34 ∷ (name ++ 34 ∷ mid)) mid rest (token (string name) ∷ []) (colon ∷ token value ∷ []) (cut-text name mid clean)
    (cut-then mid after rest (colon ∷ []) (token value ∷ []) colons valued))

-- a member and the brace or the comma before it
pub cut-placed : (byte : ℕ) (name text mid after rest : List ℕ) (value : Token) → class byte ≡ operator → are_plain name ≡ true → text ≡ byte ∷ 34 ∷ (name ++ 34 ∷ mid) → IsCut mid after (colon ∷ []) → IsCut after rest (token value ∷ [])
    → IsCut text rest (operator_lexeme byte ∷ token (string name) ∷ colon ∷ token value ∷ [])
cut-placed byte name text mid after rest value kind clean is colons valued =
    let more : List Lexeme = token (string name) ∷ colon ∷ token value ∷ [] in
    cut-same text (byte ∷ 34 ∷ (name ++ 34 ∷ mid)) rest (operator_lexeme byte ∷ more) is
    (cut-then (byte ∷ 34 ∷ (name ++ 34 ∷ mid)) (34 ∷ (name ++ 34 ∷ mid)) rest (operator_lexeme byte ∷ []) more (cut-operator byte (34 ∷ (name ++ 34 ∷ mid)) kind)
    (cut-member name (34 ∷ (name ++ 34 ∷ mid)) mid after rest value clean refl colons valued))

-- the same of a member that may be cut behind it
pub cuts-behind : (byte : ℕ) (text mid : List ℕ) (rest : Option (Bor (List ℕ))) (found found' : Members) → IsCut text mid (operator_lexeme byte ∷ []) → IfSome rest (λ r. CutsMember [] mid r.now found found')
    → IfSome rest (λ r. CutsMember (operator_lexeme byte ∷ []) text r.now found found')
cuts-behind byte text mid None found found' p q = q
cuts-behind byte text mid (Some rest) found found' p q =
    record { next = q.next; cut = cut-then text mid rest.now (operator_lexeme byte ∷ []) (member_lexemes q.next) p q.cut; counted = q.counted; made = q.made }

-- ---- the members of a line

-- a member where one may begin
member-placed : (p : Place) (m : Member) (ls : List Lexeme) → may_begin p ≡ true → begins_colon ls ≡ false → punctuate p (member_lexemes m ++ ls) ≡ member_tokens m ++ punctuate after_value ls
unfolding punctuate
member-placed fresh (Cmd text) ls may colonless = rw colonless refl
member-placed fresh (Reply text) ls may colonless = rw colonless refl
member-placed fresh (Seat seat) ls may colonless = refl
member-placed after_comma (Cmd text) ls may colonless = rw colonless refl
member-placed after_comma (Reply text) ls may colonless = rw colonless refl
member-placed after_comma (Seat seat) ls may colonless = refl
member-placed after_value m ls may colonless = absurd (false≢true may)
member-placed after_key m ls may colonless = absurd (false≢true may)

-- so much of a line was cut into members that make this object
pub record IsCutTo (line rest : List ℕ) (found : Members) : Type 0 where
  pub utf8 : IsUtf8 rest → IsUtf8 line
  pub goes : begins_colon (lex between rest) ≡ false → Goes (tokens line) (punctuate after_value (lex between rest)) found

pub cut-opens : (line rest : List ℕ) (first found : Members) → CutsMember (token begin_object ∷ []) line rest first found → first ≡ no_members → IsCutTo line rest found
unfolding punctuate
cut-opens line rest first found p none = record {
  utf8 = p.cut.utf8;
  goes = λ colonless. goes-more p.next (tokens line) (punctuate fresh (member_lexemes p.next ++ lex between rest)) (punctuate after_value (lex between rest)) first found
      (goes-first (tokens line) (punctuate fresh (member_lexemes p.next ++ lex between rest)) first (ap (punctuate fresh) p.cut.lexed) none)
      (member-placed fresh p.next (lex between rest) refl colonless) p.counted p.made;
}

pub cut-more : (line rest more : List ℕ) (found found' : Members) → IsCutTo line rest found → CutsMember (comma ∷ []) rest more found found' → IsCutTo line more found'
unfolding punctuate
cut-more line rest more found found' so p = record {
  utf8 = λ u. so.utf8 (p.cut.utf8 u);
  goes = λ colonless. goes-more p.next (tokens line) (punctuate after_value (lex between rest)) (punctuate after_value (lex between more)) found found' (so.goes (ap begins_colon p.cut.lexed))
      (ap (punctuate after_value) p.cut.lexed ∙ member-placed after_comma p.next (lex between more) refl colonless) p.counted p.made;
}

pub cut-then-more : (line rest next more : List ℕ) (found found' : Members) → IsCutTo line rest found → IsCut rest next (comma ∷ []) → CutsMember [] next more found found' → IsCutTo line more found'
cut-then-more line rest next more found found' so p q =
    cut-more line rest more found found' so (record { next = q.next; cut = cut-then rest next more (comma ∷ []) (member_lexemes q.next) p q.cut; counted = q.counted; made = q.made })

pub cut-closes : (line rest end last : List ℕ) (found : Members) → IsCutTo line rest found → IsCut rest end (token end_object ∷ []) → IsCut end last [] → length last ≡ 0 → json_of line ≡ Some (object found)
unfolding lex punctuate
cut-closes line rest end [] found so p q none =
    let ended : lex between rest ≡ token end_object ∷ [] = p.lexed ∙ ap (λ ls. token end_object ∷ ls) q.lexed in
    json-read line (so.utf8 (p.utf8 (q.utf8 IsUtf8-nil)))
    ∙ goes-last (tokens line) (punctuate after_value (lex between rest)) found (so.goes (ap begins_colon ended)) (ap (punctuate after_value) ended)
cut-closes line rest end (x ∷ last) found so p q none = absurd (omega arith)

-- ---- a line as it is written

-- a text that a member lends
abbrev lent : List ℕ → Bor (List ℕ)
lent text = record { ref_ptr = (0, 0); now = text }

-- it reads as the entry's object
pub entry-back : (cmd reply : List ℕ) (seat : ℕ) → seat < 2 ^ 64 → are_plain cmd ≡ true → are_plain reply ≡ true → json_of (fields_line cmd reply seat) ≡ Some (entry_data cmd reply seat)
unfolding serde_json_on_literals
entry-back cmd reply seat small c r =
    let last : List ℕ = decimal seat ++ codes "}" in
    let third : List ℕ = codes ",\"seat\":" ++ last in
    let replied : List ℕ = 34 ∷ (reply ++ 34 ∷ third) in
    let second : List ℕ = codes ",\"reply\":" ++ replied in
    let commanded : List ℕ = 34 ∷ (cmd ++ 34 ∷ second) in
    let line : List ℕ = codes "{\"cmd\":" ++ commanded in
    let with_cmd : Members = with_member (Cmd (lent cmd)) no_members in
    let with_reply : Members = with_member (Reply (lent reply)) with_cmd in
    let with_seat : Members = with_member (Seat seat) with_reply in
    let one : IsCutTo line second with_cmd = cut-opens line second no_members with_cmd (record {
      next = Cmd (lent cmd);
      cut = cut-placed 123 (codes "cmd") line (58 ∷ commanded) commanded second (string cmd) refl refl refl (cut-operator 58 commanded refl) (cut-text cmd second c);
      counted = tt;
      made = refl;
    }) refl in
    let two : IsCutTo line third with_reply = cut-more line second third with_cmd with_reply one (record {
      next = Reply (lent reply);
      cut = cut-placed 44 (codes "reply") second (58 ∷ replied) replied third (string reply) refl refl refl (cut-operator 58 replied refl) (cut-text reply third r);
      counted = tt;
      made = refl;
    }) in
    let three : IsCutTo line (codes "}") with_seat = cut-more line third (codes "}") with_reply with_seat two (record {
      next = Seat seat;
      cut = cut-placed 44 (codes "seat") third (58 ∷ last) last (codes "}") (number (decimal seat)) refl refl refl (cut-operator 58 last refl) (cut-decimal seat (codes "}") small refl);
      counted = small;
      made = refl;
    }) in
    ap json_of (fields-plain cmd reply seat c r) ∙ cut-closes line (codes "}") [] [] with_seat three (cut-operator 125 [] refl) (cut-nothing []) refl
