-- A value is read exactly from what spells it.
use Rattle.std.proofs.Common.{◌≡◌, ℕ, ◌<◌, ◌^◌, ◌++◌, Bool, true, false, ltb, cond, List, [], ◌∷◌, Option, Some, None, option_and_then, option_map, sym, ap, ◌∙◌, refl, subst, codes, decimal, arith}
use Rattle.std.specs.List.{Contains, slice_split, join_with_byte}
use Rattle.std.proofs.lemmas.Bool.{lt-ltb, ltb-true}
use Rattle.std.proofs.lemmas.Option.{option_and_then_some, same_Some, cond_some, some_pair_parts}
use Rattle.std.proofs.lemmas.List.Elements.{All-contains, All-map, All-weaker, Contains-append_left}
use Rattle.std.proofs.lemmas.List.Splits.{join_with_byte-slice_split}
use Rattle.market_types.specs.declared.command.Cmd.{Cmd}
use Rattle.market_types.specs.declared.command.Cmd.TheVariants.{Open, Close, Priority, Resize, Request, Control as ControlBy, Uncontrol, Join, Stay, Leave, Show, Lists, Limit}
use Rattle.market_texts.specs.Texts.{cmd_text, level_text, level_name, has_name}
use Rattle.market_types.specs.Commands.{Fits}
use Rattle.market_texts.specs.Reading.{is_space, command_of, reading, in_seats, call_of, number, line_reading, spellings, level_spellings, line_spellings}
use Rattle.market_texts.proofs.Decimals.{number-decimal, number_only, split-decimal_more}
use Rattle.market_texts.proofs.Levels.{contains_first}
use Rattle.market_texts.proofs.Read.{Reads, spellings-read}
use Rattle.market_texts.proofs.Spelled.{spaced, joined, fields_spelled, text_spelled, map_contains}

-- ---- texts

spelled_reads : (levels : ℕ) (cmd : Cmd) (text : List ℕ) → Fits cmd → Contains (spellings levels cmd) text → Reads levels cmd text
spelled_reads levels cmd text h c = All-contains (Reads levels cmd) (spellings levels cmd) text (spellings-read levels cmd h) c

pub spelled_is_read : (levels : ℕ) (cmd : Cmd) (text : List ℕ) → Fits cmd → Contains (spellings levels cmd) text → reading levels text ≡ Some cmd
unfolding reading
spelled_is_read levels cmd text h c = spelled_reads levels cmd text h c

pub read_is_spelled : (levels : ℕ) (cmd : Cmd) (text : List ℕ) → reading levels text ≡ Some cmd → Fits cmd × Contains (spellings levels cmd) text
unfolding reading
read_is_spelled levels cmd text read = text_spelled levels text cmd read

pub one_command : (levels : ℕ) (a b : Cmd) (text : List ℕ) → Fits a → Fits b → Contains (spellings levels a) text → Contains (spellings levels b) text → a ≡ b
one_command levels a b text h k c d = same_Some a b (sym (spelled_reads levels a text h c) ∙ spelled_reads levels b text k d)

-- ---- the canonical text is a spelling

level_first : (b : Bool) (name num : List ℕ) → Contains (cond b (name ∷ num ∷ []) (num ∷ [])) (cond b name num)
level_first true name num = contains_first name (num ∷ [])
level_first false name num = contains_first num []

canonical_level : (levels l : ℕ) → Contains (level_spellings levels l) (level_text levels l)
canonical_level levels l = level_first (has_name levels l) (level_name l) (decimal l)

canonical : (levels : ℕ) (cmd : Cmd) → Contains (spellings levels cmd) (cmd_text levels cmd)
canonical levels (Open slots reserved l) = Contains-append_left _ _ _ (map_contains (λ text. codes "open " ++ (decimal slots ++ (codes " " ++ (decimal reserved ++ (codes " " ++ text))))) (level_spellings levels l) (level_text levels l) (canonical_level levels l))
canonical levels (Close n) = contains_first _ []
canonical levels (Priority arena l) = map_contains (λ text. codes "priority " ++ (decimal arena ++ (codes " " ++ text))) (level_spellings levels l) (level_text levels l) (canonical_level levels l)
canonical levels (Resize arena slots reserved) = contains_first _ []
canonical levels (Request arena workers mandatory) = contains_first _ _
canonical levels (ControlBy n) = contains_first _ []
canonical levels (Uncontrol n) = contains_first _ []
canonical levels Join = contains_first _ []
canonical levels Stay = contains_first _ []
canonical levels Leave = contains_first _ []
canonical levels (Show n) = contains_first _ []
canonical levels Lists = contains_first _ []
canonical levels Limit = contains_first _ []

pub reads_back : (levels : ℕ) (cmd : Cmd) → Fits cmd → reading levels (cmd_text levels cmd) ≡ Some cmd
reads_back levels cmd h = spelled_is_read levels cmd (cmd_text levels cmd) h (canonical levels cmd)

-- ---- lines

line_reads : (seats levels seat : ℕ) (cmd : Cmd) (text : List ℕ) → seats < 256 → seat < seats → Reads levels cmd text → line_reading seats levels (decimal seat ++ (codes " " ++ text)) ≡ Some (seat, cmd)
unfolding line_reading
line_reads seats levels seat cmd text h k read =
    let small : seat < 2 ^ 32 = omega arith in
    rw (split-decimal_more seat text small, number-decimal seat small, lt-ltb seat seats k, read) refl

pub line_spelled_is_read : (seats levels seat : ℕ) (cmd : Cmd) (line : List ℕ) → seats < 256 → seat < seats → Fits cmd → Contains (line_spellings levels seat cmd) line → line_reading seats levels line ≡ Some (seat, cmd)
line_spelled_is_read seats levels seat cmd line h k fits c =
    All-contains (λ line. line_reading seats levels line ≡ Some (seat, cmd)) (line_spellings levels seat cmd) line
    (All-map (λ line. line_reading seats levels line ≡ Some (seat, cmd)) (λ text. decimal seat ++ (codes " " ++ text)) (spellings levels cmd)
    (All-weaker (Reads levels cmd) _ (λ text read. line_reads seats levels seat cmd text h k read) (spellings levels cmd) (spellings-read levels cmd fits))) c

abbrev LineSpelled : ℕ → ℕ → ℕ → Cmd → List ℕ → Type 0
LineSpelled seats levels seat cmd line = (seat < seats) × Fits cmd × Contains (line_spellings levels seat cmd) line

call_spelled : (seats levels seat : ℕ) (cmd : Cmd) (word : List ℕ) (more : List (List ℕ)) → number word ≡ Some seat → seat < seats → command_of levels more ≡ Some cmd → LineSpelled seats levels seat cmd (word ++ spaced more)
unfolding command_of
call_spelled seats levels seat cmd word [] e k read = absurd (cc)
call_spelled seats levels seat cmd word (w ∷ more) e k read =
    let t = fields_spelled levels w more cmd read in
    subst (λ d. LineSpelled seats levels seat cmd (d ++ spaced (w ∷ more))) (sym (number_only word seat e).0) (
      k,
      t.0,
      subst (λ d. Contains (line_spellings levels seat cmd) (decimal seat ++ (codes " " ++ d))) (sym (joined w more))
          (map_contains (λ text. decimal seat ++ (codes " " ++ text)) (spellings levels cmd) (w ++ spaced more) t.1),
    )

in_seats_only : (seats n seat : ℕ) → in_seats seats n ≡ Some seat → (n ≡ seat) × (n < seats)
in_seats_only seats n seat h = let c = cond_some (ltb n seats) n seat h in (c.1, ltb-true n seats c.0)

mapped : (o : Option Cmd) (n seat : ℕ) (cmd : Cmd) → ◌≡◌ {A = Option (ℕ × Cmd)} (option_map (λ (c : Cmd). (n, c)) o) (Some (seat, cmd)) → (n ≡ seat) × (o ≡ Some cmd)
mapped None n seat cmd h = absurd (cc)
mapped (Some c) n seat cmd h = let p = some_pair_parts n seat c cmd h in (p.0, ap Some p.1)

by_fields : (seats levels seat : ℕ) (cmd : Cmd) (line : List ℕ) (fields : List (List ℕ)) → line ≡ join_with_byte 32 fields → call_of seats levels fields ≡ Some (seat, cmd) → LineSpelled seats levels seat cmd line
by_fields seats levels seat cmd line [] e read = absurd (cc)
by_fields seats levels seat cmd line (word ∷ more) e read =
    option_and_then_some (λ (n : ℕ). option_map (λ (c : Cmd). (n, c)) (command_of levels more)) (option_and_then (in_seats seats) (number word)) (seat, cmd) read (λ n f g.
    option_and_then_some (in_seats seats) (number word) n f (λ m u v.
    let s = in_seats_only seats m n v in
    let p = mapped (command_of levels more) n seat cmd g in
    let q : m ≡ seat = s.0 ∙ p.0 in
    subst (λ l. LineSpelled seats levels seat cmd l) (sym (e ∙ joined word more))
    (call_spelled seats levels seat cmd word more (u ∙ ap Some q) (subst (λ n. n < seats) q s.1) p.1)))

pub line_read_is_spelled : (seats levels seat : ℕ) (cmd : Cmd) (line : List ℕ) → line_reading seats levels line ≡ Some (seat, cmd) → (seat < seats) × Fits cmd × Contains (line_spellings levels seat cmd) line
unfolding line_reading
line_read_is_spelled seats levels seat cmd line read = by_fields seats levels seat cmd line (slice_split is_space line) (sym (join_with_byte-slice_split 32 line)) read
