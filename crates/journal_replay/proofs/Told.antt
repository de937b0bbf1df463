-- A journal that was written tells its history.
use Rattle.std.specs.Prelude.{nat_lt, ◌==◌, ◌||◌, ◌&&◌}
use Rattle.std.specs.List.{All}
use Rattle.std.specs.Char.{digit_char}
use Rattle.std.specs.Str.{all_ascii_digits}
use Rattle.std.specs.Str.Parse.{AllDigits, digits_value}
use Rattle.std.proofs.Common.{◌≡◌, ℕ, ◌/◌, ◌%◌, ◌<◌, ◌≤◌, ◌^◌, ◌++◌, Bool, true, false, cond, List, [], ◌∷◌, length, map, Some, option_and_then, codes, decimal, refl, sym, ap, ◌∙◌, arith, append_assoc, length-append}
use Rattle.std.proofs.lemmas.Bool.{eqb-true}
use Rattle.std.proofs.lemmas.Bool.Decides.{nat_tests}
use Rattle.std.proofs.lemmas.List.Elements.{All-nil, All-cons, All-head, All-tail}
use Rattle.std.proofs.lemmas.Str.Parse.{IsNumeralModel, numerals_by_value, tells_all_ascii_digits, digit_from_value}
use Rattle.std.proofs.lemmas.Fmt.{digits_decimal, length-decimal-le}
use Rattle.json.specs.Print.{escape_letter, escape_byte, escape, quoted}
use Rattle.line_engine.specs.Lines.{Line, is_lf, NoLf, handed, last_line, lines_of}
use Rattle.line_engine.specs.declared.form.LineForm.TheVariants.{Whole}
use Rattle.line_engine.proofs.Cut.{ended_lines-first, unfinished_line-first, ended_lines-none, unfinished_line-none}
use Rattle.market_types.specs.declared.command.Cmd.{Cmd}
use Rattle.market_types.specs.declared.reply.Entry.{Entry}
use Rattle.market_types.specs.State.{State}
use Rattle.market_types.specs.Opening.{opening_with}
use Rattle.market_texts.specs.Texts.{cmd_text, reply_text}
use Rattle.market_types.specs.Commands.{Fits}
use Rattle.market_texts.specs.Reading.{reading}
use Rattle.edit_history.specs.Chronicled.{IsOpening, IsCallOf}
use Rattle.journal_replay.specs.Journal.{is_limited, fits_second, header_for, second_data, third_data, entry_data, second_line, third_line, header_line, fields_line, entry_line, entry_lines, journal_in}
use Rattle.journal_replay.specs.Reading.{json_of, from_one_to, opened_by, header_in, header_of, entry_in}
use Rattle.journal_replay.specs.Verdicts.{most_entries}
use Rattle.journal_replay.specs.Legality.{AreEntryLines, IsLegalJournal}
use Rattle.market_types.specs.History.{IsLegal}
use Rattle.journal_replay.specs.declared.header.Extent.{Extent}
use Rattle.journal_replay.specs.declared.header.Extent.TheVariants.{Limited, Endless}
use Rattle.journal_replay.specs.declared.header.Header.{Header}
use Rattle.journal_replay.specs.Written.{IsShort}
use Rattle.journal_replay.proofs.Back.{IsInRanges, header-back}
use Rattle.journal_replay.proofs.CutLines.{entry-back}
use Rattle.journal_replay.proofs.PlainWritten.{plain-cmd, plain-reply}

-- what an entry has to be to be read again
record IsTold (seats levels : ℕ) (e : Entry) : Type 0 where
  pub call : IsCallOf seats e
  pub read : json_of (entry_line levels e) ≡ Some (entry_data (cmd_text levels e.call.cmd) (reply_text e.reply) e.call.seat)
  pub short : IsShort levels e

abbrev AllOf : ℕ → ℕ → List Entry → Type 0
AllOf seats levels [] = Unit {0}
AllOf seats levels (e ∷ log) = IsTold seats levels e × AllOf seats levels log

-- ---- no line of a journal has an LF inside

-- as a test
lf_free : List ℕ → Bool
lf_free [] = true
lf_free (x ∷ xs) = cond (is_lf x) false (lf_free xs)

free-cons : (x : ℕ) (xs : List ℕ) → is_lf x ≡ false → lf_free xs ≡ true → lf_free (x ∷ xs) ≡ true
unfolding lf_free
free-cons x xs e h = rw e h

free-append_by : (b : Bool) (r t : Bool) → cond b false r ≡ true → (r ≡ true → t ≡ true) → cond b false t ≡ true
free-append_by true r t h more = h
free-append_by false r t h more = more h

free-append : (xs ys : List ℕ) → lf_free xs ≡ true → lf_free ys ≡ true → lf_free (xs ++ ys) ≡ true
unfolding lf_free
free-append [] ys h k = k
free-append (x ∷ xs) ys h k = free-append_by (is_lf x) (lf_free xs) (lf_free (xs ++ ys)) h (λ free. free-append xs ys free k)

no_lf-by : (b : Bool) (x : ℕ) (xs : List ℕ) → is_lf x ≡ b → cond b false (lf_free xs) ≡ true → (lf_free xs ≡ true → NoLf xs) → NoLf (x ∷ xs)
no_lf-by true x xs e h more = absurd (cc)
no_lf-by false x xs e h more = All-cons (λ b. is_lf b ≡ false) x xs e (more h)

no_lf : (xs : List ℕ) → lf_free xs ≡ true → NoLf xs
unfolding lf_free
no_lf [] h = All-nil (λ b. is_lf b ≡ false)
no_lf (x ∷ xs) h = no_lf-by (is_lf x) x xs refl h (no_lf xs)

-- what stands for a byte in a string
free-by : (b c : Bool) (l d e x : ℕ) → is_lf l ≡ false → is_lf d ≡ false → is_lf e ≡ false → (b ≡ false → is_lf x ≡ false)
    → lf_free (cond b (92 ∷ l ∷ []) (cond c (92 ∷ 117 ∷ 48 ∷ 48 ∷ d ∷ e ∷ []) (x ∷ []))) ≡ true
unfolding lf_free
free-by true c l d e x hl hd he hx = rw hl refl
free-by false true l d e x hl hd he hx = rw (hd, he) refl
free-by false false l d e x hl hd he hx = rw (hx refl) refl

letter-free : (x : ℕ) → is_lf (escape_letter x) ≡ false
letter-free x = grind (arith, nat_tests)

digit-free : (d : ℕ) → is_lf (digit_char d) ≡ false
digit-free d = grind (arith, nat_tests)

byte-free : (x : ℕ) → nat_lt 0 (escape_letter x) ≡ false → is_lf x ≡ false
byte-free x h = grind (arith, nat_tests)

free-escape_byte : (x : ℕ) → lf_free (escape_byte x) ≡ true
unfolding escape_byte
free-escape_byte x =
    free-by (nat_lt 0 (escape_letter x)) (nat_lt x 32) (escape_letter x) (digit_char (x / 16)) (digit_char (x % 16)) x (letter-free x) (digit-free (x / 16)) (digit-free (x % 16)) (byte-free x)

free-escape : (s : List ℕ) → lf_free (escape s) ≡ true
unfolding lf_free
free-escape [] = refl
free-escape (x ∷ s) = free-append (escape_byte x) (escape s) (free-escape_byte x) (free-escape s)

free-quoted : (s : List ℕ) → lf_free (quoted s) ≡ true
unfolding lf_free
free-quoted s = free-append (escape s) (34 ∷ []) (free-escape s) refl

own : IsNumeralModel (λ ds. all_ascii_digits ds ≡ true) (digits_value 10)
own = numerals_by_value _ tells_all_ascii_digits

digit-no_lf : (c : ℕ) → 48 ≤ c → is_lf c ≡ false
digit-no_lf c l = grind (arith, nat_tests)

free-digits : (ds : List ℕ) → AllDigits 10 ds → lf_free ds ≡ true
unfolding lf_free
free-digits [] h = refl
free-digits (c ∷ cs) h = free-cons c cs (digit-no_lf c (digit_from_value c h.0).0) (free-digits cs h.1)

free-decimal : (n : ℕ) → n < 2 ^ 64 → lf_free (decimal n) ≡ true
free-decimal n small = free-digits (decimal n) (own.to (decimal n) (digits_decimal own n small))

free-fields : (cmd reply : List ℕ) (seat : ℕ) → seat < 2 ^ 64 → lf_free (fields_line cmd reply seat) ≡ true
unfolding lf_free
free-fields cmd reply seat small =
    free-append (quoted cmd) (codes ",\"reply\":" ++ (quoted reply ++ (codes ",\"seat\":" ++ (decimal seat ++ codes "}")))) (free-quoted cmd) (
    free-append (quoted reply) (codes ",\"seat\":" ++ (decimal seat ++ codes "}")) (free-quoted reply) (
    free-append (decimal seat) (codes "}") (free-decimal seat small) refl
    ))

-- a number and what follows it
free-number : (n : ℕ) (rest : List ℕ) → n < 2 ^ 64 → lf_free rest ≡ true → lf_free (decimal n ++ rest) ≡ true
free-number n rest small free = free-append (decimal n) rest (free-decimal n small) free

free-second : (h : Header) → IsInRanges h → lf_free (second_line h) ≡ true
unfolding lf_free
free-second h r =
    free-number h.opening.base _ (omega (arith, r.base.1)) (free-number h.opening.hard _ (omega (arith, r.hard.1)) (free-number 2 _ (omega arith)
    (free-number h.opening.levels _ (omega (arith, r.levels.1)) (free-number h.opening.seats _ (omega (arith, r.seats.1)) refl))))

free-third : (h : Header) → IsInRanges h → lf_free (third_line h) ≡ true
unfolding lf_free
free-third h r =
    free-number h.opening.base _ (omega (arith, r.base.1)) (free-number h.opening.hard _ (omega (arith, r.hard.1)) (free-number 3 _ (omega arith) (free-number h.opening.last _ (omega (arith, r.last.1))
    (free-number h.opening.levels _ (omega (arith, r.levels.1)) (free-number h.opening.seats _ (omega (arith, r.seats.1)) refl)))))

-- ---- the lines of a journal

short-whole : (line : List ℕ) → length line ≤ 65536 → handed 65536 Whole line ≡ record { bytes = line; form = Whole }
short-whole line short = let few : nat_lt 65536 (length line) ≡ false = grind (arith, nat_tests) in rw few refl

lines-first : (line rest : List ℕ) → lf_free line ≡ true → length line ≤ 65536 → lines_of 65536 (line ++ 10 ∷ rest) ≡ record { bytes = line; form = Whole } ∷ lines_of 65536 rest
lines-first line rest free short =
    (λ i. map (handed 65536 Whole) (ended_lines-first line rest (no_lf line free) i) ++ last_line 65536 (unfinished_line-first line rest (no_lf line free) i))
    ∙ ap (λ (l : Line). l ∷ lines_of 65536 rest) (short-whole line short)

lines-none : lines_of 65536 [] ≡ []
lines-none = let free : NoLf [] = All-nil (λ b. is_lf b ≡ false) in λ i. map (handed 65536 Whole) (ended_lines-none [] free i) ++ last_line 65536 (unfinished_line-none [] free i)

entry_line_of : ℕ → Entry → Line
entry_line_of levels e = record { bytes = entry_line levels e; form = Whole }

lines-entries : (levels seats : ℕ) (log : List Entry) → seats < 2 ^ 64 → AllOf seats levels log → lines_of 65536 (entry_lines levels log) ≡ map (entry_line_of levels) log
unfolding entry_line_of
lines-entries levels seats [] few all = lines-none
lines-entries levels seats (e ∷ log) few all =
    let cut : entry_lines levels (e ∷ log) ≡ entry_line levels e ++ 10 ∷ entry_lines levels log = append_assoc (entry_line levels e) (10 ∷ []) (entry_lines levels log) in
    let seat : e.call.seat < 2 ^ 64 = omega (arith, all.0.call.0) in
    ap (lines_of 65536) cut
    ∙ lines-first (entry_line levels e) (entry_lines levels log) (free-fields (cmd_text levels e.call.cmd) (reply_text e.reply) e.call.seat seat) all.0.short
    ∙ ap (λ (ls : List Line). entry_line_of levels e ∷ ls) (lines-entries levels seats log few all.1)

-- ---- and how they read

from_one_to-within : (most n : ℕ) → 1 ≤ n → n ≤ most → from_one_to most n ≡ Some n
from_one_to-within most n low high = let out : (n == 0 || nat_lt most n) ≡ false = grind (arith, nat_tests) in rw out refl

second-opens : (h : Header) → IsInRanges h → header_of (second_data h) ≡ Some (opened_by (record h { opening = record h.opening { last = 1048576 }; extent = Limited }))
unfolding header_in
second-opens h r =
    rw (from_one_to-within 8 h.opening.levels r.levels.0 r.levels.1, from_one_to-within 65536 h.opening.base r.base.0 r.base.1, from_one_to-within 65535 h.opening.hard r.hard.0 r.hard.1, from_one_to-within 64 h.opening.seats r.seats.0 r.seats.1)
    refl

third-opens : (h : Header) → IsInRanges h → header_of (third_data h) ≡ Some (opened_by (record h { extent = Endless }))
unfolding header_in
third-opens h r =
    rw (
      from_one_to-within 8 h.opening.levels r.levels.0 r.levels.1,
      from_one_to-within 4294967294 h.opening.last r.last.0 r.last.1,
      from_one_to-within 65536 h.opening.base r.base.0 r.base.1,
      from_one_to-within 65535 h.opening.hard r.hard.0 r.hard.1,
      from_one_to-within 64 h.opening.seats r.seats.0 r.seats.1,
    )
    refl

-- the extent that is read of a header that was written
read_extent : Bool → Extent
read_extent true = Limited
read_extent false = Endless

usual-by : (extent : Extent) (last : ℕ) → (is_limited extent && (last == 1048576)) ≡ true → last ≡ 1048576
usual-by Limited last e = eqb-true last 1048576 e
usual-by Endless last e = absurd (cc)

limited-by : (extent : Extent) (last : ℕ) → (is_limited extent && (last == 1048576)) ≡ true → extent ≡ Limited
limited-by Limited last e = refl
limited-by Endless last e = absurd (cc)

-- what a header that was written opens
header-opens : (b : Bool) (h : Header) → fits_second h ≡ b → IsInRanges h
    → header_of (cond b (second_data h) (third_data h)) ≡ Some (record { market = opening_with h.opening; extent = read_extent b })
unfolding read_extent
header-opens true h e r = second-opens h r ∙ ap (λ n. Some (opened_by (record h { opening = record h.opening { last = n }; extent = Limited }))) (sym (usual-by h.extent h.opening.last e))
header-opens false h e r = third-opens h r

-- and if that is limited, so was the header
limit-kept : (b : Bool) (h : Header) → fits_second h ≡ b → read_extent b ≡ Limited → h.extent ≡ Limited
unfolding read_extent
limit-kept true h e same = limited-by h.extent h.opening.last e
limit-kept false h e same = absurd (cc)

pub entry-reads : (levels seats : ℕ) (e : Entry) → e.call.seat < seats → reading levels (cmd_text levels e.call.cmd) ≡ Some e.call.cmd
    → entry_in seats levels (entry_data (cmd_text levels e.call.cmd) (reply_text e.reply) e.call.seat) ≡ Some (record { seat = e.call.seat; cmd = e.call.cmd; reply = reply_text e.reply })
unfolding entry_in
entry-reads levels seats e small back = let seated : nat_lt e.call.seat seats ≡ true = grind (arith, nat_tests) in rw (back, seated) refl

lines-read : (levels seats : ℕ) (log : List Entry) → ((cmd : Cmd) → Fits cmd → reading levels (cmd_text levels cmd) ≡ Some cmd) → AllOf seats levels log → AreEntryLines seats levels (map (entry_line_of levels) log) log
unfolding entry_line_of
lines-read levels seats [] spells all = tt
lines-read levels seats (e ∷ log) spells all = (
  ap (option_and_then (entry_in seats levels)) all.0.read ∙ entry-reads levels seats e all.0.call.0 (spells e.call.cmd all.0.call.1),
  lines-read levels seats log spells all.1,
)

all-of : (seats levels : ℕ) (log : List Entry) → seats ≤ 64 → All (IsCallOf seats) log → All (IsShort levels) log → AllOf seats levels log
all-of seats levels [] few calls shorts = tt
all-of seats levels (e ∷ log) few calls shorts =
    let call : IsCallOf seats e = All-head (IsCallOf seats) e log calls in
    let seat : e.call.seat < 2 ^ 64 = omega (arith, call.0) in
    let back = entry-back (cmd_text levels e.call.cmd) (reply_text e.reply) e.call.seat seat (plain-cmd levels e.call.cmd) (plain-reply e.reply) in
    (record { call = call; read = back; short = All-head (IsShort levels) e log shorts }, all-of seats levels log few (All-tail (IsCallOf seats) e log calls) (All-tail (IsShort levels) e log shorts))

second-short : (h : Header) → IsInRanges h → length (second_line h) ≤ 65536
second-short h r =
    let p = length-decimal-le 5 h.opening.base (omega arith) (omega (arith, r.base.1)) (omega (arith, r.base.1)) in
    let q = length-decimal-le 5 h.opening.hard (omega arith) (omega (arith, r.hard.1)) (omega (arith, r.hard.1)) in
    let s = length-decimal-le 5 h.opening.levels (omega arith) (omega (arith, r.levels.1)) (omega (arith, r.levels.1)) in
    let t = length-decimal-le 5 h.opening.seats (omega arith) (omega (arith, r.seats.1)) (omega (arith, r.seats.1)) in
    let u = length-decimal-le 5 2 (omega arith) (omega arith) (omega arith) in
    simp length-append (omega arith)

third-short : (h : Header) → IsInRanges h → length (third_line h) ≤ 65536
third-short h r =
    let p = length-decimal-le 5 h.opening.base (omega arith) (omega (arith, r.base.1)) (omega (arith, r.base.1)) in
    let q = length-decimal-le 5 h.opening.hard (omega arith) (omega (arith, r.hard.1)) (omega (arith, r.hard.1)) in
    let s = length-decimal-le 5 h.opening.levels (omega arith) (omega (arith, r.levels.1)) (omega (arith, r.levels.1)) in
    let t = length-decimal-le 5 h.opening.seats (omega arith) (omega (arith, r.seats.1)) (omega (arith, r.seats.1)) in
    let u = length-decimal-le 5 3 (omega arith) (omega arith) (omega arith) in
    let v = length-decimal-le 10 h.opening.last (omega arith) (omega (arith, r.last.1)) (omega (arith, r.last.1)) in
    simp length-append (omega arith)

-- what holds of both lines holds of the one that is written
either-line : (P : List ℕ → Type 0) (b : Bool) (xs ys : List ℕ) → P xs → P ys → P (cond b xs ys)
either-line P true xs ys p q = p
either-line P false xs ys p q = q

-- the journal of a legal history tells it
pub journal-told : (start : State) (extent : Extent) (log : List Entry) → IsOpening start → IsLegal start log → All (IsCallOf (length start.seats)) log → All (IsShort start.levels) log
    → ((cmd : Cmd) → Fits cmd → reading start.levels (cmd_text start.levels cmd) ≡ Some cmd) → (extent ≡ Limited → length log ≤ most_entries) → IsLegalJournal (journal_in extent start log) (length log)
journal-told start extent log opened legal calls shorts spells few =
    let seats : ℕ = length start.seats in
    let h : Header = header_for extent start in
    let line : List ℕ = header_line h in
    let all = all-of seats start.levels log opened.seats.1 calls shorts in
    let r : IsInRanges h = record { base = opened.base; hard = opened.hard; seats = opened.seats; levels = opened.levels; last = opened.last } in
    let free = either-line (λ xs. lf_free xs ≡ true) (fits_second h) (second_line h) (third_line h) (free-second h r) (free-third h r) in
    let short = either-line (λ xs. length xs ≤ 65536) (fits_second h) (second_line h) (third_line h) (second-short h r) (third-short h r) in
    let told : Extent = read_extent (fits_second h) in
    record {
      start = start;
      extent = told;
      history = log;
      reads = record {
        header = record { bytes = line; form = Whole };
        lines = map (entry_line_of start.levels) log;
        are = lines-first line (entry_lines start.levels log) free short ∙ ap (λ (ls : List Line). record { bytes = line; form = Whole } ∷ ls) (lines-entries start.levels seats log (omega (arith, opened.seats.1)) all);
        opens = ap (option_and_then header_of) (header-back h r) ∙ header-opens (fits_second h) h refl r ∙ ap (λ (s : State). Some (record { market = s; extent = told })) (sym opened.same);
        entries = lines-read start.levels seats log spells all;
      };
      legal = legal;
      count = refl;
      few = λ limited. few (limit-kept (fits_second h) h refl limited);
    }
