-- A script's lines, as they are recorded, and the history of the script.
use Rattle.std.proofs.Common.{◌≡◌, ℕ, ◌+◌, ◌≤◌, ◌++◌, Bool, true, false, cond, nat_lt, List, [], ◌∷◌, length, take, map, Option, None, Some, Result, Ok, Err, OnOk, refl, sym, ap, ◌∙◌, arith, append_assoc, append-nil}
use Rattle.std.specs.List.{slice_split}
use Rattle.std.proofs.lemmas.Bool.Decides.{nat_tests}
use Rattle.market_types.specs.declared.command.Cmd.{Cmd}
use Rattle.market_types.specs.declared.reply.Entry.{Entry}
use Rattle.market_types.specs.State.{State}
use Rattle.market_types.specs.Step.{step}
use Rattle.market_types.specs.History.{calls_of, state_after}
use Rattle.market_texts.specs.Reading.{line_reading}
use Rattle.market_texts.specs.Script.{is_lf, is_silent, without_last_empty, script_lines, Told, answer_of, answer_to, told_lines, told}
use Rattle.line_engine.specs.declared.form.LineForm.{LineForm}
use Rattle.line_engine.specs.declared.form.LineForm.TheVariants.{Whole, WithoutLf, TooLong}
use Rattle.line_engine.specs.Lines.{Line, ended_lines, unfinished_line, handed, last_line, lines_of}
use Rattle.line_engine.specs.Rule.{after}
use Rattle.edit_history.specs.Chronicled.{Chronicled, market_of}
use Rattle.market_prog.specs.Sessions.{answer_by, script_rule, is_too_long}
use Rattle.market_prog.specs.Recorded.{entries_to, entries_of, entries_of_lines, history_of}
use Rattle.market_prog.specs.Recording.{lengthened, entries_by, recording_rule}
use Rattle.market_prog.proofs.Told.{answer-handed, lines-cut}
use Rattle.market_prog.proofs.Answered.{silent-state}

-- ---- one line

entries_of-silent : (s : State) (line : List ℕ) → is_silent line ≡ true → entries_of s line ≡ []
unfolding entries_of
entries_of-silent s line e = rw e refl

pub entries-silent : (form : LineForm) (s : State) (line : List ℕ) → is_silent line ≡ true → entries_by form s line ≡ []
entries-silent Whole s line e = entries_of-silent s line e
entries-silent WithoutLf s line e = entries_of-silent s line e
entries-silent TooLong s line e = refl

entries_of-heard : (s : State) (line : List ℕ) → is_silent line ≡ false → length line ≤ 256 → entries_of s line ≡ entries_to s (line_reading (length s.seats) s.levels line)
unfolding entries_of
entries_of-heard s line e h = let short : nat_lt 256 (length line) ≡ false = grind (arith, nat_tests) in rw (e, short) refl

pub entries-heard : (form : LineForm) (s : State) (line : List ℕ) (call : Option (ℕ × Cmd)) → is_silent line ≡ false → length line ≤ 256
    → call ≡ cond (is_too_long form) None (line_reading (length s.seats) s.levels line) → entries_to s call ≡ entries_by form s line
entries-heard Whole s line call e h is = ap (entries_to s) is ∙ sym (entries_of-heard s line e h)
entries-heard WithoutLf s line call e h is = ap (entries_to s) is ∙ sym (entries_of-heard s line e h)
entries-heard TooLong s line call e h is = ap (entries_to s) is

-- what a line as it is handed on is recorded as
abbrev entries_handed : State → Line → List Entry
entries_handed s line = entries_by line.form s line.bytes

silent-or-long : (b c : Bool) (s : State) (line : List ℕ) (long : nat_lt 256 (length line) ≡ true) → is_silent line ≡ b → [] ≡ entries_of s line
unfolding entries_of
silent-or-long true c s line long e = rw e refl
silent-or-long false c s line long e = rw (e, long) refl

entries-at : (b : Bool) (s : State) (form : LineForm) (line : List ℕ) → nat_lt 256 (length line) ≡ b → entries_by form s line ≡ entries_of s line
    → entries_handed s (cond b (record { bytes = take 256 line; form = TooLong }) (record { bytes = line; form = form })) ≡ entries_of s line
entries-at true s form line e h = silent-or-long (is_silent line) true s line e refl
entries-at false s form line e h = h

entries-handed : (s : State) (form : LineForm) (line : List ℕ) → entries_by form s line ≡ entries_of s line → entries_handed s (handed 256 form line) ≡ entries_of s line
entries-handed s form line h = entries-at (nat_lt 256 (length line)) s form line refl h

-- ---- the market of the history

calls-longer : (s : State) (log more : List Entry) → state_after s (calls_of (log ++ more)) ≡ state_after (state_after s (calls_of log)) (calls_of more)
calls-longer s [] more = refl
calls-longer s (x ∷ xs) more = calls-longer (step s x.call.seat x.call.cmd).1 xs more

entered : (s : State) (call : Option (ℕ × Cmd)) → state_after s (calls_of (entries_to s call)) ≡ (answer_to s call).last
entered s None = refl
entered s (Some call) = refl

entered-of : (b c : Bool) (s : State) (line : List ℕ) → is_silent line ≡ b → nat_lt 256 (length line) ≡ c → state_after s (calls_of (entries_of s line)) ≡ (answer_of s line).last
unfolding entries_of answer_of
entered-of true c s line e f = rw e refl
entered-of false true s line e f = rw (e, f) refl
entered-of false false s line e f = rw (e, f) (entered s (line_reading (length s.seats) s.levels line))

entered-long : (b : Bool) (s : State) (line : List ℕ) → is_silent line ≡ b → s ≡ (answer_by TooLong s line).last
entered-long true s line e = rw e refl
entered-long false s line e = rw e refl

entered-by : (form : LineForm) (s : State) (line : List ℕ) → state_after s (calls_of (entries_by form s line)) ≡ (answer_by form s line).last
entered-by Whole s line = entered-of (is_silent line) (nat_lt 256 (length line)) s line refl refl
entered-by WithoutLf s line = entered-of (is_silent line) (nat_lt 256 (length line)) s line refl refl
entered-by TooLong s line = entered-long (is_silent line) s line refl

market-next : (c : Chronicled) (line : Line) → market_of (lengthened c (entries_handed (market_of c) line)) ≡ (answer_by line.form (market_of c) line.bytes).last
market-next c line = calls-longer c.start c.log (entries_handed (market_of c) line) ∙ entered-by line.form (market_of c) line.bytes

-- ---- the lines as they are handed on

-- the history of them
abbrev recorded : State → List Line → List Entry
recorded s [] = []
recorded s (line ∷ lines) = entries_handed s line ++ recorded (answer_by line.form s line.bytes).last lines

pub nothing-more : (c : Chronicled) → lengthened c [] ≡ c
nothing-more c = ap (λ log. let x : Chronicled = record c { log = log } in x) (append-nil c.log)

more-and-more : (c : Chronicled) (a b : List Entry) → lengthened (lengthened c a) b ≡ lengthened c (a ++ b)
more-and-more c a b = λ i. record c { market = sym (calls-longer c.market a b) i; log = append_assoc c.log a b i }

chronicle-after : (c : Chronicled) (n : ℕ) (lines : List Line) → (after recording_rule (c, n) lines).0 ≡ lengthened c (recorded (market_of c) lines)
chronicle-after c n [] = sym (nothing-more c)
chronicle-after c n (line ∷ lines) =
    let es = entries_handed (market_of c) line in
    let next = lengthened c es in
    chronicle-after next (n + (answer_by line.form (market_of c) line.bytes).unread) lines
    ∙ (ap (λ (s : State). lengthened next (recorded s lines)) (market-next c line)
    ∙ more-and-more c es (recorded (answer_by line.form (market_of c) line.bytes).last lines))

pub unread-after : (c : Chronicled) (s : State) (n : ℕ) (lines : List Line) → market_of c ≡ s → (after recording_rule (c, n) lines).1 ≡ (after (script_rule false) (s, n) lines).1
unread-after c s n [] e = refl
unread-after c s n (line ∷ lines) e =
    unread-after (lengthened c (entries_handed (market_of c) line)) (answer_by line.form (market_of c) line.bytes).last (n + (answer_by line.form (market_of c) line.bytes).unread) lines (market-next c line)
    ∙ ap (λ (x : State). (after (script_rule false) ((answer_by line.form x line.bytes).last, n + (answer_by line.form x line.bytes).unread) lines).1) e

-- ---- the script's lines

recorded-ended : (s : State) (ls : List (List ℕ)) (more : List Line)
    → recorded s (map (handed 256 Whole) ls ++ more) ≡ entries_of_lines s ls ++ recorded (told_lines s ls).last more
recorded-ended s [] more = refl
recorded-ended s (line ∷ ls) more =
    let a = answer_of s line in
    let answered : answer_by (handed 256 Whole line).form s (handed 256 Whole line).bytes ≡ a = answer-handed s Whole line refl in
    ap (λ es. es ++ recorded (answer_by (handed 256 Whole line).form s (handed 256 Whole line).bytes).last (map (handed 256 Whole) ls ++ more)) (entries-handed s Whole line refl)
    ∙ (ap (λ (x : State). entries_of s line ++ recorded x (map (handed 256 Whole) ls ++ more)) (λ i. (answered i).last)
    ∙ (ap (λ es. entries_of s line ++ es) (recorded-ended a.last ls more)
    ∙ sym (append_assoc (entries_of s line) (entries_of_lines a.last ls) (recorded (told_lines a.last ls).last more))))

recorded-last : (s : State) (u : List ℕ) → recorded s (last_line 256 u) ≡ entries_of_lines s (without_last_empty (u ∷ []))
recorded-last s [] = refl
recorded-last s (x ∷ u) =
    let one : without_last_empty ((x ∷ u) ∷ []) ≡ (x ∷ u) ∷ [] = grind (arith, nat_tests) in
    ap (λ es. es ++ []) (entries-handed s WithoutLf (x ∷ u) refl) ∙ sym (ap (λ ls. entries_of_lines s ls) one)

more-entries : (s : State) (ls last : List (List ℕ)) → entries_of_lines s (ls ++ last) ≡ entries_of_lines s ls ++ entries_of_lines (told_lines s ls).last last
more-entries s [] last = refl
more-entries s (line ∷ ls) last =
    let a = answer_of s line in
    ap (λ es. entries_of s line ++ es) (more-entries a.last ls last) ∙ sym (append_assoc (entries_of s line) (entries_of_lines a.last ls) _)

history-cut : (s : State) (xs : List ℕ) → history_of s xs ≡ entries_of_lines s (ended_lines xs ++ without_last_empty (unfinished_line xs ∷ []))
unfolding history_of script_lines ended_lines unfinished_line
history-cut s xs = ap (entries_of_lines s) (lines-cut (slice_split is_lf xs))

recorded-history : (s : State) (xs : List ℕ) → recorded s (lines_of 256 xs) ≡ history_of s xs
recorded-history s xs =
    let ls = ended_lines xs in
    let u = unfinished_line xs in
    recorded-ended s ls (last_line 256 u)
    ∙ (ap (λ es. entries_of_lines s ls ++ es) (recorded-last (told_lines s ls).last u)
    ∙ (sym (more-entries s ls (without_last_empty (u ∷ []))) ∙ sym (history-cut s xs)))

-- the chronicle after the lines has the script's history
pub history-after : (c : Chronicled) (n : ℕ) (xs : List ℕ) → (after recording_rule (c, n) (lines_of 256 xs)).0 ≡ lengthened c (history_of (market_of c) xs)
history-after c n xs = chronicle-after c n (lines_of 256 xs) ∙ ap (λ es. lengthened c es) (recorded-history (market_of c) xs)

-- ---- a line is taken

pub silent-chronicle : (form : LineForm) (c : Chronicled) (n : ℕ) (line : List ℕ) → is_silent line ≡ true
    → ◌≡◌ {A = Chronicled × ℕ} (c, n) (lengthened c (entries_by form (market_of c) line), n + (answer_by form (market_of c) line).unread)
silent-chronicle form c n line e =
    let same : c ≡ lengthened c (entries_by form (market_of c) line) = sym (nothing-more c) ∙ sym (ap (λ es. lengthened c es) (entries-silent form (market_of c) line e)) in
    let count : n ≡ n + (answer_by form (market_of c) line).unread = ap (λ (q : State × ℕ). q.1) (silent-state form (market_of c) n line e) in
    cc

pub both : (c d : Chronicled) (m n : ℕ) → c ≡ d → m ≡ n → ◌≡◌ {A = Chronicled × ℕ} (c, m) (d, n)
both c d m n e f = cc

pub recorded-chronicle : {T E : Type 0} (r : Result T E) (new old : Chronicled) (m n : ℕ) (a b : List Entry) (x y : Told) → OnOk r (new ≡ lengthened old a) → OnOk r (m ≡ n + x.unread) → a ≡ b → x ≡ y
    → OnOk r (◌≡◌ {A = Chronicled × ℕ} (new, m) (lengthened old b, n + y.unread))
recorded-chronicle (Ok z) new old m n a b x y e f same told =
    both new (lengthened old b) m (n + y.unread) (e ∙ ap (λ es. lengthened old es) same) (f ∙ ap (λ (t : Told). n + t.unread) told)
recorded-chronicle (Err z) new old m n a b x y e f same told = tt
