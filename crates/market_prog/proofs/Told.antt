-- A script's lines, as they are handed on, and what is told of the script.
use Rattle.std.proofs.Common.{◌≡◌, ℕ, ◌+◌, ◌++◌, Bool, true, false, cond, nat_lt, List, [], ◌∷◌, length, take, map, refl, sym, ap, ◌∙◌, arith, append_assoc, add_assoc, add-zero, append-nil}
use Rattle.std.specs.List.{slice_split}
use Rattle.std.proofs.lemmas.Bool.Decides.{nat_tests}
use Rattle.market_types.specs.State.{State}
use Rattle.market_texts.specs.Script.{is_lf, is_silent, without_last_empty, script_lines, Told, answer_of, told_lines, told}
use Rattle.line_engine.specs.declared.form.LineForm.{LineForm}
use Rattle.line_engine.specs.declared.form.LineForm.TheVariants.{Whole, WithoutLf, TooLong}
use Rattle.line_engine.specs.Lines.{Line, without_last, last_part, ended_lines, unfinished_line, handed, whole_lines, last_line, lines_of}
use Rattle.line_engine.specs.Rule.{after, replies_to}
use Rattle.market_prog.specs.Sessions.{answer_by, script_rule}

-- ---- one line

silent-cut : (line : List ℕ) → is_silent (take 256 line) ≡ is_silent line
silent-cut [] = refl
silent-cut (x ∷ line) = grind (arith, nat_tests)

-- what a line as it is handed on is answered
abbrev answer_handed : State → Line → Told
answer_handed s line = answer_by line.form s line.bytes

answer-at : (b : Bool) (s : State) (form : LineForm) (line : List ℕ) → nat_lt 256 (length line) ≡ b → answer_by form s line ≡ answer_of s line
    → answer_handed s (cond b (record { bytes = take 256 line; form = TooLong }) (record { bytes = line; form = form })) ≡ answer_of s line
unfolding answer_of
answer-at true s form line e h = rw (e, silent-cut line) refl
answer-at false s form line e h = h

pub answer-handed : (s : State) (form : LineForm) (line : List ℕ) → answer_by form s line ≡ answer_of s line → answer_handed s (handed 256 form line) ≡ answer_of s line
answer-handed s form line h = answer-at (nat_lt 256 (length line)) s form line refl h

-- ---- the lines that an LF ends, and then more

-- the market and the number of unread lines after what was told
abbrev pub state_after : ℕ → Told → State × ℕ
state_after unread told = (told.last, unread + told.unread)

same-state : (s : State) (m n : ℕ) → m ≡ n → (let x : State × ℕ = (s, m) in x) ≡ (s, n)
same-state s m n e = ap (λ (k : ℕ). let x : State × ℕ = (s, k) in x) e

replies-ended : (s : State) (n : ℕ) (ls : List (List ℕ)) (more : List Line)
    → replies_to (script_rule true) (s, n) (map (handed 256 Whole) ls ++ more) ≡ (told_lines s ls).text ++ replies_to (script_rule true) (state_after n (told_lines s ls)) more
replies-ended s n [] more = ap (λ (q : State × ℕ). replies_to (script_rule true) q more) (same-state s n (n + 0) (sym (add-zero n)))
replies-ended s n (line ∷ ls) more =
    let a = answer_of s line in
    let rest = told_lines a.last ls in
    let is : answer_handed s (handed 256 Whole line) ≡ a = answer-handed s Whole line refl in
    ap (λ (t : Told). t.text ++ replies_to (script_rule true) (state_after n t) (map (handed 256 Whole) ls ++ more)) is
    ∙ (ap (λ text. a.text ++ text) (replies-ended a.last (n + a.unread) ls more)
    ∙ (ap (λ (q : State × ℕ). a.text ++ (rest.text ++ replies_to (script_rule true) q more)) (same-state rest.last ((n + a.unread) + rest.unread) (n + (a.unread + rest.unread)) (add_assoc n a.unread rest.unread))
    ∙ sym (append_assoc a.text rest.text (replies_to (script_rule true) (state_after n (told_lines s (line ∷ ls))) more))))

after-ended : (b : Bool) (s : State) (n : ℕ) (ls : List (List ℕ)) (more : List Line)
    → after (script_rule b) (s, n) (map (handed 256 Whole) ls ++ more) ≡ after (script_rule b) (state_after n (told_lines s ls)) more
after-ended b s n [] more = ap (λ (q : State × ℕ). after (script_rule b) q more) (same-state s n (n + 0) (sym (add-zero n)))
after-ended b s n (line ∷ ls) more =
    let a = answer_of s line in
    let rest = told_lines a.last ls in
    let is : answer_handed s (handed 256 Whole line) ≡ a = answer-handed s Whole line refl in
    ap (λ (t : Told). after (script_rule b) (state_after n t) (map (handed 256 Whole) ls ++ more)) is
    ∙ (after-ended b a.last (n + a.unread) ls more
    ∙ ap (λ (q : State × ℕ). after (script_rule b) q more) (same-state rest.last ((n + a.unread) + rest.unread) (n + (a.unread + rest.unread)) (add_assoc n a.unread rest.unread)))

-- ---- the whole script

pub lines-cut : (ps : List (List ℕ)) → without_last_empty ps ≡ without_last ps ++ without_last_empty (last_part ps ∷ [])
lines-cut [] = refl
lines-cut (p ∷ []) = refl
lines-cut (p ∷ q ∷ ps) = ap (λ t. p ∷ t) (lines-cut (q ∷ ps))

told-cut : (s : State) (xs : List ℕ) → told s xs ≡ told_lines s (ended_lines xs ++ without_last_empty (unfinished_line xs ∷ []))
unfolding told script_lines ended_lines unfinished_line
told-cut s xs = ap (told_lines s) (lines-cut (slice_split is_lf xs))

-- what is told of one line more
more-text : (s : State) (ls : List (List ℕ)) (last : List (List ℕ)) → (told_lines s (ls ++ last)).text ≡ (told_lines s ls).text ++ (told_lines (told_lines s ls).last last).text
more-text s [] last = refl
more-text s (line ∷ ls) last =
    let a = answer_of s line in
    ap (λ text. a.text ++ text) (more-text a.last ls last) ∙ sym (append_assoc a.text (told_lines a.last ls).text _)

more-unread : (s : State) (ls : List (List ℕ)) (last : List (List ℕ)) → (told_lines s (ls ++ last)).unread ≡ (told_lines s ls).unread + (told_lines (told_lines s ls).last last).unread
more-unread s [] last = omega arith
more-unread s (line ∷ ls) last =
    let a = answer_of s line in
    let rest = more-unread a.last ls last in
    omega arith

more-last : (s : State) (ls : List (List ℕ)) (last : List (List ℕ)) → (told_lines s (ls ++ last)).last ≡ (told_lines (told_lines s ls).last last).last
more-last s [] last = refl
more-last s (line ∷ ls) last = more-last (answer_of s line).last ls last

last-text : (s : State) (n : ℕ) (u : List ℕ) → replies_to (script_rule true) (s, n) (last_line 256 u) ≡ (told_lines s (without_last_empty (u ∷ []))).text
last-text s n [] = refl
last-text s n (x ∷ u) =
    let is : answer_handed s (handed 256 WithoutLf (x ∷ u)) ≡ answer_of s (x ∷ u) = answer-handed s WithoutLf (x ∷ u) refl in
    let one : without_last_empty ((x ∷ u) ∷ []) ≡ (x ∷ u) ∷ [] = grind (arith, nat_tests) in
    ap (λ (t : Told). t.text ++ []) is ∙ sym (ap (λ ls. (told_lines s ls).text) one)

last-unread : (b : Bool) (s : State) (n : ℕ) (u : List ℕ) → (after (script_rule b) (s, n) (last_line 256 u)).1 ≡ n + (told_lines s (without_last_empty (u ∷ []))).unread
last-unread b s n [] = sym (add-zero n)
last-unread b s n (x ∷ u) =
    let is : answer_handed s (handed 256 WithoutLf (x ∷ u)) ≡ answer_of s (x ∷ u) = answer-handed s WithoutLf (x ∷ u) refl in
    let one : without_last_empty ((x ∷ u) ∷ []) ≡ (x ∷ u) ∷ [] = grind (arith, nat_tests) in
    ap (λ (t : Told). n + t.unread) is ∙ (ap (λ k. n + k) (sym (add-zero (answer_of s (x ∷ u)).unread)) ∙ sym (ap (λ ls. n + (told_lines s ls).unread) one))

last-last : (b : Bool) (s : State) (n : ℕ) (u : List ℕ) → (after (script_rule b) (s, n) (last_line 256 u)).0 ≡ (told_lines s (without_last_empty (u ∷ []))).last
last-last b s n [] = refl
last-last b s n (x ∷ u) =
    let is : answer_handed s (handed 256 WithoutLf (x ∷ u)) ≡ answer_of s (x ∷ u) = answer-handed s WithoutLf (x ∷ u) refl in
    let one : without_last_empty ((x ∷ u) ∷ []) ≡ (x ∷ u) ∷ [] = grind (arith, nat_tests) in
    ap (λ (t : Told). t.last) is ∙ sym (ap (λ ls. (told_lines s ls).last) one)

-- the replies to the lines are what is told of the script
pub replies-told : (s : State) (n : ℕ) (xs : List ℕ) → replies_to (script_rule true) (s, n) (lines_of 256 xs) ≡ (told s xs).text
replies-told s n xs =
    let ls = ended_lines xs in
    let u = unfinished_line xs in
    let before = told_lines s ls in
    replies-ended s n ls (last_line 256 u)
    ∙ (ap (λ text. before.text ++ text) (last-text before.last (n + before.unread) u)
    ∙ (sym (more-text s ls (without_last_empty (u ∷ []))) ∙ sym (ap (λ (t : Told). t.text) (told-cut s xs))))

pub unread-told : (b : Bool) (s : State) (xs : List ℕ) → (after (script_rule b) (s, 0) (lines_of 256 xs)).1 ≡ (told s xs).unread
unread-told b s xs =
    let ls = ended_lines xs in
    let u = unfinished_line xs in
    let before = told_lines s ls in
    ap (λ (q : State × ℕ). q.1) (after-ended b s 0 ls (last_line 256 u))
    ∙ (last-unread b before.last (0 + before.unread) u
    ∙ (let same = more-unread s ls (without_last_empty (u ∷ [])) in omega arith)
    ∙ sym (ap (λ (t : Told). t.unread) (told-cut s xs)))

pub last-told : (b : Bool) (s : State) (xs : List ℕ) → (after (script_rule b) (s, 0) (lines_of 256 xs)).0 ≡ (told s xs).last
last-told b s xs =
    let ls = ended_lines xs in
    let u = unfinished_line xs in
    let before = told_lines s ls in
    ap (λ (q : State × ℕ). q.0) (after-ended b s 0 ls (last_line 256 u))
    ∙ (last-last b before.last (0 + before.unread) u
    ∙ (sym (more-last s ls (without_last_empty (u ∷ []))) ∙ sym (ap (λ (t : Told). t.last) (told-cut s xs))))

pub replies-told_lines : (s : State) (n : ℕ) (xs : List ℕ) → replies_to (script_rule true) (s, n) (whole_lines 256 xs) ≡ (told_lines s (ended_lines xs)).text
replies-told_lines s n xs =
    let ls = ended_lines xs in
    sym (ap (replies_to (script_rule true) (s, n)) (append-nil (map (handed 256 Whole) ls)))
    ∙ (replies-ended s n ls [] ∙ append-nil (told_lines s ls).text)
