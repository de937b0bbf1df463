-- The answer to a line, by its form.
use Rattle.std.proofs.Common.{◌≡◌, ℕ, ◌+◌, ◌≤◌, ◌++◌, Bool, true, false, cond, nat_lt, List, [], length, Option, None, Result, Ok, Err, OnOk, refl, sym, ap, ◌∙◌, arith, add-zero, append-nil}
use Rattle.std.proofs.lemmas.Bool.Decides.{nat_tests}
use Rattle.market_types.specs.declared.command.Cmd.{Cmd}
use Rattle.market_types.specs.State.{State}
use Rattle.market_texts.specs.Reading.{line_reading}
use Rattle.market_texts.specs.Script.{is_silent, Told, nothing, answer_of, answer_to}
use Rattle.line_engine.specs.declared.form.LineForm.{LineForm}
use Rattle.line_engine.specs.declared.form.LineForm.TheVariants.{Whole, WithoutLf, TooLong}
use Rattle.market_prog.specs.Sessions.{answer_by, is_too_long}

answer_of-silent : (s : State) (line : List ℕ) → is_silent line ≡ true → answer_of s line ≡ nothing s
unfolding answer_of
answer_of-silent s line e = rw e refl

pub answer-silent : (form : LineForm) (s : State) (line : List ℕ) → is_silent line ≡ true → answer_by form s line ≡ nothing s
answer-silent Whole s line e = answer_of-silent s line e
answer-silent WithoutLf s line e = answer_of-silent s line e
answer-silent TooLong s line e = rw e refl

pub silent-state : (form : LineForm) (s : State) (n : ℕ) (line : List ℕ) → is_silent line ≡ true
    → ◌≡◌ {A = State × ℕ} (s, n) ((answer_by form s line).last, n + (answer_by form s line).unread)
silent-state form s n line e =
    ap (λ (k : ℕ). let x : State × ℕ = (s, k) in x) (sym (add-zero n)) ∙ sym (ap (λ (t : Told). let x : State × ℕ = (t.last, n + t.unread) in x) (answer-silent form s line e))

pub silent-text : (answers : Bool) (form : LineForm) (s : State) (line text : List ℕ) → is_silent line ≡ true → text ≡ text ++ cond answers (answer_by form s line).text []
silent-text true form s line text e = sym (append-nil text) ∙ sym (ap (λ (t : Told). text ++ t.text) (answer-silent form s line e))
silent-text false form s line text e = sym (append-nil text)

answer_of-heard : (s : State) (line : List ℕ) → is_silent line ≡ false → length line ≤ 256 → answer_of s line ≡ answer_to s (line_reading (length s.seats) s.levels line)
unfolding answer_of
answer_of-heard s line e h = let short : nat_lt 256 (length line) ≡ false = grind (arith, nat_tests) in rw (e, short) refl

pub answer-heard : (form : LineForm) (s : State) (line : List ℕ) (call : Option (ℕ × Cmd)) → is_silent line ≡ false → length line ≤ 256
    → call ≡ cond (is_too_long form) None (line_reading (length s.seats) s.levels line) → answer_to s call ≡ answer_by form s line
answer-heard Whole s line call e h is = ap (answer_to s) is ∙ sym (answer_of-heard s line e h)
answer-heard WithoutLf s line call e h is = ap (answer_to s) is ∙ sym (answer_of-heard s line e h)
answer-heard TooLong s line call e h is = ap (answer_to s) is ∙ sym (rw e refl)

pub called-state : (q s : State) (m n : ℕ) (a b : Told) → q ≡ a.last → m ≡ n + a.unread → a ≡ b → ◌≡◌ {A = State × ℕ} (q, m) (b.last, n + b.unread)
called-state q s m n a b e f is =
    (let same : ◌≡◌ {A = State × ℕ} (q, m) (a.last, n + a.unread) = cc in same) ∙ ap (λ (t : Told). let x : State × ℕ = (t.last, n + t.unread) in x) is

pub heard-state : {T E : Type 0} (r : Result T E) (q s : State) (m n : ℕ) (a b : Told) → OnOk r (q ≡ a.last) → OnOk r (m ≡ n + a.unread) → a ≡ b
    → OnOk r (◌≡◌ {A = State × ℕ} (q, m) (b.last, n + b.unread))
heard-state (Ok x) q s m n a b e f is = called-state q s m n a b e f is
heard-state (Err x) q s m n a b e f is = tt

pub heard-text : {T E : Type 0} (r : Result T E) (answers : Bool) (old new : List ℕ) (a b : Told) → OnOk r (new ≡ old ++ cond answers a.text []) → a ≡ b → OnOk r (new ≡ old ++ cond answers b.text [])
heard-text (Ok x) answers old new a b e is = e ∙ ap (λ (t : Told). old ++ cond answers t.text []) is
heard-text (Err x) answers old new a b e is = tt
