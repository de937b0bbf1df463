-- A piece of an input, line by line.
use Rattle.std.proofs.Common.{◌≡◌, ℕ, ◌+◌, ◌<◌, ◌≤◌, ◌^◌, false, true≢false, List, [], ◌∷◌, ◌++◌, length, take, Option, refl, sym, ap, ◌∙◌, subst, append_assoc, length-append, arith}
use Rattle.std.specs.Io.KnownBytes.{Appends}
use Rattle.byte_devices.specs.Devices.{WritesFront}
use Rattle.line_engine.specs.declared.form.LineForm.TheVariants.{Whole, WithoutLf}
use Rattle.line_engine.specs.declared.fault.InputFault.{InputFault}
use Rattle.line_engine.specs.declared.fault.InputFault.TheVariants.{Read, TooLong, Write, Memory, Taker}
use Rattle.line_engine.specs.Lines.{Line, NoLf, handed, whole_lines, last_line}
use Rattle.line_engine.specs.Rule.{LineRule, replies_to}
use Rattle.line_engine.specs.Input.{StopsAt, IsLineFault}
use Rattle.line_engine.specs.Pieces.{Takes, IsPieceFault}
use Rattle.line_engine.proofs.Handed.{last_line-some}
use Rattle.line_engine.proofs.Taking.{WritesFront-none, takes-begun, takes-line, takes-handed, takes-part, front-inside, stops-line}

-- of the input, `rest` is left
pub record Feeding {S : Type 0} (rule : LineRule S) (longest : ℕ) (start now : S) (taken taken' : Option (List ℕ)) (input waiting unfinished rest : List ℕ) : Type 0 where
  pub text : List ℕ
  pub cut : input ≡ text ++ rest
  pub takes : Takes rule longest start now taken taken' text waiting unfinished

-- what follows a line is shorter, so that the line can be counted
pub line-cut : (rest line more : List ℕ) → rest ≡ line ++ 10 ∷ more → length more < length rest
line-cut rest line more is = omega (arith, ap length is, length-append line (10 ∷ more))

pub room-for-line : (now rest more top : ℕ) → now + rest ≤ top → top < 2 ^ 64 → more < rest → now + 1 < 2 ^ 64
room-for-line now rest more top few below cut = omega arith

module _ {S : Type 0} (rule : LineRule S) (longest : ℕ) where
  pub feeding-begun : (s : S) (a : Option (List ℕ)) (u piece : List ℕ) → NoLf u → length u ≤ longest + 1 → Feeding rule longest s s a a (u ++ piece) [] u piece
  feeding-begun s a u piece free short = record { text = u; cut = refl; takes = takes-begun rule longest s a u free short }

  pub feeding-line : (s now new : S) (a b : Option (List ℕ)) (input waiting waiting' u rest line more : List ℕ) → Feeding rule longest s now a b input waiting u rest
      → rest ≡ line ++ 10 ∷ more → NoLf line
      → new ≡ rule.next now (handed longest Whole (u ++ line)) → waiting' ≡ waiting ++ rule.reply now (handed longest Whole (u ++ line))
      → Feeding rule longest s new a b input waiting' [] more
  feeding-line s now new a b input waiting waiting' u rest line more f is free next told = record {
    text = f.text ++ (line ++ 10 ∷ []);
    cut = f.cut ∙ (ap (λ xs. f.text ++ xs) (is ∙ sym (append_assoc line (10 ∷ []) more)) ∙ sym (append_assoc f.text (line ++ 10 ∷ []) more));
    takes = takes-line rule longest s now new a b f.text waiting waiting' u line f.takes free next told;
  }

  pub feeding-handed : (s now : S) (a b c : Option (List ℕ)) (input waiting u rest : List ℕ) → Feeding rule longest s now a b input waiting u rest → Appends b c waiting
      → Feeding rule longest s now a c input [] u rest
  feeding-handed s now a b c input waiting u rest f w = record { text = f.text; cut = f.cut; takes = takes-handed rule longest s now a b c f.text waiting u f.takes w }

  pub feeding-kept : (s now : S) (a b : Option (List ℕ)) (input waiting u rest u' : List ℕ) → Feeding rule longest s now a b input waiting u rest → NoLf rest
      → u' ≡ take (longest + 1) (u ++ rest) → Takes rule longest s now a b input waiting u'
  feeding-kept s now a b input waiting u rest u' f free is =
      subst (λ xs. Takes rule longest s now a b xs waiting u') (sym f.cut) (takes-part rule longest s now a b f.text waiting u rest u' f.takes free is)

  pub feeding-front : (s now : S) (a b c : Option (List ℕ)) (input waiting u rest : List ℕ) → Feeding rule longest s now a b input waiting u rest → WritesFront b c waiting
      → WritesFront a c (replies_to rule s (whole_lines longest input))
  feeding-front s now a b c input waiting u rest f w =
      subst (λ xs. WritesFront a c (replies_to rule s (whole_lines longest xs))) (sym f.cut) (front-inside rule longest s now a b c f.text waiting u rest f.takes w)

  pub feeding-none : (s now : S) (a b : Option (List ℕ)) (input waiting u rest : List ℕ) → Feeding rule longest s now a b input waiting u rest
      → WritesFront a b (replies_to rule s (whole_lines longest input))
  feeding-none s now a b input waiting u rest f = feeding-front s now a b b input waiting u rest f (WritesFront-none b waiting)

  module _ {F : Type 0} (stops : S → Line → F → Type 0) where
    feeding-stops : (s now : S) (a b : Option (List ℕ)) (input waiting u rest line more : List ℕ) (fault : F) → Feeding rule longest s now a b input waiting u rest
        → rest ≡ line ++ 10 ∷ more → NoLf line → stops now (handed longest Whole (u ++ line)) fault → StopsAt rule stops s (whole_lines longest input) fault
    feeding-stops s now a b input waiting u rest line more fault f is free why =
        subst (λ xs. StopsAt rule stops s (whole_lines longest xs) fault) (sym (f.cut ∙ ap (λ xs. f.text ++ xs) is))
        (stops-line rule longest stops s now a b f.text waiting u line more fault f.takes free why)

    -- a line that ends in the piece was not taken
    pub line-fault : (s now : S) (a b : Option (List ℕ)) (input waiting u rest line more : List ℕ) (fault : InputFault F) → Feeding rule longest s now a b input waiting u rest
        → rest ≡ line ++ 10 ∷ more → NoLf line → IsLineFault (stops now (handed longest Whole (u ++ line))) fault
        → IsPieceFault (StopsAt rule stops s (whole_lines longest input)) fault false
    line-fault s now a b input waiting u rest line more Read f is free why limit text short = absurd why
    line-fault s now a b input waiting u rest line more TooLong f is free why limit text short = absurd why
    line-fault s now a b input waiting u rest line more Write f is free why limit text short = absurd why
    line-fault s now a b input waiting u rest line more Memory f is free why limit text short = (short, refl, refl)
    line-fault s now a b input waiting u rest line more (Taker fault) f is free why limit text short =
        (short, refl, refl, feeding-stops s now a b input waiting u rest line more fault f is free why)

pub line-fault-weaker : {F : Type 0} (P Q : F → Type 0) → ((fault : F) → P fault → Q fault) → (fault : InputFault F) → IsLineFault P fault → IsLineFault Q fault
line-fault-weaker P Q h Read why = why
line-fault-weaker P Q h TooLong why = why
line-fault-weaker P Q h Write why = why
line-fault-weaker P Q h Memory why = why
line-fault-weaker P Q h (Taker fault) why = h fault why

-- it stops at the last line
pub stops-last : {S F : Type 0} (rule : LineRule S) (longest : ℕ) (stops : S → Line → F → Type 0) (s : S) (u : List ℕ) → (length u ≡ 0 → ⊥) → (fault : F)
    → stops s (handed longest WithoutLf u) fault → StopsAt rule stops s (last_line longest u) fault
stops-last rule longest stops s u some fault why = record { before = []; line = handed longest WithoutLf u; more = []; are = last_line-some longest u some; why = why }

-- nothing was read of an input that may have no byte
none-within : length {A = ℕ} [] ≤ 0
none-within = omega arith

-- and conversely, where no sink fails
pub line-fault-of-piece : {F : Type 0} (P Q : F → Type 0) → ((fault : F) → P fault → Q fault) → (fault : InputFault F) → IsPieceFault P fault false → IsLineFault Q fault
line-fault-of-piece P Q h Read why = absurd (true≢false (sym (why (λ _. 0) [] none-within).1))
line-fault-of-piece P Q h TooLong why = absurd (omega (arith, (why (λ _. 0) [] none-within).0.above))
line-fault-of-piece P Q h Write why = absurd (true≢false (sym (why (λ _. 0) [] none-within).2))
line-fault-of-piece P Q h Memory why = tt
line-fault-of-piece P Q h (Taker fault) why = h fault (why (λ _. 0) [] none-within).3
