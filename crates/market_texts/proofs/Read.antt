-- Each spelling of a command is read as it.
use Rattle.std.proofs.Common.{◌≡◌, ℕ, ◌<◌, ◌^◌, ◌++◌, Bool, true, false, ◌&&◌, List, [], ◌∷◌, Some, sym, ap, refl, subst, codes, decimal}
use Rattle.std.specs.Prelude.{ℤ, pos, negsuc, FitsSigned, ◌==◌}
use Rattle.std.specs.Int.{w32}
use Rattle.std.specs.Fmt.{signed_decimal}
use Rattle.std.specs.List.{All, slice_split}
use Rattle.std.proofs.lemmas.Bool.{eqb-true, and_parts}
use Rattle.std.proofs.lemmas.List.Elements.{All-nil, All-cons, All-append, All-map, All-weaker}
use Rattle.market_types.specs.declared.command.Cmd.{Cmd}
use Rattle.market_types.specs.declared.command.Cmd.TheVariants.{Open, Close, Priority, Resize, Request, Control as ControlBy, Uncontrol, Join, Stay, Leave, Show, Lists, Limit}
use Rattle.market_types.specs.Commands.{is_zero}
use Rattle.market_texts.specs.Texts.{cmd_text}
use Rattle.market_types.specs.Commands.{Fits, FitsLevel}
use Rattle.market_texts.specs.Reading.{is_space, command_of, middle_level, level_spellings, if_allowed, spellings}
use Rattle.market_texts.proofs.Decimals.{number-decimal, split-decimal, split-decimal_more, signed-signed_decimal, split-signed, split-signed_more}
use Rattle.market_texts.proofs.Levels.{ReadsLevel, levels-read, in_levels-fits}

-- the text is read as the command
abbrev pub Reads : ℕ → Cmd → List ℕ → Type 0
Reads levels cmd text = command_of levels (slice_split is_space text) ≡ Some cmd

allowed : (levels : ℕ) (cmd : Cmd) (b : Bool) (text : List ℕ) → (b ≡ true → Reads levels cmd text) → All (Reads levels cmd) (if_allowed b text)
allowed levels cmd true text h = All-cons (Reads levels cmd) text [] (h refl) (All-nil (Reads levels cmd))
allowed levels cmd false text h = All-nil (Reads levels cmd)

alone : (levels : ℕ) (cmd : Cmd) (text : List ℕ) → Reads levels cmd text → All (Reads levels cmd) (text ∷ [])
alone levels cmd text h = All-cons (Reads levels cmd) text [] h (All-nil (Reads levels cmd))

-- ---- open

open_whole : (levels slots reserved l : ℕ) (text : List ℕ) → slots < 2 ^ 32 → reserved < 2 ^ 32 → ReadsLevel levels l text → Reads levels (Open slots reserved l) (codes "open " ++ (decimal slots ++ (codes " " ++ (decimal reserved ++ (codes " " ++ text)))))
unfolding command_of
open_whole levels slots reserved l text h k read =
    rw (split-decimal_more slots (decimal reserved ++ (codes " " ++ text)) h, number-decimal slots h, split-decimal_more reserved text k, number-decimal reserved k, read.0, read.1) refl

open_middle : (levels slots reserved : ℕ) → slots < 2 ^ 32 → reserved < 2 ^ 32 → FitsLevel (middle_level levels) → Reads levels (Open slots reserved (middle_level levels)) (codes "open " ++ (decimal slots ++ (codes " " ++ decimal reserved)))
unfolding command_of
open_middle levels slots reserved h k m =
    rw (split-decimal_more slots (decimal reserved) h, number-decimal slots h, split-decimal reserved k, number-decimal reserved k, in_levels-fits (middle_level levels) m) refl

open_short : (levels slots : ℕ) → slots < 2 ^ 32 → FitsLevel (middle_level levels) → Reads levels (Open slots 1 (middle_level levels)) (codes "open " ++ decimal slots)
unfolding command_of
open_short levels slots h m = rw (split-decimal slots h, number-decimal slots h, in_levels-fits (middle_level levels) m) refl

open_reads : (levels slots reserved l : ℕ) → Fits (Open slots reserved l) → All (Reads levels (Open slots reserved l)) (spellings levels (Open slots reserved l))
open_reads levels slots reserved l h =
    All-append (Reads levels (Open slots reserved l)) _ _
    (All-map (Reads levels (Open slots reserved l)) (λ text. codes "open " ++ (decimal slots ++ (codes " " ++ (decimal reserved ++ (codes " " ++ text))))) (level_spellings levels l)
    (All-weaker (ReadsLevel levels l) _ (λ text read. open_whole levels slots reserved l text h.0 h.1 read) (level_spellings levels l) (levels-read levels l h.2)))
    (All-append (Reads levels (Open slots reserved l)) _ _
    (allowed levels (Open slots reserved l) (l == middle_level levels) _ (λ e. middle (eqb-true l (middle_level levels) e) h))
    (allowed levels (Open slots reserved l) (l == middle_level levels && reserved == 1) _ (λ e.
    let both = and_parts (l == middle_level levels) (reserved == 1) e in
    short (eqb-true l (middle_level levels) both.0) (eqb-true reserved 1 both.1) h))) where
      middle : l ≡ middle_level levels → Fits (Open slots reserved l) → Reads levels (Open slots reserved l) (codes "open " ++ (decimal slots ++ (codes " " ++ decimal reserved)))
      middle e h = subst (λ l. Reads levels (Open slots reserved l) (codes "open " ++ (decimal slots ++ (codes " " ++ decimal reserved)))) (sym e) (open_middle levels slots reserved h.0 h.1 (subst FitsLevel e h.2))

      short : l ≡ middle_level levels → reserved ≡ 1 → Fits (Open slots reserved l) → Reads levels (Open slots reserved l) (codes "open " ++ decimal slots)
      short e f h =
          subst (λ l. Reads levels (Open slots reserved l) (codes "open " ++ decimal slots)) (sym e)
          (subst (λ r. Reads levels (Open slots r (middle_level levels)) (codes "open " ++ decimal slots)) (sym f) (open_short levels slots h.0 (subst FitsLevel e h.2)))

-- ---- commands of one number

close_reads : (levels n : ℕ) → n < 2 ^ 32 → Reads levels (Close n) (codes "close " ++ decimal n)
unfolding command_of
close_reads levels n h = rw (split-decimal n h, number-decimal n h) refl

control_reads : (levels n : ℕ) → n < 2 ^ 32 → Reads levels (ControlBy n) (codes "control " ++ decimal n)
unfolding command_of
control_reads levels n h = rw (split-decimal n h, number-decimal n h) refl

uncontrol_reads : (levels n : ℕ) → n < 2 ^ 32 → Reads levels (Uncontrol n) (codes "uncontrol " ++ decimal n)
unfolding command_of
uncontrol_reads levels n h = rw (split-decimal n h, number-decimal n h) refl

show_reads : (levels n : ℕ) → n < 2 ^ 32 → Reads levels (Show n) (codes "show " ++ decimal n)
unfolding command_of
show_reads levels n h = rw (split-decimal n h, number-decimal n h) refl

-- ---- priority, resize, request

priority_whole : (levels arena l : ℕ) (text : List ℕ) → arena < 2 ^ 32 → ReadsLevel levels l text → Reads levels (Priority arena l) (codes "priority " ++ (decimal arena ++ (codes " " ++ text)))
unfolding command_of
priority_whole levels arena l text h read = rw (split-decimal_more arena text h, number-decimal arena h, read.0, read.1) refl

priority_reads : (levels arena l : ℕ) → Fits (Priority arena l) → All (Reads levels (Priority arena l)) (spellings levels (Priority arena l))
priority_reads levels arena l h =
    All-map (Reads levels (Priority arena l)) (λ text. codes "priority " ++ (decimal arena ++ (codes " " ++ text))) (level_spellings levels l)
    (All-weaker (ReadsLevel levels l) _ (λ text read. priority_whole levels arena l text h.0 read) (level_spellings levels l) (levels-read levels l h.1))

resize_reads : (levels arena slots reserved : ℕ) → Fits (Resize arena slots reserved) → Reads levels (Resize arena slots reserved) (cmd_text levels (Resize arena slots reserved))
unfolding command_of
resize_reads levels arena slots reserved h =
    rw (split-decimal_more arena (decimal slots ++ (codes " " ++ decimal reserved)) h.0, number-decimal arena h.0, split-decimal_more slots (decimal reserved) h.1, number-decimal slots h.1, split-decimal reserved h.2, number-decimal reserved h.2) refl

request_whole : (levels arena : ℕ) (workers mandatory : ℤ) → Fits (Request arena workers mandatory) → Reads levels (Request arena workers mandatory) (cmd_text levels (Request arena workers mandatory))
unfolding command_of
request_whole levels arena workers mandatory h =
    rw (split-decimal_more arena (signed_decimal workers ++ (codes " " ++ signed_decimal mandatory)) h.0, number-decimal arena h.0, split-signed_more workers (signed_decimal mandatory) h.1, signed-signed_decimal workers h.1, split-signed mandatory h.2, signed-signed_decimal mandatory h.2) refl

request_short : (levels arena : ℕ) (workers : ℤ) → arena < 2 ^ 32 → FitsSigned w32 workers → Reads levels (Request arena workers (pos 0)) (codes "request " ++ (decimal arena ++ (codes " " ++ signed_decimal workers)))
unfolding command_of
request_short levels arena workers h k = rw (split-decimal_more arena (signed_decimal workers) h, number-decimal arena h, split-signed workers k, signed-signed_decimal workers k) refl

zero_only : (z : ℤ) → is_zero z ≡ true → z ≡ pos 0
zero_only (pos n) e = ap pos (eqb-true n 0 e)
zero_only (negsuc n) e = absurd (cc)

request_reads : (levels arena : ℕ) (workers mandatory : ℤ) → Fits (Request arena workers mandatory) → All (Reads levels (Request arena workers mandatory)) (spellings levels (Request arena workers mandatory))
request_reads levels arena workers mandatory h =
    All-cons (Reads levels (Request arena workers mandatory)) (cmd_text levels (Request arena workers mandatory)) _
    (request_whole levels arena workers mandatory h)
    (allowed levels (Request arena workers mandatory) (is_zero mandatory) _ (λ e.
    subst (λ m. Reads levels (Request arena workers m) (codes "request " ++ (decimal arena ++ (codes " " ++ signed_decimal workers)))) (sym (zero_only mandatory e)) (request_short levels arena workers h.0 h.1)))

-- ---- every command

pub spellings-read : (levels : ℕ) (cmd : Cmd) → Fits cmd → All (Reads levels cmd) (spellings levels cmd)
unfolding command_of
spellings-read levels (Open slots reserved l) h = open_reads levels slots reserved l h
spellings-read levels (Close n) h = alone levels (Close n) _ (close_reads levels n h)
spellings-read levels (Priority arena l) h = priority_reads levels arena l h
spellings-read levels (Resize arena slots reserved) h = alone levels (Resize arena slots reserved) _ (resize_reads levels arena slots reserved h)
spellings-read levels (Request arena workers mandatory) h = request_reads levels arena workers mandatory h
spellings-read levels (ControlBy n) h = alone levels (ControlBy n) _ (control_reads levels n h)
spellings-read levels (Uncontrol n) h = alone levels (Uncontrol n) _ (uncontrol_reads levels n h)
spellings-read levels Join h = alone levels Join _ refl
spellings-read levels Stay h = alone levels Stay _ refl
spellings-read levels Leave h = alone levels Leave _ refl
spellings-read levels (Show n) h = alone levels (Show n) _ (show_reads levels n h)
spellings-read levels Lists h = alone levels Lists _ refl
spellings-read levels Limit h = alone levels Limit _ refl
