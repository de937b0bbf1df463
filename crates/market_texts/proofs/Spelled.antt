-- What is read as a command spells it.
use Rattle.std.proofs.Common.{◌≡◌, ℕ, ◌<◌, ◌^◌, ◌++◌, Bool, true, false, ◌&&◌, List, [], ◌∷◌, map, Option, Some, None, option_and_then, option_map, sym, ap, ◌∙◌, refl, subst, codes, decimal, arith, append-nil}
use Rattle.std.specs.Prelude.{ℤ, pos, FitsSigned, ◌==◌}
use Rattle.std.specs.Int.{w32}
use Rattle.std.specs.Fmt.{signed_decimal}
use Rattle.std.specs.Str.{bytes_eq}
use Rattle.std.specs.List.{Contains, slice_split, join_with_byte}
use Rattle.std.proofs.lemmas.Bool.{eq-eqb, and_from}
use Rattle.std.proofs.lemmas.Option.{option_and_then_some, same_Some}
use Rattle.std.proofs.lemmas.List.Elements.{Contains-append_left, Contains-append_right}
use Rattle.std.proofs.Math.ListN.{get_or-map}
use Rattle.std.proofs.lemmas.List.{length-map}
use Rattle.std.proofs.lemmas.List.Splits.{join_with_byte-slice_split}
use Rattle.market_types.specs.declared.command.Cmd.{Cmd}
use Rattle.market_types.specs.declared.command.Cmd.TheVariants.{Open, Close, Priority, Resize, Request, Control as ControlBy, Uncontrol, Join, Stay, Leave, Show, Lists, Limit}
use Rattle.market_types.specs.Commands.{is_zero}
use Rattle.market_texts.specs.Texts.{cmd_text}
use Rattle.market_types.specs.Commands.{Fits, FitsLevel}
use Rattle.market_texts.specs.Reading.{is_space, command_of, number, signed, level, in_levels, middle_level, level_spellings, if_allowed, spellings, alone, of_number, open_reading, open_reserved, open_level, priority_reading, priority_level, resize_reading, resize_slots, request_reading, request_workers, request_mandatory}
use Rattle.market_texts.proofs.Decimals.{number_only, signed_only}
use Rattle.market_texts.proofs.Levels.{SpellsLevel, level_only, in_levels_only, chosen, text_is, contains_first}

-- the text spells the command, whose numbers can be written
abbrev pub Spelled : ℕ → Cmd → List ℕ → Type 0
Spelled levels cmd text = Fits cmd × Contains (spellings levels cmd) text

-- fields, each behind a space
abbrev pub spaced : List (List ℕ) → List ℕ
spaced [] = []
spaced (field ∷ more) = 32 ∷ join_with_byte 32 (field ∷ more)

-- ---- one field at a time

-- a number, and what is read after it
number_then : (M : List ℕ → Type 0) (f : ℕ → Option Cmd) (field : List ℕ) (cmd : Cmd) → option_and_then f (number field) ≡ Some cmd → ((n : ℕ) → n < 2 ^ 32 → f n ≡ Some cmd → M (decimal n)) → M field
number_then M f field cmd h k =
    option_and_then_some f (number field) cmd h (λ n e g. let o = number_only field n e in subst M (sym o.0) (k n o.1 g))

signed_then : (M : List ℕ → Type 0) (f : ℤ → Option Cmd) (field : List ℕ) (cmd : Cmd) → option_and_then f (signed field) ≡ Some cmd → ((z : ℤ) → FitsSigned w32 z → f z ≡ Some cmd → M (signed_decimal z)) → M field
signed_then M f field cmd h k =
    option_and_then_some f (signed field) cmd h (λ z e g. let o = signed_only field z e in subst M (sym o.0) (k z o.1 g))

level_then : {P : Type 0} (levels : ℕ) (f : ℕ → Option Cmd) (field : List ℕ) (cmd : Cmd) → option_and_then f (level levels field) ≡ Some cmd → ((l : ℕ) → SpellsLevel levels l field → f l ≡ Some cmd → P) → P
level_then levels f field cmd h k = option_and_then_some f (level levels field) cmd h (λ l e g. k l (level_only levels l field e) g)

-- no field follows
alone_then : (M : Cmd → List (List ℕ) → Type 0) (made : Cmd) (more : List (List ℕ)) (cmd : Cmd) → alone made more ≡ Some cmd → M made [] → M cmd more
alone_then M made [] cmd h m = subst (λ c. M c []) (same_Some made cmd h) m
alone_then M made (field ∷ more) cmd h m = absurd (cc)

-- the middle level
middle_then : (M : Cmd → Type 0) (levels : ℕ) (make : ℕ → Cmd) (cmd : Cmd) → option_map make (in_levels (middle_level levels)) ≡ Some cmd → (FitsLevel (middle_level levels) → M (make (middle_level levels))) → M cmd
middle_then M levels make cmd h k = by (in_levels (middle_level levels)) refl h where
  by : (o : Option ℕ) → in_levels (middle_level levels) ≡ o → option_map make o ≡ Some cmd → M cmd
  by None e h = absurd (cc)
  by (Some l) e h =
      let o = in_levels_only (middle_level levels) l e in
      subst M (ap make o.0 ∙ same_Some (make l) cmd h) (k o.1)

-- ---- what spells

pub map_contains : (f : List ℕ → List ℕ) (texts : List (List ℕ)) (text : List ℕ) → Contains texts text → Contains (map f texts) (f text)
map_contains f texts text h = (h.0, omega (arith, length-map texts f, h.1), get_or-map f texts h.0 text ∙ ap f h.2)

allowed_contains : (b : Bool) (text : List ℕ) → b ≡ true → Contains (if_allowed b text) text
allowed_contains true text e = contains_first text []
allowed_contains false text e = absurd (cc)

-- ---- open

abbrev open_text : ℕ → ℕ → List ℕ → List ℕ
open_text slots reserved text = codes "open " ++ (decimal slots ++ (codes " " ++ (decimal reserved ++ (codes " " ++ text))))

abbrev whole_texts : ℕ → ℕ → ℕ → ℕ → List (List ℕ)
whole_texts levels slots reserved l = map (open_text slots reserved) (level_spellings levels l)

abbrev middle_texts : ℕ → ℕ → ℕ → ℕ → List (List ℕ)
middle_texts levels slots reserved l = if_allowed (l == middle_level levels) (codes "open " ++ (decimal slots ++ (codes " " ++ decimal reserved)))

abbrev short_texts : ℕ → ℕ → ℕ → ℕ → List (List ℕ)
short_texts levels slots reserved l = if_allowed (l == middle_level levels && reserved == 1) (codes "open " ++ decimal slots)

open_level_spelled : (levels slots reserved : ℕ) (fields : List (List ℕ)) (cmd : Cmd) → slots < 2 ^ 32 → reserved < 2 ^ 32 → open_level levels slots reserved fields ≡ Some cmd → Spelled levels cmd (codes "open" ++ spaced (decimal slots ∷ decimal reserved ∷ fields))
open_level_spelled levels slots reserved [] cmd h k read =
    middle_then (λ c. Spelled levels c (codes "open" ++ spaced (decimal slots ∷ decimal reserved ∷ []))) levels (λ l. Open slots reserved l) cmd read (λ m.
    let l = middle_level levels in
    let text = codes "open " ++ (decimal slots ++ (codes " " ++ decimal reserved)) in (
      (h, k, m),
      Contains-append_right (whole_texts levels slots reserved l) (middle_texts levels slots reserved l ++ short_texts levels slots reserved l) text
          (Contains-append_left (middle_texts levels slots reserved l) (short_texts levels slots reserved l) text (allowed_contains (l == middle_level levels) text (eq-eqb l l refl))),
    ))
open_level_spelled levels slots reserved (field ∷ more) cmd h k read =
    level_then levels (λ l. alone (Open slots reserved l) more) field cmd read (λ l s g.
    alone_then (λ c fields. Spelled levels c (codes "open" ++ spaced (decimal slots ∷ decimal reserved ∷ field ∷ fields))) (Open slots reserved l) more cmd g (
      (h, k, s.0),
      Contains-append_left (whole_texts levels slots reserved l) (middle_texts levels slots reserved l ++ short_texts levels slots reserved l) (open_text slots reserved field) (map_contains (open_text slots reserved) (level_spellings levels l) field s.1),
    ))

open_reserved_spelled : (levels slots : ℕ) (fields : List (List ℕ)) (cmd : Cmd) → slots < 2 ^ 32 → open_reserved levels slots fields ≡ Some cmd → Spelled levels cmd (codes "open" ++ spaced (decimal slots ∷ fields))
open_reserved_spelled levels slots [] cmd h read =
    middle_then (λ c. Spelled levels c (codes "open" ++ spaced (decimal slots ∷ []))) levels (λ l. Open slots 1 l) cmd read (λ m.
    let l = middle_level levels in
    let text = codes "open " ++ decimal slots in (
      (h, omega arith, m),
      Contains-append_right (whole_texts levels slots 1 l) (middle_texts levels slots 1 l ++ short_texts levels slots 1 l) text
          (Contains-append_right (middle_texts levels slots 1 l) (short_texts levels slots 1 l) text (allowed_contains (l == middle_level levels && 1 == 1) text (and_from _ _ (eq-eqb l l refl) refl))),
    ))
open_reserved_spelled levels slots (field ∷ more) cmd h read =
    number_then (λ t. Spelled levels cmd (codes "open" ++ spaced (decimal slots ∷ t ∷ more))) (λ reserved. open_level levels slots reserved more) field cmd read (λ reserved k g.
    open_level_spelled levels slots reserved more cmd h k g)

open_spelled : (levels : ℕ) (fields : List (List ℕ)) (cmd : Cmd) → open_reading levels fields ≡ Some cmd → Spelled levels cmd (codes "open" ++ spaced fields)
open_spelled levels [] cmd read = absurd (cc)
open_spelled levels (field ∷ more) cmd read =
    number_then (λ t. Spelled levels cmd (codes "open" ++ spaced (t ∷ more))) (λ slots. open_reserved levels slots more) field cmd read (λ slots h g.
    open_reserved_spelled levels slots more cmd h g)

-- ---- the other commands

-- a last number
number_spelled : (levels : ℕ) (make : ℕ → Cmd) (text : List (List ℕ) → List ℕ) (fields : List (List ℕ)) (cmd : Cmd) → ((n : ℕ) → n < 2 ^ 32 → Spelled levels (make n) (text (decimal n ∷ []))) → of_number make fields ≡ Some cmd → Spelled levels cmd (text fields)
number_spelled levels make text [] cmd spells read = absurd (cc)
number_spelled levels make text (field ∷ more) cmd spells read =
    number_then (λ t. Spelled levels cmd (text (t ∷ more))) (λ n. alone (make n) more) field cmd read (λ n h g.
    alone_then (λ c fields. Spelled levels c (text (decimal n ∷ fields))) (make n) more cmd g (spells n h))

priority_level_spelled : (levels arena : ℕ) (fields : List (List ℕ)) (cmd : Cmd) → arena < 2 ^ 32 → priority_level levels arena fields ≡ Some cmd → Spelled levels cmd (codes "priority" ++ spaced (decimal arena ∷ fields))
priority_level_spelled levels arena [] cmd h read = absurd (cc)
priority_level_spelled levels arena (field ∷ more) cmd h read =
    level_then levels (λ l. alone (Priority arena l) more) field cmd read (λ l s g.
    alone_then (λ c fields. Spelled levels c (codes "priority" ++ spaced (decimal arena ∷ field ∷ fields))) (Priority arena l) more cmd g
    ((h, s.0), map_contains (λ text. codes "priority " ++ (decimal arena ++ (codes " " ++ text))) (level_spellings levels l) field s.1))

priority_spelled : (levels : ℕ) (fields : List (List ℕ)) (cmd : Cmd) → priority_reading levels fields ≡ Some cmd → Spelled levels cmd (codes "priority" ++ spaced fields)
priority_spelled levels [] cmd read = absurd (cc)
priority_spelled levels (field ∷ more) cmd read =
    number_then (λ t. Spelled levels cmd (codes "priority" ++ spaced (t ∷ more))) (λ arena. priority_level levels arena more) field cmd read (λ arena h g.
    priority_level_spelled levels arena more cmd h g)

resize_slots_spelled : (levels arena : ℕ) (fields : List (List ℕ)) (cmd : Cmd) → arena < 2 ^ 32 → resize_slots arena fields ≡ Some cmd → Spelled levels cmd (codes "resize" ++ spaced (decimal arena ∷ fields))
resize_slots_spelled levels arena [] cmd h read = absurd (cc)
resize_slots_spelled levels arena (field ∷ more) cmd h read =
    number_then (λ t. Spelled levels cmd (codes "resize" ++ spaced (decimal arena ∷ t ∷ more))) (λ slots. of_number (Resize arena slots) more) field cmd read (λ slots k g.
    number_spelled levels (Resize arena slots) (λ fields. codes "resize" ++ spaced (decimal arena ∷ decimal slots ∷ fields)) more cmd (λ reserved j. ((h, k, j), contains_first _ [])) g)

resize_spelled : (levels : ℕ) (fields : List (List ℕ)) (cmd : Cmd) → resize_reading fields ≡ Some cmd → Spelled levels cmd (codes "resize" ++ spaced fields)
resize_spelled levels [] cmd read = absurd (cc)
resize_spelled levels (field ∷ more) cmd read =
    number_then (λ t. Spelled levels cmd (codes "resize" ++ spaced (t ∷ more))) (λ arena. resize_slots arena more) field cmd read (λ arena h g.
    resize_slots_spelled levels arena more cmd h g)

abbrev short_request : ℕ → ℤ → List ℕ
short_request arena workers = codes "request " ++ (decimal arena ++ (codes " " ++ signed_decimal workers))

mandatory_spelled : (levels arena : ℕ) (workers : ℤ) (fields : List (List ℕ)) (cmd : Cmd) → arena < 2 ^ 32 → FitsSigned w32 workers → request_mandatory arena workers fields ≡ Some cmd → Spelled levels cmd (codes "request" ++ spaced (decimal arena ∷ signed_decimal workers ∷ fields))
mandatory_spelled levels arena workers [] cmd h k read =
    subst (λ c. Spelled levels c (short_request arena workers)) (same_Some (Request arena workers (pos 0)) cmd read) (
      (h, k, record { sfits = omega arith }),
      Contains-append_right (cmd_text levels (Request arena workers (pos 0)) ∷ []) (short_request arena workers ∷ []) (short_request arena workers) (contains_first (short_request arena workers) []),
    )
mandatory_spelled levels arena workers (field ∷ more) cmd h k read =
    signed_then (λ t. Spelled levels cmd (codes "request" ++ spaced (decimal arena ∷ signed_decimal workers ∷ t ∷ more))) (λ mandatory. alone (Request arena workers mandatory) more) field cmd read (λ mandatory j g.
    alone_then (λ c fields. Spelled levels c (codes "request" ++ spaced (decimal arena ∷ signed_decimal workers ∷ signed_decimal mandatory ∷ fields))) (Request arena workers mandatory) more cmd g
    ((h, k, j), contains_first (cmd_text levels (Request arena workers mandatory)) (if_allowed (is_zero mandatory) (short_request arena workers))))

workers_spelled : (levels arena : ℕ) (fields : List (List ℕ)) (cmd : Cmd) → arena < 2 ^ 32 → request_workers arena fields ≡ Some cmd → Spelled levels cmd (codes "request" ++ spaced (decimal arena ∷ fields))
workers_spelled levels arena [] cmd h read = absurd (cc)
workers_spelled levels arena (field ∷ more) cmd h read =
    signed_then (λ t. Spelled levels cmd (codes "request" ++ spaced (decimal arena ∷ t ∷ more))) (λ workers. request_mandatory arena workers more) field cmd read (λ workers k g.
    mandatory_spelled levels arena workers more cmd h k g)

request_spelled : (levels : ℕ) (fields : List (List ℕ)) (cmd : Cmd) → request_reading fields ≡ Some cmd → Spelled levels cmd (codes "request" ++ spaced fields)
request_spelled levels [] cmd read = absurd (cc)
request_spelled levels (field ∷ more) cmd read =
    number_then (λ t. Spelled levels cmd (codes "request" ++ spaced (t ∷ more))) (λ arena. request_workers arena more) field cmd read (λ arena h g.
    workers_spelled levels arena more cmd h g)

-- ---- every command

worded : (levels : ℕ) (cmd : Cmd) (field word : List ℕ) (more : List (List ℕ)) → bytes_eq field word ≡ true → Spelled levels cmd (word ++ spaced more) → Spelled levels cmd (field ++ spaced more)
worded levels cmd field word more e s = subst (λ t. Spelled levels cmd (t ++ spaced more)) (sym (text_is field word e)) s

-- a word that no field follows
word_spelled : (levels : ℕ) (made : Cmd) (word : List ℕ) (more : List (List ℕ)) (cmd : Cmd) → Spelled levels made (word ++ spaced []) → alone made more ≡ Some cmd → Spelled levels cmd (word ++ spaced more)
word_spelled levels made word more cmd s read = alone_then (λ c fields. Spelled levels c (word ++ spaced fields)) made more cmd read s

pub fields_spelled : (levels : ℕ) (word : List ℕ) (more : List (List ℕ)) (cmd : Cmd) → command_of levels (word ∷ more) ≡ Some cmd → Spelled levels cmd (word ++ spaced more)
unfolding command_of
fields_spelled levels word more cmd read =
    chosen (bytes_eq word (codes "open")) _ _ (Some cmd) read (λ e g. worded levels cmd word (codes "open") more e (open_spelled levels more cmd g)) (λ _ read.
    chosen (bytes_eq word (codes "close")) _ _ (Some cmd) read (λ e g. worded levels cmd word (codes "close") more e (number_spelled levels Close (λ fields. codes "close" ++ spaced fields) more cmd (λ n h. (h, contains_first _ [])) g)) (λ _ read.
    chosen (bytes_eq word (codes "priority")) _ _ (Some cmd) read (λ e g. worded levels cmd word (codes "priority") more e (priority_spelled levels more cmd g)) (λ _ read.
    chosen (bytes_eq word (codes "resize")) _ _ (Some cmd) read (λ e g. worded levels cmd word (codes "resize") more e (resize_spelled levels more cmd g)) (λ _ read.
    chosen (bytes_eq word (codes "request")) _ _ (Some cmd) read (λ e g. worded levels cmd word (codes "request") more e (request_spelled levels more cmd g)) (λ _ read.
    chosen (bytes_eq word (codes "control")) _ _ (Some cmd) read (λ e g. worded levels cmd word (codes "control") more e (number_spelled levels ControlBy (λ fields. codes "control" ++ spaced fields) more cmd (λ n h. (h, contains_first _ [])) g)) (λ _ read.
    chosen (bytes_eq word (codes "uncontrol")) _ _ (Some cmd) read (λ e g. worded levels cmd word (codes "uncontrol") more e (number_spelled levels Uncontrol (λ fields. codes "uncontrol" ++ spaced fields) more cmd (λ n h. (h, contains_first _ [])) g)) (λ _ read.
    chosen (bytes_eq word (codes "join")) _ _ (Some cmd) read (λ e g. worded levels cmd word (codes "join") more e (word_spelled levels Join (codes "join") more cmd (tt, contains_first _ []) g)) (λ _ read.
    chosen (bytes_eq word (codes "stay")) _ _ (Some cmd) read (λ e g. worded levels cmd word (codes "stay") more e (word_spelled levels Stay (codes "stay") more cmd (tt, contains_first _ []) g)) (λ _ read.
    chosen (bytes_eq word (codes "leave")) _ _ (Some cmd) read (λ e g. worded levels cmd word (codes "leave") more e (word_spelled levels Leave (codes "leave") more cmd (tt, contains_first _ []) g)) (λ _ read.
    chosen (bytes_eq word (codes "show")) _ _ (Some cmd) read (λ e g. worded levels cmd word (codes "show") more e (number_spelled levels Show (λ fields. codes "show" ++ spaced fields) more cmd (λ n h. (h, contains_first _ [])) g)) (λ _ read.
    chosen (bytes_eq word (codes "lists")) _ _ (Some cmd) read (λ e g. worded levels cmd word (codes "lists") more e (word_spelled levels Lists (codes "lists") more cmd (tt, contains_first _ []) g)) (λ _ read.
    chosen (bytes_eq word (codes "limit")) _ _ (Some cmd) read (λ e g. worded levels cmd word (codes "limit") more e (word_spelled levels Limit (codes "limit") more cmd (tt, contains_first _ []) g)) (λ _ read. absurd (cc))))))))))))))

-- the fields of a text make it up
pub joined : (word : List ℕ) (more : List (List ℕ)) → join_with_byte 32 (word ∷ more) ≡ word ++ spaced more
joined word [] = sym (append-nil word)
joined word (field ∷ more) = refl

by_fields : (levels : ℕ) (text : List ℕ) (cmd : Cmd) (fields : List (List ℕ)) → text ≡ join_with_byte 32 fields → command_of levels fields ≡ Some cmd → Spelled levels cmd text
unfolding command_of
by_fields levels text cmd [] e read = absurd (cc)
by_fields levels text cmd (word ∷ more) e read = subst (λ t. Spelled levels cmd t) (sym (e ∙ joined word more)) (fields_spelled levels word more cmd read)

pub text_spelled : (levels : ℕ) (text : List ℕ) (cmd : Cmd) → command_of levels (slice_split is_space text) ≡ Some cmd → Spelled levels cmd text
text_spelled levels text cmd read = by_fields levels text cmd (slice_split is_space text) (sym (join_with_byte-slice_split 32 text)) read
