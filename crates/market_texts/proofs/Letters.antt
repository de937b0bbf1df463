-- A word told by its first letter.
use Rattle.std.proofs.Common.{◌≡◌, ◌≢◌, ℕ, ◌<◌, Bool, true, false, cond, List, [], ◌∷◌, slice_index, None, sym, refl, subst, arith, codes}
use Rattle.std.specs.List.{slice_split}
use Rattle.std.specs.Str.{bytes_eq}
use Rattle.std.proofs.lemmas.Bool.{ne_eqb}
use Rattle.market_texts.specs.Reading.{command_of, is_space}
use Rattle.market_texts.specs.Cuts.{first_field}
use Rattle.market_texts.proofs.Cuts.{text_fields}

-- the text spells no command
abbrev pub SpellsNone : List ℕ → Type 0
SpellsNone text = (levels : ℕ) → None ≡ command_of levels (slice_split is_space text)

-- the first field is another word
abbrev pub IsNot : List ℕ → List ℕ → Type 0
IsNot word text = bytes_eq (first_field text) word ≡ false

at_letter : (P : List ℕ → Type 0) (letter : ℕ) (text : List ℕ) → 0 < letter → slice_index text 0 ≡ letter → ((rest : List ℕ) → P (letter ∷ rest)) → P text
at_letter P letter [] l e h = absurd (omega arith)
at_letter P letter (b ∷ rest) l e h = subst (λ x. P (x ∷ rest)) (sym e) (h rest)

pub no_open : (text : List ℕ) → slice_index text 0 ≡ 111 → IsNot (codes "open") text → SpellsNone text
unfolding command_of
no_open text e = at_letter (λ t. IsNot (codes "open") t → SpellsNone t) 111 text (omega arith) e (λ rest h levels. rw (text_fields (111 ∷ rest), h) refl)

pub no_priority : (text : List ℕ) → slice_index text 0 ≡ 112 → IsNot (codes "priority") text → SpellsNone text
unfolding command_of
no_priority text e = at_letter (λ t. IsNot (codes "priority") t → SpellsNone t) 112 text (omega arith) e (λ rest h levels. rw (text_fields (112 ∷ rest), h) refl)

pub no_uncontrol : (text : List ℕ) → slice_index text 0 ≡ 117 → IsNot (codes "uncontrol") text → SpellsNone text
unfolding command_of
no_uncontrol text e = at_letter (λ t. IsNot (codes "uncontrol") t → SpellsNone t) 117 text (omega arith) e (λ rest h levels. rw (text_fields (117 ∷ rest), h) refl)

pub no_join : (text : List ℕ) → slice_index text 0 ≡ 106 → IsNot (codes "join") text → SpellsNone text
unfolding command_of
no_join text e = at_letter (λ t. IsNot (codes "join") t → SpellsNone t) 106 text (omega arith) e (λ rest h levels. rw (text_fields (106 ∷ rest), h) refl)

pub no_close_or_control : (text : List ℕ) → slice_index text 0 ≡ 99 → IsNot (codes "close") text → IsNot (codes "control") text → SpellsNone text
unfolding command_of
no_close_or_control text e = at_letter (λ t. IsNot (codes "close") t → IsNot (codes "control") t → SpellsNone t) 99 text (omega arith) e (λ rest h k levels. rw (text_fields (99 ∷ rest), h, k) refl)

pub no_request_or_resize : (text : List ℕ) → slice_index text 0 ≡ 114 → IsNot (codes "request") text → IsNot (codes "resize") text → SpellsNone text
unfolding command_of
no_request_or_resize text e = at_letter (λ t. IsNot (codes "request") t → IsNot (codes "resize") t → SpellsNone t) 114 text (omega arith) e (λ rest h k levels. rw (text_fields (114 ∷ rest), k, h) refl)

pub no_stay_or_show : (text : List ℕ) → slice_index text 0 ≡ 115 → IsNot (codes "stay") text → IsNot (codes "show") text → SpellsNone text
unfolding command_of
no_stay_or_show text e = at_letter (λ t. IsNot (codes "stay") t → IsNot (codes "show") t → SpellsNone t) 115 text (omega arith) e (λ rest h k levels. rw (text_fields (115 ∷ rest), h, k) refl)

pub no_leave_lists_or_limit : (text : List ℕ) → slice_index text 0 ≡ 108 → IsNot (codes "leave") text → IsNot (codes "lists") text → IsNot (codes "limit") text → SpellsNone text
unfolding command_of
no_leave_lists_or_limit text e = at_letter (λ t. IsNot (codes "leave") t → IsNot (codes "lists") t → IsNot (codes "limit") t → SpellsNone t) 108 text (omega arith) e (λ rest h k i levels. rw (text_fields (108 ∷ rest), h, k, i) refl)

no_letter_by : (space : Bool) (b : ℕ) (field : List ℕ) (fields : List (List ℕ)) (levels : ℕ) → (b ≢ 111) → (b ≢ 112) → (b ≢ 117) → (b ≢ 106) → (b ≢ 99) → (b ≢ 114) → (b ≢ 115) → (b ≢ 108) → None ≡ command_of levels (cond space [] (b ∷ field) ∷ fields)
unfolding command_of
no_letter_by true b field fields levels o p u j c r s l = refl
no_letter_by false b field fields levels o p u j c r s l =
    rw (ne_eqb b 111 o, ne_eqb b 99 c, ne_eqb b 112 p, ne_eqb b 114 r, ne_eqb b 117 u, ne_eqb b 106 j, ne_eqb b 115 s, ne_eqb b 108 l) refl

pub no_letter : (text : List ℕ) → (slice_index text 0 ≢ 111) → (slice_index text 0 ≢ 112) → (slice_index text 0 ≢ 117) → (slice_index text 0 ≢ 106) → (slice_index text 0 ≢ 99) → (slice_index text 0 ≢ 114) → (slice_index text 0 ≢ 115) → (slice_index text 0 ≢ 108) → SpellsNone text
unfolding command_of
no_letter [] o p u j c r s l levels = refl
no_letter (b ∷ rest) o p u j c r s l levels = rw (text_fields (b ∷ rest)) (no_letter_by (is_space b) b (first_field rest) _ levels o p u j c r s l)
