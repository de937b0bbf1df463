-- The words that a column, and the level at which an arena stands, are kept in. Private functions alone cite these words.
use Rattle.std.specs.Prelude.{◌≡◌, ℕ, zero, suc, ◌-◌, ◌^◌, ◌<◌, ◌≤◌, nat_le, if◌then◌else◌, Option, None, Some}
use Rattle.std.proofs.Common.{arith, inl, inr, refl, sym}
use Rattle.std.proofs.lemmas.Bool.{cases_lt, le-leb, lt-leb}
use Rattle.journal_chart.specs.declared.span.Span.{Span}

-- a least number, and how many of 32 bits lie above the most; where that is less than the least, there is none
abbrev pub of_words : ℕ → ℕ → Option Span
of_words least above = if nat_le least ((2 ^ 32 - 1) - above) then Some (record { least = least; most = (2 ^ 32 - 1) - above }) else None

-- then both words are the greatest; they have 32 bits
pub record HasNumbers (least above : ℕ) : Type 0 where
  pub none_least : (2 ^ 32 - 1) - above < least → least ≡ 2 ^ 32 - 1
  pub none_above : (2 ^ 32 - 1) - above < least → above ≡ 2 ^ 32 - 1
  pub small : above ≤ 2 ^ 32 - 1

-- the words that say this
abbrev pub least_word : Option Span → ℕ
least_word None = 2 ^ 32 - 1
least_word (Some s) = s.least

abbrev pub above_word : Option Span → ℕ
above_word None = 2 ^ 32 - 1
above_word (Some s) = (2 ^ 32 - 1) - s.most

-- words are those of what they say
pub words-back : (least above : ℕ) → HasNumbers least above → (least_word (of_words least above) ≡ least) × (above_word (of_words least above) ≡ above)
words-back least above h =
    elim (cases_lt ((2 ^ 32 - 1) - above) least) [
      | inl none ↦ rw (lt-leb least ((2 ^ 32 - 1) - above) none) (sym (h.none_least none), sym (h.none_above none))
      | inr some ↦ rw (le-leb least ((2 ^ 32 - 1) - above) (omega (arith, some))) (refl, omega (arith, h.small))
    ]

-- the number of a level, or 0 for none
abbrev pub of_level_word : ℕ → Option ℕ
of_level_word zero = None
of_level_word (suc n) = Some (suc n)

abbrev pub level_word : Option ℕ → ℕ
level_word None = 0
level_word (Some n) = n

pub level-word-back : (n : ℕ) → level_word (of_level_word n) ≡ n
level-word-back zero = refl
level-word-back (suc n) = refl
