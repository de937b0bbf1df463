-- What the writer's inner functions answer. No public clause has these words.
use Rattle.std.specs.Prelude.{◌≡◌, ℕ, Bool, true, false, List, [], ◌∷◌, ◌++◌, IsUtf8, codes, decimal}
use Rattle.market_types.specs.declared.reply.ArenaView.{ArenaView}
use Rattle.market_texts.specs.Texts.{count_text, counts_text}

-- what stood still stands, and some text may follow it
pub record Extends (before after : List ℕ) : Type 0 where
  pub more : List ℕ
  pub is : after ≡ before ++ more
  pub utf8 : IsUtf8 more

-- the part of an arena's view that counts seats
abbrev pub seats_text : ArenaView → List ℕ
seats_text v =
    codes " active " ++ (decimal v.active ++ (codes " recall " ++ (decimal v.recall ++ (codes " hire " ++ decimal v.hire))))

-- arenas and their counts, each behind a comma
abbrev pub more_counts_text : List (ℕ × ℕ) → List ℕ
more_counts_text [] = []
more_counts_text (e ∷ es) = codes "," ++ (count_text e ++ more_counts_text es)

-- a comma where something stands before it
abbrev pub comma_if : Bool → List ℕ
comma_if true = codes ","
comma_if false = []

-- what is still to be written of counts, where others were written before them or not
abbrev pub counts_left : Bool → List (ℕ × ℕ) → List ℕ
counts_left true es = more_counts_text es
counts_left false es = counts_text es
