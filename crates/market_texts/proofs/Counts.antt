-- Counts joined by commas.
use Rattle.std.proofs.Common.{◌≡◌, ℕ, Bool, true, false, List, [], ◌∷◌, ◌++◌, ap, sym, ◌∙◌, refl, append_assoc, append-nil}
use Rattle.market_texts.specs.Texts.{count_text, counts_text}
use Rattle.market_texts.specs.Written.{more_counts_text, comma_if, counts_left}

-- the first, and then each other behind a comma
counts-first : (e : ℕ × ℕ) (es : List (ℕ × ℕ)) → counts_text (e ∷ es) ≡ count_text e ++ more_counts_text es
counts-first e [] = sym (append-nil (count_text e))
counts-first e (f ∷ es) = ap (λ t. count_text e ++ (44 ∷ t)) (counts-first f es)

-- the next, and then each other behind a comma
counts-next : (begun : Bool) (e : ℕ × ℕ) (es : List (ℕ × ℕ)) → counts_left begun (e ∷ es) ≡ comma_if begun ++ (count_text e ++ more_counts_text es)
counts-next true e es = refl
counts-next false e es = counts-first e es

-- one count more
pub counts-step : (begun : Bool) (before comma after : List ℕ) (e : ℕ × ℕ) (now next : List (ℕ × ℕ)) → now ≡ e ∷ next → comma ≡ before ++ comma_if begun → after ≡ comma ++ count_text e
    → after ++ counts_left true next ≡ before ++ counts_left begun now
counts-step begun before comma after e now next split first second =
    let rest = more_counts_text next in
    ap (λ t. t ++ rest) second
    ∙ append_assoc comma (count_text e) rest
    ∙ ap (λ t. t ++ (count_text e ++ rest)) first
    ∙ append_assoc before (comma_if begun) (count_text e ++ rest)
    ∙ ap (λ t. before ++ t) (sym (counts-next begun e next))
    ∙ ap (λ l. before ++ counts_left begun l) (sym split)
