-- Parts of a history, one after the other.
use Rattle.std.proofs.Common.{◌≡◌, ℕ, ◌+◌, List, [], ◌∷◌, ◌++◌, length, append_assoc, length-append, refl, ap, sym, ◌∙◌, arith}
use Rattle.market_types.specs.declared.reply.Entry.{Entry}
use Rattle.edit_history.specs.declared.part.Part.{Part}
use Rattle.edit_history.specs.Parts.{AreInARow, joined}

-- of two splits of a list behind as many entries, the ends are the same
same-end : (xs ys zs ws : List Entry) → xs ++ zs ≡ ys ++ ws → length xs ≡ length ys → zs ≡ ws
same-end [] [] zs ws e n = e
same-end [] (y ∷ ys) zs ws e n = absurd (omega arith)
same-end (x ∷ xs) [] zs ws e n = absurd (omega arith)
same-end (x ∷ xs) (y ∷ ys) zs ws e n = let tail : xs ++ zs ≡ ys ++ ws = cc in same-end xs ys zs ws tail (omega arith)

none-left : (l : List Entry) → length l ≡ 0 → [] ≡ l
none-left [] n = refl
none-left (x ∷ xs) n = absurd (omega arith)

row-ends : (history before rest : List Entry) (from : ℕ) (parts : List Part) → history ≡ before ++ rest → length before ≡ from → AreInARow from parts history → joined parts ≡ rest
row-ends history before rest from [] is n row = none-left rest (omega (arith, length-append before rest, ap length is, n, row))
row-ends history before rest from (p ∷ ps) is n row =
    let x : List Entry = p.entries.items in
    let front : List Entry = row.1.0 in
    let after : List Entry = row.1.1 in
    let here : rest ≡ x ++ after = same-end before front rest (x ++ after) (sym is ∙ row.1.2) (n ∙ (sym row.0 ∙ sym row.1.3)) in
    let all : history ≡ (before ++ x) ++ after = is ∙ (ap (λ l. before ++ l) here ∙ sym (append_assoc before x after)) in
    ap (λ l. x ++ l) (row-ends history (before ++ x) after (from + length x) ps all (length-append before x ∙ ap (λ k. k + length x) n) row.2) ∙ sym here

pub row-is-all : (history : List Entry) (parts : List Part) → AreInARow 0 parts history → joined parts ≡ history
row-is-all history parts row = row-ends history [] history 0 parts refl refl row
