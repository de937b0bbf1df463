-- A list whose elements are changed one after the other.
use Rattle.std.proofs.Common.{◌≡◌, ℕ, ◌+◌, ◌<◌, ◌≤◌, List, [], ◌∷◌, ◌++◌, length, map, take, drop, set, get_or, sym, ap, ◌∙◌, arith, append_assoc, append-nil}
use Rattle.std.proofs.lemmas.List.{length-append, length-drop, length-map, length-take-le, drop_more, take_all, drop_all, map_more, get_or_at, set_at}

-- as many as there were
pub mapped-length : {X : Type 0} (f : X → X) (old xs : List X) (i : ℕ) → i ≤ length old → xs ≡ map f (take i old) ++ drop i old → length xs ≡ length old
mapped-length f old xs i within is =
    ap length is
    ∙ length-append (map f (take i old)) (drop i old)
    ∙ omega (arith, length-map (take i old) f, length-take-le i old within, length-drop i old)

pub mapped-more : {X : Type 0} (f : X → X) (old xs : List X) (i : ℕ) (x y : X) → i < length old → xs ≡ map f (take i old) ++ drop i old
    → x ≡ get_or xs i x → y ≡ f x → set xs i y ≡ map f (take (i + 1) old) ++ drop (i + 1) old
mapped-more f old xs i x y within is here made =
    ap (λ l. set l i y) split
    ∙ set_at (map f (take i old)) (get_or old i x) (drop (i + 1) old) y i front
    ∙ ap (λ z. map f (take i old) ++ z ∷ drop (i + 1) old) (made ∙ ap f (here ∙ ap (λ l. get_or l i x) split ∙ get_or_at (map f (take i old)) (get_or old i x) (drop (i + 1) old) x i front))
    ∙ sym (append_assoc (map f (take i old)) (f (get_or old i x) ∷ []) (drop (i + 1) old))
    ∙ ap (λ l. l ++ drop (i + 1) old) (sym (map_more f old i x within))
  where
    front : length (map f (take i old)) ≡ i
    front = length-map (take i old) f ∙ length-take-le i old (omega arith)

    split : xs ≡ map f (take i old) ++ get_or old i x ∷ drop (i + 1) old
    split = is ∙ ap (λ l. map f (take i old) ++ l) (drop_more old i x within)

pub mapped-all : {X : Type 0} (f : X → X) (old xs : List X) (i : ℕ) → length old ≤ i → xs ≡ map f (take i old) ++ drop i old → xs ≡ map f old
mapped-all f old xs i whole is =
    is ∙ (λ j. map f (take_all i old whole j) ++ drop_all i old whole j) ∙ append-nil (map f old)

-- as many elements are written over all that there were
pub written-over : {X : Type 0} (fresh old : List X) (n : ℕ) → n ≡ length old → length fresh ≡ length old → take n (fresh ++ drop (length fresh) old) ≡ fresh
written-over fresh old n all same =
    let none : drop (length fresh) old ≡ [] = drop_all (length fresh) old (omega (arith, same)) in
    ap (λ rest. take n (fresh ++ rest)) none ∙ ap (take n) (append-nil fresh) ∙ take_all n fresh (omega (arith, all, same))
