-- The arenas that words spell.
use Rattle.std.proofs.Common.{◌≡◌, ℕ, zero, suc, inl, inr, min, ◌+◌, ◌<◌, ◌≤◌, List, [], ◌∷◌, ◌++◌, length, map, take, get_or, Option, None, Some, refl, sym, ap, ◌∙◌, subst, arith, append-nil}
use Rattle.std.specs.List.{range_with_len}
use Rattle.std.specs.Prelude.{nat_le}
use Rattle.std.proofs.lemmas.Bool.{cases_Bool}
use Rattle.std.proofs.lemmas.Bool.Decides.{nat_tests}
use Rattle.std.proofs.lemmas.List.{map_more, map-id, take_all}
use Rattle.std.proofs.lemmas.List.FromFn.{map-range_with_len_more}
use Rattle.clap.specs.Words.{Text}
use Rattle.market_words.specs.Words.{AreSpelled, SpellEach, Spells, numbers_among}

each-more : (words : List Text) (ns : List (Option ℕ)) (word : Text) (n : Option ℕ) → SpellEach words ns → Spells word n → SpellEach (words ++ word ∷ []) (ns ++ n ∷ [])
each-more [] [] word n each one = (one, tt)
each-more (w ∷ words) (m ∷ ns) word n each one = (each.0, each-more words ns word n each.1 one)
each-more [] (m ∷ ns) word n each one = absurd each
each-more (w ∷ words) [] word n each one = absurd each

among-more : (ns : List (Option ℕ)) (n : Option ℕ) → numbers_among (ns ++ n ∷ []) ≡ numbers_among ns ++ numbers_among (n ∷ [])
among-more [] n = refl
among-more (None ∷ ns) n = among-more ns n
among-more (Some m ∷ ns) n = ap (λ l. m ∷ l) (among-more ns n)

-- one word more
pub spelled-more : (words : List Text) (word : Text) (n : Option ℕ) (arenas : List ℕ) → AreSpelled words arenas → Spells word n
    → AreSpelled (words ++ word ∷ []) (arenas ++ numbers_among (n ∷ []))
spelled-more words word n arenas s one =
    record {
      spelled = s.spelled ++ n ∷ [];
      each = each-more words s.spelled word n s.each one;
      are = ap (λ l. l ++ numbers_among (n ∷ [])) s.are ∙ sym (among-more s.spelled n);
    }

-- the next of some words
pub spelled-next : {X : Type 0} (text : X → Text) (xs : List X) (i : ℕ) (d : X) (n : Option ℕ) (arenas : List ℕ) → i < length xs
    → AreSpelled (map text (take i xs)) arenas → Spells (text (get_or xs i d)) n → AreSpelled (map text (take (i + 1) xs)) (arenas ++ numbers_among (n ∷ []))
spelled-next text xs i d n arenas within s one =
    subst (λ words. AreSpelled words (arenas ++ numbers_among (n ∷ []))) (sym (map_more text xs i d within))
    (spelled-more (map text (take i xs)) (text (get_or xs i d)) n arenas s one)

pub none-more : (words : List Text) (arenas : List ℕ) → AreSpelled words (arenas ++ []) → AreSpelled words arenas
none-more words arenas s = subst (AreSpelled words) (append-nil arenas) s

few-among : (words : List Text) (ns : List (Option ℕ)) → SpellEach words ns → length (numbers_among ns) ≤ length words
few-among [] [] each = omega arith
few-among (word ∷ words) (None ∷ ns) each = let few = few-among words ns each.1 in omega (arith, few)
few-among (word ∷ words) (Some n ∷ ns) each = let few = few-among words ns each.1 in omega (arith, few)
few-among [] (n ∷ ns) each = absurd each
few-among (word ∷ words) [] each = absurd each

-- no more than the words
pub spelled-few : (words : List Text) (arenas : List ℕ) → AreSpelled words arenas → length arenas ≤ length words
spelled-few words arenas s = let few = few-among words s.spelled s.each in omega (arith, few, ap length s.are)

-- one arena more of those that are opened first
pub first-more : (n : ℕ) (old new : List ℕ) → old ≡ range_with_len 1 n → new ≡ old ++ (n + 1) ∷ [] → new ≡ range_with_len 1 (n + 1)
first-more n old new is pushed =
    pushed ∙ ap (λ l. l ++ (n + 1) ∷ []) (is ∙ sym (map-id (range_with_len 1 n)))
    ∙ sym (map-range_with_len_more (λ (k : ℕ). k) 1 n (n + 1) (omega arith)) ∙ map-id (range_with_len 1 (n + 1))

take-least : {X : Type 0} (n : ℕ) (xs : List X) → take (min (length xs) n) xs ≡ take n xs
take-least n xs =
    elim (cases_Bool (nat_le (length xs) n)) [
      | inl within ↦
          let few : length xs ≤ n = grind (arith, nat_tests) in
          let least : min (length xs) n ≡ length xs = omega (arith, few) in
          ap (λ k. take k xs) least ∙ take_all (length xs) xs (omega arith) ∙ sym (take_all n xs few)
      | inr beyond ↦
          let many : n < length xs = grind (arith, nat_tests) in
          let least : min (length xs) n ≡ n = omega (arith, many) in
          ap (λ k. take k xs) least
    ]

take-mapped : {X Y : Type 0} (f : X → Y) (n : ℕ) (xs : List X) → map f (take n xs) ≡ take n (map f xs)
take-mapped f zero xs = refl
take-mapped f (suc n) [] = refl
take-mapped f (suc n) (x ∷ xs) = ap (λ l. f x ∷ l) (take-mapped f n xs)

-- the first of some words, where there are more
pub front-words : {X : Type 0} (text : X → Text) (m n : ℕ) (xs : List X) → m ≡ min (length xs) n → map text (take m xs) ≡ take n (map text xs)
front-words text m n xs is = ap (λ k. map text (take k xs)) is ∙ ap (map text) (take-least n xs) ∙ take-mapped text n xs
