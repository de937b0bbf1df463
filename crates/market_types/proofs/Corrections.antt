-- Arenas with workers too many or too few, as lists of each kind.
use Rattle.std.proofs.Common.{◌≡◌, ℕ, ◌+◌, ◌<◌, Bool, true, false, not, List, ◌∷◌, ◌++◌, map, length, get_or, drop, drop-cons, add-one, refl, ap, ◌∙◌, arith}
use Rattle.std.specs.List.{filter}
use Rattle.std.proofs.lemmas.List.{map-append, length-map}
use Rattle.std.proofs.lemmas.List.Elements.{filter-append}
use Rattle.std.proofs.lemmas.List.Filters.{length-filter_both}
use Rattle.market_types.specs.declared.lists.Correction.{Correction}
use Rattle.market_types.specs.declared.lists.Correction.TheVariants.{Recall, Hire}
use Rattle.market_types.specs.declared.lists.Imbalance.{Imbalance}
use Rattle.market_types.specs.Corrections.{is_same, counts_to}

abbrev needs : Correction → Imbalance → Bool
needs correction a = is_same a.correction correction

abbrev counted : Imbalance → ℕ × ℕ
counted a = (a.arena, a.count)

-- more arenas at the end
pub counts_append : (correction : Correction) (xs ys : List Imbalance) → counts_to correction (xs ++ ys) ≡ counts_to correction xs ++ counts_to correction ys
counts_append correction xs ys = ap (map counted) (filter-append (needs correction) xs ys) ∙ map-append counted (filter (needs correction) xs) (filter (needs correction) ys)

-- each arena is of one kind
other-kind : (c : Correction) → is_same c Hire ≡ not (is_same c Recall)
other-kind Recall = refl
other-kind Hire = refl

pub both_kinds : (xs : List Imbalance) → length (counts_to Recall xs) + length (counts_to Hire xs) ≡ length xs
both_kinds xs =
    let recalls : length (counts_to Recall xs) ≡ length (filter (needs Recall) xs) = length-map (filter (needs Recall) xs) counted in
    let hires : length (counts_to Hire xs) ≡ length (filter (needs Hire) xs) = length-map (filter (needs Hire) xs) counted in
    omega (arith, length-filter_both (needs Recall) (needs Hire) (λ a. other-kind a.correction) xs)

-- ---- the arena at an index, and those behind it

next-is : (arenas : List Imbalance) (i : ℕ) (a : Imbalance) → i < length arenas → a ≡ get_or arenas i a → drop i arenas ≡ a ∷ drop (i + 1) arenas
next-is arenas i a h is = rw (add-one, drop-cons arenas i a, ← is) refl

pub counts_here : (correction : Correction) (arenas : List Imbalance) (i : ℕ) (a : Imbalance) → i < length arenas → a ≡ get_or arenas i a → is_same a.correction correction ≡ true
    → counts_to correction (drop i arenas) ≡ (a.arena, a.count) ∷ counts_to correction (drop (i + 1) arenas)
counts_here correction arenas i a h is same = ap (counts_to correction) (next-is arenas i a h is) ∙ rw same refl

pub counts_past : (correction : Correction) (arenas : List Imbalance) (i : ℕ) (a : Imbalance) → i < length arenas → a ≡ get_or arenas i a → is_same a.correction correction ≡ false
    → counts_to correction (drop i arenas) ≡ counts_to correction (drop (i + 1) arenas)
counts_past correction arenas i a h is other = ap (counts_to correction) (next-is arenas i a h is) ∙ rw other refl
