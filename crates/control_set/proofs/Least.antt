use Rattle.std.proofs.Common.{◌≡◌, ℕ, ◌≤◌, min, List, [], ◌∷◌, Option, map, arith}
use Rattle.std.specs.Prelude.{unwrap_or}
use Rattle.std.specs.List.{fold, All}
use Rattle.std.proofs.lemmas.List.Elements.{All-head, All-tail}
use Rattle.market_types.specs.State.{Control}
use Rattle.control_set.specs.Controls.{least_of}

abbrev pub InRange : Control → Type 0
InRange d = (1 ≤ d.value) × (d.value ≤ 65536)

-- the least of values that are in their range is too
fold-in_range : (v : ℕ) (xs : List Control) → (1 ≤ v) × (v ≤ 65536) → All InRange xs
    → (1 ≤ fold min v (map (λ (d : Control). d.value) xs)) × (fold min v (map (λ (d : Control). d.value) xs) ≤ 65536)
fold-in_range v [] h all = h
fold-in_range v (x ∷ xs) h all =
    let here : (1 ≤ x.value) × (x.value ≤ 65536) = All-head InRange x xs all in
    fold-in_range (min v x.value) xs (omega arith, omega arith) (All-tail InRange x xs all)

pub least-low : (least : Option ℕ) (controls : List Control) (base : ℕ) → least ≡ least_of controls → All InRange controls → 1 ≤ base → 1 ≤ unwrap_or least base
least-low least [] base e all h = rw e h
least-low least (x ∷ xs) base e all h = rw e ((fold-in_range x.value xs (All-head InRange x xs all) (All-tail InRange x xs all)).0)

pub least-high : (least : Option ℕ) (controls : List Control) (base : ℕ) → least ≡ least_of controls → All InRange controls → base ≤ 65536 → unwrap_or least base ≤ 65536
least-high least [] base e all h = rw e h
least-high least (x ∷ xs) base e all h = rw e ((fold-in_range x.value xs (All-head InRange x xs all) (All-tail InRange x xs all)).1)
