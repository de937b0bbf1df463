-- Two lists whose elements are changed together, one after the other.
use Rattle.std.proofs.Common.{◌≡◌, ℕ, zero, suc, ◌+◌, ◌<◌, ◌≤◌, List, [], ◌∷◌, ◌++◌, length, map, take, drop, set, get_or, refl, sym, ap, ◌∙◌, subst, arith, append-nil}
use Rattle.std.specs.List.{All}
use Rattle.std.proofs.lemmas.List.{take-append-drop, take_all, drop_all}
use Rattle.journal_chart.specs.Steps.{pairwise}

length-set : {X : Type 0} (xs : List X) (i : ℕ) (x : X) → length (set xs i x) ≡ length xs
length-set [] i x = refl
length-set (z ∷ zs) zero x = refl
length-set (z ∷ zs) (suc i) x = ap (λ n. suc n) (length-set zs i x)

set-self : {X : Type 0} (xs : List X) (i : ℕ) (x : X) → x ≡ get_or xs i x → set xs i x ≡ xs
set-self [] i x is = refl
set-self (z ∷ zs) zero x is = ap (λ y. y ∷ zs) is
set-self (z ∷ zs) (suc i) x is = ap (λ ys. z ∷ ys) (set-self zs i x is)

-- what stands at a place, whatever would stand beyond the last
pub get-any : {X : Type 0} (xs : List X) (i : ℕ) (d e : X) → i < length xs → get_or xs i d ≡ get_or xs i e
get-any [] i d e inside = absurd (omega (arith, inside))
get-any (x ∷ xs) zero d e inside = refl
get-any (x ∷ xs) (suc i) d e inside = get-any xs i d e (omega (arith, inside))

-- what is behind a place
drop-set : {X : Type 0} (xs : List X) (i : ℕ) (x : X) → drop (suc i) (set xs i x) ≡ drop (suc i) xs
drop-set [] i x = refl
drop-set (z ∷ zs) zero x = refl
drop-set (z ∷ zs) (suc i) x = drop-set zs i x

drop-of : {X : Type 0} (xs : List X) (i : ℕ) → drop (suc i) xs ≡ drop 1 (drop i xs)
drop-of [] zero = refl
drop-of [] (suc i) = refl
drop-of (z ∷ zs) zero = refl
drop-of (z ∷ zs) (suc i) = drop-of zs i

drop-next : {X : Type 0} (xs ys : List X) (i : ℕ) → drop i xs ≡ drop i ys → drop (suc i) xs ≡ drop (suc i) ys
drop-next xs ys i same = drop-of xs i ∙ ap (drop 1) same ∙ sym (drop-of ys i)

module _ {X Y : Type 0} (f : X → Y → X × Y) where
  -- those up to a place are changed, and those behind it are as they were
  pub record Paired (xs0 : List X) (ys0 : List Y) (xs : List X) (ys : List Y) (i : ℕ) : Type 0 where
    pub same : length ys ≡ length xs
    pub count : length xs ≡ length xs0
    pub first : take i xs ++ (pairwise f (drop i xs) (drop i ys)).0 ≡ (pairwise f xs0 ys0).0
    pub second : take i ys ++ (pairwise f (drop i xs) (drop i ys)).1 ≡ (pairwise f xs0 ys0).1
    pub rest : drop i xs ≡ drop i xs0

  first-more : (i : ℕ) (xs : List X) (ys : List Y) (x : X) (y : Y) → i < length xs → i < length ys → x ≡ get_or xs i x → y ≡ get_or ys i y
      → take (suc i) (set xs i (f x y).0) ++ (pairwise f (drop (suc i) (set xs i (f x y).0)) (drop (suc i) (set ys i (f x y).1))).0
      ≡ take i xs ++ (pairwise f (drop i xs) (drop i ys)).0
  first-more i [] ys x y inside inside' x_is y_is = absurd (omega (arith, inside))
  first-more i (z ∷ zs) [] x y inside inside' x_is y_is = absurd (omega (arith, inside'))
  first-more zero (z ∷ zs) (w ∷ ws) x y inside inside' x_is y_is = λ i. (f (x_is i) (y_is i)).0 ∷ (pairwise f zs ws).0
  first-more (suc i) (z ∷ zs) (w ∷ ws) x y inside inside' x_is y_is = ap (λ rest. z ∷ rest) (first-more i zs ws x y (omega (arith, inside)) (omega (arith, inside')) x_is y_is)

  second-more : (i : ℕ) (xs : List X) (ys : List Y) (x : X) (y : Y) → i < length xs → i < length ys → x ≡ get_or xs i x → y ≡ get_or ys i y
      → take (suc i) (set ys i (f x y).1) ++ (pairwise f (drop (suc i) (set xs i (f x y).0)) (drop (suc i) (set ys i (f x y).1))).1
      ≡ take i ys ++ (pairwise f (drop i xs) (drop i ys)).1
  second-more i [] ys x y inside inside' x_is y_is = absurd (omega (arith, inside))
  second-more i (z ∷ zs) [] x y inside inside' x_is y_is = absurd (omega (arith, inside'))
  second-more zero (z ∷ zs) (w ∷ ws) x y inside inside' x_is y_is = λ i. (f (x_is i) (y_is i)).1 ∷ (pairwise f zs ws).1
  second-more (suc i) (z ∷ zs) (w ∷ ws) x y inside inside' x_is y_is = ap (λ rest. w ∷ rest) (second-more i zs ws x y (omega (arith, inside)) (omega (arith, inside')) x_is y_is)

  pub paired-none : (xs : List X) (ys : List Y) → length ys ≡ length xs → Paired xs ys xs ys 0
  paired-none xs ys same = record { same = same; count = refl; first = refl; second = refl; rest = refl }

  -- the next two are changed
  pub paired-more : (xs0 : List X) (ys0 : List Y) (xs : List X) (ys : List Y) (i : ℕ) (x x' : X) (y y' : Y) → Paired xs0 ys0 xs ys i → i < length xs
      → x ≡ get_or xs i x → y ≡ get_or ys i y → (x', y') ≡ f x y → Paired xs0 ys0 (set xs i x') (set ys i y') (i + 1)
  paired-more xs0 ys0 xs ys i x x' y y' h inside x_is y_is made =
      let inside' : i < length ys = omega (arith, inside, h.same) in
      let next : suc i ≡ i + 1 = omega arith in
      let x_made : (f x y).0 ≡ x' = λ j. (sym made j).0 in
      let y_made : (f x y).1 ≡ y' = λ j. (sym made j).1 in
      let due : Paired xs0 ys0 (set xs i (f x y).0) (set ys i (f x y).1) (suc i) =
      record {
        same = length-set ys i _ ∙ h.same ∙ sym (length-set xs i _);
        count = length-set xs i _ ∙ h.count;
        first = first-more i xs ys x y inside inside' x_is y_is ∙ h.first;
        second = second-more i xs ys x y inside inside' x_is y_is ∙ h.second;
        rest = drop-set xs i _ ∙ drop-next xs xs0 i h.rest;
      } in
      subst (λ n. Paired xs0 ys0 (set xs i x') (set ys i y') n) next
      (subst (λ (p : X). Paired xs0 ys0 (set xs i p) (set ys i y') (suc i)) x_made (subst (λ (q : Y). Paired xs0 ys0 (set xs i (f x y).0) (set ys i q) (suc i)) y_made due))

  -- the next two stay as they are
  pub paired-still : (xs0 : List X) (ys0 : List Y) (xs : List X) (ys : List Y) (i : ℕ) (x : X) (y : Y) → Paired xs0 ys0 xs ys i → i < length xs
      → x ≡ get_or xs i x → y ≡ get_or ys i y → (x, y) ≡ f x y → Paired xs0 ys0 xs ys (i + 1)
  paired-still xs0 ys0 xs ys i x y h inside x_is y_is made =
      subst (λ (zs : List X). Paired xs0 ys0 zs ys (i + 1)) (set-self xs i x x_is)
      (subst (λ (ws : List Y). Paired xs0 ys0 (set xs i x) ws (i + 1)) (set-self ys i y y_is) (paired-more xs0 ys0 xs ys i x x y y h inside x_is y_is made))

  pub paired-all : (xs0 : List X) (ys0 : List Y) (xs : List X) (ys : List Y) (i : ℕ) → Paired xs0 ys0 xs ys i → length xs ≤ i
      → (xs ≡ (pairwise f xs0 ys0).0) × (ys ≡ (pairwise f xs0 ys0).1)
  paired-all xs0 ys0 xs ys i h all =
      let all' : length ys ≤ i = omega (arith, all, h.same) in
      let none : drop i xs ≡ [] = drop_all i xs all in
      let none' : drop i ys ≡ [] = drop_all i ys all' in (
        sym (append-nil xs) ∙ (λ j. sym (take_all i xs all) j ++ (pairwise f (sym none j) (sym none' j)).0) ∙ h.first,
        sym (append-nil ys) ∙ (λ j. sym (take_all i ys all') j ++ (pairwise f (sym none j) (sym none' j)).1) ∙ h.second,
      )

-- where all elements stay as they are, whatever the other is
pub still-all : {X Y : Type 0} (f : X → Y → X × Y) (xs : List X) (ys : List Y) → All (λ (x : X). (y : Y) → f x y ≡ (x, y)) xs → pairwise f xs ys ≡ (xs, ys)
still-all f [] ys h = refl
still-all f (x ∷ xs) [] h = refl
still-all f (x ∷ xs) (y ∷ ys) h =
    let here : f x y ≡ (x, y) = h 0 x (omega arith) y in
    let rest : pairwise f xs ys ≡ (xs, ys) = still-all f xs ys (λ k d inside. h (suc k) d (omega (arith, inside))) in
    λ i. ((here i).0 ∷ (rest i).0, (here i).1 ∷ (rest i).1)

-- those up to a place are changed, and those behind it stay as they are
pub paired-part : {X Y : Type 0} (f : X → Y → X × Y) (xs0 : List X) (ys0 : List Y) (xs : List X) (ys : List Y) (i : ℕ) → Paired f xs0 ys0 xs ys i
    → All (λ (x : X). (y : Y) → f x y ≡ (x, y)) (drop i xs0) → (xs ≡ (pairwise f xs0 ys0).0) × (ys ≡ (pairwise f xs0 ys0).1)
paired-part f xs0 ys0 xs ys i h still =
    let here : All (λ x. (y : _) → f x y ≡ (x, y)) (drop i xs) = subst (All (λ x. (y : _) → f x y ≡ (x, y))) (sym h.rest) still in
    let rest : pairwise f (drop i xs) (drop i ys) ≡ (drop i xs, drop i ys) = still-all f (drop i xs) (drop i ys) here in (
      sym (take-append-drop i xs) ∙ (λ j. take i xs ++ (sym rest j).0) ∙ h.first,
      sym (take-append-drop i ys) ∙ (λ j. take i ys ++ (sym rest j).1) ∙ h.second,
    )

-- where what becomes of an element does not depend on the other
pub pairwise-map : {X Y : Type 0} (f : X → X) (g : X → Y) (xs : List X) (ys : List Y) → length ys ≡ length xs
    → pairwise (λ (x : X) (y : Y). (f x, g x)) xs ys ≡ (map f xs, map g xs)
pairwise-map f g [] [] same = refl
pairwise-map f g [] (y ∷ ys) same = absurd (omega (arith, same))
pairwise-map f g (x ∷ xs) [] same = absurd (omega (arith, same))
pairwise-map f g (x ∷ xs) (y ∷ ys) same =
    let rest = pairwise-map f g xs ys (omega (arith, same)) in
    λ i. (f x ∷ (rest i).0, g x ∷ (rest i).1)

-- one element is changed, and the others stay as they are
pub pairwise-one : {X Y : Type 0} (f : X → Y → X × Y) (xs : List X) (ys : List Y) (i : ℕ) (x x' : X) (y y' : Y) → length ys ≡ length xs → i < length xs
    → x ≡ get_or xs i x → y ≡ get_or ys i y → (x', y') ≡ f x y
    → ((j : ℕ) (d : X) → j < length xs → (j ≡ i → ⊥) → (w : Y) → f (get_or xs j d) w ≡ (get_or xs j d, w))
    → (set xs i x' ≡ (pairwise f xs ys).0) × (set ys i y' ≡ (pairwise f xs ys).1)
pairwise-one f [] ys i x x' y y' same inside x_is y_is made others = absurd (omega (arith, inside))
pairwise-one f (z ∷ zs) [] i x x' y y' same inside x_is y_is made others = absurd (omega (arith, same))
pairwise-one f (z ∷ zs) (w ∷ ws) zero x x' y y' same inside x_is y_is made others =
    let rest : pairwise f zs ws ≡ (zs, ws) = still-all f zs ws (λ k d within v. others (suc k) d (omega (arith, within)) (λ e. omega (arith, e)) v) in
    let here : (x', y') ≡ f z w = made ∙ (λ j. f (x_is j) (y_is j)) in
    ((λ j. (here j).0 ∷ (sym rest j).0), (λ j. (here j).1 ∷ (sym rest j).1))
pairwise-one f (z ∷ zs) (w ∷ ws) (suc i) x x' y y' same inside x_is y_is made others =
    let head : f z w ≡ (z, w) = others 0 z (omega arith) (λ e. omega (arith, e)) w in
    let more =
    pairwise-one f zs ws i x x' y y' (omega (arith, same)) (omega (arith, inside)) x_is y_is made
    (λ j d within apart v. others (suc j) d (omega (arith, within)) (λ e. apart (omega (arith, e))) v) in
    ((λ j. (sym head j).0 ∷ more.0 j), (λ j. (sym head j).1 ∷ more.1 j))
