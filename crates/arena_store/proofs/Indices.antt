-- The arenas of a level, by their indices.
use Rattle.std.proofs.Common.{◌≡◌, ◌≢◌, ℕ, zero, suc, ◌+◌, ◌<◌, ◌≤◌, eqb, ltb, List, [], ◌∷◌, length, get_or, take, map, Option, Some, None, refl, sym, ap, subst, ◌∙◌, arith, inl, inr}
use Rattle.std.specs.Prelude.{slice_get}
use Rattle.std.specs.List.{All}
use Rattle.std.specs.Option.{option_map}
use Rattle.std.proofs.lemmas.Bool.{cases_eq, cases_Bool, eq-eqb, ne_eqb, lt-ltb}
use Rattle.std.proofs.lemmas.List.Elements.{All-cons, All-filter, All-weaker}
use Rattle.std.proofs.lemmas.List.Sums.{sum_by-cons}
use Rattle.std.proofs.lemmas.Option.{slice_get_within, get_or_from_slice_get, slice_get-map, same_Some}
use Rattle.market_types.specs.declared.row.Row.{Row}
use Rattle.market_types.specs.State.{Arena}
use Rattle.market_types.specs.Claims.{request_of}
use Rattle.market_types.specs.Allotment.{at_level, total_request}
use Rattle.market_types.specs.Step.{arena_at}
use Rattle.market_types.specs.Rows.{requests}
use Rattle.arena_store.specs.Arenas.{newer, level_row, level_rows}
use Rattle.arena_store.specs.Store.{IsApart, IsNewestFirst}
use Rattle.arena_store.proofs.Found.{All-found, newer-none, AllPairs-head, AllPairs-tail}

-- ---- an arena of a level is found by its number

level-here : (l p : ℕ) (b : Arena) (bs : List Arena) (a : Arena) → All (λ (c : Arena). b.number ≢ c.number) bs
    → ((p : ℕ) → p < length (at_level l bs) → a ≡ get_or (at_level l bs) p a → arena_at a.number bs ≡ Some a)
    → p < length (b ∷ at_level l bs) → a ≡ get_or (b ∷ at_level l bs) p a → arena_at a.number (b ∷ bs) ≡ Some a
level-here l zero b bs a apart rec within e = rw (eq-eqb b.number a.number (ap (λ (x : Arena). x.number) (sym e))) (ap Some (sym e))
level-here l (suc p) b bs a apart rec within e =
    let later = rec p (omega arith) e in
    let other : b.number ≢ a.number = All-found (λ (c : Arena). b.number ≢ c.number) a.number bs a later apart in
    rw (ne_eqb b.number a.number other) later

level-found : (l p : ℕ) (arenas : List Arena) (a : Arena) → IsApart arenas → p < length (at_level l arenas) → a ≡ get_or (at_level l arenas) p a → arena_at a.number arenas ≡ Some a
level-found l p [] a apart within e = absurd (omega arith)
level-found l p (b ∷ bs) a apart within e =
    let R : Arena → Arena → Type 0 = λ (x y : Arena). x.number ≢ y.number in
    let rest : IsApart bs = AllPairs-tail R b bs apart in
    elim (cases_eq b.level l) [
      | inl same ↦
          let within' : p < length (b ∷ at_level l bs) = rw (eq-eqb b.level l same) at within in
          let e' : a ≡ get_or (b ∷ at_level l bs) p a = rw (eq-eqb b.level l same) at e in
          level-here l p b bs a (AllPairs-head R b bs apart) (λ q w f. level-found l q bs a rest w f) within' e'
      | inr m ↦
          let within' : p < length (at_level l bs) = rw (ne_eqb b.level l m) at within in
          let e' : a ≡ get_or (at_level l bs) p a = rw (ne_eqb b.level l m) at e in
          let later = level-found l p bs a rest within' e' in
          elim (cases_eq b.number a.number) [
            | inl f ↦ absurd (All-found (λ (c : Arena). b.number ≢ c.number) a.number bs a later (AllPairs-head R b bs apart) f)
            | inr g ↦ rw (ne_eqb b.number a.number g) later
          ]
    ]

pub level-at : (l p : ℕ) (arenas : List Arena) (a : Arena) → IsApart arenas → slice_get (at_level l arenas) p ≡ Some a → arena_at a.number arenas ≡ Some a
level-at l p arenas a apart e =
    level-found l p arenas a apart (slice_get_within (at_level l arenas) p a e) (sym (get_or_from_slice_get (at_level l arenas) p a a e))

-- the row at an index of a level's list names the arena there
walked : (level index : ℕ) (arenas : List Arena) (row : Row) → IsApart arenas → (o : Option Arena) → slice_get (at_level level arenas) index ≡ o → Some row ≡ option_map level_row o → arena_at row.arena arenas ≡ o
walked level index arenas row apart None f g = absurd (some-none row g)
  where
    some-none : (r : Row) → Some r ≡ None → ⊥
    some-none r h = cc
walked level index arenas row apart (Some a) f g = ap (λ (r : Row). arena_at r.arena arenas) (same_Some row (level_row a) g) ∙ level-at level index arenas a apart f

pub walk-found : (level index : ℕ) (arenas : List Arena) (row : Row) → IsApart arenas → Some row ≡ slice_get (level_rows level arenas) index → arena_at row.arena arenas ≡ slice_get (at_level level arenas) index
walk-found level index arenas row apart e =
    walked level index arenas row apart (slice_get (at_level level arenas) index) refl (e ∙ slice_get-map level_row (at_level level arenas) index)

-- where the list has no row the level has no arena
missed : (o : Option Arena) → ◌≡◌ {A = Option Row} None (option_map level_row o) → o ≡ None
missed None e = refl
missed (Some a) e = absurd (none-some (level_row a) e)
  where
    none-some : (r : Row) → ◌≡◌ {A = Option Row} None (Some r) → ⊥
    none-some r h = cc

pub walk-missing : (level index : ℕ) (arenas : List Arena) → ◌≡◌ {A = Option Row} None (slice_get (level_rows level arenas) index) → slice_get (at_level level arenas) index ≡ None
walk-missing level index arenas e = missed (slice_get (at_level level arenas) index) (e ∙ slice_get-map level_row (at_level level arenas) index)

-- ---- the arenas of a level before one are those that are newer

newer-here : (level p : ℕ) (b : Arena) (bs : List Arena) (a : Arena) → b.level ≡ level → All (λ (c : Arena). c.stamp < b.stamp) bs
    → ((q : ℕ) → q < length (at_level level bs) → a ≡ get_or (at_level level bs) q a → at_level level (newer a.stamp bs) ≡ take q (at_level level bs))
    → p < length (b ∷ at_level level bs) → a ≡ get_or (b ∷ at_level level bs) p a
    → at_level level (newer a.stamp (b ∷ bs)) ≡ take p (b ∷ at_level level bs)
newer-here level zero b bs a same older rec within e =
    let none : All (λ (c : Arena). c.stamp ≤ b.stamp) (b ∷ bs) = All-cons (λ (c : Arena). c.stamp ≤ b.stamp) b bs (omega arith) (All-weaker (λ (c : Arena). c.stamp < b.stamp) (λ (c : Arena). c.stamp ≤ b.stamp) (λ c h. omega arith) bs older) in
    ap (λ (x : Arena). at_level level (newer x.stamp (b ∷ bs))) e ∙ ap (at_level level) (newer-none b.stamp (b ∷ bs) none)
newer-here level (suc q) b bs a same older rec within e =
    let below : (get_or (at_level level bs) q a).stamp < b.stamp = All-filter (λ (c : Arena). eqb c.level level) (λ (c : Arena). c.stamp < b.stamp) bs older q a (omega arith) in
    let above : a.stamp < b.stamp = subst (λ (x : Arena). x.stamp < b.stamp) (sym e) below in
    rw (lt-ltb a.stamp b.stamp above) (rw (eq-eqb b.level level same) (ap (λ xs. b ∷ xs) (rec q (omega arith) e)))

newer-at : (level p : ℕ) (arenas : List Arena) (a : Arena) → IsNewestFirst arenas → p < length (at_level level arenas) → a ≡ get_or (at_level level arenas) p a
    → at_level level (newer a.stamp arenas) ≡ take p (at_level level arenas)
newer-at level p [] a newest within e = absurd (omega arith)
newer-at level p (b ∷ bs) a newest within e =
    let S : Arena → Arena → Type 0 = λ (x y : Arena). y.stamp < x.stamp in
    let rest : IsNewestFirst bs = AllPairs-tail S b bs newest in
    elim (cases_eq b.level level) [
      | inl same ↦
          let within' : p < length (b ∷ at_level level bs) = rw (eq-eqb b.level level same) at within in
          let e' : a ≡ get_or (b ∷ at_level level bs) p a = rw (eq-eqb b.level level same) at e in
          newer-here level p b bs a same (AllPairs-head S b bs newest) (λ q w f. newer-at level q bs a rest w f) within' e'
          ∙ sym (ap (take p) (rw (eq-eqb b.level level same) refl))
      | inr m ↦
          let within' : p < length (at_level level bs) = rw (ne_eqb b.level level m) at within in
          let e' : a ≡ get_or (at_level level bs) p a = rw (ne_eqb b.level level m) at e in
          let later = newer-at level p bs a rest within' e' in
          elim (cases_Bool (ltb a.stamp b.stamp)) [
            | inl t ↦ rw (t, ne_eqb b.level level m) later
            | inr f ↦ rw (f, ne_eqb b.level level m) later
          ]
    ]

pub newer-before : (level p : ℕ) (arenas : List Arena) (a : Arena) → IsNewestFirst arenas → slice_get (at_level level arenas) p ≡ Some a
    → at_level level (newer a.stamp arenas) ≡ take p (at_level level arenas)
newer-before level p arenas a newest e =
    newer-at level p arenas a newest (slice_get_within (at_level level arenas) p a e) (sym (get_or_from_slice_get (at_level level arenas) p a a e))

-- ---- what the arenas ask for

pub requests-rows : (xs : List Arena) → requests (map level_row xs) ≡ total_request xs
requests-rows [] = refl
requests-rows (x ∷ xs) =
    sum_by-cons (λ (r : Row). r.request) (level_row x) (map level_row xs) ∙ ap (λ n. request_of x.claim + n) (requests-rows xs) ∙ sym (sum_by-cons (λ (a : Arena). request_of a.claim) x xs)
