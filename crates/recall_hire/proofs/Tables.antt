use Rattle.std.proofs.Common.{◌≡◌, ℕ, zero, suc, ◌+◌, ◌-◌, ◌<◌, ◌≤◌, Bool, true, false, cond, eqb, List, [], ◌∷◌, ◌++◌, length, get_or, set, Some, refl, sym, ap, subst, ◌∙◌, arith, inl, inr}
use Rattle.std.specs.List.{sum_by, remove, swap_remove, All}
use Rattle.std.proofs.lemmas.Bool.{cases_eq, eq-eqb, ne_eqb}
use Rattle.std.proofs.lemmas.List.Sums.{sum_by-cons, sum_by_push, sum_by-set, sum_by-remove, sum_by-swap_remove, get_or-le-sum_by}
use Rattle.std.proofs.lemmas.List.Elements.{All-head, All-tail, All-get_or, All-set, All-push, All-take}
use Rattle.recall_hire.specs.declared.crowd.Crowd.{Crowd}
use Rattle.recall_hire.specs.Crowds.{IsTable, arena_at, size_at, total_size, one_if}

abbrev at_arena : ℕ → Crowd → ℕ
at_arena a c = cond (eqb c.arena a) c.size 0

abbrev one_at : ℕ → Crowd → ℕ
one_at a c = cond (eqb c.arena a) 1 0

abbrev size : Crowd → ℕ
size c = c.size

abbrev Filled : Crowd → Type 0
Filled c = 1 ≤ c.size

-- ---- the crowd at a place

pub at-place : (crowds : List Crowd) (place a : ℕ) (c : Crowd) → arena_at place crowds ≡ Some a → c ≡ get_or crowds place c → (place < length crowds) × (c.arena ≡ a)
at-place [] place a c e f = cc
at-place (x ∷ xs) zero a c e f = let g : Some x.arena ≡ Some a = e in let h : c ≡ x = f in (omega arith, cc)
at-place (x ∷ xs) (suc place) a c e f = let rest = at-place xs place a c e f in (omega arith, rest.1)

-- two readings of it
pub same-size : (crowds : List Crowd) (place a : ℕ) (c d : Crowd) → arena_at place crowds ≡ Some a → c ≡ get_or crowds place c → d ≡ get_or crowds place d → c.size ≡ d.size
same-size [] place a c d e f g = cc
same-size (x ∷ xs) zero a c d e f g = ap size (f ∙ sym g)
same-size (x ∷ xs) (suc place) a c d e f g = same-size xs place a c d e f g

pub filled-at : (crowds : List Crowd) (place a : ℕ) (c : Crowd) → All Filled crowds → arena_at place crowds ≡ Some a → c ≡ get_or crowds place c → 1 ≤ c.size
filled-at crowds place a c h e f =
    let here = at-place crowds place a c e f in
    subst Filled (sym f) (All-get_or Filled crowds place c here.0 h)

-- no crowd of an arena has its seats
none-at : (a : ℕ) (crowds : List Crowd) → sum_by (one_at a) crowds ≡ 0 → size_at a crowds ≡ 0
none-at a [] e = refl
none-at a (x ∷ xs) e =
    let counts : sum_by (one_at a) (x ∷ xs) ≡ one_at a x + sum_by (one_at a) xs = sum_by-cons (one_at a) x xs in
    let sizes : size_at a (x ∷ xs) ≡ at_arena a x + size_at a xs = sum_by-cons (at_arena a) x xs in
    elim (cases_eq x.arena a) [
      | inl same ↦ let one : one_at a x ≡ 1 = rw (eq-eqb x.arena a same) refl in absurd (omega arith)
      | inr other ↦
          let none : at_arena a x ≡ 0 = rw (ne_eqb x.arena a other) refl in
          omega (arith, none-at a xs (omega arith))
    ]

-- an arena without seats has no crowd
pub none-of : (a : ℕ) (crowds : List Crowd) → All Filled crowds → size_at a crowds ≡ 0 → sum_by (one_at a) crowds ≡ 0
none-of a [] h e = refl
none-of a (x ∷ xs) h e =
    let counts : sum_by (one_at a) (x ∷ xs) ≡ one_at a x + sum_by (one_at a) xs = sum_by-cons (one_at a) x xs in
    let sizes : size_at a (x ∷ xs) ≡ at_arena a x + size_at a xs = sum_by-cons (at_arena a) x xs in
    let filled : 1 ≤ x.size = All-head Filled x xs h in
    elim (cases_eq x.arena a) [
      | inl same ↦ let all : at_arena a x ≡ x.size = rw (eq-eqb x.arena a same) refl in absurd (omega arith)
      | inr other ↦
          let none : one_at a x ≡ 0 = rw (ne_eqb x.arena a other) refl in
          omega (arith, none-of a xs (All-tail Filled x xs h) (omega arith))
    ]

-- an arena's only crowd has all its seats
pub size-here : (crowds : List Crowd) (place a : ℕ) (c : Crowd) → IsTable crowds → arena_at place crowds ≡ Some a → c ≡ get_or crowds place c → c.size ≡ size_at a crowds
size-here crowds place a c table e f =
    let here = at-place crowds place a c e f in
    let yes : eqb c.arena a ≡ true = eq-eqb c.arena a here.1 in
    let counts : sum_by (one_at a) (remove crowds place) + one_at a (get_or crowds place c) ≡ sum_by (one_at a) crowds = sum_by-remove (one_at a) crowds place c here.0 in
    let sizes : size_at a (remove crowds place) + at_arena a (get_or crowds place c) ≡ size_at a crowds = sum_by-remove (at_arena a) crowds place c here.0 in
    let one : one_at a (get_or crowds place c) ≡ 1 = ap (one_at a) (sym f) ∙ rw yes refl in
    let all : at_arena a (get_or crowds place c) ≡ c.size = ap (at_arena a) (sym f) ∙ rw yes refl in
    let few : sum_by (one_at a) crowds ≤ 1 = table.single a in
    omega (arith, none-at a (remove crowds place) (omega arith))

-- there are no more crowds than seats
pub crowds-few : (crowds : List Crowd) → All Filled crowds → length crowds ≤ total_size crowds
crowds-few [] h = omega arith
crowds-few (x ∷ xs) h =
    let filled : 1 ≤ x.size = All-head Filled x xs h in
    omega (arith, sum_by-cons size x xs, crowds-few xs (All-tail Filled x xs h))

pub size-few : (crowds : List Crowd) (place a : ℕ) (c : Crowd) → arena_at place crowds ≡ Some a → c ≡ get_or crowds place c → c.size ≤ total_size crowds
size-few crowds place a c e f =
    let here = at-place crowds place a c e f in
    let whole : size (get_or crowds place c) ≤ total_size crowds = get_or-le-sum_by size crowds place c here.0 in
    let same : size (get_or crowds place c) ≡ c.size = ap size (sym f) in
    omega arith

-- ---- a crowd of another size

set-sum : (f : Crowd → ℕ) (crowds : List Crowd) (place a : ℕ) (c x : Crowd) → arena_at place crowds ≡ Some a → c ≡ get_or crowds place c
    → sum_by f (set crowds place x) + f c ≡ sum_by f crowds + f x
set-sum f crowds place a c x e g =
    let here = at-place crowds place a c e g in
    let whole : sum_by f (set crowds place x) + f (get_or crowds place c) ≡ sum_by f crowds + f x = sum_by-set f crowds place x c here.0 in
    let same : f (get_or crowds place c) ≡ f c = ap f (sym g) in
    omega arith

abbrev pub resized : Crowd → ℕ → Crowd
resized c n = record { arena = c.arena; size = n }

pub table-resized : (crowds : List Crowd) (place a n : ℕ) (c : Crowd) → IsTable crowds → arena_at place crowds ≡ Some a → c ≡ get_or crowds place c → 1 ≤ n → IsTable (set crowds place (resized c n))
table-resized crowds place a n c table e f low =
    record {
      single = λ b.
          let whole : sum_by (one_at b) (set crowds place (resized c n)) + one_at b c ≡ sum_by (one_at b) crowds + one_at b c = set-sum (one_at b) crowds place a c (resized c n) e f in
          let few : sum_by (one_at b) crowds ≤ 1 = table.single b in
          omega arith;
      filled = All-set Filled crowds place (resized c n) low table.filled;
    }

up : (b : Bool) (s s' n : ℕ) → s' + cond b n 0 ≡ s + cond b (n + 1) 0 → s' ≡ s + cond b 1 0
up true s s' n e = omega arith
up false s s' n e = omega arith

down : (b : Bool) (s s' n : ℕ) → 1 ≤ n → s' + cond b n 0 ≡ s + cond b (n - 1) 0 → s ≡ s' + cond b 1 0
down true s s' n low e = omega arith
down false s s' n low e = omega arith

out : (b : Bool) (s s' n : ℕ) → n ≡ 1 → s' + cond b n 0 ≡ s → s ≡ s' + cond b 1 0
out true s s' n low e = omega arith
out false s s' n low e = omega arith

pub sizes-up : (crowds : List Crowd) (place a b : ℕ) (c : Crowd) → arena_at place crowds ≡ Some a → c ≡ get_or crowds place c
    → size_at b (set crowds place (resized c (c.size + 1))) ≡ size_at b crowds + one_if (eqb a b)
sizes-up crowds place a b c e f =
    let here = at-place crowds place a c e f in
    up (eqb c.arena b) (size_at b crowds) (size_at b (set crowds place (resized c (c.size + 1)))) c.size (set-sum (at_arena b) crowds place a c (resized c (c.size + 1)) e f)
    ∙ ap (λ x. size_at b crowds + one_if (eqb x b)) here.1

pub total-up : (crowds : List Crowd) (place a : ℕ) (c : Crowd) → arena_at place crowds ≡ Some a → c ≡ get_or crowds place c
    → total_size (set crowds place (resized c (c.size + 1))) ≡ total_size crowds + 1
total-up crowds place a c e f =
    let whole : total_size (set crowds place (resized c (c.size + 1))) + c.size ≡ total_size crowds + (c.size + 1) = set-sum size crowds place a c (resized c (c.size + 1)) e f in
    omega arith

pub sizes-down : (crowds : List Crowd) (place a b : ℕ) (c : Crowd) → arena_at place crowds ≡ Some a → c ≡ get_or crowds place c → 1 ≤ c.size
    → size_at b crowds ≡ size_at b (set crowds place (resized c (c.size - 1))) + one_if (eqb a b)
sizes-down crowds place a b c e f low =
    let here = at-place crowds place a c e f in
    down (eqb c.arena b) (size_at b crowds) (size_at b (set crowds place (resized c (c.size - 1)))) c.size low (set-sum (at_arena b) crowds place a c (resized c (c.size - 1)) e f)
    ∙ ap (λ x. size_at b (set crowds place (resized c (c.size - 1))) + one_if (eqb x b)) here.1

pub total-down : (crowds : List Crowd) (place a : ℕ) (c : Crowd) → arena_at place crowds ≡ Some a → c ≡ get_or crowds place c → 1 ≤ c.size
    → total_size crowds ≡ total_size (set crowds place (resized c (c.size - 1))) + 1
total-down crowds place a c e f low =
    let whole : total_size (set crowds place (resized c (c.size - 1))) + c.size ≡ total_size crowds + (c.size - 1) = set-sum size crowds place a c (resized c (c.size - 1)) e f in
    omega arith

-- ---- a crowd more, a crowd less

pub table-push : (crowds : List Crowd) (a : ℕ) → IsTable crowds → size_at a crowds ≡ 0 → IsTable (crowds ++ record { arena = a; size = 1 } ∷ [])
table-push crowds a table e =
    let new : Crowd = record { arena = a; size = 1 } in
    record {
      single = λ b.
          let whole : sum_by (one_at b) (crowds ++ new ∷ []) ≡ sum_by (one_at b) crowds + one_at b new = sum_by_push (one_at b) crowds new in
          let few : sum_by (one_at b) crowds ≤ 1 = table.single b in
          let none : sum_by (one_at a) crowds ≡ 0 = none-of a crowds table.filled e in
          elim (cases_eq a b) [
            | inl same ↦
                let here : sum_by (one_at b) crowds ≡ 0 = ap (λ x. sum_by (one_at x) crowds) (sym same) ∙ none in
                let one : one_at b new ≤ 1 = rw (eq-eqb a b same) (omega arith) in
                omega arith
            | inr other ↦ let zero : one_at b new ≡ 0 = rw (ne_eqb a b other) refl in omega arith
          ];
      filled = All-push Filled crowds new table.filled (omega arith);
    }

swap-sum : (f : Crowd → ℕ) (crowds : List Crowd) (place a : ℕ) (c : Crowd) → arena_at place crowds ≡ Some a → c ≡ get_or crowds place c
    → sum_by f (swap_remove crowds place c) + f c ≡ sum_by f crowds
swap-sum f crowds place a c e g =
    let here = at-place crowds place a c e g in
    let whole : sum_by f (swap_remove crowds place c) + f (get_or crowds place c) ≡ sum_by f crowds = sum_by-swap_remove f crowds place c here.0 in
    let same : f (get_or crowds place c) ≡ f c = ap f (sym g) in
    omega arith

pub table-swap_remove : (crowds : List Crowd) (place a : ℕ) (c : Crowd) → IsTable crowds → arena_at place crowds ≡ Some a → c ≡ get_or crowds place c → IsTable (swap_remove crowds place c)
table-swap_remove crowds place a c table e f =
    let here = at-place crowds place a c e f in
    record {
      single = λ b.
          let whole : sum_by (one_at b) (swap_remove crowds place c) + one_at b c ≡ sum_by (one_at b) crowds = swap-sum (one_at b) crowds place a c e f in
          let few : sum_by (one_at b) crowds ≤ 1 = table.single b in
          omega arith;
      filled =
          All-take Filled (length crowds - 1) (set crowds place (get_or crowds (length crowds - 1) c))
          (All-set Filled crowds place (get_or crowds (length crowds - 1) c) (All-get_or Filled crowds (length crowds - 1) c (omega arith) table.filled) table.filled);
    }

pub sizes-swap_remove : (crowds : List Crowd) (place a b : ℕ) (c : Crowd) → arena_at place crowds ≡ Some a → c ≡ get_or crowds place c → c.size ≡ 1
    → size_at b crowds ≡ size_at b (swap_remove crowds place c) + one_if (eqb a b)
sizes-swap_remove crowds place a b c e f one =
    let here = at-place crowds place a c e f in
    out (eqb c.arena b) (size_at b crowds) (size_at b (swap_remove crowds place c)) c.size one (swap-sum (at_arena b) crowds place a c e f)
    ∙ ap (λ x. size_at b (swap_remove crowds place c) + one_if (eqb x b)) here.1

pub total-swap_remove : (crowds : List Crowd) (place a : ℕ) (c : Crowd) → arena_at place crowds ≡ Some a → c ≡ get_or crowds place c → c.size ≡ 1
    → total_size crowds ≡ total_size (swap_remove crowds place c) + 1
total-swap_remove crowds place a c e f one =
    let whole : total_size (swap_remove crowds place c) + c.size ≡ total_size crowds = swap-sum size crowds place a c e f in
    omega arith
