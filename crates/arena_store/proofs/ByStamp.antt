-- The table sorted by stamp, under each change of the table.
use Rattle.std.proofs.Common.{◌≡◌, ℕ, ◌+◌, ◌<◌, ◌≤◌, true, false, ltb, not, List, [], ◌∷◌, ◌++◌, length, map, Some, None, refl, sym, ap, ◌∙◌, arith, inl, inr}
use Rattle.std.specs.List.{All, sum_by}
use Rattle.std.proofs.lemmas.Bool.{cases_lt, cases_Bool, lt-ltb, le-ltb}
use Rattle.std.proofs.lemmas.List.Elements.{All-nil, All-cons, All-head, All-tail, All-weaker, All-filter}
use Rattle.std.proofs.lemmas.List.Sums.{sum_by-cons}
use Rattle.market_types.specs.State.{Arena}
use Rattle.market_types.specs.Step.{arena_at, without}
use Rattle.arena_store.specs.Arenas.{has_number, IsMissing}
use Rattle.arena_store.specs.Store.{insert_arena, by_stamp}

-- the arena's stamp is below this one
abbrev pub IsOlder : ℕ → Arena → Type 0
IsOlder stamp b = b.stamp < stamp

-- ---- what each arena has

pub All-insert : (P : Arena → Type 0) (a : Arena) (xs : List Arena) → P a → All P xs → All P (insert_arena a xs)
All-insert P a [] here h = All-cons P a [] here h
All-insert P a (b ∷ bs) here h =
    elim (cases_lt b.stamp a.stamp) [
      | inl l ↦ rw (lt-ltb b.stamp a.stamp l) (All-cons P a (b ∷ bs) here h)
      | inr g ↦ rw (le-ltb b.stamp a.stamp g) (All-cons P b (insert_arena a bs) (All-head P b bs h) (All-insert P a bs here (All-tail P b bs h)))
    ]

pub All-by_stamp : (P : Arena → Type 0) (xs : List Arena) → All P xs → All P (by_stamp xs)
All-by_stamp P [] h = All-nil P
All-by_stamp P (x ∷ xs) h = All-insert P x (by_stamp xs) (All-head P x xs h) (All-by_stamp P xs (All-tail P x xs h))

pub insert-All : (P : Arena → Type 0) (a : Arena) (xs : List Arena) → All P (insert_arena a xs) → P a × All P xs
insert-All P a [] h = (All-head P a [] h, All-nil P)
insert-All P a (b ∷ bs) h =
    elim (cases_lt b.stamp a.stamp) [
      | inl l ↦
          let g : All P (a ∷ b ∷ bs) = rw (lt-ltb b.stamp a.stamp l) at h in
          (All-head P a (b ∷ bs) g, All-tail P a (b ∷ bs) g)
      | inr m ↦
          let g : All P (b ∷ insert_arena a bs) = rw (le-ltb b.stamp a.stamp m) at h in
          let rest = insert-All P a bs (All-tail P b (insert_arena a bs) g) in
          (rest.0, All-cons P b bs (All-head P b (insert_arena a bs) g) rest.1)
    ]

pub by_stamp-All : (P : Arena → Type 0) (xs : List Arena) → All P (by_stamp xs) → All P xs
by_stamp-All P [] h = All-nil P
by_stamp-All P (x ∷ xs) h =
    let parts = insert-All P x (by_stamp xs) h in
    All-cons P x xs parts.0 (by_stamp-All P xs parts.1)

-- ---- how many there are, and sums over them

pub sum_by-insert : (f : Arena → ℕ) (a : Arena) (xs : List Arena) → sum_by f (insert_arena a xs) ≡ f a + sum_by f xs
sum_by-insert f a [] = sum_by-cons f a []
sum_by-insert f a (b ∷ bs) =
    elim (cases_lt b.stamp a.stamp) [
      | inl l ↦ rw (lt-ltb b.stamp a.stamp l) (sum_by-cons f a (b ∷ bs))
      | inr g ↦ rw (le-ltb b.stamp a.stamp g) (omega (arith, sum_by-cons f b (insert_arena a bs), sum_by-insert f a bs, sum_by-cons f b bs))
    ]

pub sum_by-by_stamp : (f : Arena → ℕ) (xs : List Arena) → sum_by f (by_stamp xs) ≡ sum_by f xs
sum_by-by_stamp f [] = refl
sum_by-by_stamp f (x ∷ xs) = omega (arith, sum_by-insert f x (by_stamp xs), sum_by-by_stamp f xs, sum_by-cons f x xs)

pub length-insert_arena : (a : Arena) (xs : List Arena) → length (insert_arena a xs) ≡ 1 + length xs
length-insert_arena a [] = refl
length-insert_arena a (b ∷ bs) =
    elim (cases_lt b.stamp a.stamp) [
      | inl l ↦ rw (lt-ltb b.stamp a.stamp l) (omega arith)
      | inr g ↦ rw (le-ltb b.stamp a.stamp g) (omega (arith, length-insert_arena a bs))
    ]

pub length-by_stamp : (xs : List Arena) → length (by_stamp xs) ≡ length xs
length-by_stamp [] = refl
length-by_stamp (x ∷ xs) = omega (arith, length-insert_arena x (by_stamp xs), length-by_stamp xs)

-- ---- a new greatest stamp

insert-newest : (a : Arena) (xs : List Arena) → All (IsOlder a.stamp) xs → insert_arena a xs ≡ a ∷ xs
insert-newest a [] h = refl
insert-newest a (b ∷ bs) h = rw (lt-ltb b.stamp a.stamp (All-head (IsOlder a.stamp) b bs h)) refl

-- an arena with the greatest stamp goes first, wherever it stands in the table
pub by_stamp-newest : (a : Arena) (xs ys : List Arena) → All (IsOlder a.stamp) xs → All (IsOlder a.stamp) ys → by_stamp (xs ++ a ∷ ys) ≡ a ∷ by_stamp (xs ++ ys)
by_stamp-newest a [] ys older later = insert-newest a (by_stamp ys) (All-by_stamp (IsOlder a.stamp) ys later)
by_stamp-newest a (x ∷ xs) ys older later =
    let below : x.stamp < a.stamp = All-head (IsOlder a.stamp) x xs older in
    ap (insert_arena x) (by_stamp-newest a xs ys (All-tail (IsOlder a.stamp) x xs older) later) ∙ rw (le-ltb a.stamp x.stamp (omega arith)) refl

-- ---- a change that keeps the stamps

insert-map : (f : Arena → Arena) (a : Arena) (xs : List Arena) → ((b : Arena) → (f b).stamp ≡ b.stamp) → insert_arena (f a) (map f xs) ≡ map f (insert_arena a xs)
insert-map f a [] h = refl
insert-map f a (b ∷ bs) h =
    let same : ltb (f b).stamp (f a).stamp ≡ ltb b.stamp a.stamp = ap (λ n. ltb n (f a).stamp) (h b) ∙ ap (ltb b.stamp) (h a) in
    elim (cases_lt b.stamp a.stamp) [
      | inl l ↦ rw (same, lt-ltb b.stamp a.stamp l) refl
      | inr g ↦ rw (same, le-ltb b.stamp a.stamp g) (ap (λ xs. f b ∷ xs) (insert-map f a bs h))
    ]

pub by_stamp-map : (f : Arena → Arena) (xs : List Arena) → ((b : Arena) → (f b).stamp ≡ b.stamp) → by_stamp (map f xs) ≡ map f (by_stamp xs)
by_stamp-map f [] h = refl
by_stamp-map f (x ∷ xs) h = ap (insert_arena (f x)) (by_stamp-map f xs h) ∙ insert-map f x (by_stamp xs) h

-- ---- an arena by its number

pub arena_at-missing : (n : ℕ) (xs : List Arena) → IsMissing n xs → arena_at n xs ≡ None
arena_at-missing n [] h = refl
arena_at-missing n (x ∷ xs) h =
    rw (All-head (λ (b : Arena). has_number n b ≡ false) x xs h) (arena_at-missing n xs (All-tail (λ (b : Arena). has_number n b ≡ false) x xs h))

pub without-missing : (n : ℕ) (xs : List Arena) → IsMissing n xs → without n xs ≡ xs
without-missing n [] h = refl
without-missing n (x ∷ xs) h =
    rw (All-head (λ (b : Arena). has_number n b ≡ false) x xs h) (ap (λ ys. x ∷ ys) (without-missing n xs (All-tail (λ (b : Arena). has_number n b ≡ false) x xs h)))

arena_at-insert : (n : ℕ) (a : Arena) (xs : List Arena) → has_number n a ≡ true → IsMissing n xs → arena_at n (insert_arena a xs) ≡ Some a
arena_at-insert n a [] e h = rw e refl
arena_at-insert n a (b ∷ bs) e h =
    let other : has_number n b ≡ false = All-head (λ (b : Arena). has_number n b ≡ false) b bs h in
    elim (cases_lt b.stamp a.stamp) [
      | inl l ↦ rw (lt-ltb b.stamp a.stamp l, e) refl
      | inr g ↦ rw (le-ltb b.stamp a.stamp g, other) (arena_at-insert n a bs e (All-tail (λ (b : Arena). has_number n b ≡ false) b bs h))
    ]

arena_at-insert_other : (n : ℕ) (a : Arena) (xs : List Arena) → has_number n a ≡ false → arena_at n (insert_arena a xs) ≡ arena_at n xs
arena_at-insert_other n a [] e = rw e refl
arena_at-insert_other n a (b ∷ bs) e =
    elim (cases_lt b.stamp a.stamp) [
      | inl l ↦ rw (lt-ltb b.stamp a.stamp l) (rw e refl)
      | inr g ↦ rw (le-ltb b.stamp a.stamp g) (elim (cases_Bool (has_number n b)) [ inl t ↦ rw t refl | inr f ↦ rw f (arena_at-insert_other n a bs e) ])
    ]

-- where numbers are not used twice, the same arena has the number
pub arena_at-by_stamp : (n : ℕ) (xs ys : List Arena) (a : Arena) → has_number n a ≡ true → IsMissing n xs → IsMissing n ys → arena_at n (by_stamp (xs ++ a ∷ ys)) ≡ Some a
arena_at-by_stamp n [] ys a e before after = arena_at-insert n a (by_stamp ys) e (All-by_stamp (λ (b : Arena). has_number n b ≡ false) ys after)
arena_at-by_stamp n (x ∷ xs) ys a e before after =
    arena_at-insert_other n x (by_stamp (xs ++ a ∷ ys)) (All-head (λ (b : Arena). has_number n b ≡ false) x xs before)
    ∙ arena_at-by_stamp n xs ys a e (All-tail (λ (b : Arena). has_number n b ≡ false) x xs before) after

pub arena_at-by_stamp_none : (n : ℕ) (xs : List Arena) → IsMissing n xs → arena_at n (by_stamp xs) ≡ None
arena_at-by_stamp_none n xs h = arena_at-missing n (by_stamp xs) (All-by_stamp (λ (b : Arena). has_number n b ≡ false) xs h)

-- ---- an arena goes

-- no stamp rises along the list
abbrev pub Falls : List Arena → Type 0
Falls [] = Unit {0}
Falls (x ∷ xs) = All (λ (b : Arena). b.stamp ≤ x.stamp) xs × Falls xs

Falls-insert : (a : Arena) (xs : List Arena) → Falls xs → Falls (insert_arena a xs)
Falls-insert a [] h = (All-nil (λ (b : Arena). b.stamp ≤ a.stamp), tt)
Falls-insert a (b ∷ bs) h =
    elim (cases_lt b.stamp a.stamp) [
      | inl l ↦
          let below : All (λ (c : Arena). c.stamp ≤ a.stamp) (b ∷ bs) =
          All-cons (λ (c : Arena). c.stamp ≤ a.stamp) b bs (omega arith) (All-weaker (λ (c : Arena). c.stamp ≤ b.stamp) (λ (c : Arena). c.stamp ≤ a.stamp) (λ c k. omega arith) bs h.0) in
          rw (lt-ltb b.stamp a.stamp l) (below, h)
      | inr g ↦ rw (le-ltb b.stamp a.stamp g) (All-insert (λ (c : Arena). c.stamp ≤ b.stamp) a bs g h.0, Falls-insert a bs h.1)
    ]

pub Falls-by_stamp : (xs : List Arena) → Falls (by_stamp xs)
Falls-by_stamp [] = tt
Falls-by_stamp (x ∷ xs) = Falls-insert x (by_stamp xs) (Falls-by_stamp xs)

without-here : (n : ℕ) (a : Arena) (xs : List Arena) → has_number n a ≡ true → without n (insert_arena a xs) ≡ without n xs
without-here n a [] e = rw e refl
without-here n a (b ∷ bs) e =
    elim (cases_lt b.stamp a.stamp) [
      | inl l ↦ rw (lt-ltb b.stamp a.stamp l, e) refl
      | inr g ↦ rw (le-ltb b.stamp a.stamp g) (elim (cases_Bool (has_number n b)) [ inl t ↦ rw t (without-here n a bs e) | inr f ↦ rw f (ap (λ ys. b ∷ ys) (without-here n a bs e)) ])
    ]

insert-first : (a : Arena) (xs : List Arena) → All (IsOlder a.stamp) xs → insert_arena a xs ≡ a ∷ xs
insert-first a xs h = insert-newest a xs h

without-other : (n : ℕ) (a : Arena) (xs : List Arena) → has_number n a ≡ false → Falls xs → without n (insert_arena a xs) ≡ insert_arena a (without n xs)
without-other n a [] e h = rw e refl
without-other n a (b ∷ bs) e h =
    elim (cases_lt b.stamp a.stamp) [
      | inl l ↦
          let below : All (IsOlder a.stamp) (b ∷ bs) =
          All-cons (IsOlder a.stamp) b bs l (All-weaker (λ (c : Arena). c.stamp ≤ b.stamp) (IsOlder a.stamp) (λ c k. omega arith) bs h.0) in
          rw (lt-ltb b.stamp a.stamp l, e) (sym (insert-first a (without n (b ∷ bs)) (All-filter (λ (c : Arena). not (has_number n c)) (IsOlder a.stamp) (b ∷ bs) below)))
      | inr g ↦
          rw (le-ltb b.stamp a.stamp g) (elim (cases_Bool (has_number n b)) [
            | inl t ↦ rw t (without-other n a bs e h.1)
            | inr f ↦ rw (f, le-ltb b.stamp a.stamp g) (ap (λ ys. b ∷ ys) (without-other n a bs e h.1))
          ])
    ]

-- an arena that leaves the table leaves the sorted list
pub by_stamp-without : (n : ℕ) (xs ys : List Arena) (a : Arena) → has_number n a ≡ true → IsMissing n xs → IsMissing n ys → by_stamp (xs ++ ys) ≡ without n (by_stamp (xs ++ a ∷ ys))
by_stamp-without n [] ys a e before after =
    sym (without-here n a (by_stamp ys) e ∙ without-missing n (by_stamp ys) (All-by_stamp (λ (b : Arena). has_number n b ≡ false) ys after))
by_stamp-without n (x ∷ xs) ys a e before after =
    ap (insert_arena x) (by_stamp-without n xs ys a e (All-tail (λ (b : Arena). has_number n b ≡ false) x xs before) after)
    ∙ sym (without-other n x (by_stamp (xs ++ a ∷ ys)) (All-head (λ (b : Arena). has_number n b ≡ false) x xs before) (Falls-by_stamp (xs ++ a ∷ ys)))
