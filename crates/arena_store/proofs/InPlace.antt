-- The table's records, places and numbers under each change, and the list that they stand for.
use Rattle.std.proofs.Common.{◌≡◌, ◌≢◌, ℕ, zero, suc, ◌+◌, ◌<◌, ◌≤◌, true, cond, eqb, ltb, List, [], ◌∷◌, ◌++◌, length, get_or, set, take, drop, map, Option, Some, None, IfNone, IfSome, refl, sym, ap, ◌∙◌, arith, inl, inr}
use Rattle.std.specs.List.{All, remove}
use Rattle.std.specs.Option.{is_some, unwrap_or}
use Rattle.std.proofs.lemmas.Bool.{cases_lt, cases_eq, cases_Bool, eq-eqb, ne_eqb, eqb-true, lt-ltb, le-ltb}
use Rattle.std.proofs.lemmas.List.{get_or-set_same, get_or-set_other, length-set, length-map, length_push, map_push, map-set, set-get_or, get_or-map, take-map, drop-map, map-append}
use Rattle.std.proofs.lemmas.List.Edits.{length-remove}
use Rattle.std.proofs.lemmas.List.Sums.{sum_by-cons, sum_by_push, sum_by-remove, get_or-le-sum_by, passes_at_first}
use Rattle.market_types.specs.State.{Arena}
use Rattle.arena_store.specs.Store.{IsByNumber}
use Rattle.arena_store.specs.Held.{IsRising, record_at, no_arena, arenas_at, times, index_in, one_if, IsInPlace}

-- ---- how often a place is listed

times-cons : (q p : ℕ) (ps : List ℕ) → times q (p ∷ ps) ≡ one_if (eqb p q) + times q ps
times-cons q p ps = sum_by-cons (λ (r : ℕ). cond (eqb r q) 1 0) p ps

times-push : (q p : ℕ) (ps : List ℕ) → times q (ps ++ p ∷ []) ≡ times q ps + one_if (eqb p q)
times-push q p ps = sum_by_push (λ (r : ℕ). cond (eqb r q) 1 0) ps p

times-remove : (q i d : ℕ) (ps : List ℕ) → i < length ps → times q (remove ps i) + one_if (eqb (get_or ps i d) q) ≡ times q ps
times-remove q i d ps within = sum_by-remove (λ (r : ℕ). cond (eqb r q) 1 0) ps i d within

times-at : (q i d : ℕ) (ps : List ℕ) → i < length ps → get_or ps i d ≡ q → 1 ≤ times q ps
times-at q i d ps within e =
    let one : one_if (eqb (get_or ps i d) q) ≡ 1 = rw (eq-eqb (get_or ps i d) q e) refl in
    omega (arith, get_or-le-sum_by (λ (r : ℕ). cond (eqb r q) 1 0) ps i d within, one)

-- a place that is listed stands at its index
index-within : (q : ℕ) (ps : List ℕ) → 1 ≤ times q ps → index_in ps q < length ps
index-within q [] some = absurd (omega arith)
index-within q (p ∷ ps) some =
    elim (cases_Bool (eqb p q)) [
      | inl t ↦ rw t (omega arith)
      | inr f ↦
          let rest : 1 ≤ times q ps = let h : times q (p ∷ ps) ≡ 0 + times q ps = times-cons q p ps ∙ rw f refl in omega arith in
          rw f (omega (arith, index-within q ps rest))
    ]

index-at : (q d : ℕ) (ps : List ℕ) → index_in ps q < length ps → get_or ps (index_in ps q) d ≡ q
index-at q d ps within = eqb-true (get_or ps (index_in ps q) d) q (passes_at_first (λ (p : ℕ). eqb p q) ps d within)

-- and at no other, if it is listed once
index-only : (q i d : ℕ) (ps : List ℕ) → times q ps ≤ 1 → i < length ps → get_or ps i d ≡ q → index_in ps q ≡ i
index-only q i d [] once within e = absurd (omega arith)
index-only q zero d (p ∷ ps) once within e = rw (eq-eqb p q e) refl
index-only q (suc i) d (p ∷ ps) once within e =
    let there = times-at q i d ps (omega arith) e in
    elim (cases_Bool (eqb p q)) [
      | inl t ↦ let h : times q (p ∷ ps) ≡ 1 + times q ps = times-cons q p ps ∙ rw t refl in absurd (omega arith)
      | inr f ↦
          let h : times q (p ∷ ps) ≡ 0 + times q ps = times-cons q p ps ∙ rw f refl in
          rw f (omega (arith, index-only q i d ps (omega arith) (omega arith) e))
    ]

-- ---- what stands at the places

record-push : (records : List (Option Arena)) (q : ℕ) → record_at (records ++ None ∷ []) q ≡ record_at records q
record-push [] zero = refl
record-push [] (suc q) = refl
record-push (r ∷ records) zero = refl
record-push (r ∷ records) (suc q) = record-push records q

same-arenas : (rs ss : List (Option Arena)) (ps : List ℕ) → ((q : ℕ) → 1 ≤ times q ps → record_at rs q ≡ record_at ss q) → arenas_at rs ps ≡ arenas_at ss ps
same-arenas rs ss [] same = refl
same-arenas rs ss (p ∷ ps) same =
    let here : 1 ≤ times p (p ∷ ps) = times-at p 0 0 (p ∷ ps) (omega arith) refl in
    let rest : arenas_at rs ps ≡ arenas_at ss ps = same-arenas rs ss ps (λ q some. same q (omega (arith, times-cons q p ps))) in
    ap (λ (r : Option Arena). unwrap_or r no_arena ∷ arenas_at rs ps) (same p here) ∙ ap (λ xs. unwrap_or (record_at ss p) no_arena ∷ xs) rest

-- a write at a place that is not listed
arenas-unlisted : (rs : List (Option Arena)) (q : ℕ) (r : Option Arena) (ps : List ℕ) → times q ps ≡ 0 → arenas_at (set rs q r) ps ≡ arenas_at rs ps
arenas-unlisted rs q r ps none =
    same-arenas (set rs q r) rs ps (λ p some. let other : p ≢ q = λ e. let h : times p ps ≡ times q ps = ap (λ k. times k ps) e in omega arith in get_or-set_other rs q p r None other)

-- a write at a place that is listed once
arenas-set : (rs : List (Option Arena)) (q : ℕ) (x : Arena) (ps : List ℕ) → q < length rs → times q ps ≡ 1 → arenas_at (set rs q (Some x)) ps ≡ set (arenas_at rs ps) (index_in ps q) x
arenas-set rs q x [] within once = absurd (omega arith)
arenas-set rs q x (p ∷ ps) within once =
    elim (cases_Bool (eqb p q)) [
      | inl t ↦
          let h : times q (p ∷ ps) ≡ 1 + times q ps = times-cons q p ps ∙ rw t refl in
          let here : record_at (set rs q (Some x)) p ≡ Some x = ap (record_at (set rs q (Some x))) (eqb-true p q t) ∙ get_or-set_same rs q (Some x) None within in
          rw (t, here) (ap (λ xs. x ∷ xs) (arenas-unlisted rs q (Some x) ps (omega arith)))
      | inr f ↦
          let h : times q (p ∷ ps) ≡ 0 + times q ps = times-cons q p ps ∙ rw f refl in
          let other : p ≢ q = λ e. absurd (let t = eq-eqb p q e in cc) in
          let next : 1 + index_in ps q ≡ suc (index_in ps q) = omega arith in
          rw (f, next, get_or-set_other rs q p (Some x) None other) (ap (λ xs. unwrap_or (record_at rs p) no_arena ∷ xs) (arenas-set rs q x ps within (omega arith)))
    ]

-- a list of images, less one
map-remove : {X Y : Type 0} (f : X → Y) (xs : List X) (i : ℕ) → map f (remove xs i) ≡ remove (map f xs) i
map-remove f xs i =
    map-append f (take i xs) (drop (suc i) xs)
    ∙ ap (λ ys. ys ++ map f (drop (suc i) xs)) (sym (take-map f i xs))
    ∙ ap (λ ys. take i (map f xs) ++ ys) (sym (drop-map f (suc i) xs))

-- ---- the numbers

-- the numbers of arenas that rise
numbers-rising : (xs : List Arena) → IsByNumber xs → IsRising (map (λ (a : Arena). a.number) xs)
numbers-rising xs rising i j d below within =
    let inside : j < length xs = omega (arith, length-map xs (λ (a : Arena). a.number)) in
    rw (get_or-map (λ (a : Arena). a.number) xs i no_arena d (omega arith), get_or-map (λ (a : Arena). a.number) xs j no_arena d inside) (rising i j no_arena below inside)

module _ {keys places free : List ℕ} {records : List (Option Arena)} (h : IsInPlace keys places free records) where
  abbrev arenas : List Arena
  arenas = arenas_at records places

  size : length arenas ≡ length places
  size = length-map places (λ (p : ℕ). unwrap_or (record_at records p) no_arena)

  pub keys-size : length keys ≡ length places
  keys-size = ap length h.keyed ∙ length-map arenas (λ (a : Arena). a.number) ∙ size

  pub keys-rising : IsByNumber arenas → IsRising keys
  keys-rising rising = rw h.keyed (numbers-rising arenas rising)

  key-at : (i d : ℕ) (x : Arena) → i < length arenas → get_or keys i d ≡ (get_or arenas i x).number
  key-at i d x within = ap (λ ks. get_or ks i d) h.keyed ∙ get_or-map (λ (a : Arena). a.number) arenas i x d within

  keys-missing : (n : ℕ) → All (λ (key : ℕ). key ≢ n) keys → All (λ (a : Arena). a.number ≢ n) arenas
  keys-missing n missing = λ k x within e. missing k 0 (omega (arith, size, keys-size)) (key-at k 0 x within ∙ e)

  keys-there : (i : ℕ) → i < length keys → i < length arenas
  keys-there i within = omega (arith, size, keys-size)

  keys-found : (n i : ℕ) → i < length keys → ((d : ℕ) → get_or keys i d ≡ n) → (x : Arena) → (get_or arenas i x).number ≡ n
  keys-found n i within found x = sym (key-at i 0 x (keys-there i within)) ∙ found 0

  pub keys-none : (n m : ℕ) (o : Option ℕ) → m ≡ n → IfNone o (All (λ (key : ℕ). key ≢ m) keys) → IfNone o (All (λ (a : Arena). a.number ≢ n) arenas)
  keys-none n m None e missing = keys-missing n (rw (← e) missing)
  keys-none n m (Some i) e missing = tt

  pub keys-some : (n m : ℕ) (o : Option ℕ) → m ≡ n → IfSome o (λ i. i < length keys) → IfSome o (λ i. (d : ℕ) → get_or keys i d ≡ m) → IfSome o (λ i. (x : Arena) → (get_or arenas i x).number ≡ n)
  keys-some n m None e within found = tt
  keys-some n m (Some i) e within found = λ x. keys-found m i within found x ∙ e

  -- ---- a place

  times-few : (q : ℕ) → times q places ≤ 1
  times-few q = elim (cases_Bool (is_some (record_at records q))) [ inl t ↦ let e : times q places ≡ 1 = h.in_use q ∙ rw t refl in omega arith | inr f ↦ let e : times q places ≡ 0 = h.in_use q ∙ rw f refl in omega arith ]

  -- the place at an index is listed there
  pub index-of : (i p : ℕ) → i < length arenas → p ≡ get_or places i p → index_in places p ≡ i
  index-of i p within e = index-only p i p places (times-few p) (omega (arith, size)) (sym e)

  some-within : (q : ℕ) → 1 ≤ times q places + times q free → q < length records
  some-within q some = elim (cases_lt q (length records)) [ inl below ↦ below | inr above ↦ let e : times q places + times q free ≡ 0 = h.once q ∙ rw (le-ltb q (length records) above) refl in absurd (omega arith) ]

  -- an arena stands in the list if it stands at a place
  pub hint-there : (q : ℕ) (x : Arena) → record_at records q ≡ Some x → index_in places q < length arenas
  hint-there q x e = let some : times q places ≡ 1 = h.in_use q ∙ rw e refl in omega (arith, size, index-within q places (omega arith))

  module _ (q : ℕ) (there : index_in places q < length arenas) where
    place-listed : index_in places q < length places
    place-listed = omega (arith, size)

    place-times : times q places ≡ 1
    place-times = omega (arith, times-few q, times-at q (index_in places q) q places place-listed (index-at q q places place-listed))

    pub place-within : q < length records
    place-within = some-within q (omega (arith, place-times))

    pub place-some : is_some (record_at records q) ≡ true
    place-some = elim (cases_Bool (is_some (record_at records q))) [ inl t ↦ t | inr f ↦ let e : times q places ≡ 0 = h.in_use q ∙ rw f refl in absurd (omega (arith, place-times)) ]

    -- what stands there stands at its index
    pub place-arena : (d : Arena) → get_or arenas (index_in places q) d ≡ unwrap_or (record_at records q) no_arena
    place-arena d =
        get_or-map (λ (p : ℕ). unwrap_or (record_at records p) no_arena) places (index_in places q) q d place-listed
        ∙ ap (λ p. unwrap_or (record_at records p) no_arena) (index-at q q places place-listed)

    pub view-changed : (x : Arena) → arenas_at (set records q (Some x)) places ≡ set arenas (index_in places q) x
    view-changed x = arenas-set records q x places place-within place-times

    pub in_place-changed : (x : Arena) → ((d : Arena) → (get_or arenas (index_in places q) d).number ≡ x.number) → IsInPlace keys places free (set records q (Some x))
    in_place-changed x number =
        record {
          keyed =
              let f : Arena → ℕ = λ (a : Arena). a.number in
              h.keyed ∙ sym (set-get_or (map f arenas) (index_in places q) 0)
              ∙ ap (set (map f arenas) (index_in places q)) (get_or-map f arenas (index_in places q) no_arena 0 there ∙ number no_arena)
              ∙ sym (map-set f arenas (index_in places q) x) ∙ ap (map f) (sym (view-changed x));
          in_use = λ p. elim (cases_eq p q) [
            | inl e ↦
                let now : is_some (record_at (set records q (Some x)) q) ≡ true = ap is_some (get_or-set_same records q (Some x) None place-within) in
                rw e (h.in_use q ∙ ap one_if (place-some ∙ sym now))
            | inr m ↦ h.in_use p ∙ ap (λ (r : Option Arena). one_if (is_some r)) (sym (get_or-set_other records q p (Some x) None m))
          ];
          once = λ p. h.once p ∙ ap (λ n. one_if (ltb p n)) (sym (length-set records q (Some x)));
          sizes = h.sizes ∙ sym (length-set records q (Some x));
        }

  -- ---- one more place

  pub view-grown : arenas_at (records ++ None ∷ []) places ≡ arenas
  view-grown = same-arenas (records ++ None ∷ []) records places (λ q some. record-push records q)

  pub in_place-grown : IsInPlace keys places (free ++ length records ∷ []) (records ++ None ∷ [])
  in_place-grown =
      let last = length records in
      record {
        keyed = h.keyed ∙ ap (map (λ (a : Arena). a.number)) (sym view-grown);
        in_use = λ q. h.in_use q ∙ ap (λ (r : Option Arena). one_if (is_some r)) (sym (record-push records q));
        once = λ q.
            let more : times q (free ++ last ∷ []) ≡ times q free + one_if (eqb last q) = times-push q last free in
            let new : length (records ++ None ∷ []) ≡ last + 1 = length_push records None in
            elim (cases_eq last q) [
              | inl e ↦
                  let past : times q places + times q free ≡ 0 = h.once q ∙ rw (le-ltb q last (omega arith)) refl in
                  let one : one_if (eqb last q) ≡ 1 = rw (eq-eqb last q e) refl in
                  let now : one_if (ltb q (length (records ++ None ∷ []))) ≡ 1 = rw (lt-ltb q (length (records ++ None ∷ [])) (omega arith)) refl in
                  omega arith
              | inr m ↦
                  let none : one_if (eqb last q) ≡ 0 = rw (ne_eqb last q m) refl in
                  elim (cases_lt q last) [
                    | inl below ↦
                        let was : times q places + times q free ≡ 1 = h.once q ∙ rw (lt-ltb q last below) refl in
                        let now : one_if (ltb q (length (records ++ None ∷ []))) ≡ 1 = rw (lt-ltb q (length (records ++ None ∷ [])) (omega arith)) refl in
                        omega arith
                    | inr above ↦
                        let was : times q places + times q free ≡ 0 = h.once q ∙ rw (le-ltb q last above) refl in
                        let now : one_if (ltb q (length (records ++ None ∷ []))) ≡ 0 = rw (le-ltb q (length (records ++ None ∷ [])) (omega arith)) refl in
                        omega arith
                  ]
            ];
        sizes = omega (arith, h.sizes, length_push free last, length_push {X = Option Arena} records None);
      }

  -- ---- a new arena at the last free place

  module _ (rest : List ℕ) (p : ℕ) (e : free ≡ rest ++ p ∷ []) where
    free-times : times p free ≡ times p rest + 1
    free-times = ap (times p) e ∙ times-push p p rest ∙ ap (λ b. times p rest + one_if b) (eq-eqb p p refl)

    pub free-within : p < length records
    free-within = some-within p (omega (arith, free-times))

    free-unlisted : times p places ≡ 0
    free-unlisted =
        let all : times p places + times p free ≡ 1 = h.once p ∙ rw (lt-ltb p (length records) free-within) refl in
        omega (arith, free-times)

    pub view-pushed : (x : Arena) → arenas_at (set records p (Some x)) (places ++ p ∷ []) ≡ arenas ++ x ∷ []
    view-pushed x =
        map_push (λ (q : ℕ). unwrap_or (record_at (set records p (Some x)) q) no_arena) places p
        ∙ ap (λ xs. xs ++ unwrap_or (record_at (set records p (Some x)) p) no_arena ∷ []) (arenas-unlisted records p (Some x) places free-unlisted)
        ∙ ap (λ (r : Option Arena). arenas ++ unwrap_or r no_arena ∷ []) (get_or-set_same records p (Some x) None free-within)

    pub in_place-pushed : (x : Arena) → IsInPlace (keys ++ x.number ∷ []) (places ++ p ∷ []) rest (set records p (Some x))
    in_place-pushed x =
        record {
          keyed = ap (λ ks. ks ++ x.number ∷ []) h.keyed ∙ sym (map_push (λ (a : Arena). a.number) arenas x) ∙ ap (map (λ (a : Arena). a.number)) (sym (view-pushed x));
          in_use = λ q.
              let more : times q (places ++ p ∷ []) ≡ times q places + one_if (eqb p q) = times-push q p places in
              elim (cases_eq p q) [
                | inl same ↦
                    let none : times q places ≡ 0 = ap (λ k. times k places) (sym same) ∙ free-unlisted in
                    let one : one_if (eqb p q) ≡ 1 = rw (eq-eqb p q same) refl in
                    let now : is_some (record_at (set records p (Some x)) q) ≡ true = ap (λ k. is_some (record_at (set records p (Some x)) k)) (sym same) ∙ ap is_some (get_or-set_same records p (Some x) None free-within) in
                    rw now (omega arith)
                | inr m ↦
                    let none : one_if (eqb p q) ≡ 0 = rw (ne_eqb p q m) refl in
                    let now : record_at (set records p (Some x)) q ≡ record_at records q = get_or-set_other records p q (Some x) None (λ f. m (sym f)) in
                    rw now (omega (arith, h.in_use q))
              ];
          once = λ q.
              let more : times q (places ++ p ∷ []) ≡ times q places + one_if (eqb p q) = times-push q p places in
              let less : times q free ≡ times q rest + one_if (eqb p q) = ap (times q) e ∙ times-push q p rest in
              rw (length-set records p (Some x)) (omega (arith, h.once q));
          sizes = omega (arith, h.sizes, ap length e, length_push rest p, length_push places p, length-set records p (Some x));
        }

  -- ---- an arena goes

  module _ (i p : ℕ) (inside : i < length arenas) (e : p ≡ get_or places i p) where
    within : i < length places
    within = omega (arith, size)

    gone-times : times p (remove places i) + 1 ≡ times p places
    gone-times = ap (λ b. times p (remove places i) + one_if b) (sym (eq-eqb (get_or places i p) p (sym e))) ∙ times-remove p i p places within

    gone-unlisted : times p (remove places i) ≡ 0
    gone-unlisted = omega (arith, gone-times, times-few p)

    pub gone-within : p < length records
    gone-within = some-within p (omega (arith, gone-times))

    pub gone-some : is_some (record_at records p) ≡ true
    gone-some = place-some p (omega (arith, index-of i p inside e))

    pub gone-arena : (d : Arena) → get_or arenas i d ≡ unwrap_or (record_at records p) no_arena
    gone-arena d = ap (λ k. get_or arenas k d) (sym (index-of i p inside e)) ∙ place-arena p (omega (arith, index-of i p inside e)) d

    pub view-removed : arenas_at (set records p None) (remove places i) ≡ remove arenas i
    view-removed = arenas-unlisted records p None (remove places i) gone-unlisted ∙ map-remove (λ (q : ℕ). unwrap_or (record_at records q) no_arena) places i

    pub in_place-removed : IsInPlace (remove keys i) (remove places i) (free ++ p ∷ []) (set records p None)
    in_place-removed =
        record {
          keyed = ap (λ ks. remove ks i) h.keyed ∙ sym (map-remove (λ (a : Arena). a.number) arenas i) ∙ ap (map (λ (a : Arena). a.number)) (sym view-removed);
          in_use = λ q.
              let less : times q (remove places i) + one_if (eqb (get_or places i p) q) ≡ times q places = times-remove q i p places within in
              elim (cases_eq p q) [
                | inl same ↦
                    let none : times q (remove places i) ≡ 0 = ap (λ k. times k (remove places i)) (sym same) ∙ gone-unlisted in
                    let now : record_at (set records p None) q ≡ None = ap (record_at (set records p None)) (sym same) ∙ get_or-set_same records p None None gone-within in
                    rw now none
                | inr m ↦
                    let none : one_if (eqb (get_or places i p) q) ≡ 0 = ap (λ k. one_if (eqb k q)) (sym e) ∙ rw (ne_eqb p q m) refl in
                    let now : record_at (set records p None) q ≡ record_at records q = get_or-set_other records p q None None (λ f. m (sym f)) in
                    rw now (omega (arith, h.in_use q))
              ];
          once = λ q.
              let less : times q (remove places i) + one_if (eqb (get_or places i p) q) ≡ times q places = times-remove q i p places within in
              let same : one_if (eqb (get_or places i p) q) ≡ one_if (eqb p q) = ap (λ k. one_if (eqb k q)) (sym e) in
              let more : times q (free ++ p ∷ []) ≡ times q free + one_if (eqb p q) = times-push q p free in
              rw (length-set records p None) (omega (arith, h.once q));
          sizes = omega (arith, h.sizes, length-remove places i within, length_push free p, length-set records p None);
        }
