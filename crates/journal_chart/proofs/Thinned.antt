-- What a number more, and columns made one, do to a line.
use Rattle.std.proofs.Common.{◌≡◌, ℕ, zero, suc, ◌+◌, ◌*◌, ◌<◌, ◌≤◌, min, max, List, [], ◌∷◌, ◌++◌, length, take, drop, set, get_or, Option, None, Some, refl, sym, ap, ◌∙◌, arith, inl, inr}
use Rattle.std.proofs.Math.Nat.{suc-mul, mul-le-mul_right}
use Rattle.std.proofs.Math.Seq.{take-add}
use Rattle.std.proofs.lemmas.Bool.{cases_eq, cases_lt}
use Rattle.std.proofs.lemmas.List.{length-append, length-drop, length-set, get_or_past, get_or-set_same, get_or-set_other, set-get_or, ext_get_or, take_all, take-append-le, drop_all, drop-drop, drop-append-le}
use Rattle.std.proofs.lemmas.List.FromFn.{get_or-map-range_with_len, length-map-range_with_len}
use Rattle.journal_chart.specs.declared.span.Span.{Span}
use Rattle.journal_chart.specs.Columns.{joined, alone, span_of, columns}
use Rattle.journal_chart.specs.Lines.{at, added, halved, halved_with}

-- ---- spans

joined-none : (a : Option Span) → joined a None ≡ a
joined-none None = refl
joined-none (Some a) = refl

joined-assoc : (a b c : Option Span) → joined (joined a b) c ≡ joined a (joined b c)
joined-assoc None b c = refl
joined-assoc (Some a) None c = refl
joined-assoc (Some a) (Some b) None = refl
joined-assoc (Some a) (Some b) (Some c) =
    let least : min (min a.least b.least) c.least ≡ min a.least (min b.least c.least) = omega arith in
    let most : max (max a.most b.most) c.most ≡ max a.most (max b.most c.most) = omega arith in
    λ i. Some (record { least = least i; most = most i })

span-append : (xs ys : List (Option ℕ)) → span_of (xs ++ ys) ≡ joined (span_of xs) (span_of ys)
span-append [] ys = refl
span-append (x ∷ xs) ys = ap (joined (alone x)) (span-append xs ys) ∙ sym (joined-assoc (alone x) (span_of xs) (span_of ys))

-- nothing is put into a column
pub added-none : (place : ℕ) (cs : List (Option Span)) → added place None cs ≡ cs
added-none place cs = ap (set cs place) (joined-none (at cs place)) ∙ set-get_or cs place None

-- ---- a column

-- the numbers of a column
abbrev part : ℕ → ℕ → List (Option ℕ) → List (Option ℕ)
part width k vs = take width (drop (k * width) vs)

pub length-columns : (n w : ℕ) (vs : List (Option ℕ)) → length (columns n w vs) ≡ n
length-columns zero w vs = refl
length-columns (suc n) w vs = ap suc (length-columns n w (drop w vs))

column-at : (n w : ℕ) (vs : List (Option ℕ)) (k : ℕ) → k < n → at (columns n w vs) k ≡ span_of (part w k vs)
column-at zero w vs k less = absurd (omega arith)
column-at (suc n) w vs zero less =
    let none : 0 ≡ zero * w = omega arith in
    ap (λ m. span_of (take w (drop m vs))) none
column-at (suc n) w vs (suc k) less =
    let place : w + k * w ≡ suc k * w = omega (arith, suc-mul k w) in
    column-at n w (drop w vs) k (omega arith)
    ∙ ap (λ xs. span_of (take w xs)) (drop-drop (k * w) w vs ∙ ap (λ m. drop m vs) place)

part-none : (w k : ℕ) (vs : List (Option ℕ)) → length vs ≤ k * w → span_of (part w k vs) ≡ None
part-none w k vs past = ap (λ xs. span_of (take w xs)) (drop_all (k * w) vs past) ∙ ap span_of (take_all w [] (omega arith))

-- the columns beyond the last have no numbers, like those that there are
column-part : (n w : ℕ) (vs : List (Option ℕ)) (k : ℕ) → length vs ≤ n * w → at (columns n w vs) k ≡ span_of (part w k vs)
column-part n w vs k few =
    elim (cases_lt k n) [
      | inl less ↦ column-at n w vs k less
      | inr past ↦
          get_or_past (columns n w vs) k None (omega (arith, length-columns n w vs))
          ∙ sym (part-none w k vs (omega (arith, mul-le-mul_right w past)))
    ]

-- ---- a number more

part-same : (w k : ℕ) (vs : List (Option ℕ)) (v : Option ℕ) → k * w + w ≤ length vs → part w k (vs ++ v ∷ []) ≡ part w k vs
part-same w k vs v full =
    ap (take w) (drop-append-le (k * w) vs (v ∷ []) (omega arith))
    ∙ take-append-le w (drop (k * w) vs) (v ∷ []) (omega (arith, length-drop (k * w) vs))

part-more : (w k : ℕ) (vs : List (Option ℕ)) (v : Option ℕ) → k * w ≤ length vs → length vs < k * w + w
    → span_of (part w k (vs ++ v ∷ [])) ≡ joined (span_of (part w k vs)) (alone v)
part-more w k vs v low high =
    let those : List (Option ℕ) = drop (k * w) vs in
    let few : length those + 1 ≤ w = omega (arith, length-drop (k * w) vs) in
    ap (λ xs. span_of (take w xs)) (drop-append-le (k * w) vs (v ∷ []) low)
    ∙ ap span_of (take_all w (those ++ v ∷ []) (omega (arith, length-append those (v ∷ []))))
    ∙ span-append those (v ∷ [])
    ∙ ap (joined (span_of those)) (joined-none (alone v))
    ∙ ap (λ xs. joined (span_of xs) (alone v)) (sym (take_all w those (omega arith)))

pub added-columns : (n w place : ℕ) (vs : List (Option ℕ)) (v : Option ℕ) → place < n → place * w ≤ length vs → length vs < place * w + w
    → added place v (columns n w vs) ≡ columns n w (vs ++ v ∷ [])
added-columns n w place vs v less low high =
    ext_get_or None (added place v (columns n w vs)) (columns n w (vs ++ v ∷ [])) same each
  where
    same : length (added place v (columns n w vs)) ≡ length (columns n w (vs ++ v ∷ []))
    same = length-set (columns n w vs) place (joined (at (columns n w vs) place) (alone v)) ∙ length-columns n w vs ∙ sym (length-columns n w (vs ++ v ∷ []))

    each : (k : ℕ) → k < length (added place v (columns n w vs)) → at (added place v (columns n w vs)) k ≡ at (columns n w (vs ++ v ∷ [])) k
    each k within =
        let inside : k < n = omega (arith, within, same, length-columns n w (vs ++ v ∷ [])) in
        let new : at (columns n w (vs ++ v ∷ [])) k ≡ span_of (part w k (vs ++ v ∷ [])) = column-at n w (vs ++ v ∷ []) k inside in
        elim (cases_eq k place) [
          | inl here ↦
              ap (at (added place v (columns n w vs))) here
              ∙ get_or-set_same (columns n w vs) place _ None (omega (arith, less, length-columns n w vs))
              ∙ ap (λ a. joined a (alone v)) (column-at n w vs place less)
              ∙ sym (part-more w place vs v low high)
              ∙ ap (λ m. span_of (part w m (vs ++ v ∷ []))) (sym here)
              ∙ sym new
          | inr apart ↦
              get_or-set_other (columns n w vs) place k _ None apart
              ∙ column-at n w vs k inside
              ∙ elim (cases_lt k place) [
                | inl before ↦
                    let next : suc k ≤ place = omega (arith, before) in
                    let room : k * w + w ≤ place * w = omega (arith, suc-mul k w, mul-le-mul_right w next) in
                    ap span_of (sym (part-same w k vs v (omega arith)))
                | inr not ↦
                    let after : suc place ≤ k = omega (arith, apart, not) in
                    let past : place * w + w ≤ k * w = omega (arith, suc-mul place w, mul-le-mul_right w after) in
                    part-none w k vs (omega arith)
                    ∙ sym (part-none w k (vs ++ v ∷ []) (omega (arith, length-append vs (v ∷ []))))
              ]
              ∙ sym new
        ]

-- ---- each two columns made one

part-double : (w k : ℕ) (vs : List (Option ℕ)) → span_of (part (w + w) k vs) ≡ joined (span_of (part w (k + k) vs)) (span_of (part w (k + k + 1) vs))
part-double w k vs =
    let begins : k * (w + w) ≡ (k + k) * w = omega arith in
    let middle : (k + k) * w + w ≡ (k + k + 1) * w = omega arith in
    let those : List (Option ℕ) = drop ((k + k) * w) vs in
    ap (λ m. span_of (take (w + w) (drop m vs))) begins
    ∙ ap span_of (take-add w w those)
    ∙ span-append (take w those) (take w (drop w those))
    ∙ ap (λ xs. joined (span_of (take w those)) (span_of (take w xs))) (drop-drop w ((k + k) * w) vs ∙ ap (λ m. drop m vs) middle)

pub halved-columns : (n w : ℕ) (vs : List (Option ℕ)) → length vs ≤ n * w → halved (columns n w vs) ≡ columns n (w + w) vs
halved-columns n w vs few =
    ext_get_or None (halved (columns n w vs)) (columns n (w + w) vs) (count ∙ length-columns n w vs ∙ sym (length-columns n (w + w) vs)) each
  where
    count : length (halved (columns n w vs)) ≡ length (columns n w vs)
    count = length-map-range_with_len (λ place. joined (at (columns n w vs) (place + place)) (at (columns n w vs) (place + place + 1))) 0 (length (columns n w vs))

    each : (k : ℕ) → k < length (halved (columns n w vs)) → at (halved (columns n w vs)) k ≡ at (columns n (w + w) vs) k
    each k within =
        let inside : k < n = omega (arith, within, count, length-columns n w vs) in
        get_or-map-range_with_len (λ place. joined (at (columns n w vs) (place + place)) (at (columns n w vs) (place + place + 1))) 0 (length (columns n w vs)) k k None (omega (arith, within, count)) (omega arith)
        ∙ (λ i. joined (column-part n w vs (k + k) few i) (column-part n w vs (k + k + 1) few i))
        ∙ sym (part-double w k vs)
        ∙ sym (column-at n (w + w) vs k inside)

-- ---- the same in place, of whatever is made one

-- in the first so many places each two are one, and the others are as they were
pub record IsHalved {C : Type 0} (join : C → C → C) (none : C) (old new : List C) (place : ℕ) : Type 0 where
  pub same : length new ≡ length old
  pub done : (k : ℕ) → k < place → get_or new k none ≡ join (get_or old (k + k) none) (get_or old (k + k + 1) none)
  pub rest : (k : ℕ) → place ≤ k → get_or new k none ≡ get_or old k none

pub halved-more : {C : Type 0} (join : C → C → C) (none : C) (old new : List C) (place : ℕ) (pair : C) → IsHalved join none old new place → place < length new
    → pair ≡ join (get_or new (2 * place) none) (get_or new (2 * place + 1) none) → IsHalved join none old (set new place pair) (place + 1)
halved-more join none old new place pair so_far within is =
    record { same = length-set new place pair ∙ so_far.same; done = done; rest = rest }
  where
    twice : 2 * place ≡ place + place
    twice = omega arith

    made : pair ≡ join (get_or old (place + place) none) (get_or old (place + place + 1) none)
    made = is ∙ (λ i. join (get_or new (twice i) none) (get_or new (twice i + 1) none))
        ∙ (λ i. join (so_far.rest (place + place) (omega arith) i) (so_far.rest (place + place + 1) (omega arith) i))

    done : (k : ℕ) → k < place + 1 → get_or (set new place pair) k none ≡ join (get_or old (k + k) none) (get_or old (k + k + 1) none)
    done k less =
        elim (cases_eq k place) [
          | inl here ↦
              ap (λ j. get_or (set new place pair) j none) here ∙ get_or-set_same new place pair none within ∙ made
              ∙ (λ i. join (get_or old (sym here i + sym here i) none) (get_or old (sym here i + sym here i + 1) none))
          | inr apart ↦ get_or-set_other new place k pair none apart ∙ so_far.done k (omega (arith, less, apart))
        ]

    rest : (k : ℕ) → place + 1 ≤ k → get_or (set new place pair) k none ≡ get_or old k none
    rest k past =
        let apart : k ≡ place → ⊥ = λ e. omega (arith, e, past) in
        get_or-set_other new place k pair none apart ∙ so_far.rest k (omega arith)

pub halved-all : {C : Type 0} (join : C → C → C) (none : C) (old new : List C) (place : ℕ) → IsHalved join none old new place → length new ≤ place → new ≡ halved_with join none old
halved-all join none old new place all whole =
    ext_get_or none new (halved_with join none old) (all.same ∙ sym count) each
  where
    count : length (halved_with join none old) ≡ length old
    count = length-map-range_with_len (λ (p : ℕ). join (get_or old (p + p) none) (get_or old (p + p + 1) none)) 0 (length old)

    each : (k : ℕ) → k < length new → get_or new k none ≡ get_or (halved_with join none old) k none
    each k within =
        all.done k (omega arith)
        ∙ sym (get_or-map-range_with_len (λ (p : ℕ). join (get_or old (p + p) none) (get_or old (p + p + 1) none)) 0 (length old) k k none (omega (arith, within, all.same)) (omega arith))
