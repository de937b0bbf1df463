-- An arena's allotment, by what is asked for before it at its level: what lies between two quotients.
use Rattle.std.proofs.Common.{◌≡◌, ℕ, ◌+◌, ◌-◌, ◌*◌, ◌/◌, ◌%◌, ◌<◌, ◌≤◌, cond, eqb, List, [], ◌∷◌, Some, refl, sym, ap, subst, ◌∙◌, arith, inl, inr}
use Rattle.std.proofs.lemmas.Bool.{cases_Bool, cases_lt}
use Rattle.std.proofs.lemmas.Bool.Decides.{nat_tests}
use Rattle.std.proofs.lemmas.List.Elements.{All-head, All-tail}
use Rattle.std.proofs.lemmas.Nat.{mod_below, div_below, le-div, mul-le}
use Rattle.std.proofs.Math.Nat.{div-add-mod, mul-add-div, add-mod-mod, zero-mod, div-eq_of_lt}
use Rattle.market_types.specs.State.{Arena, State}
use Rattle.market_types.specs.Claims.{request_of}
use Rattle.market_types.specs.Allotment.{allotment_of, assigned, at_level, carried, carry_past, count_at, demand, limit_of}
use Rattle.market_types.specs.Step.{arena_at}
use Rattle.market_core.specs.Ahead.{asked_ahead}
use Rattle.journal_chart.proofs.Bounds.{At, Finds, Once, Whole, allotment-level, at-level, found-own}

-- ---- two quotients

-- a number lies from its whole parts to the next
whole-parts : (p d w c : ℕ) → d * w + c ≡ p → c < d → (w * d ≤ p) × (p < (w + 1) * d)
whole-parts p d w c is less = (omega (arith, is), omega (arith, is, less))

-- so does each number and its quotient
pub quotient-parts : (p d : ℕ) → 0 < d → (p / d * d ≤ p) × (p < (p / d + 1) * d)
quotient-parts p d some = whole-parts p d (p / d) (p % d) (div-add-mod p d) (mod_below p d some)

-- two quotients lie apart by so much at least, if so many whole parts are between the numbers
apart-from : (from workers d p q n : ℕ) → 0 < d → (workers + from) * d ≤ q → p < (workers + 1) * d → n ≡ q / d - p / d → from ≤ n
apart-from from workers d p q n some high low is =
    let most : p / d < workers + 1 = div_below p d (workers + 1) some low in
    let least : workers + from ≤ q / d = le-div (workers + from) q d some high in
    omega (arith, is, most, least)

-- and by less, if fewer are
apart-below : (below workers d p q n : ℕ) → 0 < d → workers * d ≤ p → p ≤ q → q < (workers + below) * d → n ≡ q / d - p / d → n < below
apart-below below workers d p q n some low up high is =
    let least : workers ≤ p / d = le-div workers p d some low in
    let parts = quotient-parts p d some in
    let on : p / d ≤ q / d = le-div (p / d) q d some (omega (arith, parts.0, up)) in
    let most : q / d < workers + below = div_below q d (workers + below) some high in
    omega (arith, is, least, on, most)

-- what is asked for before an arena with it, times what is given, is the sum of both
with-own : (p r g : ℕ) → (p + r) * g ≡ p * g + r * g
with-own p r g = omega arith

-- ---- within reach

-- whole parts that are reached stay so, where no more is lacking before an arena than its reach, and no more has come from it on
still-reached : (k r g b p a d reach : ℕ) → k ≤ g → k * a + reach * g ≤ (b + r) * g → b ≤ p + reach → d + b ≤ a + p + reach → k * d ≤ (p + r) * g
still-reached k r g b p a d reach within far down up =
    let h : ℕ = g - k in
    let whole : k + h ≡ g = omega (arith, within) in
    let far_ : k * a + reach * (k + h) ≤ (b + r) * (k + h) = subst (λ n. k * a + reach * n ≤ (b + r) * n) (sym whole) far in
    let on : k * (d + b) ≤ k * (a + p + reach) = mul-le k (d + b) k (a + p + reach) (omega arith) up in
    let before : b * h ≤ (p + reach) * h = mul-le b h (p + reach) h down (omega arith) in
    subst (λ n. k * d ≤ (p + r) * n) whole (omega (arith, far_, on, before))

-- and those that are not reached, where no more has come before it, and no more is lacking from it on
still-below : (k r g b p a d reach : ℕ) → k ≤ g → (b + r) * g + reach * g < k * a → p ≤ b + reach → a + p ≤ d + b + reach → (p + r) * g < k * d
still-below k r g b p a d reach within far up down =
    let h : ℕ = g - k in
    let whole : k + h ≡ g = omega (arith, within) in
    let far_ : (b + r) * (k + h) + reach * (k + h) < k * a = subst (λ n. (b + r) * n + reach * n < k * a) (sym whole) far in
    let on : k * (a + p) ≤ k * (d + b + reach) = mul-le k (a + p) k (d + b + reach) (omega arith) down in
    let before : p * h ≤ (b + reach) * h = mul-le p h (b + reach) h up (omega arith) in
    subst (λ n. (p + r) * n < k * d) whole (omega (arith, far_, on, before))

-- of two products by one number the smaller is that of the smaller
smaller : (n m d : ℕ) → n * d < m * d → n < m
smaller n m d less = elim (cases_lt n m) [
  | inl is ↦ is
  | inr not ↦ absurd (omega (arith, less, mul-le m d n d not (omega arith)))
]

-- what the arena is allotted that asks for `r` of a level that is given `g` of what it asks for is covered within reach, if it is so where `b` are asked
-- for before it, `a` in all, and those before it are given so many workers
pub within-reach : (from below workers r g b p a d reach n : ℕ) → 0 < d → n ≡ (p + r) * g / d - p * g / d → workers + below ≤ g
    → workers * a + reach * g ≤ b * g → b * g + reach * g < (workers + 1) * a
    → (workers + from) * a + reach * g ≤ (b + r) * g → (b + r) * g + reach * g < (workers + below) * a
    → b ≤ p + reach → d + b ≤ a + p + reach → p ≤ b + reach → a + p ≤ d + b + reach → (from ≤ n) × (n < below)
within-reach from below workers r g b p a d reach n some is enough low next start end down more up less =
    let sum : (b + r) * g ≡ b * g + r * g = with-own b r g in
    let any : workers < workers + below = smaller workers (workers + below) a (omega (arith, sum, low, end)) in
    let apart : workers + from < workers + below = smaller (workers + from) (workers + below) a (omega (arith, start, end)) in
    let own : (p + r) * g ≡ p * g + r * g = with-own p r g in
    let low_ : workers * d ≤ (p + 0) * g = still-reached workers 0 g b p a d reach (omega (arith, enough)) (omega (arith, low)) down more in
    let next_ : (p + 0) * g < (workers + 1) * d = still-below (workers + 1) 0 g b p a d reach (omega (arith, enough, any)) (omega (arith, next)) up less in
    let start_ : (workers + from) * d ≤ (p + r) * g = still-reached (workers + from) r g b p a d reach (omega (arith, enough, apart)) start down more in
    let end_ : (p + r) * g < (workers + below) * d = still-below (workers + below) r g b p a d reach enough end up less in (
      apart-from from workers d (p * g) ((p + r) * g) n some start_ (omega (arith, next_)) is,
      apart-below below workers d (p * g) ((p + r) * g) n some (omega (arith, low_)) (omega (arith, own)) end_ is,
    )

-- ---- arenas of one level

-- the difference of two quotients, by what the first leaves
quotient-difference : (d n t : ℕ) → 0 < d → (n + t) / d - n / d ≡ (t + n % d) / d
quotient-difference d n t some =
    let e : n + t ≡ d * (n / d) + (t + n % d) = omega (arith, div-add-mod n d) in
    let f : (n + t) / d ≡ n / d + (t + n % d) / d = ap (λ x. x / d) e ∙ mul-add-div some (n / d) (t + n % d) in
    omega (arith, f)

-- an arena that asks for nobody is given nobody by the quotient too
share-quotient : (r g d c : ℕ) → c < d → cond (eqb r 0) 0 ((r * g + c) / d) ≡ (r * g + c) / d
share-quotient r g d c less =
    elim (cases_Bool (eqb r 0)) [
      | inl none ↦
          let zero_ : r ≡ 0 = grind (arith, nat_tests) in
          let sum : r * g + c ≡ c = ap (λ k. k * g + c) zero_ ∙ omega arith in
          rw none (sym (ap (λ k. k / d) sum ∙ div-eq_of_lt {n = c} {m = d} less))
      | inr some ↦ rw some refl
    ]

-- the share by the carry that is met where so many are asked for before
share-placed : (r g d p : ℕ) → 0 < d → cond (eqb r 0) 0 ((r * g + p * g % d) / d) ≡ (p + r) * g / d - p * g / d
share-placed r g d p some =
    share-quotient r g d (p * g % d) (mod_below (p * g) d some)
    ∙ sym (ap (λ k. k / d - p * g / d) (with-own p r g) ∙ quotient-difference d (p * g) (r * g) some)

-- the carry behind one arena more
carry-placed : (r g d p : ℕ) → cond (eqb r 0) (p * g % d) ((r * g + p * g % d) % d) ≡ (p + r) * g % d
carry-placed r g d p =
    elim (cases_Bool (eqb r 0)) [
      | inl none ↦
          let zero_ : r ≡ 0 = grind (arith, nat_tests) in
          let same : p ≡ p + r = omega (arith, zero_) in
          rw none (ap (λ k. k * g % d) same)
      | inr some ↦ rw some (add-mod-mod (r * g) (p * g) d ∙ ap (λ k. k % d) (omega arith))
    ]

-- an arena of a level is allotted what lies between the two quotients, if `p` are asked for before the first of these arenas
in-place : (a : ℕ) (K D : ℕ → ℕ) (level p : ℕ) (xs : List Arena) (row : Arena) → At level xs → 0 < D level → Finds a xs row
    → count_at a (carried K D (p * K level % D level) xs)
    ≡ (p + asked_ahead a xs + request_of row.claim) * K level / D level - (p + asked_ahead a xs) * K level / D level
in-place a K D level p [] row at some found = absurd (cc)
in-place a K D level p (x ∷ xs) row at some found =
    let P : Arena → Type 0 = λ (b : Arena). b.level ≡ level in
    let is : x.level ≡ level = All-head P x xs at in
    let c : ℕ = p * K level % D level in
    let r : ℕ = request_of x.claim in
    elim (cases_Bool (eqb x.number a)) [
      | inl here ↦
          let which : Some x ≡ Some row = rw here at found in
          let same : x ≡ row = cc in
          let begin : p ≡ p + 0 = omega arith in
          rw here (ap (λ l. cond (eqb r 0) 0 ((r * K l + c) / D l)) is
          ∙ share-placed r (K level) (D level) p some
          ∙ ap (λ (b : Arena). (p + request_of b.claim) * K level / D level - p * K level / D level) same
          ∙ ap (λ k. (k + request_of row.claim) * K level / D level - k * K level / D level) begin)
      | inr not ↦
          let carry : carry_past K D c x ≡ (p + r) * K level % D level =
          ap (λ l. cond (eqb r 0) c ((r * K l + c) % D l)) is ∙ carry-placed r (K level) (D level) p in
          let before : p + r + asked_ahead a xs ≡ p + (r + asked_ahead a xs) = omega arith in
          rw not (ap (λ k. count_at a (carried K D k xs)) carry
          ∙ in-place a K D level (p + r) xs row (All-tail P x xs at) some (rw not at found)
          ∙ ap (λ k. (k + request_of row.claim) * K level / D level - k * K level / D level) before)
    ]

-- ---- the market

-- where some worker may be active, an arena's allotment is what lies between two quotients, by what is asked for before it at its level
pub allotment-placed : (whole : Whole) (a : ℕ) (s : State) (x : Arena) → Once s.arenas → 0 < limit_of s → arena_at a s.arenas ≡ Some x
    → 1 ≤ x.level → x.level ≤ s.levels → 0 < demand s x.level
    → allotment_of s a
    ≡ (asked_ahead a (at_level x.level s.arenas) + request_of x.claim) * assigned s x.level / demand s x.level
    - asked_ahead a (at_level x.level s.arenas) * assigned s x.level / demand s x.level
allotment-placed whole a s x once some found low high asks =
    let xs : List Arena = at_level x.level s.arenas in
    let g : ℕ = assigned s x.level in
    let d : ℕ = demand s x.level in
    let nobody : 0 * g ≡ 0 = omega arith in
    let start : 0 * g % d ≡ 0 = ap (λ k. k % d) nobody ∙ zero-mod d in
    let before : 0 + asked_ahead a xs ≡ asked_ahead a xs = omega arith in
    allotment-level whole a s x once some found low high
    ∙ ap (λ c. count_at a (carried (assigned s) (demand s) c xs)) (sym start)
    ∙ in-place a (assigned s) (demand s) x.level 0 xs x (at-level x.level s.arenas) asks (found-own a s.arenas x found)
    ∙ ap (λ k. (k + request_of x.claim) * g / d - k * g / d) before
