use Rattle.std.proofs.lemmas.Bool.{cases_eq, cases_lt, ne_eqb, eq-eqb}
use Rattle.std.proofs.Common.{inl, inr, ◌≡◌, ℕ, ◌+◌, ◌-◌, ◌*◌, ◌/◌, ◌%◌, ◌<◌, ◌≤◌, cond, eqb, List, [], ◌∷◌, refl, sym, ap, add-zero, zero-add, ◌∙◌, arith}
use Rattle.std.proofs.Math.Nat.{div-add-mod, mul-add-div, add-mod-mod, mul-mod_left, zero-mod, mul-zero, mul-le-mul_left, div-eq_of_lt, div-zero, mod-eq_of_lt}
use Rattle.std.proofs.lemmas.Nat.{div_below}
use Rattle.std.specs.List.{flat_map}
use Rattle.std.proofs.lemmas.List.Sums.{sum_by-cons, fold-append}
use Rattle.market_types.specs.State.{Arena, State}
use Rattle.allotment.specs.Levels.{Asks, AskBefore}
use Rattle.market_types.specs.Claims.{request_of}
use Rattle.market_types.specs.Allotment.{total_request, at_level, share_of, carry_past, carry_after, demand}

-- the difference of two quotients, by the remainder that the first leaves
pub quotient-difference : (d n t : ℕ) → 0 < d → (n + t) / d - n / d ≡ (t + n % d) / d
quotient-difference d n t p =
    let e : n + t ≡ d * (n / d) + (t + n % d) = omega (arith, div-add-mod n d) in
    let f : (n + t) / d ≡ n / d + (t + n % d) / d = ap (λ x. x / d) e ∙ mul-add-div p (n / d) (t + n % d) in
    omega arith

-- the share by the sum before an arena is the share by the carry before it
pub share-carried : (k d b q : ℕ) → 0 < d → k * (b + q) / d - k * b / d ≡ (q * k + k * b % d) / d
share-carried k d b q p =
    let e : k * (b + q) ≡ k * b + q * k = omega arith in
    rw e (quotient-difference d (k * b) (q * k) p)

abbrev pub request : Arena → ℕ
request a = request_of a.claim

-- no share is above its request
pub quotient-few : (q k d carry : ℕ) → k ≤ d → carry < d → (q * k + carry) / d ≤ q
quotient-few q k d carry h l =
    omega (arith, div_below (q * k + carry) d (q + 1) (omega arith) (omega (arith, mul-le-mul_left q h)))

-- one arena more
past : (q k d k' d' b : ℕ) → k ≡ k' → d ≡ d' → cond (eqb q 0) (k' * b % d') ((q * k + k' * b % d') % d) ≡ k' * (b + q) % d'
past q k d k' d' b e f =
    elim (cases_eq q 0) [
      | inl z ↦ rw (z, add-zero) refl
      | inr n ↦ rw (ne_eqb q 0 n, e, f) (add-mod-mod (q * k') (k' * b) d' ∙ ap (λ x. x % d') (omega arith))
    ]

pub carry_past-level : (K D : ℕ → ℕ) (b level : ℕ) (a : Arena) → a.level ≡ level
    → carry_past K D (K level * b % D level) a ≡ K level * (b + request_of a.claim) % D level
carry_past-level K D b level a e = past (request_of a.claim) (K a.level) (D a.level) (K level) (D level) b (ap K e) (ap D e)

-- over the arenas of a level, the carry is what the requests so far leave of a whole worker
pub carry_after-level : (K D : ℕ → ℕ) (level b : ℕ) (arenas : List Arena)
    → carry_after K D (K level * b % D level) (at_level level arenas) ≡ K level * (b + total_request (at_level level arenas)) % D level
carry_after-level K D level b [] = rw add-zero refl
carry_after-level K D level b (a ∷ arenas) =
    elim (cases_eq a.level level) [
      | inl e ↦
          rw (eq-eqb a.level level e)
          (ap (λ carry. carry_after K D carry (at_level level arenas)) (carry_past-level K D b level a e)
          ∙ carry_after-level K D level (b + request_of a.claim) arenas
          ∙ ap (λ x. K level * x % D level) (omega (arith, sum_by-cons request a (at_level level arenas))))
      | inr n ↦ rw (ne_eqb a.level level n) (carry_after-level K D level b arenas)
    ]

-- a whole level leaves no carry
pub carry_after-whole : (s : State) (K : ℕ → ℕ) (level : ℕ) → carry_after K (demand s) 0 (at_level level s.arenas) ≡ 0
carry_after-whole s K level =
    let e : K level * 0 % demand s level ≡ 0 = rw mul-zero (zero-mod (demand s level)) in
    let start : carry_after K (demand s) (K level * 0 % demand s level) (at_level level s.arenas) ≡ K level * (0 + demand s level) % demand s level = carry_after-level K (demand s) level 0 s.arenas in
    let from_zero : carry_after K (demand s) 0 (at_level level s.arenas) ≡ K level * (0 + demand s level) % demand s level = rw e at start in
    from_zero ∙ rw zero-add (mul-mod_left (K level) (demand s level))

-- and so does each list of whole levels
pub carry_after-levels : (s : State) (K : ℕ → ℕ) (levels : List ℕ)
    → carry_after K (demand s) 0 (flat_map (λ level. at_level level s.arenas) levels) ≡ 0
carry_after-levels s K [] = refl
carry_after-levels s K (l ∷ ls) =
    rw (fold-append (carry_past K (demand s)) 0 (at_level l s.arenas) (flat_map (λ level. at_level level s.arenas) ls), carry_after-whole s K l) (carry_after-levels s K ls)

-- the carry before an arena, from the requests before it in its level
pub carry_after-before : (K D : ℕ → ℕ) (level : ℕ) (arenas : List Arena)
    → carry_after K D 0 (at_level level arenas) ≡ K level * total_request (at_level level arenas) % D level
carry_after-before K D level arenas =
    let none : K level * 0 % D level ≡ 0 = rw mul-zero (zero-mod (D level)) in
    let start : carry_after K D (K level * 0 % D level) (at_level level arenas) ≡ K level * (0 + total_request (at_level level arenas)) % D level = carry_after-level K D level 0 arenas in
    let from_none : carry_after K D 0 (at_level level arenas) ≡ K level * (0 + total_request (at_level level arenas)) % D level = rw none at start in
    from_none ∙ rw zero-add refl

-- an arena that asks for nothing is given nothing by the quotient too
quotient-none : (q k d b : ℕ) → 0 < d → cond (eqb q 0) 0 ((q * k + k * b % d) / d) ≡ (q * k + k * b % d) / d
quotient-none q k d b p =
    elim (cases_eq q 0) [
      | inl z ↦
          let carried : 0 * k + k * b % d ≡ k * b % d = omega arith in
          rw z (sym (ap (λ n. n / d) carried ∙ div-eq_of_lt {n = k * b % d} {m = d} (omega arith)))
      | inr n ↦ rw (ne_eqb q 0 n) refl
    ]

pub share_of-before : (K D : ℕ → ℕ) (before : List Arena) (row : Arena) → 0 < D row.level
    → share_of K D (carry_after K D 0 (at_level row.level before)) row
    ≡ (request_of row.claim * K row.level + K row.level * total_request (at_level row.level before) % D row.level) / D row.level
share_of-before K D before row p =
    ap (λ carry. share_of K D carry row) (carry_after-before K D row.level before)
    ∙ quotient-none (request_of row.claim) (K row.level) (D row.level) (total_request (at_level row.level before)) p

-- and as the difference of what is due with the arena and without
pub share_of-difference : (K D : ℕ → ℕ) (before : List Arena) (row : Arena) → 0 < D row.level
    → share_of K D (carry_after K D 0 (at_level row.level before)) row
    ≡ K row.level * (total_request (at_level row.level before) + request_of row.claim) / D row.level - K row.level * total_request (at_level row.level before) / D row.level
share_of-difference K D before row p =
    share_of-before K D before row p ∙ sym (share-carried (K row.level) (D row.level) (total_request (at_level row.level before)) (request_of row.claim) p)

-- no arena is allotted more than it asks for
few : (q k d b : ℕ) → k ≤ d → cond (eqb q 0) 0 ((q * k + k * b % d) / d) ≤ q
few q k d b h =
    elim (cases_lt 0 d) [
      | inl p ↦ rw (quotient-none q k d b p) (quotient-few q k d (k * b % d) h (omega arith))
      | inr z ↦
          let none : d ≡ 0 = omega arith in
          elim (cases_eq q 0) [
            | inl e ↦ rw (eq-eqb q 0 e) (omega arith)
            | inr n ↦ rw (ne_eqb q 0 n, none, div-zero) (omega arith)
          ]
    ]

pub share_of-few : (K D : ℕ → ℕ) (before : List Arena) (row : Arena) → K row.level ≤ D row.level
    → share_of K D (carry_after K D 0 (at_level row.level before)) row ≤ request_of row.claim
share_of-few K D before row h =
    rw (ap (λ carry. share_of K D carry row) (carry_after-before K D row.level before))
    (few (request_of row.claim) (K row.level) (D row.level) (total_request (at_level row.level before)) h)

-- ---- the two functions are the rule

quotient-at : (q k d c : ℕ) → c < d → (q * k + c) / d ≡ cond (eqb q 0) 0 ((q * k + c) / d)
quotient-at q k d c p =
    elim (cases_eq q 0) [
      | inl z ↦
          let carried : 0 * k + c ≡ c = omega arith in
          rw z (ap (λ n. n / d) carried ∙ div-eq_of_lt {n = c} {m = d} p)
      | inr n ↦ rw (ne_eqb q 0 n) refl
    ]

remainder-at : (q k d c : ℕ) → c < d → (q * k + c) % d ≡ cond (eqb q 0) c ((q * k + c) % d)
remainder-at q k d c p =
    elim (cases_eq q 0) [
      | inl z ↦
          let carried : 0 * k + c ≡ c = omega arith in
          rw z (ap (λ n. n % d) carried ∙ mod-eq_of_lt {n = c} {m = d} p)
      | inr n ↦ rw (ne_eqb q 0 n) refl
    ]

pub carry_share-workers : (K D : ℕ → ℕ) (a : Arena) (k d q carry : ℕ) → Asks K D a k d q → carry < d → (q * k + carry) / d ≡ share_of K D carry a
carry_share-workers K D a k d q carry asks p =
    quotient-at q k d carry p
    ∙ ap (λ x. cond (eqb x 0) 0 ((x * k + carry) / d)) asks.request_is
    ∙ ap (λ x. cond (eqb (request_of a.claim) 0) 0 ((request_of a.claim * x + carry) / d)) asks.assigned_is
    ∙ ap (λ x. cond (eqb (request_of a.claim) 0) 0 ((request_of a.claim * K a.level + carry) / x)) asks.demand_is

pub carry_share-carry : (K D : ℕ → ℕ) (a : Arena) (k d q carry : ℕ) → Asks K D a k d q → carry < d → (q * k + carry) % d ≡ carry_past K D carry a
carry_share-carry K D a k d q carry asks p =
    remainder-at q k d carry p
    ∙ ap (λ x. cond (eqb x 0) carry ((x * k + carry) % d)) asks.request_is
    ∙ ap (λ x. cond (eqb (request_of a.claim) 0) carry ((request_of a.claim * x + carry) % d)) asks.assigned_is
    ∙ ap (λ x. cond (eqb (request_of a.claim) 0) carry ((request_of a.claim * K a.level + carry) % x)) asks.demand_is

pub share-workers : (K D : ℕ → ℕ) (others : List Arena) (a : Arena) (k d b q : ℕ) → Asks K D a k d q → AskBefore others a b → 0 < d
    → k * (b + q) / d - k * b / d ≡ share_of K D (carry_after K D 0 (at_level a.level others)) a
share-workers K D others a k d b q asks before p =
    let carry : k * b % d ≡ carry_after K D 0 (at_level a.level others) =
    rw (asks.assigned_is, asks.demand_is, before) (sym (carry_after-before K D a.level others)) in
    share-carried k d b q p
    ∙ carry_share-workers K D a k d q (k * b % d) asks (omega arith)
    ∙ ap (λ c. share_of K D c a) carry
