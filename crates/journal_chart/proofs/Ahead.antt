-- What stands before an arena of a level, where one arena of a list comes, goes or has another claim.
use Rattle.std.proofs.Common.{◌≡◌, ℕ, ◌+◌, ◌-◌, ◌≤◌, Bool, true, false, cond, eqb, List, [], ◌∷◌, arith, inl, inr}
use Rattle.std.proofs.lemmas.Bool.{cases_Bool}
use Rattle.std.proofs.lemmas.List.Sums.{sum_by-cons}
use Rattle.market_types.specs.Claims.{request_of}
use Rattle.market_types.specs.State.{Claim, Arena}
use Rattle.market_types.specs.Allotment.{at_level, total_request}
use Rattle.market_types.specs.Step.{without}
use Rattle.market_core.specs.Ahead.{asked_ahead}

-- what stands before an arena changes by no more than what all ask for: p and d ask before, q and e after
pub record Follows (p q d e : ℕ) : Type 0 where
  pub less : p ≤ q + (d - e)
  pub more : q ≤ p + (e - d)

-- the same, but for so much
pub record Within (p q d e slack : ℕ) : Type 0 where
  pub less : p ≤ q + (d - e) + slack
  pub more : q ≤ p + (e - d) + slack

-- at each level what stands before the arena changes by no more than what the level asks for
abbrev pub Ahead : ℕ → List Arena → List Arena → Type 0
Ahead a xs ys =
    (level : ℕ) → Follows (asked_ahead a (at_level level xs)) (asked_ahead a (at_level level ys)) (total_request (at_level level xs))
    (total_request (at_level level ys))

-- the same but for all that the level asked for, where the arenas may have changed their order
abbrev pub Nearly : Bool → ℕ → List Arena → List Arena → Type 0
Nearly ordered a xs ys =
    (level : ℕ) → Within (asked_ahead a (at_level level xs)) (asked_ahead a (at_level level ys)) (total_request (at_level level xs))
    (total_request (at_level level ys)) (cond ordered 0 (total_request (at_level level xs)))

-- what the arenas of a list ask for is what the first asks for and what the others do
pub asks-cons : (x : Arena) (xs : List Arena) → total_request (x ∷ xs) ≡ request_of x.claim + total_request xs
asks-cons x xs = sum_by-cons (λ (a : Arena). request_of a.claim) x xs

-- where nothing changes, nothing before the arena does
pub ahead-self : (a : ℕ) (xs : List Arena) → Ahead a xs xs
ahead-self a xs level = record { less = omega arith; more = omega arith }

-- the same holds from the second list to the first
pub ahead-turned : (a : ℕ) (xs ys : List Arena) → Ahead a xs ys → Ahead a ys xs
ahead-turned a xs ys ahead level = record { less = (ahead level).more; more = (ahead level).less }

-- the first arena is the same
pub ahead-cons : (a : ℕ) (x : Arena) (xs ys : List Arena) → Ahead a xs ys → Ahead a (x ∷ xs) (x ∷ ys)
ahead-cons a x xs ys ahead level =
    elim (cases_Bool (eqb x.level level)) [
      | inl own ↦
          let rest = ahead level in
          let was = asks-cons x (at_level level xs) in
          let is = asks-cons x (at_level level ys) in
          elim (cases_Bool (eqb x.number a)) [
            | inl here ↦ rw (own, here) (record { less = omega arith; more = omega arith })
            | inr not ↦ rw (own, not) (record { less = omega (arith, was, is, rest.less, rest.more); more = omega (arith, was, is, rest.less, rest.more) })
          ]
      | inr other ↦ rw other (ahead level)
    ]

-- the first arena has another claim
pub ahead-claim : (a : ℕ) (x : Arena) (claim : Claim) (xs : List Arena) → Ahead a (x ∷ xs) (record x { claim = claim } ∷ xs)
ahead-claim a x claim xs level =
    elim (cases_Bool (eqb x.level level)) [
      | inl own ↦
          let was = asks-cons x (at_level level xs) in
          let is = asks-cons (record x { claim = claim }) (at_level level xs) in
          elim (cases_Bool (eqb x.number a)) [
            | inl here ↦ rw (own, here) (record { less = omega arith; more = omega arith })
            | inr not ↦ rw (own, not) (record { less = omega (arith, was, is); more = omega (arith, was, is) })
          ]
      | inr other ↦ rw other (ahead-self a xs level)
    ]

-- another arena comes first
pub ahead-other : (a : ℕ) (x : Arena) (xs : List Arena) → eqb x.number a ≡ false → Ahead a xs (x ∷ xs)
ahead-other a x xs apart level =
    elim (cases_Bool (eqb x.level level)) [
      | inl own ↦
          let is = asks-cons x (at_level level xs) in
          rw (own, apart) (record { less = omega (arith, is); more = omega (arith, is) })
      | inr other ↦ rw other (ahead-self a xs level)
    ]

-- the first arena, another, goes away
pub ahead-gone : (a : ℕ) (x : Arena) (xs : List Arena) → eqb x.number a ≡ false → Ahead a (x ∷ xs) xs
ahead-gone a x xs apart = ahead-turned a xs (x ∷ xs) (ahead-other a x xs apart)

-- ---- arenas that may change their order

-- where what stands before the arena changes by no more than what is asked for, it does so but for whatever
pub nearly-ahead : (ordered : Bool) (a : ℕ) (xs ys : List Arena) → Ahead a xs ys → Nearly ordered a xs ys
nearly-ahead ordered a xs ys ahead level =
    let slack : ℕ = cond ordered 0 (total_request (at_level level xs)) in
    let h = ahead level in
    record { less = wider _ _ slack h.less; more = wider _ _ slack h.more }
  where
    wider : (n m k : ℕ) → n ≤ m → n ≤ m + k
    wider n m k less = omega (arith, less)

-- where the order is kept, nothing is left out
pub ahead-nearly : (a : ℕ) (xs ys : List Arena) → Nearly true a xs ys → Ahead a xs ys
ahead-nearly a xs ys nearly level =
    let h = nearly level in
    record { less = omega (arith, h.less); more = omega (arith, h.more) }

-- without an arena a level asks for no more than with it
pub without-fewer : (b level : ℕ) (xs : List Arena) → total_request (at_level level (without b xs)) ≤ total_request (at_level level xs)
without-fewer b level [] = omega arith
without-fewer b level (x ∷ xs) =
    let rest = without-fewer b level xs in
    let was = asks-cons x (at_level level xs) in
    let is = asks-cons x (at_level level (without b xs)) in
    elim (cases_Bool (eqb x.number b)) [
      | inl here ↦
          elim (cases_Bool (eqb x.level level)) [
            | inl own ↦ rw (here, own) (omega (arith, rest, was))
            | inr other ↦ rw (here, other) rest
          ]
      | inr not ↦
          elim (cases_Bool (eqb x.level level)) [
            | inl own ↦ rw (not, own) (omega (arith, rest, was, is))
            | inr other ↦ rw (not, other) rest
          ]
    ]

-- some arenas go away, and then another comes first: the order is another, but for all that was asked for it is as before
pub nearly-moved : (a : ℕ) (x : Arena) (xs ys : List Arena) → eqb x.number a ≡ false
    → ((level : ℕ) → total_request (at_level level ys) ≤ total_request (at_level level xs)) → Ahead a xs ys → Nearly false a xs (x ∷ ys)
nearly-moved a x xs ys apart fewer ahead level =
    let first = ahead level in
    let second = ahead-other a x ys apart level in
    two (asked_ahead a (at_level level xs)) (asked_ahead a (at_level level ys)) (asked_ahead a (at_level level (x ∷ ys)))
    (total_request (at_level level xs)) (total_request (at_level level ys)) (total_request (at_level level (x ∷ ys))) (fewer level) first second
  where
    two : (p q r d e f : ℕ) → e ≤ d → Follows p q d e → Follows q r e f → Within p r d f d
    two p q r d e f fewer first second =
        record { less = omega (arith, fewer, first.less, second.less); more = omega (arith, fewer, first.more, second.more) }
