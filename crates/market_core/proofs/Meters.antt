-- What a meter counts at least, and just so many where a level's arenas stand in one leaf.
use Rattle.std.proofs.Common.{◌≡◌, ℕ, zero, suc, ◌+◌, ◌<◌, ◌≤◌, true, false, cond, eqb, not, Bool, Option, None, Some, List, [], ◌∷◌, length, refl, ap, arith, inl, inr}
use Rattle.std.specs.List.{All}
use Rattle.std.proofs.lemmas.Bool.{cases_lt, lt-ltb, le-ltb, eq-eqb, ne_eqb}
use Rattle.std.proofs.lemmas.Int.Digits.{length-digits_of_step, length-digits_of-le}
use Rattle.market_types.specs.State.{State, Arena}
use Rattle.market_types.specs.Claims.{request_of}
use Rattle.market_types.specs.Allotment.{at_level, limit_of}
use Rattle.market_types.specs.Step.{arena_at, without}
use Rattle.arena_store.specs.Arenas.{has_number, beside, len_beside}
use Rattle.arena_store.specs.Bits.{bits}
use Rattle.arena_store.specs.Ways.{least_way, least_node, least_put}
use Rattle.market_core.specs.Visits.{least_picked, least_extra, least_share, least_seen}
use Rattle.market_core.proofs.Numbers.{some-level}

-- ---- a level has no more arenas once one is gone

pub rest-few : (level n : ℕ) (arenas : List Arena) → length (at_level level (without n arenas)) ≤ length (at_level level arenas)
rest-few level n [] = omega arith
rest-few level n (a ∷ arenas) =
    let rest = rest-few level n arenas in
    elim (not (has_number n a)) as (λ b. length (at_level level (cond b (a ∷ without n arenas) (without n arenas))) ≤ length (at_level level (a ∷ arenas))) [
      | true ↦
          elim (eqb a.level level) as (λ b. length (cond b (a ∷ at_level level (without n arenas)) (at_level level (without n arenas))) ≤ length (cond b (a ∷ at_level level arenas) (at_level level arenas))) [
            | true ↦ omega (arith, rest)
            | false ↦ rest
          ]
      | false ↦
          elim (eqb a.level level) as (λ b. length (at_level level (without n arenas)) ≤ length (cond b (a ∷ at_level level arenas) (at_level level arenas))) [
            | true ↦ omega (arith, rest)
            | false ↦ rest
          ]
    ]

-- ---- one node of a level

pub node-alone : (n : ℕ) → n ≤ 12 → least_node n ≡ bits n
node-alone n few = rw (le-ltb 12 n few) refl

node-some : (n : ℕ) → 0 < n → 1 ≤ least_node n
node-some n some = elim (cases_lt 12 n) [
  | inl many ↦ rw (lt-ltb 12 n many) (omega arith)
  | inr few ↦ rw (le-ltb 12 n few) (omega (arith, length-digits_of_step 2 n (omega arith) some))
]

pub put-alone : (n : ℕ) → n ≤ 12 → least_put n ≡ bits (n + 1)
put-alone n few = rw (le-ltb 12 n few) refl

-- ---- a way down

pub way-alone : (n : ℕ) → n ≤ 12 → least_way n ≡ bits n
way-alone n few = omega (arith, length-digits_of-le 2 4 n (omega arith) (omega (arith, few)))

-- ---- a look for the arena whose enqueued work is served

pub picked-next : (arenas : List Arena) (k level v more : ℕ) → level ≡ k + 1 → least_picked arenas k ≤ v → v + least_node (length (at_level level arenas)) ≤ more → least_picked arenas (k + 1) ≤ more
picked-next arenas k level v more e before here =
    let one : k + 1 ≡ suc k = omega arith in
    let at : level ≡ suc k = omega (arith, e) in
    rw one (omega (arith, before, here, ap (λ l. least_node (length (at_level l arenas))) at))

pub picked-alone : (arenas : List Arena) (k level v more : ℕ) → level ≡ k + 1 → v ≡ least_picked arenas k → more ≡ v + least_node (length (at_level level arenas)) → more ≡ least_picked arenas (k + 1)
picked-alone arenas k level v more e before here =
    let one : k + 1 ≡ suc k = omega arith in
    let at : level ≡ suc k = omega (arith, e) in
    rw one (omega (arith, before, here, ap (λ l. least_node (length (at_level l arenas))) at))

-- it is some where some level has arenas
picked-has : (arenas : List Arena) (k levels : ℕ) → k < levels → 0 < length (at_level (k + 1) arenas) → 1 ≤ least_picked arenas levels
picked-has arenas k zero l some = absurd (omega arith)
picked-has arenas k (suc levels) l some = elim (cases_lt k levels) [
  | inl below ↦ omega (arith, picked-has arenas k levels below some)
  | inr here ↦
      let at : k + 1 ≡ suc levels = omega (arith, l, here) in
      omega (arith, node-some (length (at_level (k + 1) arenas)) some, ap (λ level. least_node (length (at_level level arenas))) at)
]

pub picked-some : (arenas : List Arena) (levels : ℕ) → All (λ (a : Arena). (1 ≤ a.level) × (a.level ≤ levels)) arenas → 0 < length arenas → 1 ≤ least_picked arenas levels
picked-some arenas levels leveled some = some-level arenas levels (least_picked arenas levels) leveled (λ k low at. picked-has arenas k levels low at) some

-- ---- an arena

pub extra-none : (s : State) → 0 < limit_of s → least_extra s ≡ 0
extra-none s some = rw (ne_eqb (limit_of s) 0 (λ n. absurd (omega arith))) refl

pub extra-some : (s : State) → limit_of s ≡ 0 → least_extra s ≡ least_picked s.arenas s.levels
extra-some s none = rw (eq-eqb (limit_of s) 0 none) refl

pub share-nobody : (s : State) (a : Arena) → limit_of s ≡ 0 → least_share s a ≡ 0
share-nobody s a none = rw (eq-eqb (limit_of s) 0 none) refl

pub share-unasked : (s : State) (a : Arena) → request_of a.claim ≡ 0 → least_share s a ≡ 0
share-unasked s a idle = rw (eq-eqb (request_of a.claim) 0 idle) (either (eqb (limit_of s) 0))
  where
    either : (b : Bool) → cond b 0 0 ≡ zero
    either true = refl
    either false = refl

pub share-way : (s : State) (a : Arena) → 0 < limit_of s → 0 < request_of a.claim → least_share s a ≡ least_way (length (at_level a.level s.arenas))
share-way s a some asks = rw (ne_eqb (limit_of s) 0 (λ n. absurd (omega arith)), ne_eqb (request_of a.claim) 0 (λ n. absurd (omega arith))) refl

pub seen-none : (s : State) (o : Option Arena) → o ≡ None → least_seen s o ≡ 0
seen-none s o e = rw e refl

pub seen-some : (s : State) (o : Option Arena) (a : Arena) → o ≡ Some a → least_seen s o ≡ least_extra s + least_share s a
seen-some s o a e = rw e refl

-- ---- where an arena stands

-- few stand beside it where no level has many
pub beside-few : (n : ℕ) (arenas : List Arena) → ((level : ℕ) → length (at_level level arenas) ≤ 12) → beside n arenas ≤ 12
beside-few n arenas few = of (arena_at n arenas)
  where
    of : (o : Option Arena) → len_beside o arenas ≤ 12
    of None = omega arith
    of (Some a) = few a.level
