-- What the code has of the levels of a market is what is said of them.
use Rattle.std.specs.Prelude.{◌&&◌, nat_le, nat_lt, slice_index}
use Rattle.std.proofs.Common.{◌≡◌, ℕ, zero, suc, ◌+◌, ◌-◌, ◌<◌, ◌≤◌, true, cond, ltb, Some, refl, sym, ap, ◌∙◌, subst, arith}
use Rattle.std.proofs.lemmas.Bool.Decides.{nat_tests}
use Rattle.market_types.specs.State.{Arena, State}
use Rattle.market_types.specs.Claims.{request_of}
use Rattle.market_types.specs.Allotment.{allotment_of, assigned, demand, limit_of}
use Rattle.market_types.specs.Step.{arena_at}
use Rattle.journal_chart.specs.Shares.{all_asked, asked_at, shared_of}
use Rattle.journal_chart.specs.Steps.{is_divided}
use Rattle.journal_chart.proofs.Bounds.{IsShare, Whole, allotment-share, both}
use Rattle.journal_chart.proofs.Given.{given-is}
use Rattle.journal_chart.proofs.Kept.{Fine, found-number, found-within}

pub all-asked : (s : State) (place : ℕ) → place < 8 → slice_index (all_asked s) place ≡ asked_at s place
all-asked s zero inside = refl
all-asked s (suc zero) inside = refl
all-asked s (suc (suc zero)) inside = refl
all-asked s (suc (suc (suc zero))) inside = refl
all-asked s (suc (suc (suc (suc zero)))) inside = refl
all-asked s (suc (suc (suc (suc (suc zero))))) inside = refl
all-asked s (suc (suc (suc (suc (suc (suc zero)))))) inside = refl
all-asked s (suc (suc (suc (suc (suc (suc (suc zero))))))) inside = refl
all-asked s (suc (suc (suc (suc (suc (suc (suc (suc n)))))))) inside = absurd (omega (arith, inside))

pub asked-demand : (s : State) (place : ℕ) → place < s.levels → asked_at s place ≡ demand s (1 + place)
asked-demand s place inside =
    let within : ltb place s.levels ≡ true = grind (arith, nat_tests) in
    let next : place + 1 ≡ 1 + place = omega arith in
    ap (λ b. cond b (demand s (place + 1)) 0) within ∙ ap (demand s) next

asked-within : (s : State) (place : ℕ) → place < 8 → place < s.levels → slice_index (all_asked s) place ≡ demand s (1 + place)
asked-within s place few inside = all-asked s place few ∙ asked-demand s place inside

pub shared-asked : (s : State) (level : ℕ) → 1 ≤ level → level ≤ 8 → level ≤ s.levels → slice_index (shared_of s).asked (level - 1) ≡ demand s level
shared-asked s level low few high =
    let next : 1 + (level - 1) ≡ level = omega (arith, low) in
    asked-within s (level - 1) (omega (arith, low, few)) (omega (arith, low, high)) ∙ ap (demand s) next

pub shared-given : (s : State) (level : ℕ) → 1 ≤ level → level ≤ 8 → level ≤ s.levels → slice_index (shared_of s).given (level - 1) ≡ assigned s level
shared-given s level low few high =
    given-is s (all_asked s) level (λ j less. asked-within s j (omega (arith, less, few)) (omega (arith, less, high))) few low high

-- ---- what the levels are given

-- a level of a market that some worker may be active in
pub record Divides (u : State) (level : ℕ) : Type 0 where
  pub any : 0 < limit_of u
  pub low : 1 ≤ level
  pub few : level ≤ 8

pub divides : (u : State) (level : ℕ) → is_divided (shared_of u) level ≡ true → Divides u level
divides u level h =
    let g = both (nat_lt 0 (limit_of u)) (nat_le 1 level && nat_le level 8) h in
    let levels = both (nat_le 1 level) (nat_le level 8) g.1 in
    record {
      any = let e = g.0 in grind (arith, nat_tests);
      low = let e = levels.0 in grind (arith, nat_tests);
      few = let e = levels.1 in grind (arith, nat_tests);
    }

pub leveled : (u : State) (a : ℕ) (x : Arena) → Fine u → arena_at a u.arenas ≡ Some x → x.level ≤ u.levels
leveled u a x fine found = found-within (λ (b : Arena). b.level ≤ u.levels) a u.arenas x found fine.leveled

-- a living arena's allotment is its share
pub share : (whole : Whole) (t : State) (a : ℕ) (y : Arena) → Fine t → arena_at a t.arenas ≡ Some y → Divides t y.level
    → IsShare (request_of y.claim) (slice_index (shared_of t).given (y.level - 1)) (slice_index (shared_of t).asked (y.level - 1)) (allotment_of t y.number)
share whole t a y fine found d =
    let number : y.number ≡ a = found-number a t.arenas y found in
    let high : y.level ≤ t.levels = leveled t a y fine found in
    let given = shared-given t y.level d.low d.few high in
    let asked = shared-asked t y.level d.low d.few high in
    subst (λ g. IsShare (request_of y.claim) g (slice_index (shared_of t).asked (y.level - 1)) (allotment_of t y.number)) (sym given)
    (subst (λ k. IsShare (request_of y.claim) (assigned t y.level) k (allotment_of t y.number)) (sym asked)
    (subst (λ n. IsShare (request_of y.claim) (assigned t y.level) (demand t y.level) (allotment_of t n)) (sym number) (allotment-share whole a t y fine.once d.any found d.low high)))
