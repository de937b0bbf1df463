-- Which levels are kept, and which is alone among those that are not.
use Rattle.std.specs.Prelude.{nat_lt}
use Rattle.std.proofs.Common.{◌≡◌, ℕ, zero, suc, ◌+◌, ◌-◌, ◌<◌, ◌≤◌, Bool, List, true, false, get_or, refl, ap, ◌∙◌, arith, inl, inr}
use Rattle.std.proofs.lemmas.Bool.{cases_eq, cases_lt}
use Rattle.std.proofs.lemmas.Bool.Decides.{nat_tests}
use Rattle.market_types.specs.declared.command.Cmd.{Cmd}
use Rattle.journal_chart.specs.declared.unkept.Unkept.{Unkept}
use Rattle.journal_chart.specs.declared.unkept.Unkept.TheVariants.{Nowhere, At, Anywhere}
use Rattle.journal_chart.specs.Unkept.{AreUnkept, unkept_of}
use Rattle.journal_chart.specs.Shares.{Shared}
use Rattle.journal_chart.specs.Steps.{is_kept, kept_levels}

pub kept-at : (cmd : Cmd) (was now : Shared) (levels j : ℕ) → j < 8 → get_or (kept_levels cmd was now levels) j false ≡ is_kept cmd was now levels (j + 1)
kept-at cmd was now levels zero inside = refl
kept-at cmd was now levels (suc zero) inside = refl
kept-at cmd was now levels (suc (suc zero)) inside = refl
kept-at cmd was now levels (suc (suc (suc zero))) inside = refl
kept-at cmd was now levels (suc (suc (suc (suc zero)))) inside = refl
kept-at cmd was now levels (suc (suc (suc (suc (suc zero))))) inside = refl
kept-at cmd was now levels (suc (suc (suc (suc (suc (suc zero)))))) inside = refl
kept-at cmd was now levels (suc (suc (suc (suc (suc (suc (suc zero))))))) inside = refl
kept-at cmd was now levels (suc (suc (suc (suc (suc (suc (suc (suc n)))))))) inside = absurd (omega (arith, inside))

pub kept-above : (cmd : Cmd) (was now : Shared) (levels level : ℕ) → levels < level → is_kept cmd was now levels level ≡ true
kept-above cmd was now levels level above = let past : nat_lt levels level ≡ true = grind (arith, nat_tests) in rw past refl

-- ---- the one that is not

-- of the first n levels all are kept but this one
pub record IsSoFar (kept : List Bool) (n level : ℕ) : Type 0 where
  pub low : 1 ≤ level
  pub high : level ≤ n
  pub open_ : get_or kept (level - 1) false ≡ false
  pub others : (j : ℕ) → j < n → (j + 1 ≡ level → ⊥) → get_or kept j false ≡ true

-- of the first n levels all are kept, or all but this one
abbrev pub AreSoFar : List Bool → ℕ → Unkept → Type 0
AreSoFar kept n Nowhere = (j : ℕ) → j < n → get_or kept j false ≡ true
AreSoFar kept n (At level) = IsSoFar kept n level
AreSoFar kept n Anywhere = Unit {0}

-- one more is kept
pub so-far-kept : (kept : List Bool) (n : ℕ) (open_ : Unkept) → get_or kept n false ≡ true → AreSoFar kept n open_ → AreSoFar kept (n + 1) open_
so-far-kept kept n Nowhere here are = λ j less. elim (cases_eq j n) [
  | inl is ↦ ap (λ k. get_or kept k false) is ∙ here
  | inr other ↦ are j (omega (arith, less, other))
]
so-far-kept kept n (At first) here is = record {
  low = is.low;
  high = omega (arith, is.high);
  open_ = is.open_;
  others = λ j less apart. elim (cases_eq j n) [
    | inl last ↦ ap (λ k. get_or kept k false) last ∙ here
    | inr other ↦ is.others j (omega (arith, less, other)) apart
  ];
}
so-far-kept kept n Anywhere here is = tt

-- one more is not
pub so-far-more : (old new : List Bool) (n count last : ℕ) → ((j : ℕ) → j < n → get_or new j false ≡ get_or old j false) → get_or new n false ≡ false
    → AreSoFar old n (unkept_of count last) → AreSoFar new (n + 1) (unkept_of (suc count) n)
so-far-more old new n zero last same here are = record {
  low = omega arith;
  high = omega arith;
  open_ = ap (λ k. get_or new k false) (omega arith) ∙ here;
  others = λ j less apart.
      let before : j < n = let other : j ≡ n → ⊥ = λ e. apart (ap (λ k. k + 1) e) in omega (arith, less, other) in
      same j before ∙ are j before;
}
so-far-more old new n (suc count) last same here is = tt

-- all are looked at, and those above are kept
pub so-far-all : (kept : List Bool) (n : ℕ) (open_ : Unkept) → ((j : ℕ) → n ≤ j → j < 8 → get_or kept j false ≡ true) → AreSoFar kept n open_ → AreUnkept kept open_
so-far-all kept n Nowhere above are = λ j few. elim (cases_lt j n) [
  | inl within ↦ are j within
  | inr past ↦ above j past few
]
so-far-all kept n (At level) above is = record {
  open_ = is.open_;
  others = λ other low high apart. elim (cases_lt (other - 1) n) [
    | inl within ↦ is.others (other - 1) within (λ e. apart (omega (arith, e, low)))
    | inr past ↦ above (other - 1) past (omega (arith, low, high))
  ];
}
so-far-all kept n Anywhere above is = tt
