use Rattle.std.specs.Prelude.{nat_lt}
use Rattle.std.proofs.Common.{◌≡◌, ◌+◌, ◌*◌, ◌/◌, ◌%◌, ◌^◌, ◌<◌, ◌≤◌, ℕ, sym, ap, ◌∙◌, subst, arith}
use Rattle.std.proofs.lemmas.Bool.Decides.{nat_tests}
use Rattle.std.proofs.Math.Nat.{div-add-mod, div-mul-le_self, mul_comm}
use Rattle.journal_chart.specs.Columns.{width_of}
use Rattle.journal_chart.specs.Numbers.{Charted}
use Rattle.journal_chart.specs.Steps.{goes_on}
use Rattle.journal_chart.proofs.chart.Chart.goes_on.Goals as goal

pub moments_before-requires : goal.moments_before-requires
moments_before-requires c =
    let n : ℕ = c.self.inside.moments in
    let w : ℕ = c.self.inside.width in
    let place : n / w ≡ c.args.place = ap (λ v. n / v) c.self.invariant.1 ∙ ap (λ (d : Charted). d.moments / width_of d.most d.moments) c.self.view_is ∙ sym c.requires.place in
    let few : c.args.place * w ≤ n = subst (λ p. p * w ≤ n) place (div-mul-le_self n w) in
    let fits : n < 2 ^ 63 = subst (λ (d : Charted). d.moments < 2 ^ 63) (sym c.self.view_is) c.requires.few in
    omega (arith, few, fits)

-- some moments come after the last column that is full
after : (n w : ℕ) → nat_lt (n / w * w) n ≡ nat_lt 0 (n % w)
after n w =
    let whole : w * (n / w) + n % w ≡ n = div-add-mod n w in
    let turned : w * (n / w) ≡ n / w * w = mul_comm w (n / w) in
    go (n / w * w) (n % w) (ap (λ k. k + n % w) (sym turned) ∙ whole)
  where
    go : (m rest : ℕ) → m + rest ≡ n → nat_lt m n ≡ nat_lt 0 rest
    go m rest is = grind (arith, nat_tests)

pub returns : goal.returns
returns c =
    let n : ℕ = c.self.inside.moments in
    let w : ℕ = c.self.inside.width in
    let place : c.args.place ≡ n / w = c.requires.place ∙ sym (ap (λ (d : Charted). d.moments / width_of d.most d.moments) c.self.view_is) ∙ ap (λ v. n / v) (sym c.self.invariant.1) in
    ap (λ k. nat_lt k n) (c.moments_before.ensures ∙ ap (λ k. k * w) place)
    ∙ after n w
    ∙ ap (λ v. nat_lt 0 (n % v)) c.self.invariant.1
    ∙ ap goes_on c.self.view_is
