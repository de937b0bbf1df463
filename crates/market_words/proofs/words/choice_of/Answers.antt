use Rattle.std.proofs.Common.{◌≡◌, ◌∙◌, ap, bytes_eq, codes, sym, true, inl, inr, true≢false}
use Rattle.std.proofs.lemmas.Slice.Eq.{bytes_eq-Decides}
use Rattle.market_words.proofs.words.choice_of.Goals as goal

pub script_options-options-requires : goal.script_options-options-requires
script_options-options-requires c =
    elim c.requires [
      | inl script ↦ script.numbers
      | inr (inl is) ↦
          let same : c.eq.result ≡ true = c.eq.ensures ∙ (bytes_eq-Decides _ _).1 is in
          absurd (true≢false (sym same ∙ c.if-eq.false))
      | inr (inr (inl drive)) ↦
          let same : c.eq-2.result ≡ true = c.eq-2.ensures ∙ (bytes_eq-Decides _ _).1 drive.name in
          absurd (true≢false (sym same ∙ c.if-eq-2.false))
      | inr (inr (inr chart)) ↦
          let same : c.eq-3.result ≡ true = c.eq-3.ensures ∙ (bytes_eq-Decides _ _).1 chart.name in
          absurd (true≢false (sym same ∙ c.if-eq-3.false))
    ]

pub chart_options-requires : goal.chart_options-requires
chart_options-requires c =
    let yes : bytes_eq c.args.name.now (codes "chart") ≡ true = sym c.eq-3.ensures ∙ c.if-eq-3.true in
    elim c.requires [
      | inl script ↦
          elim script.name [
            | inl run ↦ absurd (true≢false (sym yes ∙ ap (λ n. bytes_eq n (codes "chart")) run))
            | inr explain ↦ absurd (true≢false (sym yes ∙ ap (λ n. bytes_eq n (codes "chart")) explain))
          ]
      | inr (inl is) ↦ absurd (true≢false (sym yes ∙ ap (λ n. bytes_eq n (codes "chart")) is))
      | inr (inr (inl drive)) ↦ absurd (true≢false (sym yes ∙ ap (λ n. bytes_eq n (codes "chart")) drive.name))
      | inr (inr (inr chart)) ↦ chart.numbers
    ]
