-- Some lines, and then more.
use Rattle.std.proofs.Common.{◌≡◌, ℕ, ◌≤◌, arith, List, [], ◌∷◌, ◌++◌, refl, sym, ap, ◌∙◌, append_assoc}
use Rattle.line_engine.specs.Lines.{Line}
use Rattle.line_engine.specs.Rule.{LineRule, after, replies_to}

module _ {S : Type 0} (rule : LineRule S) where
  pub after-append : (s : S) (xs ys : List Line) → after rule s (xs ++ ys) ≡ after rule (after rule s xs) ys
  after-append s [] ys = refl
  after-append s (line ∷ xs) ys = after-append (rule.next s line) xs ys

  pub replies_to-append : (s : S) (xs ys : List Line) → replies_to rule s (xs ++ ys) ≡ replies_to rule s xs ++ replies_to rule (after rule s xs) ys
  replies_to-append s [] ys = refl
  replies_to-append s (line ∷ xs) ys =
      let next = rule.next s line in
      ap (λ t. rule.reply s line ++ t) (replies_to-append next xs ys)
      ∙ sym (append_assoc (rule.reply s line) (replies_to rule next xs) (replies_to rule (after rule next xs) ys))

  -- what no line takes away from
  pub after-grows : (most_bytes : S → ℕ) → ((s : S) (line : Line) → most_bytes s ≤ most_bytes (rule.next s line))
      → (s : S) (lines : List Line) → most_bytes s ≤ most_bytes (after rule s lines)
  after-grows most_bytes grows s [] = omega arith
  after-grows most_bytes grows s (line ∷ lines) = omega (arith, grows s line, after-grows most_bytes grows (rule.next s line) lines)

  -- lines that are each answered by nothing
  pub replies_to-silent : ((s : S) (line : Line) → rule.reply s line ≡ []) → (s : S) (lines : List Line) → replies_to rule s lines ≡ []
  replies_to-silent none s [] = refl
  replies_to-silent none s (line ∷ lines) =
      ap (λ t. t ++ replies_to rule (rule.next s line) lines) (none s line) ∙ replies_to-silent none (rule.next s line) lines
