-- What a part adds to what was written.
use Rattle.std.proofs.Common.{◌≡◌, ℕ, ◌+◌, ◌≤◌, List, ◌++◌, length, take, drop, ap, sym, ◌∙◌, arith, length-append}
use Rattle.std.proofs.lemmas.List.{take-append-le, take-append-drop, take_all, take_at}
use mathlib.Core.List.{IsPrefix}
use Rattle.market_types.specs.declared.reply.Entry.{Entry}

-- what was written of a history is written of a longer one
pub still-written : (n : ℕ) (old new : List Entry) → IsPrefix old new → n ≤ length old → take n new ≡ take n old
still-written n old new front small = ap (take n) (sym front.1) ∙ take-append-le n old front.0 small

module _ (n : ℕ) (old new before part : List Entry) (front : IsPrefix old new) (small : n ≤ length old) (is : new ≡ before ++ part) (at : length before ≡ n) where
  pub was-before : take n old ≡ before
  was-before = sym (still-written n old new front small) ∙ (ap (take n) is ∙ take_at before part n at)

  pub long : n + length part ≡ length new
  long = omega (arith, ap length is, length-append before part, at)

  pub all-written : (m : ℕ) → m ≡ n + length part → take m new ≡ new
  all-written m end = take_all m new (omega (arith, end, long))

  pub now-written : (m : ℕ) → m ≡ n + length part → take m new ≡ take n old ++ part
  now-written m end = all-written m end ∙ (is ∙ ap (λ xs. xs ++ part) (sym was-before))

  pub wrote : n ≡ length (take n old)
  wrote = sym at ∙ ap length (sym was-before)

-- the first entries begin all of them
pub first-ones : (n : ℕ) (xs : List Entry) → IsPrefix (take n xs) xs
first-ones n xs = (drop n xs, take-append-drop n xs)
