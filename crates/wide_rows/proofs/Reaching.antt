-- The row of a quad with which the demand is reached, found by a look at each lane.
use Rattle.std.proofs.Common.{◌≡◌, ℕ, zero, suc, ◌+◌, ◌-◌, ◌*◌, ◌<◌, ◌≤◌, min, List, [], ◌∷◌, ◌++◌, refl, sym, subst, ap, ◌∙◌, inl, inr, arith}
use Rattle.std.proofs.lemmas.Bool.{cases_lt}
use Rattle.std.proofs.lemmas.List.{append_assoc}
use Rattle.market_types.specs.declared.row.Row.{Row}
use Rattle.market_types.specs.Rows.{requests}
use Rattle.market_types.proofs.RowReadings.{requests-cons, requests-append}
use Rattle.wide_rows.specs.Leaves.{rows_below}
use Rattle.wide_rows.specs.Passed.{IsReached}

-- of so many rows those from one on were looked at: once the demand is reached, one of them is the one at which it is
pub record IsReaching (k d : ℕ) (f : ℕ → Row) (count lane start place behind : ℕ) : Type 0 where
  pub above : List Row
  pub rows_are : rows_below f count ≡ above ++ rows_below f (min count lane)
  pub sum : behind ≡ start + k * requests above
  pub found : d ≤ behind → IsReached k d start (rows_below f count) (f place).arena
  pub there : d ≤ behind → place < count

below_one : (f : ℕ → Row) (n : ℕ) → 0 < n → rows_below f n ≡ f (n - 1) ∷ rows_below f (n - 1)
below_one f zero some = absurd (omega (arith, some))
below_one f (suc n) some = ap (λ m. f m ∷ rows_below f m) (let e : n ≡ suc n - 1 = omega arith in e)

-- none was looked at
pub reaching_none : (k d : ℕ) (f : ℕ → Row) (count start place : ℕ) → count ≤ 4 → start < d → IsReaching k d f count 4 start place start
reaching_none k d f count start place few low = record {
  above = [];
  rows_are = ap (rows_below f) (let e : count ≡ min count 4 = omega (arith, few) in e);
  sum = omega arith;
  found = λ l. absurd (omega (arith, l, low));
  there = λ l. absurd (omega (arith, l, low));
}

-- one row more, which is picked where the demand was not reached before it
pub reaching_one : (k d : ℕ) (f : ℕ → Row) (count lane start place place' behind : ℕ) → 0 < lane → lane - 1 < count → (behind < d → place' ≡ lane - 1) → (d ≤ behind → place' ≡ place)
    → IsReaching k d f count lane start place behind → IsReaching k d f count (lane - 1) start place' (behind + k * (f (lane - 1)).request)
reaching_one k d f count lane start place place' behind some there picked kept s =
    let row : Row = f (lane - 1) in
    let below : rows_below f (min count lane) ≡ row ∷ rows_below f (lane - 1) = ap (rows_below f) (let e : min count lane ≡ lane = omega (arith, there) in e) ∙ below_one f lane some in
    let parts : rows_below f count ≡ s.above ++ row ∷ rows_below f (lane - 1) = s.rows_are ∙ ap (λ (l : List Row). s.above ++ l) below in
    let next : rows_below f (lane - 1) ≡ rows_below f (min count (lane - 1)) = ap (rows_below f) (let e : lane - 1 ≡ min count (lane - 1) = omega (arith, there) in e) in
    let here : behind < d → d ≤ behind + k * row.request → IsReached k d start (rows_below f count) row.arena = λ low l. record {
      before = s.above;
      row = row;
      after = rows_below f (lane - 1);
      rows_are = parts;
      arena_is = refl;
      below = omega (arith, low, s.sum);
      reached = omega (arith, l, s.sum);
    } in
    record {
      above = s.above ++ row ∷ [];
      rows_are = parts ∙ ap (λ (l : List Row). s.above ++ row ∷ l) next ∙ sym (append_assoc s.above (row ∷ []) (rows_below f (min count (lane - 1))));
      sum = omega (arith, s.sum, ap (λ n. k * n) (requests-append s.above (row ∷ [])), ap (λ n. k * n) (requests-cons row []));
      found = λ l. elim (cases_lt behind d) [
        | inl low ↦ subst (λ n. IsReached k d start (rows_below f count) (f n).arena) (sym (picked low)) (here low l)
        | inr enough ↦ subst (λ n. IsReached k d start (rows_below f count) (f n).arena) (sym (kept enough)) (s.found enough)
      ];
      there = λ l. elim (cases_lt behind d) [
        | inl low ↦ omega (arith, there, picked low)
        | inr enough ↦ omega (arith, kept enough, s.there enough)
      ];
    }

-- a lane with no row
pub reaching_no : (k d : ℕ) (f : ℕ → Row) (count lane start place place' behind request : ℕ) → count ≤ lane - 1 → (d ≤ behind → place' ≡ place) → request ≡ 0
    → IsReaching k d f count lane start place behind → IsReaching k d f count (lane - 1) start place' (behind + k * request)
reaching_no k d f count lane start place place' behind request far kept is s =
    let still : behind + k * request ≡ behind = omega (arith, ap (λ m. k * m) is) in
    record {
      above = s.above;
      rows_are = s.rows_are ∙ ap (λ n. s.above ++ rows_below f n) (let e : min count lane ≡ min count (lane - 1) = omega (arith, far) in e);
      sum = omega (arith, still, s.sum);
      found = λ l. subst (λ n. IsReached k d start (rows_below f count) (f n).arena) (sym (kept (omega (arith, l, still)))) (s.found (omega (arith, l, still)));
      there = λ l. omega (arith, kept (omega (arith, l, still)), s.there (omega (arith, l, still)));
    }

-- what is due stays below what is due to all
pub reaching_small : (k d : ℕ) (f : ℕ → Row) (count lane start place behind : ℕ) → 0 < lane → lane - 1 < count → IsReaching k d f count lane start place behind
    → behind + k * (f (lane - 1)).request ≤ start + k * requests (rows_below f count)
reaching_small k d f count lane start place behind some there s =
    let row : Row = f (lane - 1) in
    let below : rows_below f (min count lane) ≡ row ∷ rows_below f (lane - 1) = ap (rows_below f) (let e : min count lane ≡ lane = omega (arith, there) in e) ∙ below_one f lane some in
    let asked : requests (rows_below f count) ≡ requests s.above + (row.request + requests (rows_below f (lane - 1))) =
    ap requests s.rows_are ∙ requests-append s.above (rows_below f (min count lane)) ∙ ap (λ (l : List Row). requests s.above + requests l) below ∙ ap (λ n. requests s.above + n) (requests-cons row (rows_below f (lane - 1))) in
    omega (arith, s.sum, ap (λ n. k * n) asked)
