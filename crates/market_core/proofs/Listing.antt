-- The lists of all levels, put together level by level.
use Rattle.std.proofs.Common.{◌≡◌, ℕ, suc, ◌+◌, List, [], ◌∷◌, ◌++◌, map, length, length-append, sym, ap, ◌∙◌, refl, arith, append_assoc, append-nil}
use Rattle.std.specs.Prelude.{nat_lt}
use Rattle.std.specs.List.{filter}
use Rattle.std.proofs.lemmas.List.{map-append}
use Rattle.std.proofs.lemmas.List.Elements.{filter-append}
use Rattle.market_types.specs.State.{Arena, State}
use Rattle.market_types.specs.Counts.{Counts}
use Rattle.market_types.specs.Allotment.{at_level, in_order, recall, hire}
use Rattle.market_types.specs.Step.{above_zero, counts_of}
use Rattle.recall_hire.specs.declared.rows.Staffing.{Staffing}
use Rattle.recall_hire.specs.Staffed.{row_of, rows_of, rows_among, above_zero_in, recall_in, hire_in, imbalances}
use Rattle.recall_hire.specs.Shared.{IsListed}
use Rattle.market_core.specs.Divided.{rows_at}
use Rattle.market_core.proofs.Order.{levels_from}

above-append : (count : Staffing → ℕ) (xs ys : List Staffing) → above_zero_in count (xs ++ ys) ≡ above_zero_in count xs ++ above_zero_in count ys
above-append count xs ys =
    let f : Staffing → ℕ × ℕ = λ r. (r.arena, count r) in
    let p : ℕ × ℕ → _ = λ e. nat_lt 0 e.1 in
    ap (filter p) (map-append f xs ys) ∙ filter-append p (map f xs) (map f ys)

-- the rows of a level, and those of the levels after it
pub rows-parts : (s : State) (from n m : ℕ) → m ≡ suc n → rows_among s (levels_from from m s.arenas) ≡ rows_at s from ++ rows_among s (levels_from (from + 1) n s.arenas)
rows-parts s from n m e =
    ap (λ k. rows_among s (levels_from from k s.arenas)) e ∙ map-append (row_of s) (at_level from s.arenas) (levels_from (from + 1) n s.arenas)

one-list : (count : Staffing → ℕ) (s : State) (from n m : ℕ) (before after all : List (ℕ × ℕ)) → m ≡ suc n
    → after ≡ before ++ above_zero_in count (rows_at s from) → before ++ above_zero_in count (rows_among s (levels_from from m s.arenas)) ≡ all
    → after ++ above_zero_in count (rows_among s (levels_from (from + 1) n s.arenas)) ≡ all
one-list count s from n m before after all e added so_far =
    let later : List Staffing = rows_among s (levels_from (from + 1) n s.arenas) in
    ap (λ xs. xs ++ above_zero_in count later) added
    ∙ append_assoc before (above_zero_in count (rows_at s from)) (above_zero_in count later)
    ∙ ap (λ xs. before ++ xs) (sym (ap (above_zero_in count) (rows-parts s from n m e) ∙ above-append count (rows_at s from) later))
    ∙ so_far

-- the lists so far and what is still to come are all of it; so they are after one level more
pub level-listed : (s : State) (from n m : ℕ) (before after all : Counts) → m ≡ suc n → IsListed (rows_at s from) before after
    → IsListed (rows_among s (levels_from from m s.arenas)) before all
    → IsListed (rows_among s (levels_from (from + 1) n s.arenas)) after all
level-listed s from n m before after all e f g =
    record {
      recalls = sym (one-list recall_in s from n m before.recalls after.recalls all.recalls e f.recalls (sym g.recalls));
      hires = sym (one-list hire_in s from n m before.hires after.hires all.hires e f.hires (sym g.hires));
    }

-- so many more stand in the lists
pub level-longer : (s : State) (level : ℕ) (before after : Counts) → IsListed (rows_at s level) before after
    → length after.recalls + length after.hires ≡ length before.recalls + length before.hires + imbalances (rows_at s level)
level-longer s level before after f =
    let recalls = ap length f.recalls ∙ length-append before.recalls (above_zero_in recall_in (rows_at s level)) in
    let hires = ap length f.hires ∙ length-append before.hires (above_zero_in hire_in (rows_at s level)) in
    omega (arith, recalls, hires)

-- ---- all levels

counts-rows : (s : State) (count : ℕ → ℕ) (count_in : Staffing → ℕ) (arenas : List Arena) → ((a : Arena) → count_in (row_of s a) ≡ count a.number)
    → above_zero_in count_in (map (row_of s) arenas) ≡ above_zero count arenas
counts-rows s count count_in [] same = refl
counts-rows s count count_in (a ∷ arenas) same = rw (same a, counts-rows s count count_in arenas same) refl

-- what all rows add to empty lists are the market's
listing-begins : (s : State) → IsListed (rows_of s) (record { recalls = []; hires = [] }) (counts_of s)
listing-begins s =
    record {
      recalls = sym (counts-rows s (recall s) recall_in (in_order s) (λ a. refl));
      hires = sym (counts-rows s (hire s) hire_in (in_order s) (λ a. refl));
    }

pub listing-from : (s : State) (m : ℕ) (recalls hires : List (ℕ × ℕ)) → m ≡ s.levels → recalls ≡ [] → hires ≡ []
    → IsListed (rows_among s (levels_from 1 m s.arenas)) (record { recalls = recalls; hires = hires }) (counts_of s)
listing-from s m recalls hires e f g = rw (e, f, g) (listing-begins s)

-- so they are where no level is left
pub listing-ends : (s : State) (from m : ℕ) (lists all : Counts) → m ≡ 0 → IsListed (rows_among s (levels_from from m s.arenas)) lists all → lists ≡ all
listing-ends s from m lists all e f =
    let none : rows_among s (levels_from from m s.arenas) ≡ [] = rw e refl in
    let recalls : all.recalls ≡ lists.recalls = f.recalls ∙ ap (λ rows. lists.recalls ++ above_zero_in recall_in rows) none ∙ append-nil lists.recalls in
    let hires : all.hires ≡ lists.hires = f.hires ∙ ap (λ rows. lists.hires ++ above_zero_in hire_in rows) none ∙ append-nil lists.hires in
    let both : List (ℕ × ℕ) → List (ℕ × ℕ) → Counts = λ r h. record { recalls = r; hires = h } in
    ap (λ r. both r lists.hires) (sym recalls) ∙ ap (λ h. both all.recalls h) (sym hires)
