-- What the store keeps, through each change.
use Rattle.std.proofs.Common.{◌≡◌, ◌≢◌, ℕ, suc, ◌+◌, ◌-◌, ◌*◌, ◌<◌, ◌≤◌, true, false, cond, ltb, not, List, [], ◌∷◌, ◌++◌, length, get_or, set, take, drop, Option, Some, None, refl, sym, ap, subst, ◌∙◌, arith, inl, inr, length-append}
use Rattle.std.specs.List.{All, find, remove, sum_by, count_by, list_any}
use Rattle.std.specs.Option.{option_map}
use Rattle.std.proofs.lemmas.Bool.{cases_eq, cases_Bool, eq-eqb, ne_eqb, lt-ltb}
use Rattle.std.proofs.lemmas.List.Elements.{All-head, All-tail, All-weaker, All-append, All-push, All-set, All-take, All-drop, All-filter, All-get_or}
use Rattle.std.proofs.lemmas.List.{get_or-set_same, get_or-set_other, length-set, length-map}
use Rattle.std.proofs.lemmas.List.Edits.{length-remove}
use Rattle.std.proofs.lemmas.List.Quantifiers.{all_pairs_push, all_pairs_remove}
use Rattle.std.proofs.lemmas.List.Sums.{sum_by-cons, sum_by_push, sum_by-set, sum_by-remove, get_or-le-sum_by}
use Rattle.market_types.specs.declared.row.Row.{Row}
use Rattle.market_types.specs.State.{Claim, Arena}
use Rattle.market_types.specs.Claims.{request_of, is_mandated}
use Rattle.market_types.specs.Allotment.{at_level, has_mandatory}
use Rattle.market_types.specs.Step.{arena_at, without, with_claim}
use Rattle.arena_store.specs.Arenas.{has_number, IsMissing, level_row, level_rows}
use Rattle.arena_store.specs.Store.{by_stamp, IsByNumber, IsListed, IsStored, has_work, IsKept}
use Rattle.arena_store.proofs.ByStamp.{IsOlder, All-by_stamp, by_stamp-All, sum_by-by_stamp, length-by_stamp, arena_at-by_stamp_none, without-missing}
use Rattle.arena_store.proofs.LevelRows.{level_rows-with_claim, level_rows-with_claim_other, level_rows-without, level_rows-without_other, level_row-at, level_rows-older, level_rows-mandated, length-level_rows}
use Rattle.arena_store.proofs.Found.{Found, found-at, found-matches, found-levels}
use Rattle.market_types.specs.Bits.{bits}
use Rattle.market_types.specs.Rows.{row_at, set_row, without as without_row}
use Rattle.wide_rows.specs.Leveled.{rows_at, total_rows, with_first, without_at}
use Rattle.wide_rows.specs.Ways.{least_way, least_node, least_put}
use Rattle.arena_store.proofs.Digits.{bits-more, bits-few}
use Rattle.arena_store.proofs.ByNumber.{table-found, table-claimed, table-removed, table-promoted, table-pushed, rising-set, apart-by_stamp, newest-with_claim, newest-without, newest-cons}

abbrev IsLevel : Arena → Type 0
IsLevel a = (1 ≤ a.level) × (a.level ≤ 8)

-- ---- what callers learn

pub kept : (xs : List Arena) (lists : List (List Row)) (n : ℕ) → IsStored xs lists n → IsKept (by_stamp xs)
kept xs lists n h =
    record {
      few = omega (arith, length-by_stamp xs, h.few);
      apart = apart-by_stamp xs h.by_number;
      newest_first = h.newest_first;
    }

missing : (n : ℕ) (xs : List Arena) → All (λ (a : Arena). a.number ≢ n) xs → IsMissing n (by_stamp xs)
missing n xs h =
    All-by_stamp (λ (a : Arena). has_number n a ≡ false) xs (All-weaker (λ (a : Arena). a.number ≢ n) (λ (a : Arena). has_number n a ≡ false) (λ a apart. ne_eqb a.number n apart) xs h)

-- no arena is found where no number is as wanted
pub missing-by_stamp : (n : ℕ) (xs : List Arena) → All (λ (a : Arena). a.number ≢ n) xs → arena_at n (by_stamp xs) ≡ None
missing-by_stamp n xs h =
    arena_at-by_stamp_none n xs (All-weaker (λ (a : Arena). a.number ≢ n) (λ (a : Arena). has_number n a ≡ false) (λ a apart. ne_eqb a.number n apart) xs h)

-- the arena at an index is found by its number
pub found-by_stamp : (n i : ℕ) (xs : List Arena) (x : Arena) → IsByNumber xs → i < length xs → x ≡ get_or xs i x → ((d : Arena) → (get_or xs i d).number ≡ n) → arena_at n (by_stamp xs) ≡ Some x
found-by_stamp n i xs x rising within e number =
    let same : x.number ≡ n = ap (λ (a : Arena). a.number) e ∙ number x in
    rw (← same) (table-found xs i x rising within e)

-- the arena of the store is the one at its index
pub index-found : (n i : ℕ) (xs : List Arena) (x y : Arena) → IsByNumber xs → i < length xs → y ≡ get_or xs i y → ((d : Arena) → (get_or xs i d).number ≡ n) → arena_at n (by_stamp xs) ≡ Some x → y ≡ x
index-found n i xs x y rising within e number found =
    let there : arena_at n (by_stamp xs) ≡ Some y = found-by_stamp n i xs y rising within e number in
    same-some y x (sym there ∙ found)
  where
    same-some : (a b : Arena) → Some a ≡ Some b → a ≡ b
    same-some a b h = cc

-- ---- enqueued work

has-some : (xs : List Arena) → list_any has_work xs ≡ ltb 0 (count_by has_work xs)
has-some [] = refl
has-some (x ∷ xs) =
    let sum = sum_by-cons (λ (a : Arena). cond (has_work a) 1 0) x xs in
    elim (cases_Bool (has_work x)) [
      | inl t ↦
          let more : count_by has_work (x ∷ xs) ≡ 1 + count_by has_work xs = sum ∙ rw t refl in
          let some : 0 < count_by has_work (x ∷ xs) = omega arith in
          let any : list_any has_work (x ∷ xs) ≡ true = rw t refl in
          any ∙ sym (lt-ltb 0 (count_by has_work (x ∷ xs)) some)
      | inr f ↦
          let same : count_by has_work (x ∷ xs) ≡ count_by has_work xs = sum ∙ rw f (omega arith) in
          let any : list_any has_work (x ∷ xs) ≡ list_any has_work xs = rw f refl in
          any ∙ has-some xs ∙ ap (ltb 0) (sym same)
    ]

-- some arena has enqueued work where the count says so
pub has-work : (xs : List Arena) (lists : List (List Row)) (n : ℕ) → IsStored xs lists n → has_mandatory (by_stamp xs) ≡ ltb 0 n
has-work xs lists n h =
    has-some (by_stamp xs) ∙ ap (ltb 0) (sum_by-by_stamp (λ (a : Arena). cond (has_work a) 1 0) xs ∙ sym h.enqueued)

-- ---- the lists

-- a list is written that is right, and those of other levels stay
pub listed-set : (lists : List (List Row)) (old new : List Arena) (level : ℕ) (rows : List Row) → IsListed lists old → 1 ≤ level → level ≤ 8 → rows ≡ level_rows level new
    → ((k : ℕ) → level ≢ k → level_rows k new ≡ level_rows k old) → IsListed (set lists (level - 1) rows) new
listed-set lists old new level rows h low high right others =
    record {
      width = length-set lists (level - 1) rows ∙ h.width;
      rows = λ k d klow khigh.
          elim (cases_eq level k) [
            | inl e ↦
                let index : k - 1 ≡ level - 1 = omega arith in
                ap (λ n. get_or (set lists (level - 1) rows) n d) index
                ∙ get_or-set_same lists (level - 1) rows d (let w = h.width in omega arith) ∙ right ∙ ap (λ n. level_rows n new) e
            | inr m ↦
                let other : k - 1 ≢ level - 1 = λ f. m (omega arith) in
                get_or-set_other lists (level - 1) (k - 1) rows d other ∙ h.rows k d klow khigh ∙ sym (others k m)
          ];
    }

-- ---- a new arena

level_rows-own : (x : Arena) (xs : List Arena) → level_rows x.level (x ∷ xs) ≡ level_row x ∷ level_rows x.level xs
level_rows-own x xs = rw (eq-eqb x.level x.level refl) refl

level_rows-others : (x : Arena) (xs : List Arena) (k : ℕ) → x.level ≢ k → level_rows k (x ∷ xs) ≡ level_rows k xs
level_rows-others x xs k m = rw (ne_eqb x.level k m) refl

-- levels with no rows have none together
total-none : (lists : List (List Row)) → ((i : ℕ) → i < length lists → get_or lists i [] ≡ []) → total_rows lists ≡ 0
total-none [] none = refl
total-none (rows ∷ lists) none =
    let here : rows ≡ [] = none 0 (omega arith) in
    let rest = total-none lists (λ i within. none (suc i) (omega arith)) in
    omega (arith, sum_by-cons (λ (r : List Row). length r) rows lists, ap length here, rest)

-- the lists have a row for each arena
total-listed : (lists : List (List Row)) (arenas : List Arena) → IsListed lists arenas → All IsLevel arenas → total_rows lists ≡ length arenas
total-listed lists [] h leveled =
    total-none lists (λ i within. let same : i ≡ (i + 1) - 1 = omega arith in let width = h.width in ap (λ k. get_or lists k []) same ∙ h.rows (i + 1) [] (omega arith) (omega arith))
total-listed lists (x ∷ arenas) h leveled =
    let level : IsLevel x = All-head IsLevel x arenas leveled in
    let others : List Row = level_rows x.level arenas in
    let fewer : IsListed (set lists (x.level - 1) others) arenas = listed-set lists (x ∷ arenas) arenas x.level others h level.0 level.1 refl (λ k m. sym (level_rows-others x arenas k m)) in
    let rest = total-listed (set lists (x.level - 1) others) arenas fewer (All-tail IsLevel x arenas leveled) in
    let here = h.rows x.level [] level.0 level.1 ∙ level_rows-own x arenas in
    let sums = sum_by-set (λ (r : List Row). length r) lists (x.level - 1) others [] (let width = h.width in omega arith) in
    omega (arith, sums, ap length here, rest)

pub total-stored : (xs : List Arena) (lists : List (List Row)) (n : ℕ) → IsStored xs lists n → total_rows lists ≡ length xs
total-stored xs lists n h = total-listed lists (by_stamp xs) h.listed (All-by_stamp IsLevel xs h.leveled) ∙ length-by_stamp xs

pub listed-cons : (lists : List (List Row)) (arenas : List Arena) (x : Arena) (index : ℕ) → IsListed lists arenas → (1 ≤ x.level) × (x.level ≤ 8)
    → index ≡ x.level - 1 → IsListed (with_first index (level_row x) lists) (x ∷ arenas)
listed-cons lists arenas x index h level p =
    rw p (listed-set lists arenas (x ∷ arenas) x.level (level_row x ∷ rows_at (x.level - 1) lists) h level.0 level.1
    (ap (λ rows. level_row x ∷ rows) (h.rows x.level [] level.0 level.1) ∙ sym (level_rows-own x arenas))
    (λ k m. level_rows-others x arenas k m))

pub stored-pushed : (xs : List Arena) (lists : List (List Row)) (n : ℕ) (x : Arena) (index m : ℕ) → IsStored xs lists n → length xs < 1024
    → All (IsOlder x.stamp) (by_stamp xs) → All (λ (b : Arena). b.number < x.number) (by_stamp xs) → (1 ≤ x.level) × (x.level ≤ 8)
    → index ≡ x.level - 1 → m ≡ n + cond (has_work x) 1 0
    → IsStored (xs ++ x ∷ []) (with_first index (level_row x) lists) m
stored-pushed xs lists n x index m h room older last level p f =
    let sorted = table-pushed xs x (by_stamp-All (IsOlder x.stamp) xs older) in
    let before : All (λ (b : Arena). b.number < x.number) xs = by_stamp-All (λ (b : Arena). b.number < x.number) xs last in
    record {
      few = omega (arith, length-append xs (x ∷ []));
      by_number = all_pairs_push (λ (a b : Arena). a.number < b.number) xs x h.by_number (λ k d within. before k d within);
      newest_first = rw sorted (newest-cons x (by_stamp xs) older h.newest_first);
      leveled = All-push IsLevel xs x h.leveled level;
      listed = rw sorted (listed-cons lists (by_stamp xs) x index h.listed level p);
      enqueued = f ∙ ap (λ k. k + cond (has_work x) 1 0) h.enqueued ∙ sym (sum_by_push (λ (a : Arena). cond (has_work a) 1 0) xs x);
    }

-- the store has what it had and the new arena
pub view-pushed : (xs : List Arena) (x : Arena) → All (IsOlder x.stamp) (by_stamp xs) → by_stamp (xs ++ x ∷ []) ≡ x ∷ by_stamp xs
view-pushed xs x older = table-pushed xs x (by_stamp-All (IsOlder x.stamp) xs older)

-- ---- an arena at an index

module _ (xs : List Arena) (lists : List (List Row)) (n i : ℕ) (x : Arena) (h : IsStored xs lists n) (within : i < length xs) (e : x ≡ get_or xs i x) where
  found-here : Found x.number x (by_stamp xs)
  found-here = found-at x.number (by_stamp xs) x (apart-by_stamp xs h.by_number) h.newest_first (table-found xs i x h.by_number within e)

  pub level-here : (1 ≤ x.level) × (x.level ≤ 8)
  level-here = rw e (All-get_or IsLevel xs i x within h.leveled)

  -- its row stands in the list of its level
  pub row-here : (index : ℕ) → index ≡ x.level - 1 → row_at x.stamp (rows_at index lists) ≡ Some (level_row x)
  row-here index p =
      let level = level-here in
      ap (λ k. row_at x.stamp (rows_at k lists)) p
      ∙ ap (row_at x.stamp) (h.listed.rows x.level [] level.0 level.1)
      ∙ level_row-at x.number x.stamp (by_stamp xs) x (found-matches x.number x (by_stamp xs) found-here) (table-found xs i x h.by_number within e)

  -- it is counted if it has enqueued work
  pub counted-within : cond (has_work x) 1 0 ≤ n
  counted-within =
      let w : Arena → ℕ = λ (a : Arena). cond (has_work a) 1 0 in
      let here : w (get_or xs i x) ≡ w x = ap w (sym e) in
      let part : w (get_or xs i x) ≤ sum_by w xs = get_or-le-sum_by w xs i x within in
      omega (arith, here, part, h.enqueued)

  -- ---- its claim changes

  pub view-claimed : (c : Claim) → by_stamp (set xs i (record x { claim = c })) ≡ with_claim x.number c (by_stamp xs)
  view-claimed c = table-claimed xs i x c h.by_number within e

  pub stored-claimed : (c : Claim) (index m : ℕ) → index ≡ x.level - 1 → m + cond (has_work x) 1 0 ≡ n + cond (ltb 0 c.mandatory) 1 0
      → IsStored (set xs i (record x { claim = c })) (set lists index (set_row x.stamp (request_of c) (is_mandated c) (rows_at index lists))) m
  stored-claimed c index m p g =
      let change : List Row → List Row = set_row x.stamp (request_of c) (is_mandated c) in
      let y : Arena = record x { claim = c } in
      let sorted = view-claimed c in
      let level = level-here in
      let matches = found-matches x.number x (by_stamp xs) found-here in
      let levels = found-levels x.number x (by_stamp xs) found-here in
      let w : Arena → ℕ = λ (a : Arena). cond (has_work a) 1 0 in
      record {
        few = omega (arith, length-set xs i y, h.few);
        by_number = rising-set xs i x y e refl h.by_number;
        newest_first = rw sorted (newest-with_claim x.number c (by_stamp xs) h.newest_first);
        leveled = All-set IsLevel xs i y level h.leveled;
        listed = rw (sorted, p) (listed-set lists (by_stamp xs) (with_claim x.number c (by_stamp xs)) x.level (change (rows_at (x.level - 1) lists)) h.listed level.0 level.1
            (ap change (h.listed.rows x.level [] level.0 level.1)
            ∙ sym (level_rows-with_claim x.level x.number x.stamp c (by_stamp xs) matches))
            (λ k apart. level_rows-with_claim_other k x.number x.level c (by_stamp xs) levels apart));
        enqueued =
            let sums : sum_by w (set xs i y) + w (get_or xs i x) ≡ sum_by w xs + w y = sum_by-set w xs i y x within in
            let here : w (get_or xs i x) ≡ w x = ap w (sym e) in
            omega (arith, sums, here, h.enqueued, g);
      }

  -- ---- it goes

  pub view-removed : by_stamp (remove xs i) ≡ without x.number (by_stamp xs)
  view-removed = let same : suc i ≡ i + 1 = omega arith in ap (λ k. by_stamp (take i xs ++ drop k xs)) same ∙ table-removed xs i x h.by_number within e

  pub listed-removed : (index : ℕ) → index ≡ x.level - 1 → IsListed (without_at index x.stamp lists) (without x.number (by_stamp xs))
  listed-removed index p =
      let change : List Row → List Row = without_row x.stamp in
      let level = level-here in
      let matches = found-matches x.number x (by_stamp xs) found-here in
      let levels = found-levels x.number x (by_stamp xs) found-here in
      rw p (listed-set lists (by_stamp xs) (without x.number (by_stamp xs)) x.level (change (rows_at (x.level - 1) lists)) h.listed level.0 level.1
      (ap change (h.listed.rows x.level [] level.0 level.1) ∙ sym (level_rows-without x.level x.number x.stamp (by_stamp xs) matches))
      (λ k apart. level_rows-without_other k x.number x.level (by_stamp xs) levels apart))

  pub stored-removed : (index m : ℕ) → index ≡ x.level - 1 → m + cond (has_work x) 1 0 ≡ n → IsStored (remove xs i) (without_at index x.stamp lists) m
  stored-removed index m p g =
      let sorted = view-removed in
      let w : Arena → ℕ = λ (a : Arena). cond (has_work a) 1 0 in
      record {
        few = omega (arith, length-remove xs i within, h.few);
        by_number = all_pairs_remove (λ (a b : Arena). a.number < b.number) xs i within h.by_number;
        newest_first = rw sorted (newest-without x.number (by_stamp xs) h.newest_first);
        leveled = All-append IsLevel (take i xs) (drop (suc i) xs) (All-take IsLevel i xs h.leveled) (All-drop IsLevel (suc i) xs h.leveled);
        listed = rw sorted (listed-removed index p);
        enqueued =
            let sums : sum_by w (remove xs i) + w (get_or xs i x) ≡ sum_by w xs = sum_by-remove w xs i x within in
            let here : w (get_or xs i x) ≡ w x = ap w (sym e) in
            omega (arith, sums, here, h.enqueued, g);
      }

  -- ---- it goes first

  pub view-promoted : (y : Arena) → All (IsOlder y.stamp) (by_stamp xs) → by_stamp (set xs i y) ≡ y ∷ without x.number (by_stamp xs)
  view-promoted y older = table-promoted xs i x y h.by_number within e (by_stamp-All (IsOlder y.stamp) xs older)

  -- the lists with the arena taken out of one and put first into another
  module _ (y : Arena) (older : All (IsOlder y.stamp) (by_stamp xs)) (level : (1 ≤ y.level) × (y.level ≤ 8)) (from to : ℕ) (p : from ≡ x.level - 1) (q : to ≡ y.level - 1) where
    listed-mid : IsListed (without_at from x.stamp lists) (without x.number (by_stamp xs))
    listed-mid = listed-removed from p

    older-mid : All (IsOlder y.stamp) (without x.number (by_stamp xs))
    older-mid = All-filter (λ (b : Arena). not (has_number x.number b)) (IsOlder y.stamp) (by_stamp xs) older

    there : rows_at to (without_at from x.stamp lists) ≡ level_rows y.level (without x.number (by_stamp xs))
    there = ap (λ k. get_or (without_at from x.stamp lists) k []) q ∙ listed-mid.rows y.level [] level.0 level.1

    pub promoted-newest : All (λ (r : Row). r.stamp < y.stamp) (rows_at to (without_at from x.stamp lists))
    promoted-newest = rw there (level_rows-older y.level y.stamp (without x.number (by_stamp xs)) older-mid)

    -- the visits to both lists are within the bound for all arenas
    pub promoted-visits : (b v : ℕ) → v ≤ b + 2 * bits (length (rows_at from lists)) + 2 * bits (length (rows_at to (without_at from x.stamp lists))) + 1 → v ≤ b + 4 * bits (length (by_stamp xs)) + 1
    promoted-visits b v k =
        let own = level-here in
        let here : rows_at from lists ≡ level_rows x.level (by_stamp xs) = ap (λ j. get_or lists j []) p ∙ h.listed.rows x.level [] own.0 own.1 in
        let part : length (rows_at from lists) ≤ length (by_stamp xs) = omega (arith, ap length here, length-level_rows x.level (by_stamp xs)) in
        let size : length (without x.number (by_stamp xs)) ≤ length (by_stamp xs) = omega (arith, ap length view-removed, length-by_stamp (remove xs i), length-by_stamp xs, length-remove xs i within) in
        let less : length (rows_at to (without_at from x.stamp lists)) ≤ length (by_stamp xs) = omega (arith, ap length there, length-level_rows y.level (without x.number (by_stamp xs)), size) in
        omega (arith, k, bits-more (length (rows_at from lists)) (length (by_stamp xs)) part, bits-more (length (rows_at to (without_at from x.stamp lists))) (length (by_stamp xs)) less)

    -- what is counted for both lists at least, by the arenas of their levels
    pub promoted-least : (b v : ℕ) → b + least_way (length (rows_at from lists)) + least_put (length (rows_at to (without_at from x.stamp lists))) ≤ v
        → b + least_way (length (at_level x.level (by_stamp xs))) + least_put (length (at_level y.level (without x.number (by_stamp xs)))) ≤ v
    promoted-least b v k =
        let own = level-here in
        let here : rows_at from lists ≡ level_rows x.level (by_stamp xs) = ap (λ j. get_or lists j []) p ∙ h.listed.rows x.level [] own.0 own.1 in
        let long : length (rows_at from lists) ≡ length (at_level x.level (by_stamp xs)) = ap length here ∙ length-map (at_level x.level (by_stamp xs)) level_row in
        let longer : length (rows_at to (without_at from x.stamp lists)) ≡ length (at_level y.level (without x.number (by_stamp xs))) = ap length there ∙ length-map (at_level y.level (without x.number (by_stamp xs))) level_row in
        subst (λ (n : ℕ). b + least_way (length (at_level x.level (by_stamp xs))) + least_put n ≤ v) longer (subst (λ (n : ℕ). b + least_way n + least_put (length (rows_at to (without_at from x.stamp lists))) ≤ v) long k)

    -- and just so many where they are few
    pub promoted-alone : (b v : ℕ) → (length (rows_at from lists) ≤ 12 → length (rows_at to (without_at from x.stamp lists)) ≤ 12 → v ≡ b + bits (length (rows_at from lists)) + bits (length (rows_at to (without_at from x.stamp lists)) + 1))
        → length (at_level x.level (by_stamp xs)) ≤ 12 → length (at_level y.level (without x.number (by_stamp xs))) ≤ 12
        → v ≡ b + bits (length (at_level x.level (by_stamp xs))) + bits (length (at_level y.level (without x.number (by_stamp xs))) + 1)
    promoted-alone b v k few less =
        let own = level-here in
        let here : rows_at from lists ≡ level_rows x.level (by_stamp xs) = ap (λ j. get_or lists j []) p ∙ h.listed.rows x.level [] own.0 own.1 in
        let long : length (rows_at from lists) ≡ length (at_level x.level (by_stamp xs)) = ap length here ∙ length-map (at_level x.level (by_stamp xs)) level_row in
        let longer : length (rows_at to (without_at from x.stamp lists)) ≡ length (at_level y.level (without x.number (by_stamp xs))) = ap length there ∙ length-map (at_level y.level (without x.number (by_stamp xs))) level_row in
        k (omega (arith, few, long)) (omega (arith, less, longer)) ∙ ap (λ n. b + bits n + bits (length (rows_at to (without_at from x.stamp lists)) + 1)) long ∙ ap (λ n. b + bits (length (at_level x.level (by_stamp xs))) + bits (n + 1)) longer

    pub stored-promoted : y.number ≡ x.number → y.claim ≡ x.claim → IsStored (set xs i y) (with_first to (level_row y) (without_at from x.stamp lists)) n
    stored-promoted number claim =
        let sorted = view-promoted y older in
        let w : Arena → ℕ = λ (a : Arena). cond (has_work a) 1 0 in
        record {
          few = omega (arith, length-set xs i y, h.few);
          by_number = rising-set xs i x y e number h.by_number;
          newest_first = rw sorted (newest-cons y (without x.number (by_stamp xs)) older-mid (newest-without x.number (by_stamp xs) h.newest_first));
          leveled = All-set IsLevel xs i y level h.leveled;
          listed = rw sorted (listed-cons (without_at from x.stamp lists) (without x.number (by_stamp xs)) y to listed-mid level q);
          enqueued =
              let sums : sum_by w (set xs i y) + w (get_or xs i x) ≡ sum_by w xs + w y = sum_by-set w xs i y x within in
              let here : w (get_or xs i x) ≡ w x = ap w (sym e) in
              let same : w y ≡ w x = ap (λ (c : Claim). cond (ltb 0 c.mandatory) 1 0) claim in
              omega (arith, sums, here, same, h.enqueued);
        }

-- ---- a list

arena-of : (o : Option Arena) → option_map (λ (r : Row). r.arena) (option_map level_row o) ≡ option_map (λ (a : Arena). a.number) o
arena-of None = refl
arena-of (Some a) = refl

module _ (xs : List Arena) (lists : List (List Row)) (n : ℕ) (h : IsStored xs lists n) (level index : ℕ) (low : 1 ≤ level) (high : level ≤ 8) (p : index ≡ level - 1) where
  pub list-at : rows_at index lists ≡ level_rows level (by_stamp xs)
  list-at = ap (λ k. rows_at k lists) p ∙ h.listed.rows level [] low high

  pub list-few : length (rows_at index lists) ≤ length xs
  list-few = omega (arith, ap length list-at, length-level_rows level (by_stamp xs), length-by_stamp xs)

  -- it is as long as the level
  pub list-long : length (rows_at index lists) ≡ length (at_level level (by_stamp xs))
  list-long = ap length list-at ∙ length-map (at_level level (by_stamp xs)) level_row

  -- so a visit to it counts what the level's arenas say
  pub list-least : (b v : ℕ) → b + least_way (length (rows_at index lists)) ≤ v → b + least_way (length (at_level level (by_stamp xs))) ≤ v
  list-least b v e = subst (λ (n : ℕ). b + least_way n ≤ v) list-long e

  pub list-node : (b v : ℕ) → b + least_node (length (rows_at index lists)) ≤ v → b + least_node (length (at_level level (by_stamp xs))) ≤ v
  list-node b v e = subst (λ (n : ℕ). b + least_node n ≤ v) list-long e

  pub list-put : (b v : ℕ) → b + least_put (length (rows_at index lists)) ≤ v → b + least_put (length (at_level level (by_stamp xs))) ≤ v
  list-put b v e = subst (λ (n : ℕ). b + least_put n ≤ v) list-long e

  pub list-alone : (b v : ℕ) → (length (rows_at index lists) ≤ 12 → v ≡ b + bits (length (rows_at index lists))) → length (at_level level (by_stamp xs)) ≤ 12 → v ≡ b + bits (length (at_level level (by_stamp xs)))
  list-alone b v e few = e (omega (arith, few, list-long)) ∙ ap (λ k. b + bits k) list-long

  pub list-put_alone : (b v : ℕ) → (length (rows_at index lists) ≤ 12 → v ≡ b + bits (length (rows_at index lists) + 1)) → length (at_level level (by_stamp xs)) ≤ 12 → v ≡ b + bits (length (at_level level (by_stamp xs)) + 1)
  list-put_alone b v e few = e (omega (arith, few, list-long)) ∙ ap (λ k. b + bits (k + 1)) list-long

  pub list-newest : (t : ℕ) → All (IsOlder t) (by_stamp xs) → All (λ (r : Row). r.stamp < t) (rows_at index lists)
  list-newest t older = rw list-at (level_rows-older level t (by_stamp xs) older)

  -- a visit to a list is within the bound for all arenas
  pub list-visits : (b v : ℕ) → v ≤ b + 2 * bits (length (rows_at index lists)) → v ≤ b + 2 * bits (length (by_stamp xs))
  list-visits b v e = omega (arith, bits-more (length (rows_at index lists)) (length (by_stamp xs)) (omega (arith, list-few, length-by_stamp xs)))

  -- so is a way down
  pub list-height : 2 * bits (length (rows_at index lists)) ≤ 2 * bits (length (by_stamp xs))
  list-height = omega (arith, list-visits 0 (2 * bits (length (rows_at index lists))) (omega arith))

  pub list-visits_one : (b v : ℕ) → v ≤ b + 2 * bits (length (rows_at index lists)) + 1 → v ≤ b + 2 * bits (length (by_stamp xs)) + 1
  list-visits_one b v e = omega (arith, bits-more (length (rows_at index lists)) (length (by_stamp xs)) (omega (arith, list-few, length-by_stamp xs)))

  -- the first mandated row is that of the first mandated arena
  pub list-mandated : (o : Option Row) → o ≡ find (λ (r : Row). r.mandated) (rows_at index lists)
      → option_map (λ (r : Row). r.arena) o ≡ option_map (λ (a : Arena). a.number) (find (λ (a : Arena). is_mandated a.claim) (at_level level (by_stamp xs)))
  list-mandated o e =
      ap (option_map (λ (r : Row). r.arena)) (e ∙ ap (find (λ (r : Row). r.mandated)) list-at ∙ level_rows-mandated level (by_stamp xs))
      ∙ arena-of (find (λ (a : Arena). is_mandated a.claim) (at_level level (by_stamp xs)))

pub all-few : (xs : List Arena) (lists : List (List Row)) (n : ℕ) → IsStored xs lists n → length (by_stamp xs) ≤ 1024
all-few xs lists n h = omega (arith, length-by_stamp xs, h.few)

pub all-visits : (xs : List Arena) (lists : List (List Row)) (n : ℕ) → IsStored xs lists n → 2 * bits (length (by_stamp xs)) ≤ 22
all-visits xs lists n h = omega (arith, bits-few (length (by_stamp xs)) (omega (arith, length-by_stamp xs, h.few)))

-- ---- no arena has the number

pub removed-missing : (n : ℕ) (xs : List Arena) → All (λ (a : Arena). a.number ≢ n) xs → without n (by_stamp xs) ≡ by_stamp xs
removed-missing n xs h = without-missing n (by_stamp xs) (missing n xs h)
