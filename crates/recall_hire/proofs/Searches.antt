-- A look at rows one after the other, and a search through rows that passes over some.
use Rattle.std.proofs.Common.{◌≡◌, ℕ, ◌+◌, ◌*◌, ◌<◌, ◌≤◌, List, [], ◌∷◌, ◌++◌, length, Option, Some, None, refl, sym, ap, ◌∙◌, arith, length-append}
use Rattle.std.specs.List.{count_by}
use Rattle.std.proofs.Math.Nat.{mul-le-mul_left}
use Rattle.std.proofs.lemmas.List.{append-nil}
use Rattle.market_types.specs.declared.row.Row.{Row}
use Rattle.market_types.specs.Allotment.{is_just}
use Rattle.market_types.specs.Rows.{requests}
use Rattle.market_types.proofs.RowReadings.{requests-append, requests-cons}
use Rattle.market_types.specs.Bits.{bits}
use Rattle.wide_rows.specs.Passed.{IsPassed, IsCounted}
use Rattle.recall_hire.specs.declared.rows.Staffing.{Staffing}
use Rattle.recall_hire.specs.declared.sharing.Sharing.TheVariants.{Carried}
use Rattle.recall_hire.specs.Staffed.{first_in_need, searches}
use Rattle.recall_hire.specs.Shared.{IsLook, IsSearch, row_share, row_carry, staffed, carry_after}
use Rattle.recall_hire.proofs.Shares.{row_at, AreIdle, idle, looked-at, staffed-append, need-later, need-first, searches-later, searches-first, need-lacks, searches-lacks, need-enough, searches-enough}

-- ---- a look

-- no row is left
pub look-ends : (k d : ℕ) (seats : List (Option ℕ)) (rows : List Row) (c v w : ℕ) → c < d → rows ≡ [] → w ≡ v → IsLook k d seats rows c c v w None
look-ends k d seats rows c v w low none same = rw (none, same) (record { found_is = refl; carried = λ _. refl; below = λ _. low; looked = omega arith; once = omega arith })

-- the next row has too few
pub look-finds : (k d : ℕ) (seats : List (Option ℕ)) (rows : List Row) (x : Row) (r : List Row) (c after v w : ℕ) → rows ≡ x ∷ r → w ≡ v + 1
    → count_by (is_just x.arena) seats < row_share (Carried k d) c x → IsLook k d seats rows c after v w (Some x.arena)
look-finds k d seats rows x r c after v w e counted lacks =
    let later : List Staffing = staffed (Carried k d) seats (row_carry (Carried k d) c x) r in
    let parts : staffed (Carried k d) seats c rows ≡ row_at k d seats c x ∷ later = ap (staffed (Carried k d) seats c) e in
    record {
      found_is = sym (ap first_in_need parts ∙ need-lacks (row_at k d seats c x) later lacks);
      carried = λ n. absurd (let no : Some x.arena ≡ None = n in cc);
      below = λ n. absurd (let no : Some x.arena ≡ None = n in cc);
      looked = omega (arith, counted, ap searches parts ∙ searches-lacks (row_at k d seats c x) later lacks);
      once = omega (arith, counted, ap length e);
    }

-- it has enough, so the look goes on
pub look-goes-on : (k d : ℕ) (seats : List (Option ℕ)) (rows : List Row) (x : Row) (r : List Row) (c next after v w end : ℕ) (found : Option ℕ) → rows ≡ x ∷ r → w ≡ v + 1
    → row_share (Carried k d) c x ≤ count_by (is_just x.arena) seats → next ≡ row_carry (Carried k d) c x
    → IsLook k d seats r next after w end found → IsLook k d seats rows c after v end found
look-goes-on k d seats rows x r c next after v w end found e counted enough n g =
    let here : Staffing = row_at k d seats c x in
    let later : List Staffing = staffed (Carried k d) seats next r in
    let parts : staffed (Carried k d) seats c rows ≡ here ∷ later = ap (staffed (Carried k d) seats c) e ∙ ap (λ m. here ∷ staffed (Carried k d) seats m r) (sym n) in
    let bounds : (searches later ≤ searches (here ∷ later)) × (searches (here ∷ later) ≤ searches later + 1) = searches-enough here later enough in
    record {
      found_is = g.found_is ∙ sym (ap first_in_need parts ∙ need-enough here later enough);
      carried = λ none. g.carried none ∙ ap (λ m. carry_after (Carried k d) m r) n ∙ sym (ap (carry_after (Carried k d) c) e);
      below = g.below;
      looked = omega (arith, g.looked, counted, ap searches parts, bounds.1);
      once = omega (arith, g.once, counted, ap length e);
    }

-- ---- a search

-- what is passed over changes nothing
pub record IsSame (k d : ℕ) (seats : List (Option ℕ)) (rows rest : List Row) (c e : ℕ) : Type 0 where
  pub low : e < d
  pub need : first_in_need (staffed (Carried k d) seats c rows) ≡ first_in_need (staffed (Carried k d) seats e rest)
  pub counted : searches (staffed (Carried k d) seats c rows) ≡ searches (staffed (Carried k d) seats e rest)
  pub fewer : length rest ≤ length rows

pub passed-over : (k d : ℕ) (seats : List (Option ℕ)) (rows rest : List Row) (c e : ℕ) → c < d → IsPassed k d rows rest c e → IsSame k d seats rows rest c e
passed-over k d seats rows rest c e low p =
    let before : List Staffing = staffed (Carried k d) seats c p.passed in
    let later : List Staffing = staffed (Carried k d) seats e rest in
    let below : e < d = p.below low in
    let none : AreIdle k d seats c p.passed = idle k d seats c p.passed (omega (arith, p.carried, below)) in
    let parts : staffed (Carried k d) seats c rows ≡ before ++ later =
    ap (staffed (Carried k d) seats c) p.rows_are ∙ staffed-append (Carried k d) seats c p.passed rest
    ∙ ap (λ m. before ++ staffed (Carried k d) seats m rest) (none.carry ∙ sym p.carried) in
    record {
      low = below;
      need = ap first_in_need parts ∙ need-later before later none.need;
      counted = ap searches parts ∙ searches-later before later none.need ∙ omega (arith, none.none);
      fewer = omega (arith, ap length p.rows_are ∙ length-append p.passed rest);
    }

-- less than a worker is due to all
pub none-due : (k d : ℕ) (rows : List Row) (c n : ℕ) → n ≡ c + k * requests rows → n < d → IsPassed k d rows [] c n
none-due k d rows c n e l = record { passed = rows; rows_are = sym (append-nil rows); carried = e; below = λ _. l; none = λ g. absurd (omega (arith, e, g, l)) }

-- nobody is left to whom a worker is due
pub search-ends : (k d : ℕ) (seats : List (Option ℕ)) (rows : List Row) (h c e v : ℕ) → c < d → IsPassed k d rows [] c e → IsSearch k d seats (rows, h) c v v None
search-ends k d seats rows h c e v low p =
    let same : IsSame k d seats rows [] c e = passed-over k d seats rows [] c e low p in
    record {
      found_is = sym same.need;
      looked = omega (arith, same.counted);
      once = omega arith;
      most = omega arith;
    }

-- what comes next and what is left are part of what there was
pub record IsPart (rows next rest : List Row) : Type 0 where
  pub fewer : length next + length rest ≤ length rows
  pub less : requests next + requests rest ≤ requests rows

pub next-part : (k d : ℕ) (rows next rest : List Row) (c e : ℕ) → IsPassed k d rows (next ++ rest) c e → IsPart rows next rest
next-part k d rows next rest c e p = record {
  fewer = omega (arith, ap length p.rows_are ∙ length-append p.passed (next ++ rest), length-append next rest);
  less = omega (arith, ap requests p.rows_are ∙ requests-append p.passed (next ++ rest), requests-append next rest);
}

-- what is due to all of them stays the same past those that are passed over
pub due-past : (k d : ℕ) (rows next rest : List Row) (c e : ℕ) → IsPassed k d rows (next ++ rest) c e → e + k * requests next + k * requests rest ≡ c + k * requests rows
due-past k d rows next rest c e p =
    omega (arith, p.carried, ap (λ n. k * n) (ap requests p.rows_are ∙ requests-append p.passed (next ++ rest) ∙ ap (λ n. requests p.passed + n) (requests-append next rest)))

-- the rows that come next in a search that makes so many visits at most on its way to them, with somebody among them whom a worker
-- is due to
pub record IsNext (k d : ℕ) (rows next rest : List Row) (h c e v u : ℕ) : Type 0 where
  pub low : c < d
  pub passed : IsPassed k d rows (next ++ rest) c e
  pub due : d ≤ e + k * requests next
  pub counted : IsCounted rows next rest v u
  pub high : 2 * bits (length rows) ≤ h

-- somebody among them was found
pub search-finds : (k d : ℕ) (seats : List (Option ℕ)) (rows next rest : List Row) (h c e after v u w a : ℕ) → IsNext k d rows next rest h c e v u
    → IsLook k d seats next e after u w (Some a) → IsSearch k d seats (rows, h) c v w (Some a)
search-finds k d seats rows next rest h c e after v u w a p f =
    let S : List Staffing = staffed (Carried k d) seats c rows in
    let here : List Staffing = staffed (Carried k d) seats e next in
    let later : List Staffing = staffed (Carried k d) seats (carry_after (Carried k d) e next) rest in
    let same : IsSame k d seats rows (next ++ rest) c e = passed-over k d seats rows (next ++ rest) c e p.low p.passed in
    let parts : staffed (Carried k d) seats e (next ++ rest) ≡ here ++ later = staffed-append (Carried k d) seats e next rest in
    let counted : searches S ≡ searches here = same.counted ∙ ap searches parts ∙ searches-first here later a (sym f.found_is) in
    let some : 1 ≤ searches here = looked-at k d seats e next same.low p.due in
    let ways : h * searches S ≡ h * searches here = ap (λ n. h * n) counted in
    record {
      found_is = sym (same.need ∙ ap first_in_need parts ∙ need-first here later a (sym f.found_is));
      looked = omega (arith, f.looked, counted, p.counted.more);
      once = omega (arith, f.once, p.counted.once);
      most = omega (arith, f.once, p.counted.most, p.high, ways, mul-le-mul_left h some);
    }

-- nobody was, so the search goes on after them
pub search-goes-on : (k d : ℕ) (seats : List (Option ℕ)) (rows next rest : List Row) (h c e after v u w end : ℕ) (found : Option ℕ) → IsNext k d rows next rest h c e v u
    → IsLook k d seats next e after u w None → IsSearch k d seats (rest, h) after w end found → IsSearch k d seats (rows, h) c v end found
search-goes-on k d seats rows next rest h c e after v u w end found p f g =
    let S : List Staffing = staffed (Carried k d) seats c rows in
    let here : List Staffing = staffed (Carried k d) seats e next in
    let later : List Staffing = staffed (Carried k d) seats after rest in
    let same : IsSame k d seats rows (next ++ rest) c e = passed-over k d seats rows (next ++ rest) c e p.low p.passed in
    let parts : staffed (Carried k d) seats e (next ++ rest) ≡ here ++ later =
    staffed-append (Carried k d) seats e next rest ∙ ap (λ m. here ++ staffed (Carried k d) seats m rest) (sym (f.carried refl)) in
    let counted : searches S ≡ searches here + searches later = same.counted ∙ ap searches parts ∙ searches-later here later (sym f.found_is) in
    let some : 1 ≤ searches here = looked-at k d seats e next same.low p.due in
    let ways : h * searches S ≡ h * (searches here + searches later) = ap (λ n. h * n) counted in
    record {
      found_is = g.found_is ∙ sym (same.need ∙ ap first_in_need parts ∙ need-later here later (sym f.found_is));
      looked = omega (arith, f.looked, g.looked, counted, p.counted.more);
      once = omega (arith, f.once, g.once, p.counted.once);
      most = omega (arith, f.once, g.most, p.counted.most, p.high, ways, mul-le-mul_left h some);
    }

-- ---- one row alone

-- no row is passed over
pub none-passed : (k d : ℕ) (rows : List Row) (c : ℕ) → IsPassed k d rows rows c c
none-passed k d rows c = record { passed = []; rows_are = refl; carried = omega arith; below = λ l. l; none = λ _. refl }

-- the only row comes next where a worker is due to it
pub next-only : (k d : ℕ) (x : Row) (v : ℕ) → 0 < d → d ≤ k * x.request → IsNext k d (x ∷ []) (x ∷ []) [] (2 * bits 1) 0 0 v v
next-only k d x v low due = record {
  low = low;
  passed = none-passed k d (x ∷ []) 0;
  due = omega (arith, due, ap (λ n. k * n) (requests-cons x []));
  counted = record { more = omega arith; once = omega arith; most = omega arith };
  high = omega arith;
}

-- too little is due to it
pub only-idle : (k d : ℕ) (seats : List (Option ℕ)) (x : Row) (v : ℕ) → 0 < d → k * x.request < d → IsSearch k d seats (x ∷ [], 2 * bits 1) 0 v v None
only-idle k d seats x v low less =
    search-ends k d seats (x ∷ []) (2 * bits 1) 0 (k * x.request) v low (none-due k d (x ∷ []) 0 (k * x.request) (omega (arith, ap (λ n. k * n) (requests-cons x []))) less)

-- it has enough
pub only-ends : (k d : ℕ) (seats : List (Option ℕ)) (x : Row) (after v w : ℕ) → IsNext k d (x ∷ []) (x ∷ []) [] (2 * bits 1) 0 0 v v
    → IsLook k d seats (x ∷ []) 0 after v w None → IsSearch k d seats (x ∷ [], 2 * bits 1) 0 v w None
only-ends k d seats x after v w next look =
    search-goes-on k d seats (x ∷ []) (x ∷ []) [] (2 * bits 1) 0 0 after v v w w None next look
    (search-ends k d seats [] (2 * bits 1) after after w (look.below refl) (none-passed k d [] after))
