-- A look at rows to which one worker is due together: it is due at one of them, and none before it or behind it is allotted any.
use Rattle.std.proofs.Common.{◌≡◌, ℕ, ◌+◌, ◌-◌, ◌*◌, ◌<◌, ◌≤◌, List, ◌∷◌, ◌++◌, length, Option, Some, None, sym, ap, ◌∙◌, arith, length-append}
use Rattle.std.specs.List.{count_by}
use Rattle.market_types.specs.declared.row.Row.{Row}
use Rattle.market_types.specs.Allotment.{is_just}
use Rattle.market_types.specs.Rows.{requests}
use Rattle.market_types.proofs.RowReadings.{requests-append, requests-cons}
use Rattle.recall_hire.specs.declared.rows.Staffing.{Staffing}
use Rattle.recall_hire.specs.declared.sharing.Sharing.TheVariants.{Carried}
use Rattle.recall_hire.specs.Staffed.{first_in_need, searches}
use Rattle.wide_rows.specs.Passed.{IsReached}
use Rattle.recall_hire.specs.Shared.{IsLook, row_carry, staffed, carry_after}
use Rattle.recall_hire.proofs.Shares.{row_at, AreIdle, idle, share-kept, carry-rest, staffed-append, carry-append, need-later, searches-later, need-lacks, searches-lacks, need-enough, searches-enough}

-- rows before which nobody is allotted a worker, one that is allotted one, and rows behind it that are allotted none
record IsOne (k d : ℕ) (seats : List (Option ℕ)) (rows : List Row) (c past : ℕ) (here : Staffing) (later : List Staffing) : Type 0 where
  pub one : here.allotted ≡ 1
  pub need : first_in_need (staffed (Carried k d) seats c rows) ≡ first_in_need (here ∷ later)
  pub counted : searches (staffed (Carried k d) seats c rows) ≡ searches (here ∷ later)
  pub none : first_in_need later ≡ None
  pub idle : searches later ≡ 0
  pub carried : past ≡ carry_after (Carried k d) c rows
  pub some : 1 ≤ length rows

one-due : (k d : ℕ) (seats : List (Option ℕ)) (rows : List Row) (c past arena : ℕ) (h : IsReached k d c rows arena) → past + d ≡ c + k * requests rows → past < d
    → IsOne k d seats rows c past (row_at k d seats (c + k * requests h.before) h.row) (staffed (Carried k d) seats (row_carry (Carried k d) (c + k * requests h.before) h.row) h.after)
one-due k d seats rows c past arena h all few =
    let x : Row = h.row in
    let there : ℕ = c + k * requests h.before in
    let due : ℕ = x.request * k + there in
    let asked : requests rows ≡ requests h.before + (x.request + requests h.after) =
    ap requests h.rows_are ∙ requests-append h.before (x ∷ h.after) ∙ ap (λ n. requests h.before + n) (requests-cons x h.after) in
    let sum : past + d ≡ due + k * requests h.after = omega (arith, all, ap (λ n. k * n) asked) in
    let enough : d ≤ due = omega (arith, h.reached) in
    let less : due - 1 * d < d = omega (arith, sum, few) in
    let on : row_carry (Carried k d) there x ≡ due - 1 * d = carry-rest x.request k d there 1 h.below enough (omega (arith, enough)) less in
    let before : AreIdle k d seats c h.before = idle k d seats c h.before h.below in
    let behind : AreIdle k d seats (due - 1 * d) h.after = idle k d seats (due - 1 * d) h.after (omega (arith, sum, few, enough)) in
    let here : Staffing = row_at k d seats there x in
    let later : List Staffing = staffed (Carried k d) seats (row_carry (Carried k d) there x) h.after in
    let first : List Staffing = staffed (Carried k d) seats c h.before in
    let parts : staffed (Carried k d) seats c rows ≡ first ++ here ∷ later =
    ap (staffed (Carried k d) seats c) h.rows_are ∙ staffed-append (Carried k d) seats c h.before (x ∷ h.after)
    ∙ ap (λ m. first ++ staffed (Carried k d) seats m (x ∷ h.after)) before.carry in
    let after : carry_after (Carried k d) c rows ≡ carry_after (Carried k d) (row_carry (Carried k d) there x) h.after =
    ap (carry_after (Carried k d) c) h.rows_are ∙ carry-append (Carried k d) c h.before (x ∷ h.after) ∙ ap (λ m. carry_after (Carried k d) m (x ∷ h.after)) before.carry in
    record {
      one = share-kept x.request k d there 1 h.below enough (omega (arith, enough)) less;
      need = ap first_in_need parts ∙ need-later first (here ∷ later) before.need;
      counted = ap searches parts ∙ searches-later first (here ∷ later) before.need ∙ omega (arith, before.none);
      none = ap (λ m. first_in_need (staffed (Carried k d) seats m h.after)) on ∙ behind.need;
      idle = ap (λ m. searches (staffed (Carried k d) seats m h.after)) on ∙ behind.none;
      carried = sym (after ∙ ap (λ m. carry_after (Carried k d) m h.after) on ∙ behind.carry ∙ omega (arith, sum, enough));
      some = omega (arith, ap length h.rows_are ∙ length-append h.before (x ∷ h.after));
    }

-- it has no worker
pub one-lacks : (k d : ℕ) (seats : List (Option ℕ)) (rows : List Row) (c past arena after v w : ℕ) (h : IsReached k d c rows arena) → past + d ≡ c + k * requests rows → past < d
    → w ≡ v + length rows → count_by (is_just arena) seats ≡ 0 → IsLook k d seats rows c after v w (Some arena)
one-lacks k d seats rows c past arena after v w h all few counted nobody =
    let there : ℕ = c + k * requests h.before in
    let here : Staffing = row_at k d seats there h.row in
    let later : List Staffing = staffed (Carried k d) seats (row_carry (Carried k d) there h.row) h.after in
    let o : IsOne k d seats rows c past here later = one-due k d seats rows c past arena h all few in
    let active : here.active ≡ 0 = ap (λ a. count_by (is_just a) seats) (sym h.arena_is) ∙ nobody in
    let lacks : here.active < here.allotted = omega (arith, active, o.one) in
    record {
      found_is = ap Some h.arena_is ∙ sym (o.need ∙ need-lacks here later lacks);
      carried = λ n. absurd (let no : Some arena ≡ None = n in cc);
      below = λ n. absurd (let no : Some arena ≡ None = n in cc);
      looked = omega (arith, counted, o.counted, searches-lacks here later lacks, o.some);
      once = omega (arith, counted);
    }

-- it has one, or more
pub one-has : (k d : ℕ) (seats : List (Option ℕ)) (rows : List Row) (c past arena v w : ℕ) (h : IsReached k d c rows arena) → past + d ≡ c + k * requests rows → past < d
    → w ≡ v + length rows → 0 < count_by (is_just arena) seats → IsLook k d seats rows c past v w None
one-has k d seats rows c past arena v w h all few counted some =
    let there : ℕ = c + k * requests h.before in
    let here : Staffing = row_at k d seats there h.row in
    let later : List Staffing = staffed (Carried k d) seats (row_carry (Carried k d) there h.row) h.after in
    let o : IsOne k d seats rows c past here later = one-due k d seats rows c past arena h all few in
    let active : here.active ≡ count_by (is_just arena) seats = ap (λ a. count_by (is_just a) seats) (sym h.arena_is) in
    let enough : here.allotted ≤ here.active = omega (arith, active, o.one, some) in
    record {
      found_is = sym (o.need ∙ need-enough here later enough ∙ o.none);
      carried = λ _. o.carried;
      below = λ _. few;
      looked = omega (arith, counted, o.counted, (searches-enough here later enough).1, o.idle, o.some);
      once = omega (arith, counted);
    }
