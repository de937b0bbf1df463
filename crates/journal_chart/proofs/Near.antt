-- A moment more that adds nothing to the column of the last.
use Rattle.std.specs.Prelude.{◌==◌, ◌&&◌, ◌||◌, nat_le, nat_lt, slice_index, unwrap_or}
use Rattle.std.specs.Option.{option_map}
use Rattle.std.proofs.Common.{◌≡◌, ℕ, zero, suc, ◌+◌, ◌-◌, ◌*◌, ◌/◌, ◌^◌, ◌<◌, ◌≤◌, ◌⊎◌, Bool, true, false, true≢false, cond, eqb, get_or, ltb, min, max, List, [], ◌∷◌, ◌++◌, length, Option, None, Some, refl, sym, ap, ◌∙◌, subst, arith, inl, inr}
use Rattle.std.proofs.lemmas.Bool.{cases_Bool}
use Rattle.std.proofs.lemmas.Bool.Decides.{nat_tests}
use Rattle.std.proofs.lemmas.List.{length_push}
use Rattle.market_types.specs.declared.command.Cmd.{Cmd}
use Rattle.market_types.specs.declared.command.Cmd.TheVariants.{Open, Close, Priority, Resize, Request, Control, Uncontrol, Join, Stay, Leave, Show, Lists, Limit}
use Rattle.market_types.specs.declared.reply.ArenaView.{ArenaView}
use Rattle.market_types.specs.declared.reply.Reply.{Reply}
use Rattle.market_types.specs.declared.reply.Reply.TheVariants.{Recalled, Stays}
use Rattle.market_types.specs.State.{Arena, State}
use Rattle.market_types.specs.Claims.{request_of}
use Rattle.market_types.specs.Allotment.{active, all_to, allotment_of, assigned, at_level, bound_of, carried, count_at, demand, effective_limit_of, has_mandatory, in_order, is_just, limit_of, mandatory_pick, need, recall}
use Rattle.market_types.specs.Step.{Outcome, arena_at, join_at, join_from, leave_from, place_of, stay_from, step, view_of, with_place}
use Rattle.journal_chart.specs.declared.covered.Covered.{Covered}
use Rattle.journal_chart.specs.declared.span.Span.{Span}
use Rattle.journal_chart.specs.declared.row.Known.{Known}
use Rattle.journal_chart.specs.Rows.{Row}
use Rattle.journal_chart.specs.Columns.{joined, width_of}
use Rattle.journal_chart.specs.Covering.{covered, covers, exactly, least_covered, none_covered, past_covered}
use Rattle.journal_chart.specs.Lines.{added, at}
use Rattle.journal_chart.specs.Numbers.{level_at, line_of, row_of, shown, view_at}
use Rattle.journal_chart.specs.declared.spot.Spot.{Spot}
use Rattle.journal_chart.specs.Spots.{no_spot}
use Rattle.journal_chart.specs.Shares.{Shared, shared_at, shared_of}
use Rattle.journal_chart.specs.Steps.{after_seat, changed, closed_row, has_few, has_share, is_covered, is_covered_at, is_divided, is_idle, is_joined, is_kept, is_same_part, is_same_share, is_spared_at, keeps_order, kept_levels, known_in, known_of, moves_seat, near_row, needing_row, own_row, respotted, retold, seat_row, seated, seen_row, share_of, shared_row, spot_of, stands_after, stands_kept, subject}
use Rattle.journal_chart.proofs.Bounds.{IsShare, Whole, allotment-level, at-level, both, covered-share, exact-share, same-carried, share-of-all, share-of-nothing}
use Rattle.journal_chart.proofs.Charts.{line-if, readied-row}
use Rattle.journal_chart.proofs.Kept.{Fine, Stands, Steady, apart-stands, found-number, steady-step}
use Rattle.journal_chart.proofs.Spared.{spared-covers}
use Rattle.journal_chart.proofs.Spots.{IsSpot, bared, known-bare}
use Rattle.journal_chart.proofs.Sharing.{divides, leveled, share, shared-asked, shared-given}
use Rattle.journal_chart.proofs.Still.{GoesOn, added-twice}
use Rattle.journal_chart.proofs.Told.{Retold, seated-step, told-step}

-- ---- a number that a column spans

either : (a b : Bool) → (a || b) ≡ true → (a ≡ true) ⊎ (b ≡ true)
either true b h = inl refl
either false b h = inr h

-- a column spans a number
record Inside (c : Option Span) (v : ℕ) : Type 0 where
  span : Span
  is : c ≡ Some span
  low : span.least ≤ v
  high : v ≤ span.most

joined-inside : (a : Span) (v : ℕ) → a.least ≤ v → v ≤ a.most → joined (Some a) (Some (record { least = v; most = v })) ≡ Some a
joined-inside a v low high =
    let least_is : min a.least v ≡ a.least = omega (arith, low) in
    let most_is : max a.most v ≡ a.most = omega (arith, high) in
    λ i. Some (record { least = least_is i; most = most_is i })

added-inside : (place v : ℕ) (columns : List (Option Span)) → Inside (at columns place) v → added place (Some v) columns ≡ columns
added-inside place v [] inside = refl
added-inside zero v (c ∷ cs) inside =
    ap (λ d. d ∷ cs) (ap (λ d. joined d (Some (record { least = v; most = v }))) inside.is ∙ joined-inside inside.span v inside.low inside.high ∙ sym inside.is)
added-inside (suc place) v (c ∷ cs) inside = ap (λ ds. c ∷ ds) (added-inside place v cs inside)

-- what is covered is spanned, with the recalls and the hires
record Spanned (a r h : Span) (n v : ℕ) : Type 0 where
  allot_low : a.least ≤ v
  allot_high : v ≤ a.most
  recall_low : r.least ≤ n - v
  recall_high : n - v ≤ r.most
  hire_low : h.least ≤ v - n
  hire_high : v - n ≤ h.most

spanned-if : (a r h : Span) (n v : ℕ) (no_hire no_recall : Bool) → eqb h.least 0 ≡ no_hire → eqb r.least 0 ≡ no_recall
    → max a.least (max (n - r.most) (cond no_hire 0 (n + h.least))) ≤ v → v < min (a.most + 1) (min (n + h.most + 1) (cond no_recall (a.most + 1) ((n + 1) - r.least)))
    → Spanned a r h n v
spanned-if a r h n v true true hires recalls low high =
    let hire : h.least ≡ 0 = grind (arith, nat_tests) in
    let recall_ : r.least ≡ 0 = grind (arith, nat_tests) in
    record {
      allot_low = omega (arith, low);
      allot_high = omega (arith, high);
      recall_low = omega (arith, recall_);
      recall_high = omega (arith, low);
      hire_low = omega (arith, hire);
      hire_high = omega (arith, high);
    }
spanned-if a r h n v true false hires recalls low high =
    let hire : h.least ≡ 0 = grind (arith, nat_tests) in
    record {
      allot_low = omega (arith, low);
      allot_high = omega (arith, high);
      recall_low = omega (arith, high);
      recall_high = omega (arith, low);
      hire_low = omega (arith, hire);
      hire_high = omega (arith, high);
    }
spanned-if a r h n v false true hires recalls low high =
    let recall_ : r.least ≡ 0 = grind (arith, nat_tests) in
    record {
      allot_low = omega (arith, low);
      allot_high = omega (arith, high);
      recall_low = omega (arith, recall_);
      recall_high = omega (arith, low);
      hire_low = omega (arith, low);
      hire_high = omega (arith, high);
    }
spanned-if a r h n v false false hires recalls low high =
    record {
      allot_low = omega (arith, low);
      allot_high = omega (arith, high);
      recall_low = omega (arith, high);
      recall_high = omega (arith, low);
      hire_low = omega (arith, low);
      hire_high = omega (arith, high);
    }

spanned-from : (a r h : Span) (n v : ℕ) (wide : Bool)
    → (cond wide none_covered (record { from = least_covered a r h n; below = past_covered a r h n })).from ≤ v
    → v < (cond wide none_covered (record { from = least_covered a r h n; below = past_covered a r h n })).below → Spanned a r h n v
spanned-from a r h n v true low high = absurd (omega (arith, high))
spanned-from a r h n v false low high = spanned-if a r h n v (eqb h.least 0) (eqb r.least 0) refl refl low high

-- columns of allotments, recalls and hires span an allotment that is covered
record Spans (a r h : Option Span) (n v : ℕ) : Type 0 where
  allot : Inside a v
  recall : Inside r (n - v)
  hire : Inside h (v - n)

covered-spans : (a r h : Option Span) (n v : ℕ) → (covered a r h n).from ≤ v → v < (covered a r h n).below → Spans a r h n v
covered-spans None r h n v low high = absurd (omega (arith, high))
covered-spans (Some a) None h n v low high = absurd (omega (arith, high))
covered-spans (Some a) (Some r) None n v low high = absurd (omega (arith, high))
covered-spans (Some a) (Some r) (Some h) n v low high =
    let s = spanned-from a r h n v (ltb (2 ^ 32 - 1) (least_covered a r h n) || ltb (2 ^ 32 - 1) (past_covered a r h n)) low high in
    record {
      allot = record { span = a; is = refl; low = s.allot_low; high = s.allot_high };
      recall = record { span = r; is = refl; low = s.recall_low; high = s.recall_high };
      hire = record { span = h; is = refl; low = s.hire_low; high = s.hire_high };
    }

-- ---- seats that come and go

-- each arena is allotted what it was, and the limits are what they were
pub record Even (s t : State) : Type 0 where
  pub allotted : (n : ℕ) → allotment_of t n ≡ allotment_of s n
  pub limit : limit_of t ≡ limit_of s
  pub effective : effective_limit_of t ≡ effective_limit_of s
  pub shares : shared_of t ≡ after_seat t (shared_of s)

even-self : (s : State) → Even s s
even-self s = record { allotted = λ n. refl; limit = refl; effective = refl; shares = refl }

even-place : (s : State) (seat : ℕ) (place : Option ℕ) → Even s (with_place s seat place)
even-place s seat place = record { allotted = λ n. refl; limit = refl; effective = refl; shares = refl }

even-if : (s : State) (b : Bool) (x y : Outcome) → Even s x.1 → Even s y.1 → Even s (cond b x y).1
even-if s true x y h k = h
even-if s false x y h k = k

even-join_at : (s : State) (seat : ℕ) (o : Option Arena) → Even s (join_at s seat o).1
even-join_at s seat None = even-self s
even-join_at s seat (Some x) = even-place s seat (Some x.number)

even-join : (s : State) (seat : ℕ) (p : Option ℕ) → Even s (join_from s seat p).1
even-join s seat None = even-join_at s seat (need s)
even-join s seat (Some b) = even-self s

even-stay : (s : State) (seat : ℕ) (p : Option ℕ) → Even s (stay_from s seat p).1
even-stay s seat None = even-self s
even-stay s seat (Some b) = even-if s (nat_lt 0 (recall s b)) (Recalled b, with_place s seat None) (Stays b, s) (even-place s seat None) (even-self s)

even-leave : (s : State) (seat : ℕ) (p : Option ℕ) → Even s (leave_from s seat p).1
even-leave s seat None = even-self s
even-leave s seat (Some b) = even-place s seat None

seats-even : (s : State) (seat : ℕ) (cmd : Cmd) → moves_seat cmd ≡ true → Even s (step s seat cmd).1
seats-even s seat Join h = even-join s seat (place_of s seat)
seats-even s seat Stay h = even-stay s seat (place_of s seat)
seats-even s seat Leave h = even-leave s seat (place_of s seat)
seats-even s seat (Open slots reserved level) h = absurd (true≢false (sym h))
seats-even s seat (Close b) h = absurd (true≢false (sym h))
seats-even s seat (Priority b level) h = absurd (true≢false (sym h))
seats-even s seat (Resize b slots reserved) h = absurd (true≢false (sym h))
seats-even s seat (Request b workers mandatory) h = absurd (true≢false (sym h))
seats-even s seat (Control value) h = absurd (true≢false (sym h))
seats-even s seat (Uncontrol c) h = absurd (true≢false (sym h))
seats-even s seat (Show b) h = absurd (true≢false (sym h))
seats-even s seat Lists h = absurd (true≢false (sym h))
seats-even s seat Limit h = absurd (true≢false (sym h))

pub even-step : (s t : State) (seat : ℕ) (cmd : Cmd) (reply : Reply) → step s seat cmd ≡ (reply, t) → moves_seat cmd ≡ true → Even s t
even-step s t seat cmd reply answered moves = subst (λ (o : Outcome). Even s o.1) answered (seats-even s seat cmd moves)

-- ---- levels that are kept

kept-place : (cmd : Cmd) (was now : Shared) (levels place : ℕ) → get_or (kept_levels cmd was now levels) place false ≡ true → is_kept cmd was now levels (suc place) ≡ true
kept-place cmd was now levels zero h = h
kept-place cmd was now levels (suc zero) h = h
kept-place cmd was now levels (suc (suc zero)) h = h
kept-place cmd was now levels (suc (suc (suc zero))) h = h
kept-place cmd was now levels (suc (suc (suc (suc zero)))) h = h
kept-place cmd was now levels (suc (suc (suc (suc (suc zero))))) h = h
kept-place cmd was now levels (suc (suc (suc (suc (suc (suc zero)))))) h = h
kept-place cmd was now levels (suc (suc (suc (suc (suc (suc (suc zero))))))) h = h
kept-place cmd was now levels (suc (suc (suc (suc (suc (suc (suc (suc n)))))))) h = absurd (true≢false (sym h))

kept-level : (cmd : Cmd) (was now : Shared) (levels level : ℕ) → level ≤ levels → stands_kept (kept_levels cmd was now levels) (Some level) ≡ true
    → ((is_idle was && is_idle now) ≡ true) ⊎ ((keeps_order cmd && is_same_share was now level) ≡ true)
kept-level cmd was now levels level there h =
    let g = both (nat_le 1 level) (get_or (kept_levels cmd was now levels) (level - 1) false) h in
    let low : 1 ≤ level = let e = g.0 in grind (arith, nat_tests) in
    let next : suc (level - 1) ≡ level = omega (arith, low) in
    let kept : is_kept cmd was now levels level ≡ true = ap (is_kept cmd was now levels) (sym next) ∙ kept-place cmd was now levels (level - 1) g.1 in
    let below : nat_lt levels level ≡ false = grind (arith, nat_tests) in
    either (is_idle was && is_idle now) (keeps_order cmd && is_same_share was now level) (rw below at kept)

-- ---- where the limit is 0

to-one : (o : Option Arena) (m n a : ℕ) → m ≤ n → all_to o m a ≤ n
to-one None m n a few = omega arith
to-one (Some picked) m n a few =
    elim (cases_Bool (eqb picked.number a)) [
      | inl own ↦ rw own few
      | inr other ↦ rw other (omega arith)
    ]

few-allotted : (s : State) (a : ℕ) → limit_of s ≡ 0 → allotment_of s a ≤ effective_limit_of s
few-allotted s a none =
    let off : ltb 0 (limit_of s) ≡ false = grind (arith, nat_tests) in
    let within : bound_of s ≤ effective_limit_of s = omega arith in
    let few : all_to (mandatory_pick s) (bound_of s) a ≤ effective_limit_of s = to-one (mandatory_pick s) (bound_of s) (effective_limit_of s) a within in
    subst (λ n. n ≤ effective_limit_of s) (ap (λ b. cond b (count_at a (carried (assigned s) (demand s) 0 (in_order s))) (all_to (mandatory_pick s) (bound_of s) a)) (sym off)) few

idle-limit : (s : State) → is_idle (shared_of s) ≡ true → limit_of s ≡ 0
idle-limit s idle = go (ltb 0 (limit_of s)) refl idle
  where
    go : (b : Bool) → ltb 0 (limit_of s) ≡ b → eqb (cond b (limit_of s) (cond (has_mandatory s.arenas) 1 0)) 0 ≡ true → limit_of s ≡ 0
    go true some none = grind (arith, nat_tests)
    go false off none = grind (arith, nat_tests)

pub idle-allotted : (s : State) (a : ℕ) → is_idle (shared_of s) ≡ true → allotment_of s a ≡ 0
idle-allotted s a idle =
    let none : effective_limit_of s ≡ 0 = grind (arith, nat_tests) in
    omega (arith, none, few-allotted s a (idle-limit s idle))

-- what is told of an arena's allotment is so
pub share-is : (whole : Whole) (t : State) (a : ℕ) (y : Arena) (k : Known) → Fine t → arena_at a t.arenas ≡ Some y → request_of y.claim ≡ k.request
    → allotment_of t y.number ≡ share_of t (shared_of t) k a y.level
share-is whole t a y k fine found asks = go (is_divided (shared_of t) y.level) (is_idle (shared_of t)) refl refl
  where
    given : ℕ
    given = slice_index (shared_of t).given (y.level - 1)

    asked : ℕ
    asked = slice_index (shared_of t).asked (y.level - 1)

    number : allotment_of t y.number ≡ allotment_of t a
    number = ap (allotment_of t) (found-number a t.arenas y found)

    told : is_divided (shared_of t) y.level ≡ true → (o : Option ℕ) → exactly k.request given asked ≡ o → allotment_of t y.number ≡ unwrap_or o (allotment_of t a)
    told some None is = number
    told some (Some v) is =
        let own = share whole t a y fine found (divides t y.level some) in
        let own' = subst (λ n. IsShare n given asked (allotment_of t y.number)) asks own in
        exact-share k.request given asked (allotment_of t y.number) v own' is

    go : (divided idle : Bool) → is_divided (shared_of t) y.level ≡ divided → is_idle (shared_of t) ≡ idle
        → allotment_of t y.number ≡ cond divided (unwrap_or (exactly k.request given asked) (allotment_of t a)) (cond idle 0 (allotment_of t a))
    go true idle some i = told some (exactly k.request given asked) refl
    go false true off i = idle-allotted t y.number i
    go false false off i = number

-- ---- a number at the next moment

module _ (most : ℕ) (before : List State) (s t : State) (some : 0 < most) (on : GoesOn most (length before)) where
  -- the moments so far, and the column of the next
  abbrev moments : List State
  moments = before ++ s ∷ []

  abbrev place : ℕ
  place = length moments / width_of most (suc (length moments))

  count : length moments ≡ suc (length before)
  count = omega (arith, length_push before s)

  -- the columns are not full
  open_now : nat_le (most * width_of most (length moments)) (length moments) ≡ false
  open_now = ap (λ k. nat_le (most * width_of most k) k) count ∙ on.open_

  -- the next number goes into the column of the last
  pub line-next : (number : State → Option ℕ) → added place (number t) (line_of most number moments) ≡ line_of most number (moments ++ t ∷ [])
  line-next number = line-if false most number moments t some open_now

  -- the number is the same
  line-same : (number : State → Option ℕ) → number t ≡ number s → line_of most number (moments ++ t ∷ []) ≡ line_of most number moments
  line-same number same =
      let n : ℕ = length before in
      let w : ℕ = width_of most (suc n) in
      let first = line-if (nat_le (most * width_of most n) n) most number before s some refl in
      let here : place ≡ n / w = ap (λ k. k / width_of most (suc k)) count ∙ ap (λ v. suc n / v) on.wide ∙ on.here in
      sym (line-next number)
      ∙ (λ i. added (here i) (same i) (line_of most number moments))
      ∙ ap (added (n / w) (number s)) (sym first)
      ∙ added-twice (n / w) (number s) _
      ∙ first

  -- it adds nothing where it is the same
  pub limited-next : (number : State → ℕ) → changed place (number s) (number t) (line_of most (λ u. Some (number u)) moments) ≡ line_of most (λ u. Some (number u)) (moments ++ t ∷ [])
  limited-next number = go (eqb (number s) (number t)) refl
    where
      go : (b : Bool) → eqb (number s) (number t) ≡ b
          → cond b (line_of most (λ u. Some (number u)) moments) (added place (Some (number t)) (line_of most (λ u. Some (number u)) moments)) ≡ line_of most (λ u. Some (number u)) (moments ++ t ∷ [])
      go true same =
          let equal : number t ≡ number s = grind (arith, nat_tests) in
          sym (line-same (λ u. Some (number u)) (ap (λ n. Some n) equal))
      go false other = line-next (λ u. Some (number u))

  -- the number is one that the column spans
  line-inside : (number : State → Option ℕ) (v : ℕ) → number t ≡ Some v → Inside (at (line_of most number moments) place) v
      → line_of most number (moments ++ t ∷ []) ≡ line_of most number moments
  line-inside number v is inside =
      sym (line-next number)
      ∙ ap (λ o. added place o (line_of most number moments)) is
      ∙ added-inside place v (line_of most number moments) inside

  -- the number is known
  line-told : (number : State → Option ℕ) (v : ℕ) → number t ≡ Some v → added place (Some v) (line_of most number moments) ≡ line_of most number (moments ++ t ∷ [])
  line-told number v is = ap (λ o. added place o (line_of most number moments)) (sym is) ∙ line-next number

  -- it was known, and adds nothing where it did not change
  line-changed : (number : State → Option ℕ) (m n : ℕ) → number s ≡ Some m → number t ≡ Some n → changed place m n (line_of most number moments) ≡ line_of most number (moments ++ t ∷ [])
  line-changed number m n before_ after = go (eqb m n) refl
    where
      go : (b : Bool) → eqb m n ≡ b → cond b (line_of most number moments) (added place (Some n) (line_of most number moments)) ≡ line_of most number (moments ++ t ∷ [])
      go true same = let equal : m ≡ n = grind (arith, nat_tests) in sym (line-same number (after ∙ ap (λ k. Some k) (sym equal) ∙ sym before_))
      go false other = line-told number n after

  -- ---- a row

  -- the lines of an arena are as they were
  record SameLines (a : ℕ) : Type 0 where
    allot : line_of most (shown (λ (v : ArenaView). v.allot) a) (moments ++ t ∷ []) ≡ line_of most (shown (λ (v : ArenaView). v.allot) a) moments
    recall : line_of most (shown (λ (v : ArenaView). v.recall) a) (moments ++ t ∷ []) ≡ line_of most (shown (λ (v : ArenaView). v.recall) a) moments
    hire : line_of most (shown (λ (v : ArenaView). v.hire) a) (moments ++ t ∷ []) ≡ line_of most (shown (λ (v : ArenaView). v.hire) a) moments

  -- what is shown of an arena that stands as it did
  shown-same : (number : ArenaView → ℕ) (a : ℕ) → ((x : Arena) → arena_at a s.arenas ≡ Some x → number (view_of t x) ≡ number (view_of s x)) → Stands s t a
      → shown number a t ≡ shown number a s
  shown-same number a same stands = ap (λ o. option_map number (option_map (view_of t) o)) stands.arena ∙ go (arena_at a s.arenas) refl
    where
      go : (o : Option Arena) → arena_at a s.arenas ≡ o → option_map number (option_map (view_of t) o) ≡ option_map number (option_map (view_of s) o)
      go None is = refl
      go (Some x) is = ap (λ n. Some n) (same x is)

  active-same : (a : ℕ) → Stands s t a → (x : Arena) → arena_at a s.arenas ≡ Some x → active t x.number ≡ active s x.number
  active-same a stands x is =
      let number : x.number ≡ a = found-number a s.arenas x is in
      ap (active t) number ∙ stands.active ∙ ap (active s) (sym number)

  row-same : (a : ℕ) → Stands s t a → SameLines a → row_of most moments s a ≡ row_of most (moments ++ t ∷ []) t a
  row-same a stands lines =
      let level : level_at a t ≡ level_at a s = ap (λ o. option_map (λ (b : Arena). b.level) o) stands.arena in
      let levels = sym (line-same (level_at a) level) in
      let request = sym (line-same (shown (λ (v : ArenaView). v.request) a) (shown-same (λ (v : ArenaView). v.request) a (λ x is. refl) stands)) in
      let active_ = sym (line-same (shown (λ (v : ArenaView). v.active) a) (shown-same (λ (v : ArenaView). v.active) a (active-same a stands) stands)) in
      λ i. record {
        arena = a;
        stands = sym level i;
        level = levels i;
        request = request i;
        allot = sym lines.allot i;
        active = active_ i;
        recall = sym lines.recall i;
        hire = sym lines.hire i;
      }

  -- the row of an arena at the last moment, and with the next
  abbrev row : ℕ → Row
  row a = row_of most moments s a

  abbrev row' : ℕ → Row
  row' a = row_of most (moments ++ t ∷ []) t a

  -- the row with the next moment, and what is then known
  abbrev due : ℕ → Row × Known
  due a = (row' a, known_of place (view_at a t) (row' a))

  known-same : (a : ℕ) → Stands s t a → row a ≡ row' a → known_of place (view_at a s) (row a) ≡ known_of place (view_at a t) (row' a)
  known-same a stands same = go (arena_at a s.arenas) refl ∙ ap (λ o. known_of place (option_map (view_of t) o) (row' a)) (sym stands.arena)
    where
      go : (o : Option Arena) → arena_at a s.arenas ≡ o → known_of place (option_map (view_of s) o) (row a) ≡ known_of place (option_map (view_of t) o) (row' a)
      go None is = refl
      go (Some x) is = λ i. known_in place (request_of x.claim) (sym (active-same a stands x is) i) (same i)

  -- an arena is allotted what it was
  even-lines : (a : ℕ) → Stands s t a → ((x : Arena) → arena_at a s.arenas ≡ Some x → allotment_of t x.number ≡ allotment_of s x.number) → SameLines a
  even-lines a stands allotted =
      record {
        allot = line-same (shown (λ (v : ArenaView). v.allot) a) (shown-same (λ (v : ArenaView). v.allot) a allotted stands);
        recall =
            line-same (shown (λ (v : ArenaView). v.recall) a)
            (shown-same (λ (v : ArenaView). v.recall) a (λ x is. λ i. active-same a stands x is i - allotted x is i) stands);
        hire =
            line-same (shown (λ (v : ArenaView). v.hire) a)
            (shown-same (λ (v : ArenaView). v.hire) a (λ x is. λ i. allotted x is i - active-same a stands x is i) stands);
      }

  -- no arena has the number, before and after
  absent-lines : (a : ℕ) → Stands s t a → arena_at a s.arenas ≡ None → SameLines a
  absent-lines a stands none = even-lines a stands (λ x is. let h : None ≡ Some x = sym none ∙ is in absurd (cc))

  -- what is shown of a living arena
  shown-of : (number : ArenaView → ℕ) (a : ℕ) (y : Arena) → arena_at a t.arenas ≡ Some y → shown number a t ≡ Some (number (view_of t y))
  shown-of number a y found = ap (λ o. option_map number (option_map (view_of t) o)) found

  -- the columns have what the arena is allotted
  covered-lines : (a : ℕ) (y : Arena) (c : Covered) → arena_at a t.arenas ≡ Some y
      → c ≡ covered (at (row a).allot place) (at (row a).recall place) (at (row a).hire place) (active t y.number)
      → c.from ≤ allotment_of t y.number → allotment_of t y.number < c.below → SameLines a
  covered-lines a y c found is low high =
      let v : ℕ = allotment_of t y.number in
      let n : ℕ = active t y.number in
      let spans = covered-spans (at (row a).allot place) (at (row a).recall place) (at (row a).hire place) n v (subst (λ (d : Covered). d.from ≤ v) is low) (subst (λ (d : Covered). v < d.below) is high) in
      record {
        allot = line-inside (shown (λ (w : ArenaView). w.allot) a) v (shown-of (λ (w : ArenaView). w.allot) a y found) spans.allot;
        recall = line-inside (shown (λ (w : ArenaView). w.recall) a) (n - v) (shown-of (λ (w : ArenaView). w.recall) a y found) spans.recall;
        hire = line-inside (shown (λ (w : ArenaView). w.hire) a) (v - n) (shown-of (λ (w : ArenaView). w.hire) a y found) spans.hire;
      }

  -- a column has all that a living arena may be allotted, of which this is known
  cover-lines : (whole : Whole) (a : ℕ) (y : Arena) (k : Known) → Fine t → arena_at a t.arenas ≡ Some y → request_of y.claim ≡ k.request → active t y.number ≡ k.active
      → k.covered ≡ covered (at (row a).allot place) (at (row a).recall place) (at (row a).hire place) k.active → is_covered (shared_of t) k y.level ≡ true → SameLines a
  cover-lines whole a y k fine found asks has known h = go (is_divided (shared_of t) y.level) refl h
    where
      given : ℕ
      given = slice_index (shared_of t).given (y.level - 1)

      asked : ℕ
      asked = slice_index (shared_of t).asked (y.level - 1)

      is : k.covered ≡ covered (at (row a).allot place) (at (row a).recall place) (at (row a).hire place) (active t y.number)
      is = known ∙ ap (covered (at (row a).allot place) (at (row a).recall place) (at (row a).hire place)) (sym has)

      go : (b : Bool) → is_divided (shared_of t) y.level ≡ b → cond b (covers k.covered k.request given asked) (has_few (shared_of t) k.covered) ≡ true → SameLines a
      go true some h =
          let divided = share whole t a y fine found (divides t y.level some) in
          let within = covered-share k.covered k.request given asked (allotment_of t y.number) (subst (λ r. IsShare r given asked (allotment_of t y.number)) asks divided) h in
          covered-lines a y k.covered found is within.0 within.1
      go false off h =
          let g = both (eqb (limit_of t) 0) ((eqb k.covered.from 0) && ltb (effective_limit_of t) k.covered.below) h in
          let c = both (eqb k.covered.from 0) (ltb (effective_limit_of t) k.covered.below) g.1 in
          let none : limit_of t ≡ 0 = let e = g.0 in grind (arith, nat_tests) in
          let first : k.covered.from ≡ 0 = let e = c.0 in grind (arith, nat_tests) in
          let last : effective_limit_of t < k.covered.below = let e = c.1 in grind (arith, nat_tests) in
          let few = few-allotted t y.number none in
          covered-lines a y k.covered found is (omega (arith, first)) (omega (arith, last, few))

  -- a level is given what it was of what it asked for
  share-same : (whole : Whole) (a : ℕ) (x : Arena) → Fine s → Fine t → Stands s t a → Steady a s.arenas t.arenas → arena_at a s.arenas ≡ Some x
      → is_same_share (shared_of s) (shared_of t) x.level ≡ true → allotment_of t x.number ≡ allotment_of s x.number
  share-same whole a x fine fine' stands steady is h =
      let found : arena_at a t.arenas ≡ Some x = stands.arena ∙ is in
      let number : x.number ≡ a = found-number a s.arenas x is in
      let l : ℕ = x.level in
      let was : Shared = shared_of s in
      let now : Shared = shared_of t in
      let wg : ℕ = slice_index was.given (l - 1) in
      let ng : ℕ = slice_index now.given (l - 1) in
      let wa : ℕ = slice_index was.asked (l - 1) in
      let na : ℕ = slice_index now.asked (l - 1) in
      let g = both (is_divided was l && is_divided now l) (is_same_part wg ng wa na) h in
      let halves = both (is_divided was l) (is_divided now l) g.0 in
      let before_ = divides s l halves.0 in
      let after = divides t l halves.1 in
      let high : l ≤ s.levels = leveled s a x fine is in
      let high' : l ≤ t.levels = leveled t a x fine' found in
      let was-share = share whole s a x fine is before_ in
      let now-share = share whole t a x fine' found after in
      elim (either ((wg == ng) && (wa == na)) (((wg == 0) && (ng == 0)) || ((wg == wa) && (ng == na))) g.1) [
        | inl same ↦
            let equal = both (wg == ng) (wa == na) same in
            let given_ : wg ≡ ng = let e = equal.0 in grind (arith, nat_tests) in
            let asked_ : wa ≡ na = let e = equal.1 in grind (arith, nat_tests) in
            let given : assigned t l ≡ assigned s l = sym (shared-given t l after.low after.few high') ∙ sym given_ ∙ shared-given s l before_.low before_.few high in
            let asked : demand t l ≡ demand s l = sym (shared-asked t l after.low after.few high') ∙ sym asked_ ∙ shared-asked s l before_.low before_.few high in
            let at_a : allotment_of t a ≡ allotment_of s a =
            allotment-level whole a t x fine'.once after.any found after.low high'
            ∙ steady (assigned t) (demand t) l 0 asked
            ∙ same-carried a (assigned t) (demand t) (assigned s) (demand s) l 0 (at_level l s.arenas) (at-level l s.arenas) given asked
            ∙ sym (allotment-level whole a s x fine.once before_.any is before_.low high) in
            ap (allotment_of t) number ∙ at_a ∙ ap (allotment_of s) (sym number)
        | inr told ↦
            elim (either ((wg == 0) && (ng == 0)) ((wg == wa) && (ng == na)) told) [
              | inl nothing ↦
                  let none = both (wg == 0) (ng == 0) nothing in
                  share-of-nothing (request_of x.claim) ng na (allotment_of t x.number) now-share none.1
                  ∙ sym (share-of-nothing (request_of x.claim) wg wa (allotment_of s x.number) was-share none.0)
              | inr all ↦
                  let whole_ = both (wg == wa) (ng == na) all in
                  share-of-all (request_of x.claim) ng na (allotment_of t x.number) now-share whole_.1
                  ∙ sym (share-of-all (request_of x.claim) wg wa (allotment_of s x.number) was-share whole_.0)
            ]
      ]

  -- ---- a row at the next moment

  module _ (whole : Whole) (seat : ℕ) (cmd : Cmd) (reply : Reply) (answered : step s seat cmd ≡ (reply, t)) (fine : Fine s) (fine' : Fine t) (a : ℕ) (o : Spot) (e : ℕ)
      (stood : stands_after a (level_at a s) cmd reply ≡ level_at a t) where
    abbrev was : Known
    was = record (known_of place (view_at a s) (row a)) { spot = o }

    -- the market is asked
    seen : seen_row place t cmd reply (row a) ≡ due a
    seen =
        let readied = readied-row false most moments s t a (stands_after a (level_at a s) cmd reply) some open_now stood in
        λ i. (readied i, known_of place (view_at a t) (readied i))

    -- its spot is none
    due-bare : bared (due a) ≡ due a
    due-bare = λ i. (row' a, known-bare place (view_at a t) (row' a) i)

    -- a row of an arena that is allotted what it was
    kept-share : (x : Arena) → Stands s t a → is_just a (subject cmd reply) ≡ false → arena_at a s.arenas ≡ Some x
        → (keeps_order cmd && is_same_share (shared_of s) (shared_at t e) x.level) ≡ true → SameLines a
    kept-share x stands apart is h =
        let g = both (keeps_order cmd) (is_same_share (shared_of s) (shared_at t e) x.level) h in
        let steady = steady-step s t seat a cmd reply answered apart g.0 fine.once in
        even-lines a stands (λ y found.
        let same : Some x ≡ Some y = sym is ∙ found in
        let eq : x ≡ y = cc in
        subst (λ (z : Arena). allotment_of t z.number ≡ allotment_of s z.number) eq (share-same whole a x fine fine' stands steady is g.1))

    kept-lines : Stands s t a → is_just a (subject cmd reply) ≡ false → stands_kept (kept_levels cmd (shared_of s) (shared_at t e) t.levels) (level_at a s) ≡ true → SameLines a
    kept-lines stands apart h = go (arena_at a s.arenas) refl h
      where
        go : (o : Option Arena) → arena_at a s.arenas ≡ o
            → stands_kept (kept_levels cmd (shared_of s) (shared_at t e) t.levels) (option_map (λ (b : Arena). b.level) o) ≡ true → SameLines a
        go None is h = absent-lines a stands is
        go (Some x) is h =
            elim (kept-level cmd (shared_of s) (shared_at t e) t.levels x.level (leveled t a x fine' (stands.arena ∙ is)) h) [
              | inl idle ↦
                  let g = both (is_idle (shared_of s)) (is_idle (shared_at t e)) idle in
                  even-lines a stands (λ y found. idle-allotted t y.number g.1 ∙ sym (idle-allotted s y.number g.0))
              | inr kept ↦ kept-share x stands apart is kept
            ]

    -- a row of an arena all of whose allotments are covered
    spanned-lines : Stands s t a → is_covered_at (shared_at t e) was (level_at a s) ≡ true → SameLines a
    spanned-lines stands h = go (arena_at a s.arenas) refl h
      where
        go : (b : Option Arena) → arena_at a s.arenas ≡ b
            → is_covered_at (shared_at t e) (record (known_of place (option_map (view_of s) b) (row a)) { spot = o }) (option_map (λ (b : Arena). b.level) b) ≡ true → SameLines a
        go None is h = absent-lines a stands is
        go (Some x) is h = cover-lines whole a x (record (known_of place (Some (view_of s x)) (row a)) { spot = o }) fine' (stands.arena ∙ is) refl (active-same a stands x is) refl h

    -- a row of an arena all of whose allotments are covered wherever it stands
    spared-lines : IsSpot t a e was → Stands s t a → is_spared_at (shared_at t e) was (level_at a s) ≡ true → SameLines a
    spared-lines right stands h = go (arena_at a s.arenas) refl h
      where
        go : (b : Option Arena) → arena_at a s.arenas ≡ b
            → is_spared_at (shared_at t e) (record (known_of place (option_map (view_of s) b) (row a)) { spot = o }) (option_map (λ (b : Arena). b.level) b) ≡ true → SameLines a
        go None is h = absent-lines a stands is
        go (Some x) is h =
            let k : Known = record (known_of place (Some (view_of s x)) (row a)) { spot = o } in
            let found : arena_at a t.arenas ≡ Some x = stands.arena ∙ is in
            let known : was ≡ k = ap (λ b. record (known_of place (option_map (view_of s) b) (row a)) { spot = o }) is in
            let within = spared-covers whole t a e x k fine' found refl (subst (IsSpot t a e) known right) h in
            let covers_ : k.covered ≡ covered (at (row a).allot place) (at (row a).recall place) (at (row a).hire place) (active t x.number) =
            ap (covered (at (row a).allot place) (at (row a).recall place) (at (row a).hire place)) (sym (active-same a stands x is)) in
            covered-lines a x k.covered found covers_ within.0 within.1

    -- an arena of which this is known, where it stood
    record Tells (k : Known) : Type 0 where
      tells : (y : Arena) → arena_at a t.arenas ≡ Some y → (request_of y.claim ≡ k.request) × (active t y.number ≡ k.active)
      level : level_at a t ≡ level_at a s

    -- its allotment is told
    told-row : (k : Known) (y : Arena) (v : ℕ) → Tells k → arena_at a t.arenas ≡ Some y → allotment_of t y.number ≡ v
        → (shared_row place k v (row a), known_in place k.request k.active (shared_row place k v (row a))) ≡ due a
    told-row k y v h found is =
        let n = h.tells y found in
        let levels = ap (λ l. added place l (line_of most (level_at a) moments)) (sym h.level) ∙ line-next (level_at a) in
        let request = line-told (shown (λ (w : ArenaView). w.request) a) k.request (shown-of (λ (w : ArenaView). w.request) a y found ∙ ap (λ m. Some m) n.0) in
        let allot = line-told (shown (λ (w : ArenaView). w.allot) a) v (shown-of (λ (w : ArenaView). w.allot) a y found ∙ ap (λ m. Some m) is) in
        let active_ = line-told (shown (λ (w : ArenaView). w.active) a) k.active (shown-of (λ (w : ArenaView). w.active) a y found ∙ ap (λ m. Some m) n.1) in
        let recall = line-told (shown (λ (w : ArenaView). w.recall) a) (k.active - v) (shown-of (λ (w : ArenaView). w.recall) a y found ∙ (λ i. Some (n.1 i - is i))) in
        let hire = line-told (shown (λ (w : ArenaView). w.hire) a) (v - k.active) (shown-of (λ (w : ArenaView). w.hire) a y found ∙ (λ i. Some (is i - n.1 i))) in
        let same : shared_row place k v (row a) ≡ row' a =
        λ i. record {
          arena = a;
          stands = sym h.level i;
          level = levels i;
          request = request i;
          allot = allot i;
          active = active_ i;
          recall = recall i;
          hire = hire i;
        } in
        let view : known_of place (Some (view_of t y)) (row' a) ≡ known_of place (view_at a t) (row' a) = ap (λ o. known_of place (option_map (view_of t) o) (row' a)) (sym found) in
        (λ i. (same i, known_in place (sym n.0 i) (sym n.1 i) (same i))) ∙ (λ i. (row' a, view i))

    -- the column has what it is allotted, or it is put there
    closed : (k : Known) (other : Row) → Tells k → k.covered ≡ covered (at (row a).allot place) (at (row a).recall place) (at (row a).hire place) k.active
        → ((y : Arena) → arena_at a t.arenas ≡ Some y → SameLines a → bared (other, k) ≡ due a)
        → bared (closed_row place t cmd reply k (row a) other (option_map (share_of t (shared_at t e) k a) (level_at a s))) ≡ due a
    closed k other h known same =
        ap (λ b. bared (closed_row place t cmd reply k (row a) other (option_map (share_of t (shared_at t e) k a) b))) (sym h.level) ∙ at_arena (arena_at a t.arenas) refl
      where
        at_arena : (b : Option Arena) → arena_at a t.arenas ≡ b
            → bared (closed_row place t cmd reply k (row a) other (option_map (share_of t (shared_at t e) k a) (option_map (λ (c : Arena). c.level) b))) ≡ due a
        at_arena None none = ap bared seen ∙ due-bare
        at_arena (Some y) found =
            let v : ℕ = share_of t (shared_at t e) k a y.level in
            let n = h.tells y found in
            let is : allotment_of t y.number ≡ v = share-is whole t a y k fine' found n.0 in
            elim (cases_Bool (has_share k v)) [
              | inl has ↦
                  let g = both (nat_le k.covered.from v) (nat_lt v k.covered.below) has in
                  let low : k.covered.from ≤ v = let e = g.0 in grind (arith, nat_tests) in
                  let high : v < k.covered.below = let e = g.1 in grind (arith, nat_tests) in
                  let covers_ : k.covered ≡ covered (at (row a).allot place) (at (row a).recall place) (at (row a).hire place) (active t y.number) =
                  known ∙ ap (covered (at (row a).allot place) (at (row a).recall place) (at (row a).hire place)) (sym n.1) in
                  rw has (same y found (covered-lines a y k.covered found covers_ (omega (arith, is, low)) (omega (arith, is, high))))
              | inr lacks ↦ rw lacks (ap bared (told-row k y v h found is) ∙ due-bare)
            ]

    -- ---- the arena that the entry is about

    -- what was known of a living arena is what was shown of it
    asked-before : (number : ArenaView → ℕ) (known : Known → ℕ) (x : Arena) → arena_at a s.arenas ≡ Some x
        → known (record (known_of place (Some (view_of s x)) (row a)) { spot = o }) ≡ number (view_of s x) → shown number a s ≡ Some (known was)
    asked-before number known x is same =
        ap (λ b. option_map number (option_map (view_of s) b)) is
        ∙ ap (λ n. Some n) (sym same ∙ sym (ap (λ b. known (record (known_of place (option_map (view_of s) b) (row a)) { spot = o })) is))

    -- its request and its workers are told, and the column has all that it may be allotted
    needing : (k : Known) (x y : Arena) → Tells k → arena_at a s.arenas ≡ Some x → arena_at a t.arenas ≡ Some y → k ≡ known_in place k.request k.active (row a) → SameLines a
        → (needing_row place was k (row a), k) ≡ due a
    needing k x y h is found known lines =
        let n = h.tells y found in
        let levels = sym (line-same (level_at a) h.level) in
        let request = line-changed (shown (λ (w : ArenaView). w.request) a) was.request k.request (asked-before (λ (w : ArenaView). w.request) (λ (l : Known). l.request) x is refl) (shown-of (λ (w : ArenaView). w.request) a y found ∙ ap (λ m. Some m) n.0) in
        let active_ = line-changed (shown (λ (w : ArenaView). w.active) a) was.active k.active (asked-before (λ (w : ArenaView). w.active) (λ (l : Known). l.active) x is refl) (shown-of (λ (w : ArenaView). w.active) a y found ∙ ap (λ m. Some m) n.1) in
        let same : needing_row place was k (row a) ≡ row' a =
        λ i. record {
          arena = a;
          stands = sym h.level i;
          level = levels i;
          request = request i;
          allot = sym lines.allot i;
          active = active_ i;
          recall = sym lines.recall i;
          hire = sym lines.hire i;
        } in
        let view : known_of place (Some (view_of t y)) (row' a) ≡ known_of place (view_at a t) (row' a) = ap (λ o. known_of place (option_map (view_of t) o) (row' a)) (sym found) in
        let cover : k ≡ known_of place (Some (view_of t y)) (row' a) =
        known
        ∙ (λ i. record {
          request = sym n.0 i;
          active = sym n.1 i;
          covered = covered (at (sym lines.allot i) place) (at (sym lines.recall i) place) (at (sym lines.hire i) place) (sym n.1 i);
          spot = no_spot;
        }) in
        (λ i. (same i, cover i)) ∙ (λ i. (row' a, view i))

    -- what is told of it is so
    own : (told : Option Known) → ((x : Arena) (k : Known) → arena_at a s.arenas ≡ Some x → told ≡ Some k → Retold t a x.level place (row a) k)
        → bared (own_row place t cmd reply (shared_at t e) was (row a) told) ≡ due a
    own None told = ap bared seen ∙ due-bare
    own (Some k) told = at_arena (arena_at a s.arenas) refl
      where
        -- the arena lived
        living : (x : Arena) → arena_at a s.arenas ≡ Some x → Retold t a x.level place (row a) k
            → bared (cond (is_covered (shared_at t e) k x.level) (needing_row place was k (row a), k)
            (closed_row place t cmd reply k (row a) (needing_row place was k (row a)) (option_map (share_of t (shared_at t e) k a) (level_at a s))))
            ≡ due a
        living x is r =
            let level : level_at a t ≡ level_at a s =
            ap (λ o. option_map (λ (b : Arena). b.level) o) r.found ∙ ap (λ l. Some l) r.stands ∙ sym (ap (λ o. option_map (λ (b : Arena). b.level) o) is) in
            let number : r.arena.number ≡ a = found-number a t.arenas r.arena r.found in
            let tells : Tells k =
            record {
              tells = λ y found.
                  let both_ : Some r.arena ≡ Some y = sym r.found ∙ found in
                  let same : r.arena ≡ y = cc in
                  subst (λ (z : Arena). (request_of z.claim ≡ k.request) × (active t z.number ≡ k.active)) same (r.request, ap (active t) number ∙ r.active_is);
              level = level;
            } in
            let covers_ : k.covered ≡ covered (at (row a).allot place) (at (row a).recall place) (at (row a).hire place) k.active = ap (λ (l : Known). l.covered) r.known in
            elim (cases_Bool (is_covered (shared_at t e) k x.level)) [
              | inl cover ↦
                  let cover' : is_covered (shared_at t e) k r.arena.level ≡ true = ap (is_covered (shared_at t e) k) r.stands ∙ cover in
                  let lines = cover-lines whole a r.arena k fine' r.found r.request (ap (active t) number ∙ r.active_is) covers_ cover' in
                  rw cover (ap bared (needing k x r.arena tells is r.found r.known lines) ∙ due-bare)
              | inr other ↦ rw other (closed k (needing_row place was k (row a)) tells covers_ (λ y found lines. ap bared (needing k x y tells is found r.known lines) ∙ due-bare))
            ]

        at_arena : (b : Option Arena) → arena_at a s.arenas ≡ b → bared (own_row place t cmd reply (shared_at t e) was (row a) (Some k)) ≡ due a
        at_arena None none =
            let nowhere : level_at a s ≡ None = ap (λ o. option_map (λ (b : Arena). b.level) o) none in
            (λ i. bared (cond (is_covered_at (shared_at t e) k (nowhere i)) (needing_row place was k (row a), k)
            (closed_row place t cmd reply k (row a) (needing_row place was k (row a)) (option_map (share_of t (shared_at t e) k a) (nowhere i)))))
            ∙ ap bared seen
            ∙ due-bare
        at_arena (Some x) is =
            ap (λ b. bared (cond (is_covered_at (shared_at t e) k b) (needing_row place was k (row a), k)
            (closed_row place t cmd reply k (row a) (needing_row place was k (row a)) (option_map (share_of t (shared_at t e) k a) (level_at a s)))))
            (ap (λ b. option_map (λ (c : Arena). c.level) b) is)
            ∙ living x is (told x k is refl)

    -- what was known of it
    was-known : (x : Arena) → arena_at a s.arenas ≡ Some x → was ≡ record (known_in place (request_of x.claim) (active s a) (row a)) { spot = o }
    was-known x is =
        ap (λ b. record (known_of place (option_map (view_of s) b) (row a)) { spot = o }) is
        ∙ ap (λ n. record (known_in place (request_of x.claim) (active s n) (row a)) { spot = o }) (found-number a s.arenas x is)

    own-near : is_just a (subject cmd reply) ≡ true → bared (own_row place t cmd reply (shared_at t e) was (row a) (retold cmd reply was)) ≡ due a
    own-near about =
        own (retold cmd reply was)
        (λ x k is tells. told-step s a place (row a) o x is t seat cmd reply k answered about (ap (retold cmd reply) (sym (was-known x is)) ∙ tells))

    abbrev more : Bool
    more = is_joined (shared_of s) (shared_at t e)

    own-seat : moves_seat cmd ≡ true → is_just a (subject cmd reply) ≡ true → bared (own_row place t cmd reply (shared_at t e) was (row a) (seated place more reply was (row a))) ≡ due a
    own-seat moves about =
        own (seated place more reply was (row a))
        (λ x k is tells. seated-step s a place (row a) o x is t seat cmd reply k answered moves about (ap (λ (w : Known). seated place more reply w (row a)) (sym (was-known x is)) ∙ tells))

    -- ---- any row

    abbrev kept : List Bool
    kept = kept_levels cmd (shared_of s) (shared_at t e) t.levels

    -- one that stands nowhere is not looked at
    was-own : (b : Option Arena) → arena_at a s.arenas ≡ b → stands_kept kept (option_map (λ (c : Arena). c.level) b) ≡ false
        → was.covered ≡ covered (at (row a).allot place) (at (row a).recall place) (at (row a).hire place) was.active
    was-own None is not = absurd (cc)
    was-own (Some x) is not =
        ap (λ (k : Known). k.covered) (was-known x is) ∙ ap (λ (k : Known). covered (at (row a).allot place) (at (row a).recall place) (at (row a).hire place) k.active) (sym (was-known x is))

    other : IsSpot t a e was → is_just a (subject cmd reply) ≡ false
        → bared (cond (stands_kept kept (level_at a s)) (row a, was)
        (cond (is_covered_at (shared_at t e) was (level_at a s)) (row a, was)
        (cond (is_spared_at (shared_at t e) was (level_at a s)) (row a, was)
        (respotted (spot_of t (shared_at t e) was a (level_at a s)) (closed_row place t cmd reply was (row a) (row a) (option_map (share_of t (shared_at t e) was a) (level_at a s)))))))
        ≡ due a
    other right apart =
        let stands : Stands s t a = apart-stands s t seat a cmd reply answered apart in
        let tells : Tells was =
        record {
          tells = λ y found.
              let is : arena_at a s.arenas ≡ Some y = sym stands.arena ∙ found in
              let known : record (known_of place (Some (view_of s y)) (row a)) { spot = o } ≡ was =
              ap (λ b. record (known_of place (option_map (view_of s) b) (row a)) { spot = o }) (sym is) in
              (ap (λ (k : Known). k.request) known, active-same a stands y is ∙ ap (λ (k : Known). k.active) known);
          level = ap (λ b. option_map (λ (c : Arena). c.level) b) stands.arena;
        } in
        let same : SameLines a → bared (row a, was) ≡ due a =
        λ lines.
        let rows = row-same a stands lines in
        let known = known-bare place (view_at a s) (row a) ∙ known-same a stands rows in
        λ i. (rows i, known i) in
        elim (cases_Bool (stands_kept kept (level_at a s))) [
          | inl held ↦ rw held (same (kept-lines stands apart held))
          | inr not ↦
              rw not
              (elim (cases_Bool (is_covered_at (shared_at t e) was (level_at a s))) [
                | inl cover ↦ rw cover (same (spanned-lines stands cover))
                | inr more ↦
                    rw more
                    (elim (cases_Bool (is_spared_at (shared_at t e) was (level_at a s))) [
                      | inl spared ↦ rw spared (same (spared-lines right stands spared))
                      | inr asked ↦ rw asked (closed was (row a) tells (was-own (arena_at a s.arenas) refl not) (λ y found lines. same lines))
                    ])
              ])
        ]

    pub near-row : (is_just a (subject cmd reply) ≡ false → IsSpot t a e was) → bared (near_row place t cmd reply (shared_at t e) kept (row a) was) ≡ due a
    near-row right =
        elim (cases_Bool (is_just a (subject cmd reply))) [
          | inl about ↦ rw about (own-near about)
          | inr apart ↦ rw apart (other (right apart) apart)
        ]

    pub seat-row : moves_seat cmd ≡ true → bared (seat_row place t cmd reply more (shared_at t e) (row a) was) ≡ due a
    seat-row moves =
        elim (cases_Bool (is_just a (subject cmd reply))) [
          | inl about ↦ rw about (own-seat moves about)
          | inr apart ↦
              let stands : Stands s t a = apart-stands s t seat a cmd reply answered apart in
              let even = even-step s t seat cmd reply answered moves in
              let rows = row-same a stands (even-lines a stands (λ y found. even.allotted y.number)) in
              let known = known-bare place (view_at a s) (row a) ∙ known-same a stands rows in
              rw apart (λ i. (rows i, known i))
        ]
