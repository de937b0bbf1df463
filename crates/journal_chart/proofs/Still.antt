-- A moment more at which the market is as it was at the last.
use Rattle.std.specs.Prelude.{◌||◌, ◌==◌, nat_le, nat_lt}
use Rattle.std.proofs.Common.{◌≡◌, ℕ, zero, suc, ◌+◌, ◌-◌, ◌*◌, ◌/◌, ◌%◌, ◌<◌, ◌≤◌, Bool, ◌⊎◌, true, false, true≢false, cond, not, List, [], ◌∷◌, ◌++◌, length, map, drop, Option, None, Some, Result, Ok, Err, ℤ, min, max, refl, sym, ap, ◌∙◌, arith, inl, inr}
use Rattle.std.specs.List.{filter, list_any}
use Rattle.std.proofs.lemmas.Bool.{cases_Bool}
use Rattle.std.proofs.lemmas.Bool.Decides.{nat_tests}
use Rattle.std.proofs.lemmas.List.{length_push, drop_all, drop-append-le}
use Rattle.std.proofs.lemmas.Nat.{div-add-mod', div-mul-add, mod_below}
use Rattle.market_types.specs.declared.command.Cmd.{Cmd}
use Rattle.market_types.specs.declared.command.Cmd.TheVariants.{Open, Close, Priority, Resize, Request, Control, Uncontrol, Join, Stay, Leave, Show, Lists, Limit}
use Rattle.market_types.specs.declared.reply.ArenaView.{ArenaView}
use Rattle.market_types.specs.declared.reply.Fault.{Fault}
use Rattle.market_types.specs.declared.reply.Fault.TheVariants.{OutOfNumbers, BadValue, TooManyControls, NoControl}
use Rattle.market_types.specs.declared.reply.Reply.{Reply}
use Rattle.market_types.specs.declared.reply.Reply.TheVariants.{Controlled, Uncontrolled, Refused}
use Rattle.market_types.specs.Claims.{new_claim, added_claim}
use Rattle.market_types.specs.State.{Arena, Claim, Control as Living, State}
use Rattle.market_types.specs.Allotment.{active, effective_limit_of, limit_of, need, recall}
use Rattle.market_types.specs.Step.{Outcome, arena_at, close_step, control_step, if_arena, if_claim, join_at, join_from, leave_from, open_step, opened, refuse, place_of, priority_step, request_step, resize_step, show_step, stay_from, step, uncontrol_step}
use Rattle.journal_chart.specs.declared.span.Span.{Span}
use Rattle.journal_chart.specs.Columns.{alone, joined, width_of}
use Rattle.journal_chart.specs.Lines.{added}
use Rattle.journal_chart.specs.Numbers.{chart_of, level_at, line_of, row_of, shown}
use Rattle.journal_chart.specs.Steps.{counted_chart, goes_on, is_still}
use Rattle.journal_chart.proofs.Charts.{line-if, roomy}

-- ---- commands that leave the market as it was

-- an outcome whose reply says that the market is as it was
record Still (s : State) (o : Outcome) : Type 0 where
  is : is_still o.0 ≡ true → o.1 ≡ s

same : (s : State) (r : Reply) → Still s (r, s)
same s r = record { is = λ still. refl }

changed : (s : State) (o : Outcome) → is_still o.0 ≡ false → Still s o
changed s o other = record { is = λ still. absurd (true≢false (sym still ∙ other)) }

still-if : (s : State) (b : Bool) (x y : Outcome) → Still s x → Still s y → Still s (cond b x y)
still-if s true x y h k = h
still-if s false x y h k = k

still-claim : (s : State) (r : Result Claim Fault) (f : Claim → Outcome) → ((c : Claim) → Still s (f c)) → Still s (if_claim s r f)
still-claim s (Err fault) f h = record { is = λ still. refl }
still-claim s (Ok c) f h = h c

still-arena : (s : State) (o : Option Arena) (f : Arena → Outcome) → ((x : Arena) → Still s (f x)) → Still s (if_arena s o f)
still-arena s None f h = record { is = λ still. refl }
still-arena s (Some x) f h = h x

join_at-still : (s : State) (seat : ℕ) (o : Option Arena) → Still s (join_at s seat o)
join_at-still s seat None = record { is = λ still. refl }
join_at-still s seat (Some x) = changed s _ refl

join-still : (s : State) (seat : ℕ) (p : Option ℕ) → Still s (join_from s seat p)
join-still s seat None = join_at-still s seat (need s)
join-still s seat (Some b) = record { is = λ still. refl }

stay-still : (s : State) (seat : ℕ) (p : Option ℕ) → Still s (stay_from s seat p)
stay-still s seat None = record { is = λ still. refl }
stay-still s seat (Some b) = still-if s (nat_lt 0 (recall s b)) _ _ (changed s _ refl) (record { is = λ still. refl })

leave-still : (s : State) (seat : ℕ) (p : Option ℕ) → Still s (leave_from s seat p)
leave-still s seat None = record { is = λ still. refl }
leave-still s seat (Some b) = changed s _ refl

open-still : (s : State) (slots reserved level : ℕ) → Still s (open_step s slots reserved level)
open-still s slots reserved level =
    still-claim s (new_claim slots reserved) _ (λ claim.
    still-if s (nat_lt s.levels level) _ _ (record { is = λ still. refl })
    (still-if s (nat_le 1024 (length s.arenas)) _ _ (record { is = λ still. refl })
    (still-if s (nat_lt s.last s.next_arena || nat_lt s.last s.next_stamp) (refuse s OutOfNumbers) (opened s level claim) (same s (Refused OutOfNumbers)) (changed s (opened s level claim) refl))))

close-still : (s : State) (b : ℕ) → Still s (close_step s b)
close-still s b = still-arena s (arena_at b s.arenas) _ (λ x. still-if s (nat_lt 0 (active s b)) _ _ (record { is = λ still. refl }) (changed s _ refl))

priority-still : (s : State) (b level : ℕ) → Still s (priority_step s b level)
priority-still s b level =
    still-if s (nat_lt s.levels level) _ _ (record { is = λ still. refl })
    (still-arena s (arena_at b s.arenas) _ (λ x. still-if s (nat_lt s.last s.next_stamp) _ _ (record { is = λ still. refl }) (changed s _ refl)))

resize-still : (s : State) (b slots reserved : ℕ) → Still s (resize_step s b slots reserved)
resize-still s b slots reserved = still-claim s (new_claim slots reserved) _ (λ c. still-arena s (arena_at b s.arenas) _ (λ x. changed s _ refl))

request-still : (s : State) (b : ℕ) (workers mandatory : ℤ) → Still s (request_step s b workers mandatory)
request-still s b workers mandatory = still-arena s (arena_at b s.arenas) _ (λ x. still-claim s (added_claim x.claim workers mandatory) _ (λ claim. changed s _ refl))

-- the market with one control more
abbrev controlled : State → ℕ → State
controlled s value =
    record s { controls = s.controls ++ record { number = s.next_control; value = value } ∷ []; next_control = s.next_control + 1 }

control-still : (s : State) (value : ℕ) → Still s (control_step s value)
control-still s value =
    still-if s ((value == 0) || nat_lt 65536 value) (refuse s BadValue) _ (same s (Refused BadValue))
    (still-if s (nat_le 256 (length s.controls)) (refuse s TooManyControls) _ (same s (Refused TooManyControls))
    (still-if s (nat_lt s.last s.next_control) (refuse s OutOfNumbers) (Controlled s.next_control, controlled s value) (same s (Refused OutOfNumbers))
    (changed s (Controlled s.next_control, controlled s value) refl)))

uncontrol-still : (s : State) (c : ℕ) → Still s (uncontrol_step s c)
uncontrol-still s c =
    still-if s (list_any (λ (d : Living). d.number == c) s.controls)
    (Uncontrolled, record s { controls = filter (λ (d : Living). not (d.number == c)) s.controls }) (refuse s NoControl)
    (changed s (Uncontrolled, record s { controls = filter (λ (d : Living). not (d.number == c)) s.controls }) refl) (same s (Refused NoControl))

show-still : (s : State) (b : ℕ) → Still s (show_step s b)
show-still s b = still-arena s (arena_at b s.arenas) _ (λ x. record { is = λ still. refl })

steps-still : (s : State) (seat : ℕ) (cmd : Cmd) → Still s (step s seat cmd)
steps-still s seat (Open slots reserved level) = open-still s slots reserved level
steps-still s seat (Close b) = close-still s b
steps-still s seat (Priority b level) = priority-still s b level
steps-still s seat (Resize b slots reserved) = resize-still s b slots reserved
steps-still s seat (Request b workers mandatory) = request-still s b workers mandatory
steps-still s seat (Control value) = control-still s value
steps-still s seat (Uncontrol c) = uncontrol-still s c
steps-still s seat Join = join-still s seat (place_of s seat)
steps-still s seat Stay = stay-still s seat (place_of s seat)
steps-still s seat Leave = leave-still s seat (place_of s seat)
steps-still s seat (Show b) = show-still s b
steps-still s seat Lists = record { is = λ still. refl }
steps-still s seat Limit = record { is = λ still. refl }

pub stays-so : (s t : State) (seat : ℕ) (cmd : Cmd) (reply : Reply) → step s seat cmd ≡ (reply, t) → is_still reply ≡ true → t ≡ s
stays-so s t seat cmd reply answered still =
    sym (ap (λ (o : Outcome). o.1) answered) ∙ (steps-still s seat cmd).is (ap (λ (o : Outcome). is_still o.0) answered ∙ still)

-- ---- the same number twice in a column

joined-twice : (a b : Option Span) → joined (joined a b) b ≡ joined a b
joined-twice None None = refl
joined-twice (Some a) None = refl
joined-twice None (Some b) =
    let least : min b.least b.least ≡ b.least = omega arith in
    let most : max b.most b.most ≡ b.most = omega arith in
    λ i. Some (record { least = least i; most = most i })
joined-twice (Some a) (Some b) =
    let least : min (min a.least b.least) b.least ≡ min a.least b.least = omega arith in
    let most : max (max a.most b.most) b.most ≡ max a.most b.most = omega arith in
    λ i. Some (record { least = least i; most = most i })

pub added-twice : (place : ℕ) (number : Option ℕ) (columns : List (Option Span)) → added place number (added place number columns) ≡ added place number columns
added-twice place number [] = refl
added-twice zero number (c ∷ cs) = ap (λ d. d ∷ cs) (joined-twice c (alone number))
added-twice (suc place) number (c ∷ cs) = ap (λ ds. c ∷ ds) (added-twice place number cs)

-- ---- where the next moment goes into the column of the last

-- the columns are not full, and the last moment is in this column too
pub record GoesOn (most n : ℕ) : Type 0 where
  pub wide : width_of most (suc (suc n)) ≡ width_of most (suc n)
  pub open_ : nat_le (most * width_of most (suc n)) (suc n) ≡ false
  pub here : suc n / width_of most (suc n) ≡ n / width_of most (suc n)

pub goes-on : (most n : ℕ) → 0 < most → 0 < suc n % width_of most (suc n) → GoesOn most n
goes-on most n some within =
    let w : ℕ = width_of most (suc n) in
    let now = roomy most (suc n) some in
    let q : ℕ = suc n / w in
    let r : ℕ = suc n % w in
    let whole : q * w + r ≡ suc n = div-add-mod' (suc n) w in
    let rest : r < w = mod_below (suc n) w now.wide in
    let before : (q * w + (r - 1)) / w ≡ q = div-mul-add q w (r - 1) (omega arith) in
    let less : q * w + (r - 1) ≡ n = omega (arith, whole, within) in
    let inside : suc n < most * w = below most n w q r now.room whole rest within in
    let unfull : nat_le (most * w) (suc n) ≡ false = grind (arith, nat_tests) in
    record {
      wide = ap (λ (b : Bool). cond b (w + w) w) unfull;
      open_ = unfull;
      here = sym before ∙ ap (λ k. k / w) less;
    }
  where
    below : (most n w q r : ℕ) → suc n ≤ most * w → q * w + r ≡ suc n → r < w → 0 < r → suc n < most * w
    below most n w q r room whole rest within =
        elim (cases_Bool (nat_le (most * w) (suc n))) [
          | inl full ↦
              let same : suc n ≡ most * w = grind (arith, nat_tests) in
              let first : (q * w + r) / w ≡ q = div-mul-add q w r rest in
              let second : (most * w + 0) / w ≡ most = div-mul-add most w 0 (omega arith) in
              let sum : most * w + 0 ≡ q * w + r = omega (arith, same, whole) in
              let equal : most ≡ q = sym second ∙ ap (λ k. k / w) sum ∙ first in
              let product : most * w ≡ q * w = ap (λ k. k * w) equal in
              absurd (omega (arith, product, sum, within))
          | inr open_ ↦ grind (arith, nat_tests)
        ]

module _ (most : ℕ) (before : List State) (s : State) (some : 0 < most) (on : GoesOn most (length before)) where
  -- the moments so far
  abbrev moments : List State
  moments = before ++ s ∷ []

  count : length moments ≡ suc (length before)
  count = omega (arith, length_push before s)

  line-still : (number : State → Option ℕ) → line_of most number (moments ++ s ∷ []) ≡ line_of most number moments
  line-still number =
      let n : ℕ = length before in
      let w : ℕ = width_of most (suc n) in
      let first = line-if (nat_le (most * width_of most n) n) most number before s some refl in
      let full : nat_le (most * width_of most (length moments)) (length moments) ≡ false = ap (λ k. nat_le (most * width_of most k) k) count ∙ on.open_ in
      let second = line-if false most number moments s some full in
      let place : length moments / width_of most (suc (length moments)) ≡ n / w =
      ap (λ k. k / width_of most (suc k)) count ∙ ap (λ v. suc n / v) on.wide ∙ on.here in
      sym second
      ∙ ap (λ p. added p (number s) (line_of most number moments)) place
      ∙ ap (added (n / w) (number s)) (sym first)
      ∙ added-twice (n / w) (number s) _
      ∙ first

  pub row-still : (a : ℕ) → row_of most (moments ++ s ∷ []) s a ≡ row_of most moments s a
  row-still a =
      let level = line-still (level_at a) in
      let request = line-still (shown (λ (v : ArenaView). v.request) a) in
      let allot = line-still (shown (λ (v : ArenaView). v.allot) a) in
      let active = line-still (shown (λ (v : ArenaView). v.active) a) in
      let recall = line-still (shown (λ (v : ArenaView). v.recall) a) in
      let hire = line-still (shown (λ (v : ArenaView). v.hire) a) in
      λ i. record { arena = a; stands = level_at a s; level = level i; request = request i; allot = allot i; active = active i; recall = recall i; hire = hire i }

  rows-still : (arenas : List ℕ) → map (row_of most (moments ++ s ∷ []) s) arenas ≡ map (row_of most moments s) arenas
  rows-still [] = refl
  rows-still (a ∷ arenas) = λ i. row-still a i ∷ rows-still arenas i

  chart-same : (arenas : List ℕ) → counted_chart (chart_of most arenas moments s) ≡ chart_of most arenas (moments ++ s ∷ []) s
  chart-same arenas =
      let more : length moments + 1 ≡ length (moments ++ s ∷ []) = omega (arith, length_push moments s) in
      let limit = sym (line-still (λ t. Some (limit_of t))) in
      let effective = sym (line-still (λ t. Some (effective_limit_of t))) in
      let rows = sym (rows-still arenas) in
      λ i. record { most = most; moments = more i; lines = record { limit = limit i; effective = effective i; rows = rows i } }

-- a chart whose last moment was of the market as it is, and that takes another such
pub chart-still : (most : ℕ) (arenas : List ℕ) (before : List State) (s t : State) (seat : ℕ) (cmd : Cmd) (reply : Reply) → 0 < most → step s seat cmd ≡ (reply, t)
    → is_still reply ≡ true → goes_on (chart_of most arenas (before ++ s ∷ []) s) ≡ true
    → counted_chart (chart_of most arenas (before ++ s ∷ []) s) ≡ chart_of most arenas ((before ++ s ∷ []) ++ t ∷ []) t
chart-still most arenas before s t seat cmd reply some answered still on =
    let count : length (before ++ s ∷ []) ≡ suc (length before) = omega (arith, length_push before s) in
    let on' : nat_lt 0 (suc (length before) % width_of most (suc (length before))) ≡ true = ap (λ k. nat_lt 0 (k % width_of most k)) (sym count) ∙ on in
    let within : 0 < suc (length before) % width_of most (suc (length before)) = grind (arith, nat_tests) in
    chart-same most before s some (goes-on most (length before) some within) arenas
    ∙ ap (λ u. chart_of most arenas ((before ++ s ∷ []) ++ u ∷ []) u) (sym (stays-so s t seat cmd reply answered still))

-- the columns are then as wide as before
pub width-still : (most n : ℕ) → 0 < most → nat_lt 0 (n % width_of most n) ≡ true → width_of most n ≡ width_of most (n + 1)
width-still most zero some on = absurd (true≢false (sym on))
width-still most (suc n) some on =
    let within : 0 < suc n % width_of most (suc n) = grind (arith, nat_tests) in
    let next : suc (suc n) ≡ suc n + 1 = omega arith in
    sym (goes-on most n some within).wide ∙ ap (width_of most) next

-- ---- a moment more, in either way

-- these moments are none, or the last of them is of the market as it is
abbrev pub EndsIn : State → List State → Type 0
EndsIn s moments = (moments ≡ []) ⊎ ((before : List State) × (moments ≡ before ++ s ∷ []))

pub ends-dropped : (n : ℕ) (s : State) (moments : List State) → EndsIn s moments → EndsIn s (drop n moments)
ends-dropped n s moments (inl none) = inl (ap (drop n) none ∙ drop_all n [] (omega arith))
ends-dropped n s moments (inr ends) =
    elim (cases_Bool (nat_le n (length ends.0))) [
      | inl within ↦
          let least : n ≤ length ends.0 = grind (arith, nat_tests) in
          inr (drop n ends.0, ap (drop n) ends.1 ∙ drop-append-le n ends.0 (s ∷ []) least)
      | inr beyond ↦
          let most : length (ends.0 ++ s ∷ []) ≤ n = grind (arith, nat_tests, length_push) in
          inl (ap (drop n) ends.1 ∙ drop_all n (ends.0 ++ s ∷ []) most)
    ]
