-- Where a history places a seat, and how many seats are placed.
use Rattle.std.specs.Prelude.{slice_get, map}
use Rattle.std.proofs.Common.{◌≡◌, ◌≢◌, ℕ, zero, suc, ◌+◌, ◌<◌, ◌≤◌, Bool, cond, List, [], ◌∷◌, length, set, replicate, get_or, length-set, Option, Some, None, unwrap_or, is_some, refl, ap, sym, ◌∙◌, arith, inl, inr}
use Rattle.std.specs.List.{count_by, fold}
use Rattle.std.proofs.lemmas.Bool.{cases_eq, eq-eqb, ne_eqb}
use Rattle.std.proofs.lemmas.List.{length-replicate}
use Rattle.std.proofs.lemmas.List.Sums.{sum_by-cons, sum_by-set}
use Rattle.market_types.specs.declared.command.Cmd.{Cmd}
use Rattle.market_types.specs.declared.command.Cmd.TheVariants.{Open, Close, Priority, Resize, Request, Control, Uncontrol, Join, Stay, Leave, Show, Lists, Limit}
use Rattle.market_types.specs.declared.reply.Entry.{Entry}
use Rattle.market_types.specs.declared.reply.Reply.{Reply}
use Rattle.market_types.specs.State.{State, opening_to}
use Rattle.market_types.specs.Step.{place_of, step}
use Rattle.market_types.specs.History.{IsLegal, calls_of, state_after, replies_to, of_seat, place_after, place_in}
use Rattle.edit_history.specs.Chronicled.{Chronicled, HasNumbersOf, market_of}
use Rattle.market_core.specs.Moves.{Answers}
use Rattle.edit_history.specs.Places.{placed, takes, LacksPlaces}
use Rattle.market_core.proofs.Moved.{steps, stays}

-- ---- one seat

abbrev seat_at : List (Option ℕ) → ℕ → Option ℕ
seat_at seats seat = unwrap_or (slice_get seats seat) None

at-set-same : (l : List (Option ℕ)) (k : ℕ) (x : Option ℕ) → k < length l → seat_at (set l k x) k ≡ x
at-set-same [] k x h = absurd (omega arith)
at-set-same (y ∷ ys) zero x h = refl
at-set-same (y ∷ ys) (suc k) x h = at-set-same ys k x (omega arith)

at-set-other : (l : List (Option ℕ)) (k j : ℕ) (x : Option ℕ) → k ≢ j → seat_at (set l k x) j ≡ seat_at l j
at-set-other [] k j x ne = refl
at-set-other (y ∷ ys) zero zero x ne = absurd (ne refl)
at-set-other (y ∷ ys) zero (suc j) x ne = refl
at-set-other (y ∷ ys) (suc k) zero x ne = refl
at-set-other (y ∷ ys) (suc k) (suc j) x ne = at-set-other ys k j x (λ e. ne (ap suc e))

none-at : (n k : ℕ) → seat_at (replicate n None) k ≡ None
none-at zero k = refl
none-at (suc n) zero = refl
none-at (suc n) (suc k) = none-at n k

pub same-seats : (s : State) (seat : ℕ) (cmd : Cmd) → length (step s seat cmd).1.seats ≡ length s.seats
same-seats s seat cmd = ap length (steps s seat cmd).seats ∙ length-set s.seats seat (place_after (place_of s seat) (step s seat cmd).0)

pub same-seats-after : (s : State) (h : List Entry) → length (state_after s (calls_of h)).seats ≡ length s.seats
same-seats-after s [] = refl
same-seats-after s (e ∷ es) = same-seats-after (step s e.call.seat e.call.cmd).1 es ∙ same-seats s e.call.seat e.call.cmd

pub numbers-after : (s : State) (h : List Entry) → HasNumbersOf s (state_after s (calls_of h))
numbers-after s [] = record { base = refl; hard = refl; seats = refl; levels = refl; last = refl }
numbers-after s (e ∷ es) =
    let one = steps s e.call.seat e.call.cmd in
    let rest = numbers-after (step s e.call.seat e.call.cmd).1 es in
    record {
      base = rest.base ∙ one.base;
      hard = rest.hard ∙ one.hard;
      seats = rest.seats ∙ same-seats s e.call.seat e.call.cmd;
      levels = rest.levels ∙ one.levels;
      last = rest.last ∙ one.last;
    }

abbrev by_reply : Option ℕ → Entry → Option ℕ
by_reply place e = place_after place e.reply

legal-head : (r t : Reply) (rs ts : List Reply) → r ∷ rs ≡ t ∷ ts → (r ≡ t) × (rs ≡ ts)
legal-head r t rs ts e = (let head : r ≡ t = cc in head, let tail : rs ≡ ts = cc in tail)

place-is : (s : State) (h : List Entry) (seat : ℕ) → IsLegal s h → seat < length s.seats
    → place_of (state_after s (calls_of h)) seat ≡ fold by_reply (place_of s seat) (of_seat seat h)
place-is s [] seat legal small = refl
place-is s (e ∷ es) seat legal small =
    let t : State = (step s e.call.seat e.call.cmd).1 in
    let x : Option ℕ = place_after (place_of s e.call.seat) (step s e.call.seat e.call.cmd).0 in
    let first = legal-head e.reply (step s e.call.seat e.call.cmd).0 (map (λ (y : Entry). y.reply) es) (replies_to t (calls_of es)) legal in
    let long = same-seats s e.call.seat e.call.cmd in
    let rest : place_of (state_after t (calls_of es)) seat ≡ fold by_reply (place_of t seat) (of_seat seat es) = place-is t es seat first.1 (omega arith) in
    let now : place_of t seat ≡ seat_at (set s.seats e.call.seat x) seat = ap (λ l. seat_at l seat) (steps s e.call.seat e.call.cmd).seats in
    elim (cases_eq e.call.seat seat) [
      | inl same ↦
          let here : place_of t seat ≡ place_after (place_of s seat) e.reply =
          now
          ∙ ap (λ k. seat_at (set s.seats e.call.seat x) k) (sym same)
          ∙ at-set-same s.seats e.call.seat x (omega arith)
          ∙ ap (λ k. place_after (place_of s k) (step s e.call.seat e.call.cmd).0) same
          ∙ ap (place_after (place_of s seat)) (sym first.0) in
          rest ∙ ap (λ p. fold by_reply p (of_seat seat es)) here
          ∙ ap (λ (b : Bool). fold by_reply (place_of s seat) (cond b (e ∷ of_seat seat es) (of_seat seat es))) (sym (eq-eqb e.call.seat seat same))
      | inr apart ↦
          let here : place_of t seat ≡ place_of s seat = now ∙ at-set-other s.seats e.call.seat seat x apart in
          rest ∙ ap (λ p. fold by_reply p (of_seat seat es)) here
          ∙ ap (λ (b : Bool). fold by_reply (place_of s seat) (cond b (e ∷ of_seat seat es) (of_seat seat es))) (sym (ne_eqb e.call.seat seat apart))
    ]

pub place-by-own : (base hard seats levels last seat : ℕ) (h : List Entry) → IsLegal (opening_to base hard seats levels last) h → seat < seats
    → place_of (state_after (opening_to base hard seats levels last) (calls_of h)) seat ≡ place_in seat h
place-by-own base hard seats levels last seat h legal small =
    let long : length (opening_to base hard seats levels last).seats ≡ seats = length-replicate seats None in
    place-is (opening_to base hard seats levels last) h seat legal (omega arith)
    ∙ ap (λ p. fold by_reply p (of_seat seat h)) (none-at seats seat)

-- ---- how many are placed

-- 1 for a placed seat
abbrev pub one_if_placed : Option ℕ → ℕ
one_if_placed p = cond (is_some p) 1 0

pub nobody : (n : ℕ) → count_by (is_some {T = ℕ}) (replicate n None) ≡ 0
nobody zero = refl
nobody (suc n) = nobody n

at-get : (l : List (Option ℕ)) (k : ℕ) → seat_at l k ≡ get_or l k None
at-get [] k = refl
at-get (y ∷ ys) zero = refl
at-get (y ∷ ys) (suc k) = at-get ys k

-- one seat among all
pub one-of : (l : List (Option ℕ)) (k : ℕ) → one_if_placed (seat_at l k) ≤ count_by is_some l
one-of [] k = omega arith
one-of (y ∷ ys) zero = omega (arith, sum_by-cons one_if_placed y ys)
one-of (y ∷ ys) (suc k) = omega (arith, sum_by-cons one_if_placed y ys, one-of ys k)

count-set : (l : List (Option ℕ)) (k : ℕ) (x : Option ℕ) → k < length l
    → count_by is_some (set l k x) + one_if_placed (seat_at l k) ≡ count_by is_some l + one_if_placed x
count-set l k x h =
    ap (λ p. count_by is_some (set l k x) + one_if_placed p) (at-get l k) ∙ sum_by-set one_if_placed l k x None h

pub placed-after : (s : State) (seat : ℕ) (cmd : Cmd) → seat < length s.seats
    → placed (step s seat cmd).1 + one_if_placed (place_of s seat) ≡ placed s + one_if_placed (place_after (place_of s seat) (step s seat cmd).0)
placed-after s seat cmd small =
    let x = place_after (place_of s seat) (step s seat cmd).0 in
    ap (λ l. count_by is_some l + one_if_placed (place_of s seat)) (steps s seat cmd).seats ∙ count-set s.seats seat x small

-- ---- the places that a call takes are enough for its entry and for the Leave of a seat that it places

same-room : (p : Option ℕ) (r : Reply) → place_after p r ≡ p → 1 + one_if_placed (place_after p r) ≤ one_if_placed p + 1
same-room p r e = let same = ap one_if_placed e in omega arith

pub room : (p : Option ℕ) (cmd : Cmd) (r : Reply) → Answers p cmd r → 1 + one_if_placed (place_after p r) ≤ one_if_placed p + takes p cmd
room None Join r (inl e) = rw e (omega arith)
room None Join r (inr a) = rw a.1 (omega arith)
room (Some a) Join r e = rw e (omega arith)
room None Stay r e = rw e (omega arith)
room (Some a) Stay r (inl e) = rw e (omega arith)
room (Some a) Stay r (inr e) = rw e (omega arith)
room None Leave r e = rw e (omega arith)
room (Some a) Leave r e = rw e (omega arith)
room None (Open slots reserved level) r e = same-room None r (stays None r e)
room (Some a) (Open slots reserved level) r e = same-room (Some a) r (stays (Some a) r e)
room None (Close b) r e = same-room None r (stays None r e)
room (Some a) (Close b) r e = same-room (Some a) r (stays (Some a) r e)
room None (Priority b level) r e = same-room None r (stays None r e)
room (Some a) (Priority b level) r e = same-room (Some a) r (stays (Some a) r e)
room None (Resize b slots reserved) r e = same-room None r (stays None r e)
room (Some a) (Resize b slots reserved) r e = same-room (Some a) r (stays (Some a) r e)
room None (Request b w m) r e = same-room None r (stays None r e)
room (Some a) (Request b w m) r e = same-room (Some a) r (stays (Some a) r e)
room None (Control v) r e = same-room None r (stays None r e)
room (Some a) (Control v) r e = same-room (Some a) r (stays (Some a) r e)
room None (Uncontrol c) r e = same-room None r (stays None r e)
room (Some a) (Uncontrol c) r e = same-room (Some a) r (stays (Some a) r e)
room None (Show b) r e = same-room None r (stays None r e)
room (Some a) (Show b) r e = same-room (Some a) r (stays (Some a) r e)
room None Lists r e = same-room None r (stays None r e)
room (Some a) Lists r e = same-room (Some a) r (stays (Some a) r e)
room None Limit r e = same-room None r (stays None r e)
room (Some a) Limit r e = same-room (Some a) r (stays (Some a) r e)

-- only a Leave by a placed seat takes no place
pub takes-some : (p : Option ℕ) (cmd : Cmd) → 1 ≤ one_if_placed p + takes p cmd
takes-some None Join = omega arith
takes-some None _ = omega arith
takes-some (Some a) _ = omega arith

-- ---- who has forgotten all

few-placed : (l : List (Option ℕ)) → count_by is_some l ≤ length l
few-placed [] = omega arith
few-placed (None ∷ ys) = omega (arith, sum_by-cons one_if_placed None ys, few-placed ys)
few-placed (Some a ∷ ys) = omega (arith, sum_by-cons one_if_placed (Some a) ys, few-placed ys)

takes-few : (p : Option ℕ) (cmd : Cmd) → takes p cmd ≤ 2
takes-few None Join = omega arith
takes-few None _ = omega arith
takes-few (Some a) Leave = omega arith
takes-few (Some a) _ = omega arith

pub never-full : (c : Chronicled) (seat : ℕ) (cmd : Cmd) → c.from ≡ length c.log → length c.start.seats + 2 ≤ c.places → LacksPlaces c seat cmd → ⊥
never-full c seat cmd all enough lacks =
    omega (arith, all, enough, lacks, same-seats-after c.start c.log, few-placed (market_of c).seats, takes-few (place_of (market_of c) seat) cmd)
