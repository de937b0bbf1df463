-- A market at which each seat that called joined in vain last.
use Rattle.std.specs.Prelude.{slice_get, map, ◌&&◌}
use Rattle.std.specs.List.{count_by, fold}
use Rattle.std.proofs.Common.{◌≡◌, ◌≢◌, ℕ, zero, suc, Bool, true, false, cond, eqb, List, [], ◌∷◌, ◌++◌, set, replicate, Option, Some, None, unwrap_or, refl, ap, sym, ◌∙◌, inl, inr}
use Rattle.std.proofs.lemmas.Bool.{cases_eq, eq-eqb, ne_eqb}
use Rattle.market_types.specs.declared.command.Cmd.{Cmd}
use Rattle.market_types.specs.declared.command.Cmd.TheVariants.{Open, Close, Priority, Resize, Request, Control, Uncontrol, Join, Stay, Leave, Show, Lists, Limit}
use Rattle.market_types.specs.declared.reply.Entry.{Entry}
use Rattle.market_types.specs.declared.reply.Reply.{Reply}
use Rattle.market_types.specs.declared.reply.Reply.TheVariants.{Opened, Closed, Moved, Resized, Requested, Controlled, Uncontrolled, Placed, Idle, Stays, Recalled, Left, Shown, Listed, Limits, Refused}
use Rattle.market_types.specs.State.{Arena, State, opening_to}
use Rattle.market_types.specs.Allotment.{active, is_just, need}
use Rattle.market_types.specs.Step.{join_at, join_from, place_of, step}
use Rattle.market_types.specs.History.{IsLegal, calls_of, place_after, replies_to, state_after}
use Rattle.market_core.proofs.Moved.{steps}
use Rattle.market_rest.specs.Vain.{is_idle, is_join, is_vain, joined_last}

-- ---- one call

join-of : (cmd : Cmd) → is_join cmd ≡ true → cmd ≡ Join
join-of (Open slots reserved level) e = cc
join-of (Close a) e = cc
join-of (Priority a level) e = cc
join-of (Resize a slots reserved) e = cc
join-of (Request a workers mandatory) e = cc
join-of (Control value) e = cc
join-of (Uncontrol c) e = cc
join-of Join e = refl
join-of Stay e = cc
join-of Leave e = cc
join-of (Show a) e = cc
join-of Lists e = cc
join-of Limit e = cc

idle-of : (reply : Reply) → is_idle reply ≡ true → reply ≡ Idle
idle-of (Opened a) e = cc
idle-of Closed e = cc
idle-of Moved e = cc
idle-of (Resized n) e = cc
idle-of (Requested n) e = cc
idle-of (Controlled c) e = cc
idle-of Uncontrolled e = cc
idle-of (Placed a) e = cc
idle-of Idle e = refl
idle-of (Stays a) e = cc
idle-of (Recalled a) e = cc
idle-of (Left a) e = cc
idle-of (Shown view) e = cc
idle-of (Listed lists) e = cc
idle-of (Limits view) e = cc
idle-of (Refused fault) e = cc

by_need : (s : State) (seat : ℕ) (n : Option Arena) → Idle ≡ (join_at s seat n).0 → (n ≡ None) × ((join_at s seat n).1 ≡ s)
by_need s seat None e = (refl, refl)
by_need s seat (Some arena) e = cc

by_place : (s : State) (seat : ℕ) (p : Option ℕ) → Idle ≡ (join_from s seat p).0 → (p ≡ None) × ((need s ≡ None) × ((join_from s seat p).1 ≡ s))
by_place s seat None e = let h = by_need s seat (need s) e in (refl, (h.0, h.1))
by_place s seat (Some a) e = cc

-- a Join in vain was made by a seat that was placed nowhere, where none was in need, and changed nothing
called-in-vain : (s : State) (seat : ℕ) (cmd : Cmd) (reply : Reply) → reply ≡ (step s seat cmd).0 → is_join cmd ≡ true → is_idle reply ≡ true
    → (place_of s seat ≡ None) × ((need s ≡ None) × ((step s seat cmd).1 ≡ s))
called-in-vain s seat cmd reply due joins idles =
    let join = join-of cmd joins in
    let idle : Idle ≡ (join_from s seat (place_of s seat)).0 = sym (idle-of reply idles) ∙ due ∙ ap (λ (c : Cmd). (step s seat c).0) join in
    let h = by_place s seat (place_of s seat) idle in
    (h.0, (h.1.0, ap (λ (c : Cmd). (step s seat c).1) join ∙ h.1.1))

and-left : (a b : Bool) → (a && b) ≡ true → a ≡ true
and-left true b e = refl
and-left false b e = e

and-right : (a b : Bool) → (a && b) ≡ true → b ≡ true
and-right true b e = e
and-right false b e = cc

in-vain : (s : State) (e : Entry) → e.reply ≡ (step s e.call.seat e.call.cmd).0 → is_vain e ≡ true
    → (place_of s e.call.seat ≡ None) × ((need s ≡ None) × ((step s e.call.seat e.call.cmd).1 ≡ s))
in-vain s e due vain =
    called-in-vain s e.call.seat e.call.cmd e.reply due (and-left (is_join e.call.cmd) (is_idle e.reply) vain) (and-right (is_join e.call.cmd) (is_idle e.reply) vain)

-- ---- one seat

abbrev seat_at : List (Option ℕ) → ℕ → Option ℕ
seat_at seats seat = unwrap_or (slice_get seats seat) None

at-set-other : (l : List (Option ℕ)) (k j : ℕ) (x : Option ℕ) → k ≢ j → seat_at (set l k x) j ≡ seat_at l j
at-set-other [] k j x ne = refl
at-set-other (y ∷ ys) zero zero x ne = absurd (ne refl)
at-set-other (y ∷ ys) zero (suc j) x ne = refl
at-set-other (y ∷ ys) (suc k) zero x ne = refl
at-set-other (y ∷ ys) (suc k) (suc j) x ne = at-set-other ys k j x (λ e. ne (ap suc e))

none-at : (n k : ℕ) → seat_at (replicate n None) k ≡ None
none-at zero k = refl
none-at (suc n) zero = refl
none-at (suc n) (suc k) = none-at n k

stays-apart : (s : State) (seat : ℕ) (cmd : Cmd) (other : ℕ) → seat ≢ other → place_of (step s seat cmd).1 other ≡ place_of s other
stays-apart s seat cmd other apart =
    ap (λ l. seat_at l other) (steps s seat cmd).seats
    ∙ at-set-other s.seats seat other (place_after (place_of s seat) (step s seat cmd).0) apart

abbrev next : ℕ → Bool → Entry → Bool
next seat b e = cond (eqb e.call.seat seat) (is_vain e) b

legal-head : (r t : Reply) (rs ts : List Reply) → r ∷ rs ≡ t ∷ ts → (r ≡ t) × (rs ≡ ts)
legal-head r t rs ts e = (let head : r ≡ t = cc in head, let tail : rs ≡ ts = cc in tail)

legal-first : (s : State) (e : Entry) (es : List Entry) → IsLegal s (e ∷ es)
    → (e.reply ≡ (step s e.call.seat e.call.cmd).0) × IsLegal (step s e.call.seat e.call.cmd).1 es
legal-first s e es legal =
    legal-head e.reply (step s e.call.seat e.call.cmd).0 (map (λ (y : Entry). y.reply) es) (replies_to (step s e.call.seat e.call.cmd).1 (calls_of es)) legal

-- a seat that called nothing or last a Join in vain is placed nowhere, if it was placed nowhere at first
free-after : (seat : ℕ) (s : State) (b : Bool) (h : List Entry) → IsLegal s h → (b ≡ true → place_of s seat ≡ None) → fold (next seat) b h ≡ true
    → place_of (state_after s (calls_of h)) seat ≡ None
free-after seat s b [] legal so last = so last
free-after seat s b (e ∷ es) legal so last =
    let t : State = (step s e.call.seat e.call.cmd).1 in
    let first = legal-first s e es legal in
    free-after seat t (next seat b e) es first.1
    (λ (yes : next seat b e ≡ true). elim (cases_eq e.call.seat seat) [
      | inl same ↦
          let vain : is_vain e ≡ true = sym (ap (λ (c : Bool). cond c (is_vain e) b) (eq-eqb e.call.seat seat same)) ∙ yes in
          let h = in-vain s e first.0 vain in
          ap (λ (u : State). place_of u seat) h.1.1 ∙ ap (place_of s) (sym same) ∙ h.0
      | inr apart ↦
          let before : b ≡ true = sym (ap (λ (c : Bool). cond c (is_vain e) b) (ne_eqb e.call.seat seat apart)) ∙ yes in
          stays-apart s e.call.seat e.call.cmd seat apart ∙ so before
    ])
    last

-- ---- all seats

none-there : (n : ℕ) (l : List (Option ℕ)) → ((k : ℕ) → seat_at l k ≡ None) → count_by (is_just n) l ≡ 0
none-there n [] h = refl
none-there n (y ∷ ys) h = let first : y ≡ None = h 0 in rw first (none-there n ys (λ k. h (suc k)))

pub free : (base hard seats levels last : ℕ) (history : List Entry) → IsLegal (opening_to base hard seats levels last) history
    → ((seat : ℕ) → joined_last seat history ≡ true) → (n : ℕ) → active (state_after (opening_to base hard seats levels last) (calls_of history)) n ≡ 0
free base hard seats levels last history legal all n =
    let start : State = opening_to base hard seats levels last in
    none-there n (state_after start (calls_of history)).seats (λ k. free-after k start true history legal (λ _. none-at seats k) (all k))

-- ---- the last call of all

fold-last : (f : Bool → Entry → Bool) (b : Bool) (xs : List Entry) (e : Entry) → fold f b (xs ++ e ∷ []) ≡ f (fold f b xs) e
fold-last f b [] e = refl
fold-last f b (x ∷ xs) e = fold-last f (f b x) xs e

state-longer : (s : State) (xs : List Entry) (e : Entry) → state_after s (calls_of (xs ++ e ∷ [])) ≡ (step (state_after s (calls_of xs)) e.call.seat e.call.cmd).1
state-longer s [] e = refl
state-longer s (x ∷ xs) e = state-longer (step s x.call.seat x.call.cmd).1 xs e

legal-last : (s : State) (xs : List Entry) (e : Entry) → IsLegal s (xs ++ e ∷ [])
    → e.reply ≡ (step (state_after s (calls_of xs)) e.call.seat e.call.cmd).0
legal-last s [] e legal = (legal-first s e [] legal).0
legal-last s (x ∷ xs) e legal = legal-last (step s x.call.seat x.call.cmd).1 xs e (legal-first s x (xs ++ e ∷ []) legal).1

pub none : (start : State) (history : List Entry) (e : Entry) → IsLegal start (history ++ e ∷ []) → joined_last e.call.seat (history ++ e ∷ []) ≡ true
    → need (state_after start (calls_of (history ++ e ∷ []))) ≡ None
none start history e legal last =
    let before : State = state_after start (calls_of history) in
    let own : next e.call.seat (fold (next e.call.seat) true history) e ≡ true = sym (fold-last (next e.call.seat) true history e) ∙ last in
    let vain : is_vain e ≡ true =
    sym (ap (λ (c : Bool). cond c (is_vain e) (fold (next e.call.seat) true history)) (eq-eqb e.call.seat e.call.seat refl)) ∙ own in
    let h = in-vain before e (legal-last start history e legal) vain in
    ap need (state-longer start history e ∙ h.1.1) ∙ h.1.0
