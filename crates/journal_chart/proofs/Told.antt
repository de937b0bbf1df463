-- What an entry's reply tells of the arena that it is about.
use Rattle.std.specs.Prelude.{◌&&◌, ◌==◌, is_some, nat_lt, slice_get, slice_set, unwrap_or}
use Rattle.std.specs.List.{count_by}
use Rattle.std.proofs.Common.{◌≡◌, ℕ, zero, suc, ◌+◌, ◌-◌, Bool, true, false, true≢false, cond, eqb, List, [], ◌∷◌, Option, Some, None, Result, Ok, Err, ℤ, refl, sym, ap, ◌∙◌, subst, arith, inl, inr}
use Rattle.std.proofs.lemmas.Bool.{cases_Bool}
use Rattle.std.proofs.lemmas.Bool.Decides.{nat_tests}
use Rattle.std.proofs.lemmas.List.Sums.{sum_by-cons}
use Rattle.market_types.specs.declared.command.Cmd.{Cmd}
use Rattle.market_types.specs.declared.command.Cmd.TheVariants.{Open, Close, Priority, Resize, Request, Control, Uncontrol, Join, Stay, Leave, Show, Lists, Limit}
use Rattle.market_types.specs.declared.reply.Fault.{Fault}
use Rattle.market_types.specs.declared.reply.Reply.{Reply}
use Rattle.market_types.specs.declared.reply.Reply.TheVariants.{Placed, Recalled, Requested, Resized, Stays, Left}
use Rattle.market_types.specs.Claims.{added_claim, new_claim, request_of, with_slots}
use Rattle.market_types.specs.State.{Arena, Claim, State}
use Rattle.market_types.specs.Allotment.{active, is_just, need, recall}
use Rattle.market_types.specs.Step.{Outcome, arena_at, if_arena, if_claim, join_at, join_from, leave_from, place_of, request_step, resize_step, stay_from, step, with_claim, with_place}
use Rattle.journal_chart.specs.declared.row.Known.{Known}
use Rattle.journal_chart.specs.declared.spot.Spot.{Spot}
use Rattle.journal_chart.specs.Rows.{Row}
use Rattle.journal_chart.specs.Shares.{placed_of}
use Rattle.journal_chart.specs.Spots.{no_spot}
use Rattle.journal_chart.specs.Steps.{known_in, moves_seat, retold, seated, subject}

-- a claim is given to the arena of its number
claim-found : (a : ℕ) (claim : Claim) (xs : List Arena) (x : Arena) → arena_at a xs ≡ Some x → arena_at a (with_claim a claim xs) ≡ Some (record x { claim = claim })
claim-found a claim [] x found = absurd (cc)
claim-found a claim (y ∷ ys) x found =
    elim (cases_Bool (eqb y.number a)) [
      | inl here ↦
          let is : Some y ≡ Some x = rw here at found in
          let same : y ≡ x = cc in
          rw (here, here) (λ i. Some (record (same i) { claim = claim }))
      | inr not ↦ rw (not, not) (claim-found a claim ys x (rw not at found))
    ]

-- a seat that is no longer placed is one fewer
count-gone : (a b seat : ℕ) (seats : List (Option ℕ)) → unwrap_or (slice_get seats seat) None ≡ Some b → eqb b a ≡ true
    → count_by (is_just a) (slice_set seats seat None) + 1 ≡ count_by (is_just a) seats
count-gone a b seat [] was own = absurd (cc)
count-gone a b zero (x ∷ seats) was own =
    let f : Option ℕ → ℕ = λ o. cond (is_just a o) 1 0 in
    let old : f x ≡ 1 = ap f was ∙ ap (λ c. cond c 1 0) own in
    let new : f None ≡ 0 = refl in
    omega (arith, sum_by-cons f None seats, sum_by-cons f x seats, old, new)
count-gone a b (suc seat) (x ∷ seats) was own =
    let f : Option ℕ → ℕ = λ o. cond (is_just a o) 1 0 in
    omega (arith, sum_by-cons f x (slice_set seats seat None), sum_by-cons f x seats, count-gone a b seat seats was own)

-- a seat that is placed, so that one more is, is one more of its arena
count-come : (a b seat : ℕ) (seats : List (Option ℕ)) → unwrap_or (slice_get seats seat) None ≡ None → eqb b a ≡ true
    → count_by is_some (slice_set seats seat (Some b)) ≡ count_by is_some seats + 1 → count_by (is_just a) (slice_set seats seat (Some b)) ≡ count_by (is_just a) seats + 1
count-come a b seat [] was own more = absurd (omega (arith, more))
count-come a b zero (x ∷ seats) was own more =
    let f : Option ℕ → ℕ = λ o. cond (is_just a o) 1 0 in
    let old : f x ≡ 0 = ap f was in
    let new : f (Some b) ≡ 1 = ap (λ c. cond c 1 0) own in
    omega (arith, sum_by-cons f (Some b) seats, sum_by-cons f x seats, old, new)
count-come a b (suc seat) (x ∷ seats) was own more =
    let f : Option ℕ → ℕ = λ o. cond (is_just a o) 1 0 in
    let g : Option ℕ → ℕ = λ o. cond (is_some o) 1 0 in
    let rest : count_by is_some (slice_set seats seat (Some b)) ≡ count_by is_some seats + 1 =
    omega (arith, more, sum_by-cons g x (slice_set seats seat (Some b)), sum_by-cons g x seats) in
    omega (arith, sum_by-cons f x (slice_set seats seat (Some b)), sum_by-cons f x seats, count-come a b seat seats was own rest)

-- this is known of an arena, and it stands at its level
pub record Retold (t : State) (a level place : ℕ) (r : Row) (k : Known) : Type 0 where
  pub arena : Arena
  pub found : arena_at a t.arenas ≡ Some arena
  pub stands : arena.level ≡ level
  pub request : request_of arena.claim ≡ k.request
  pub active_is : active t a ≡ k.active
  pub known : k ≡ known_in place k.request k.active r

module _ (s : State) (a place : ℕ) (r : Row) (spot : Spot) (x : Arena) (found : arena_at a s.arenas ≡ Some x) where
  abbrev was : Known
  was = record (known_in place (request_of x.claim) (active s a) r) { spot = spot }

  -- what an outcome's reply tells of the arena is so
  record Told (cmd : Cmd) (o : Outcome) : Type 0 where
    tells : is_just a (subject cmd o.0) ≡ true → (k : Known) → retold cmd o.0 was ≡ Some k → Retold o.1 a x.level place r k

  untold : (cmd : Cmd) (o : Outcome) → retold cmd o.0 was ≡ None → Told cmd o
  untold cmd o none = record { tells = λ own k is. let bad : None ≡ Some k = sym none ∙ is in absurd (cc) }

  claimed : (b : ℕ) (cmd : Cmd) (reply : Reply) (claim : Claim) → subject cmd reply ≡ Some b → retold cmd reply was ≡ Some (record was { request = request_of claim; spot = no_spot })
      → Told cmd (reply, record s { arenas = with_claim b claim s.arenas })
  claimed b cmd reply claim about tells =
      record {
        tells = λ own k is.
            let own_ : eqb b a ≡ true = ap (is_just a) (sym about) ∙ own in
            let number : b ≡ a = grind (arith, nat_tests) in
            let both : Some (record was { request = request_of claim; spot = no_spot }) ≡ Some k = sym tells ∙ is in
            let same : record was { request = request_of claim; spot = no_spot } ≡ k = cc in
            subst (Retold (record s { arenas = with_claim b claim s.arenas }) a x.level place r) same (record {
              arena = record x { claim = claim };
              found = ap (λ n. arena_at a (with_claim n claim s.arenas)) number ∙ claim-found a claim s.arenas x found;
              stands = refl;
              request = refl;
              active_is = refl;
              known = refl;
            });
      }

  request-told : (b : ℕ) (workers mandatory : ℤ) → Told (Request b workers mandatory) (request_step s b workers mandatory)
  request-told b workers mandatory = on_arena (arena_at b s.arenas)
    where
      on_claim : (c : Result Claim Fault)
          → Told (Request b workers mandatory) (if_claim s c (λ claim. (Requested (request_of claim), record s { arenas = with_claim b claim s.arenas })))
      on_claim (Err fault) = untold (Request b workers mandatory) _ refl
      on_claim (Ok claim) = claimed b (Request b workers mandatory) (Requested (request_of claim)) claim refl refl

      on_arena : (o : Option Arena)
          → Told (Request b workers mandatory)
          (if_arena s o (λ arena. if_claim s (added_claim arena.claim workers mandatory) (λ claim. (Requested (request_of claim), record s { arenas = with_claim b claim s.arenas }))))
      on_arena None = untold (Request b workers mandatory) _ refl
      on_arena (Some y) = on_claim (added_claim y.claim workers mandatory)

  resize-told : (b slots reserved : ℕ) → Told (Resize b slots reserved) (resize_step s b slots reserved)
  resize-told b slots reserved = on_claim (new_claim slots reserved)
    where
      on_arena : (o : Option Arena)
          → Told (Resize b slots reserved)
          (if_arena s o (λ arena. (Resized (request_of (with_slots arena.claim slots reserved)), record s { arenas = with_claim b (with_slots arena.claim slots reserved) s.arenas })))
      on_arena None = untold (Resize b slots reserved) _ refl
      on_arena (Some y) =
          claimed b (Resize b slots reserved) (Resized (request_of (with_slots y.claim slots reserved))) (with_slots y.claim slots reserved) refl refl

      on_claim : (c : Result Claim Fault)
          → Told (Resize b slots reserved)
          (if_claim s c (λ _. if_arena s (arena_at b s.arenas) (λ arena. (
            Resized (request_of (with_slots arena.claim slots reserved)),
            record s { arenas = with_claim b (with_slots arena.claim slots reserved) s.arenas },
          ))))
      on_claim (Err fault) = untold (Resize b slots reserved) _ refl
      on_claim (Ok claim) = on_arena (arena_at b s.arenas)

  steps-told : (seat : ℕ) (cmd : Cmd) → Told cmd (step s seat cmd)
  steps-told seat (Request b workers mandatory) = request-told b workers mandatory
  steps-told seat (Resize b slots reserved) = resize-told b slots reserved
  steps-told seat Stay = untold Stay _ refl
  steps-told seat Leave = untold Leave _ refl
  steps-told seat (Open slots reserved level) = untold (Open slots reserved level) _ refl
  steps-told seat (Close b) = untold (Close b) _ refl
  steps-told seat (Priority b level) = untold (Priority b level) _ refl
  steps-told seat (Control value) = untold (Control value) _ refl
  steps-told seat (Uncontrol c) = untold (Uncontrol c) _ refl
  steps-told seat Join = untold Join _ refl
  steps-told seat (Show b) = untold (Show b) _ refl
  steps-told seat Lists = untold Lists _ refl
  steps-told seat Limit = untold Limit _ refl

  pub told-step : (t : State) (seat : ℕ) (cmd : Cmd) (reply : Reply) (k : Known) → step s seat cmd ≡ (reply, t) → is_just a (subject cmd reply) ≡ true
      → retold cmd reply was ≡ Some k → Retold t a x.level place r k
  told-step t seat cmd reply k answered own is =
      let told : Told cmd (reply, t) = subst (Told cmd) answered (steps-told seat cmd) in told.tells own k is

  -- ---- seats

  -- the same of a command of a seat
  record Seated (cmd : Cmd) (o : Outcome) : Type 0 where
    tells : (more : Bool) → (placed_of o.1 == placed_of s + 1) ≡ more → is_just a (subject cmd o.0) ≡ true → (k : Known) → seated place more o.0 was r ≡ Some k
        → Retold o.1 a x.level place r k

  unseated : (cmd : Cmd) (o : Outcome) → ((more : Bool) → seated place more o.0 was r ≡ None) → Seated cmd o
  unseated cmd o none = record { tells = λ more grew own k is. let bad : None ≡ Some k = sym (none more) ∙ is in absurd (cc) }

  seated-if : (cmd : Cmd) (b : Bool) (y z : Outcome) → Seated cmd y → Seated cmd z → Seated cmd (cond b y z)
  seated-if cmd true y z h k = h
  seated-if cmd false y z h k = k

  -- a seat of the arena is no longer placed
  gone : (b seat : ℕ) (cmd : Cmd) (reply : Reply) → place_of s seat ≡ Some b → subject cmd reply ≡ Some b
      → ((more : Bool) → seated place more reply was r ≡ Some (known_in place was.request (was.active - 1) r)) → Seated cmd (reply, with_place s seat None)
  gone b seat cmd reply placed about tells =
      record {
        tells = λ more grew own k is.
            let own_ : eqb b a ≡ true = ap (is_just a) (sym about) ∙ own in
            let fewer = count-gone a b seat s.seats placed own_ in
            let both : Some (known_in place was.request (was.active - 1) r) ≡ Some k = sym (tells more) ∙ is in
            let same : known_in place was.request (was.active - 1) r ≡ k = cc in
            subst (Retold (with_place s seat None) a x.level place r) same
            (record { arena = x; found = found; stands = refl; request = refl; active_is = omega (arith, fewer); known = refl });
      }

  -- a seat is placed at the arena
  come : (b seat : ℕ) → place_of s seat ≡ None → Seated Join (Placed b, with_place s seat (Some b))
  come b seat free = record { tells = λ more grew own k is. go more (nat_lt was.active 64) grew own k is }
    where
      go : (more few : Bool) → (placed_of (with_place s seat (Some b)) == placed_of s + 1) ≡ more → eqb b a ≡ true → (k : Known)
          → cond (more && few) (Some (known_in place was.request (was.active + 1) r)) None ≡ Some k → Retold (with_place s seat (Some b)) a x.level place r k
      go true true grew own k is =
          let one : placed_of (with_place s seat (Some b)) ≡ placed_of s + 1 = grind (arith, nat_tests) in
          let more = count-come a b seat s.seats free own one in
          let same : known_in place was.request (was.active + 1) r ≡ k = cc in
          subst (Retold (with_place s seat (Some b)) a x.level place r) same
          (record { arena = x; found = found; stands = refl; request = refl; active_is = more; known = refl })
      go true false grew own k is = absurd (cc)
      go false few grew own k is = absurd (cc)

  join_at-seated : (seat : ℕ) (o : Option Arena) → place_of s seat ≡ None → Seated Join (join_at s seat o)
  join_at-seated seat None free = unseated Join _ (λ more. refl)
  join_at-seated seat (Some y) free = come y.number seat free

  join-seated : (seat : ℕ) (p : Option ℕ) → place_of s seat ≡ p → Seated Join (join_from s seat p)
  join-seated seat None is = join_at-seated seat (need s) is
  join-seated seat (Some b) is = unseated Join _ (λ more. refl)

  stay-seated : (seat : ℕ) (p : Option ℕ) → place_of s seat ≡ p → Seated Stay (stay_from s seat p)
  stay-seated seat None is = unseated Stay _ (λ more. refl)
  stay-seated seat (Some b) is =
      seated-if Stay (nat_lt 0 (recall s b)) (Recalled b, with_place s seat None) (Stays b, s) (gone b seat Stay (Recalled b) is refl (λ more. refl))
      (unseated Stay (Stays b, s) (λ more. refl))

  leave-seated : (seat : ℕ) (p : Option ℕ) → place_of s seat ≡ p → Seated Leave (leave_from s seat p)
  leave-seated seat None is = unseated Leave _ (λ more. refl)
  leave-seated seat (Some b) is = gone b seat Leave (Left b) is refl (λ more. refl)

  steps-seated : (seat : ℕ) (cmd : Cmd) → moves_seat cmd ≡ true → Seated cmd (step s seat cmd)
  steps-seated seat Join h = join-seated seat (place_of s seat) refl
  steps-seated seat Stay h = stay-seated seat (place_of s seat) refl
  steps-seated seat Leave h = leave-seated seat (place_of s seat) refl
  steps-seated seat (Open slots reserved level) h = absurd (true≢false (sym h))
  steps-seated seat (Close b) h = absurd (true≢false (sym h))
  steps-seated seat (Priority b level) h = absurd (true≢false (sym h))
  steps-seated seat (Resize b slots reserved) h = absurd (true≢false (sym h))
  steps-seated seat (Request b workers mandatory) h = absurd (true≢false (sym h))
  steps-seated seat (Control value) h = absurd (true≢false (sym h))
  steps-seated seat (Uncontrol c) h = absurd (true≢false (sym h))
  steps-seated seat (Show b) h = absurd (true≢false (sym h))
  steps-seated seat Lists h = absurd (true≢false (sym h))
  steps-seated seat Limit h = absurd (true≢false (sym h))

  pub seated-step : (t : State) (seat : ℕ) (cmd : Cmd) (reply : Reply) (k : Known) → step s seat cmd ≡ (reply, t) → moves_seat cmd ≡ true → is_just a (subject cmd reply) ≡ true
      → seated place (placed_of t == placed_of s + 1) reply was r ≡ Some k → Retold t a x.level place r k
  seated-step t seat cmd reply k answered moves own is =
      let told : Seated cmd (reply, t) = subst (Seated cmd) answered (steps-seated seat cmd moves) in
      told.tells (placed_of t == placed_of s + 1) refl own k is
