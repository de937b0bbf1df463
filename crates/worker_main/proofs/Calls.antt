-- What a caller knows after its calls.
use Rattle.std.proofs.Common.{◌≡◌, ℕ, ◌+◌, List, [], ◌∷◌, ◌++◌, length, replicate, refl, ap, sym, ◌∙◌, append_assoc, append-nil, length-append, arith, Option, None, Some, IfNone, IfSome}
use Rattle.std.proofs.lemmas.List.{replicate-append-replicate}
use Rattle.market_types.specs.declared.command.Cmd.{Cmd}
use Rattle.market_types.specs.declared.command.Cmd.TheVariants.{Join, Stay, Leave}
use Rattle.market_types.specs.declared.reply.Entry.{Entry}
use Rattle.market_types.specs.declared.reply.Reply.{Reply}
use Rattle.market_types.specs.declared.reply.Reply.TheVariants.{Placed, Stays, Recalled, Left}
use Rattle.edit_history.specs.Chronicled.{entry}
use Rattle.edit_history.specs.declared.fault.CallFault.{CallFault}
use Rattle.market_lock.specs.Seen.{OfPass}
use Rattle.market_lock.specs.Moves.{Called, Fails}
use Rattle.job_queue.specs.declared.view.Fed.{Fed}
use Rattle.job_queue.specs.Seen.{OfTaker, taken_one, missed_one}
use Rattle.plan_jobs.specs.declared.task.Job.{Job}
use Rattle.worker_main.specs.declared.station.Station.{Station}
use Rattle.worker_main.specs.declared.report.Ended.{Ended}
use Rattle.worker_main.specs.declared.report.Ended.TheVariants.{Idle, GateShut, NoStation, Call, Memory}
use Rattle.worker_main.specs.Turns.{recalled, emptied, give_back, stayed, ending}
use Rattle.edit_history.specs.declared.fault.CallFault.TheVariants as fault
use Rattle.worker_main.specs.Books.{HasLackedPlaces, IfFull, IfIdle, IfNoStation, IfShut, WasPlacedAt}
use Rattle.worker_main.specs.Steps.{HasGoneOn, HasGivenBack, HasTurned, IsInside, IsFault, IsBrokenOff, still_held}
use Rattle.worker_main.proofs.Lists.{prefix_self, prefix_trans}

pub goes_on : (p : OfPass) → HasGoneOn p p
goes_on p = ((refl, refl, refl), prefix_self p.seen)

pub goes_further : (p q r : OfPass) → HasGoneOn p q → HasGoneOn q r → HasGoneOn p r
goes_further p q r a b =
    ((b.0.0 ∙ a.0.0, b.0.1 ∙ a.0.1, b.0.2 ∙ a.0.2), prefix_trans p.seen q.seen r.seen a.1 b.1)

pub called : (p q : OfPass) (cmd : Cmd) (reply : Reply) → Called p cmd reply q → HasGoneOn p q
called p q cmd reply h =
    let e = entry p.seat cmd reply ∷ [] in
    (h.0, (h.2.0 ++ e, sym (append_assoc p.seen h.2.0 e) ∙ sym h.2.1))

pub failed : (p q : OfPass) (cmd : Cmd) (fault : CallFault) → Fails p cmd fault q → HasGoneOn p q
failed p q cmd fault h = (h.0, h.2.0)

-- a call was not answered, and where the history was full it lacked places
pub lacked : (a p q r : OfPass) (cmd : Cmd) (fault : CallFault) → HasGoneOn a p → Fails p cmd fault q → HasGoneOn q r → IfFull (Call fault) (HasLackedPlaces a r)
lacked a p q r cmd fault.HistoryFull on h off = let m = goes_further a p q on (failed p q cmd fault.HistoryFull h) in (q, cmd, m.0, m.1, off.1, h.3 refl)
lacked a p q r cmd fault.Memory on h off = tt

lacked_earlier : (a b c : OfPass) → HasGoneOn a b → HasLackedPlaces b c → HasLackedPlaces a c
lacked_earlier a b c on h = let m = goes_further a b h.0 on (h.2, h.3) in (h.0, h.1, m.0, m.1, h.4, h.5)

if_full_then : {P Q : Type 0} (e : Ended) → (P → Q) → IfFull e P → IfFull e Q
if_full_then (Call fault.HistoryFull) f p = f p
if_full_then (Call fault.Memory) f p = tt
if_full_then Idle f p = tt
if_full_then Memory f p = tt
if_full_then (GateShut job) f p = tt
if_full_then (NoStation arena) f p = tt

pub full_earlier : (a b c : OfPass) (o : Option Ended) → HasGoneOn a b → IfSome o (λ e. IfFull e (HasLackedPlaces b c)) → IfSome o (λ e. IfFull e (HasLackedPlaces a c))
full_earlier a b c None on h = tt
full_earlier a b c (Some e) on h = if_full_then e (lacked_earlier a b c on) h

-- a fault is no shut gate
pub fault_passes : (e : Ended) (P : Job → Type 0) → IsFault e → IfShut e P
fault_passes (Call fault) P h = tt
fault_passes Idle P h = absurd h
fault_passes Memory P h = absurd h
fault_passes (GateShut job) P h = absurd h
fault_passes (NoStation arena) P h = absurd h

-- a Request and a Leave
pub gave_back : (s : Station) (p q r : OfPass) (cmd : Cmd) (reply : Reply) (arena : ℕ) → cmd ≡ give_back s → arena ≡ s.arena → q.seat ≡ p.seat → q.mine ≡ p.mine ++ entry p.seat cmd reply ∷ [] → r.mine ≡ q.mine ++ entry q.seat Leave (Left arena) ∷ []
    → HasGivenBack s p r
gave_back s p q r cmd reply arena is at seat ask gone = (
  reply,
  gone ∙ ((λ i. ask i ++ entry (seat i) Leave (Left (at i)) ∷ []) ∙ (append_assoc p.mine (entry p.seat cmd reply ∷ []) (entry p.seat Leave (Left s.arena) ∷ []) ∙ (λ i. p.mine ++ entry p.seat (is i) reply ∷ entry p.seat Leave (Left s.arena) ∷ []))),
)

stayed_more : (n : ℕ) (e : Entry) → replicate n e ++ e ∷ [] ≡ replicate (n + 1) e
stayed_more n e = replicate-append-replicate n 1 e

length_more : (xs : List (Fed Job)) (x : Fed Job) → length (xs ++ x ∷ []) ≡ length xs + 1
length_more xs x = length-append xs (x ∷ [])

module _ (s : Station) (p q r : OfTaker Job) (a b c : OfPass) where
  -- a job is taken, and a Stay answered that the worker stays
  pub stayed_on : (x : Fed Job) (arena : ℕ) → IsInside s p q a b → r ≡ taken_one q x → arena ≡ s.arena → b.seat ≡ a.seat → c.mine ≡ b.mine ++ entry b.seat Stay (Stays arena) ∷ [] → IsInside s p r a c
  stayed_on x arena u took at seat more = (
    u.0 + 1,
    (let h = ap (λ (t : OfTaker Job). length t.taken) took in let l = length_more q.taken x in let k = u.1 in omega arith),
    ap (λ (t : OfTaker Job). t.empties) took ∙ u.2,
    more ∙ ((λ i. u.3 i ++ entry (seat i) Stay (Stays (at i)) ∷ []) ∙ (append_assoc a.mine (replicate u.0 (stayed a.seat s)) (stayed a.seat s ∷ []) ∙ ap (λ l. a.mine ++ l) (stayed_more u.0 (stayed a.seat s)))),
  )

  -- a job is taken, and a Stay answered that the worker is recalled
  pub was_recalled : (x : Fed Job) (arena : ℕ) → IsInside s p q a b → r ≡ taken_one q x → arena ≡ s.arena → b.seat ≡ a.seat → c.mine ≡ b.mine ++ entry b.seat Stay (Recalled arena) ∷ [] → HasTurned s p r a c
  was_recalled x arena u took at seat more = record {
    turn = record { station = s; stays = u.0; end = recalled };
    at = refl;
    mine_is = more ∙ ((λ i. u.3 i ++ entry (seat i) Stay (Recalled (at i)) ∷ []) ∙ append_assoc a.mine (replicate u.0 (stayed a.seat s)) (entry a.seat Stay (Recalled s.arena) ∷ []));
    jobs = let h = ap (λ (t : OfTaker Job). length t.taken) took in let l = length_more q.taken x in let k = u.1 in omega arith;
    misses = let h = ap (λ (t : OfTaker Job). t.empties) took in let k = u.2 in omega arith;
  }

  -- no job is left, and the request is given back
  pub was_emptied : IsInside s p q a b → r ≡ missed_one q → b.seat ≡ a.seat → HasGivenBack s b c → HasTurned s p r a c
  was_emptied u missed seat back = record {
    turn = record { station = s; stays = u.0; end = emptied back.0 };
    at = refl;
    mine_is = back.1 ∙ ((λ i. u.3 i ++ ending (seat i) s (emptied back.0)) ∙ append_assoc a.mine (replicate u.0 (stayed a.seat s)) (ending a.seat s (emptied back.0)));
    jobs = let h = ap (λ (t : OfTaker Job). length t.taken) missed in let k = u.1 in omega arith;
    misses = let h = ap (λ (t : OfTaker Job). t.empties) missed in let k = u.2 in omega arith;
  }

pub just_inside : (s : Station) (p : OfTaker Job) (a : OfPass) → IsInside s p p a a
just_inside s p a = (0, (let e : length p.taken ≡ length p.taken + 0 = omega arith in e), refl, sym (append-nil a.mine))

-- ---- ends

pub if_none_then : {A : Type 0} {P Q : Type 0} (o : Option A) → (P → Q) → IfNone o P → IfNone o Q
if_none_then None f p = f p
if_none_then (Some x) f p = tt

pub fault_holds : (o : Option Ended) → IfSome o IsFault → still_held o ≡ []
fault_holds None h = refl
fault_holds (Some (Call fault)) h = refl
fault_holds (Some Idle) h = absurd h
fault_holds (Some Memory) h = absurd h
fault_holds (Some (GateShut job)) h = absurd h
fault_holds (Some (NoStation arena)) h = absurd h

pub fault_breaks : (e : Ended) → IsFault e → IsBrokenOff e
fault_breaks (Call fault) h = tt
fault_breaks Idle h = h
fault_breaks Memory h = tt
fault_breaks (GateShut job) h = tt
fault_breaks (NoStation arena) h = h

pub if_idle_then : {P Q : Type 0} (e : Ended) → (P → Q) → IfIdle e P → IfIdle e Q
if_idle_then Idle f p = f p
if_idle_then (GateShut job) f p = tt
if_idle_then (NoStation arena) f p = tt
if_idle_then (Call fault) f p = tt
if_idle_then Memory f p = tt

-- a Join that placed the caller at this arena, and a Leave
pub was_placed : (p q r : OfPass) (arena at : ℕ) → arena ≡ at → q.seat ≡ p.seat → q.mine ≡ p.mine ++ entry p.seat Join (Placed at) ∷ [] → r.mine ≡ q.mine ++ entry q.seat Leave (Left at) ∷ [] → WasPlacedAt p r arena
was_placed p q r arena at is seat joins leaves = (
  [],
  leaves ∙ ((λ i. joins i ++ entry (seat i) Leave (Left at) ∷ []) ∙ (append_assoc p.mine (entry p.seat Join (Placed at) ∷ []) (entry p.seat Leave (Left at) ∷ []) ∙ (λ i. p.mine ++ entry p.seat Join (Placed (sym is i)) ∷ entry p.seat Leave (Left (sym is i)) ∷ []))),
)

-- it was placed there after these calls
pub placed_later : (p q r : OfPass) (added : List Entry) (e : Ended) → q.seat ≡ p.seat → q.mine ≡ p.mine ++ added → IfNoStation e (WasPlacedAt q r) → IfNoStation e (WasPlacedAt p r)
placed_later p q r added (NoStation arena) seat more h =
    let last = entry p.seat Join (Placed arena) ∷ entry p.seat Leave (Left arena) ∷ [] in (
      added ++ h.0,
      h.1 ∙ ((λ i. more i ++ (h.0 ++ entry (seat i) Join (Placed arena) ∷ entry (seat i) Leave (Left arena) ∷ [])) ∙ (append_assoc p.mine added (h.0 ++ last) ∙ ap (λ l. p.mine ++ l) (sym (append_assoc added h.0 last)))),
    )
placed_later p q r added Idle seat more h = tt
placed_later p q r added (GateShut job) seat more h = tt
placed_later p q r added (Call fault) seat more h = tt
placed_later p q r added Memory seat more h = tt
