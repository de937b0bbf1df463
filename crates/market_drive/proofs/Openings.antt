-- What an opener has called, a command more.
use Rattle.std.proofs.Common.{◌≡◌, ◌<◌, ◌≤◌, subst, IfNone, ℕ, ◌+◌, true, false, true≢false, not, cond, List, [], ◌∷◌, ◌++◌, length, map, take, get_or, refl, ap, sym, ◌∙◌, append_assoc, append-nil, Result, Ok, Err, Option, Some, None, is_some}
use Rattle.std.specs.List.{enumerate_from}
use Rattle.std.proofs.lemmas.List.{map-append, take_all, take_more}
use Rattle.std.proofs.lemmas.List.Elements.{All-append, All-cons, All-nil, All-pop, filter-append}
use Rattle.std.proofs.lemmas.Option.{none-some, same_Some}
use Rattle.market_types.specs.declared.command.Cmd.{Cmd}
use Rattle.market_types.specs.declared.command.Cmd.TheVariants as cmd
use Rattle.market_types.specs.declared.reply.Entry.{Entry}
use Rattle.market_types.specs.declared.reply.Reply.{Reply}
use Rattle.market_types.specs.Commands.{moves_seat}
use Rattle.edit_history.specs.Chronicled.{entry}
use Rattle.edit_history.specs.declared.fault.CallFault.{CallFault}
use Rattle.market_lock.specs.Moves.{Called}
use Rattle.market_lock.specs.Seen.{OfPass, OfPlaced}
use Rattle.office_crew.specs.Callers.{may_ask, who_is}
use Rattle.office_crew.specs.declared.caller.Caller.{Caller}
use Rattle.office_crew.specs.declared.caller.Caller.TheVariants.{Free, Working}
use Rattle.worker_main.specs.Steps.{HasGoneOn}
use Rattle.worker_main.proofs.Calls.{called, goes_on}
use Rattle.drive_plan.specs.declared.plan.PlannedArena.{PlannedArena}
use Rattle.drive_plan.specs.Plans.{Planned}
use Rattle.market_drive.specs.Making.{asks, commands_of, founding, opens, requests}
use Rattle.market_drive.specs.Opening.{AreStill, HasGiven, fault_in, still}

still_more : (cmds : List Cmd) (k : ℕ) (c : Cmd) → k < length cmds → c ≡ get_or cmds k c → still (take (k + 1) cmds) ≡ still (take k cmds) ++ still (c ∷ [])
still_more cmds k c low is =
    ap still (take_more cmds k c low ∙ (λ i. take k cmds ++ sym is i ∷ [])) ∙ filter-append (λ (x : Cmd). not (moves_seat x)) (take k cmds) (c ∷ [])

-- it moves no seat
abbrev IsStill : Cmd → Type 0
IsStill c = moves_seat c ≡ false

still_map : {A : Type 0} (f : A → Cmd) (xs : List A) → ((x : A) → IsStill (f x)) → AreStill (map f xs)
still_map f [] none = All-nil IsStill
still_map f (x ∷ xs) none = All-cons IsStill (f x) (map f xs) (none x) (still_map f xs none)

-- no command of a plan moves a seat
pub still_commands : (p : Planned) → AreStill (commands_of p)
still_commands p =
    let controls = map cmd.Control p.controls in
    let arenas = map opens p.arenas in
    All-append IsStill (founding p) (requests p)
    (All-append IsStill controls arenas (still_map cmd.Control p.controls (λ x. refl)) (still_map opens p.arenas (λ x. refl)))
    (still_map (λ (e : ℕ × PlannedArena). asks e.0 e.1) (enumerate_from 1 p.arenas) (λ x. refl))

-- one command more
front_more : (cmds : List Cmd) (k : ℕ) (c : Cmd) → k < length cmds → c ≡ get_or cmds k c → take (k + 1) cmds ≡ take k cmds ++ c ∷ []
front_more cmds k c low is = take_more cmds k c low ∙ (λ i. take k cmds ++ sym is i ∷ [])

still_front : (cmds : List Cmd) (k : ℕ) (c : Cmd) → take (k + 1) cmds ≡ take k cmds ++ c ∷ [] → AreStill (take (k + 1) cmds) → AreStill (take k cmds) × IsStill c
still_front cmds k c is all = All-pop IsStill (take (k + 1) cmds) (take k cmds) (Some c) is all

abbrev cmds_of : List Entry → List Cmd
cmds_of added = map (λ (e : Entry). e.call.cmd) added

module _ (cmds : List Cmd) (k : ℕ) (c : Cmd) (p q r : OfPass) (low : k < length cmds) (is : c ≡ get_or cmds k c) (before : HasGiven (take k cmds) p q) where
  -- it was answered
  pub given_more : (reply : Reply) → r.mine ≡ q.mine ++ entry q.seat c reply ∷ [] → HasGiven (take (k + 1) cmds) p r
  given_more reply mine =
      let one = entry q.seat c reply in (
        before.0 ++ one ∷ [],
        mine ∙ (ap (λ l. l ++ one ∷ []) before.1 ∙ append_assoc p.mine before.0 (one ∷ [])),
        ap still (map-append (λ (e : Entry). e.call.cmd) before.0 (one ∷ []))
            ∙ (filter-append (λ (x : Cmd). not (moves_seat x)) (cmds_of before.0) (c ∷ []) ∙ (ap (λ l. l ++ still (c ∷ [])) before.2 ∙ sym (still_more cmds k c low is))),
        λ all.
            let front = front_more cmds k c low is in
            map-append (λ (e : Entry). e.call.cmd) before.0 (one ∷ []) ∙ (ap (λ l. l ++ c ∷ []) (before.3 (still_front cmds k c front all).0) ∙ sym front),
      )

  -- it was not asked, since it would move the seat
  pub given_still : r ≡ q → moves_seat c ≡ true → HasGiven (take (k + 1) cmds) p r
  given_still same moves = (
    before.0,
    ap (λ (x : OfPass). x.mine) same ∙ before.1,
    before.2 ∙ (sym (append-nil (still (take k cmds))) ∙ (ap (λ b. still (take k cmds) ++ cond (not b) (c ∷ []) []) (sym moves) ∙ sym (still_more cmds k c low is))),
    λ all. absurd (true≢false (sym moves ∙ (still_front cmds k c (front_more cmds k c low is) all).1)),
  )

-- what is not asked would move the seat
pub not_asked : (caller : Caller OfPass OfPlaced) (c : Cmd) → may_ask caller c ≡ false → moves_seat c ≡ true
not_asked (Free p) (cmd.Open a b c) e = absurd (true≢false e)
not_asked (Free p) (cmd.Close a) e = absurd (true≢false e)
not_asked (Free p) (cmd.Priority a b) e = absurd (true≢false e)
not_asked (Free p) (cmd.Resize a b c) e = absurd (true≢false e)
not_asked (Free p) (cmd.Request a b c) e = absurd (true≢false e)
not_asked (Free p) (cmd.Control a) e = absurd (true≢false e)
not_asked (Free p) (cmd.Uncontrol a) e = absurd (true≢false e)
not_asked (Free p) cmd.Join e = refl
not_asked (Free p) cmd.Stay e = refl
not_asked (Free p) cmd.Leave e = refl
not_asked (Free p) (cmd.Show a) e = absurd (true≢false e)
not_asked (Free p) cmd.Lists e = absurd (true≢false e)
not_asked (Free p) cmd.Limit e = absurd (true≢false e)
not_asked (Working p) (cmd.Open a b c) e = absurd (true≢false e)
not_asked (Working p) (cmd.Close a) e = absurd (true≢false e)
not_asked (Working p) (cmd.Priority a b) e = absurd (true≢false e)
not_asked (Working p) (cmd.Resize a b c) e = absurd (true≢false e)
not_asked (Working p) (cmd.Request a b c) e = absurd (true≢false e)
not_asked (Working p) (cmd.Control a) e = absurd (true≢false e)
not_asked (Working p) (cmd.Uncontrol a) e = absurd (true≢false e)
not_asked (Working p) cmd.Join e = refl
not_asked (Working p) cmd.Stay e = refl
not_asked (Working p) cmd.Leave e = refl
not_asked (Working p) (cmd.Show a) e = absurd (true≢false e)
not_asked (Working p) cmd.Lists e = absurd (true≢false e)
not_asked (Working p) cmd.Limit e = absurd (true≢false e)

-- a command that has no fault was answered, or not asked
pub given_on : (cmds : List Cmd) (k : ℕ) (c : Cmd) (p : OfPass) (caller next : Caller OfPass OfPlaced) (answer : Option (Result Reply CallFault)) → k < length cmds → c ≡ get_or cmds k c → HasGiven (take k cmds) p (who_is caller)
    → fault_in answer ≡ None → ((reply : Reply) → answer ≡ Some (Ok reply) → Called (who_is caller) c reply (who_is next)) → is_some answer ≡ may_ask caller c → (answer ≡ None → who_is next ≡ who_is caller) → HasGiven (take (k + 1) cmds) p (who_is next)
given_on cmds k c p caller next None low is before none answered asked unasked = given_still cmds k c p (who_is caller) (who_is next) low is before (unasked refl) (not_asked caller c (sym asked))
given_on cmds k c p caller next (Some (Ok reply)) low is before none answered asked unasked = given_more cmds k c p (who_is caller) (who_is next) low is before reply (answered reply refl).2.3
given_on cmds k c p caller next (Some (Err fault)) low is before none answered asked unasked = absurd (none-some fault (sym none))

-- it knows more of the history then
pub gone_on : (caller next : Caller OfPass OfPlaced) (c : Cmd) (answer : Option (Result Reply CallFault)) → fault_in answer ≡ None → ((reply : Reply) → answer ≡ Some (Ok reply) → Called (who_is caller) c reply (who_is next))
    → (answer ≡ None → who_is next ≡ who_is caller) → HasGoneOn (who_is caller) (who_is next)
gone_on caller next c None none answered unasked = subst (HasGoneOn (who_is caller)) (sym (unasked refl)) (goes_on (who_is caller))
gone_on caller next c (Some (Ok reply)) none answered unasked = called (who_is caller) (who_is next) c reply (answered reply refl)
gone_on caller next c (Some (Err fault)) none answered unasked = absurd (none-some fault (sym none))

-- a fault is one of a call
pub fault_was : (answer : Option (Result Reply CallFault)) (fault : CallFault) → fault_in answer ≡ Some fault → answer ≡ Some (Err fault)
fault_was None fault e = absurd (none-some fault e)
fault_was (Some (Ok reply)) fault e = absurd (none-some fault e)
fault_was (Some (Err other)) fault e = ap (λ f. Some (Err f)) (same_Some other fault e)

pub given_all : (cmds : List Cmd) (k : ℕ) (p q : OfPass) (o : Option CallFault) → length cmds ≤ k → HasGiven (take k cmds) p q → IfNone o (HasGiven cmds p q)
given_all cmds k p q None all given = subst (λ l. HasGiven l p q) (take_all k cmds all) given
given_all cmds k p q (Some fault) all given = tt

pub none_given : (p : OfPass) → HasGiven [] p p
none_given p = ([], sym (append-nil p.mine), refl, λ all. refl)
