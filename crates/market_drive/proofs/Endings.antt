-- How the callers of a plan's office ended, told in the order of their seats.
use Rattle.std.proofs.Common.{◌≡◌, ℕ, zero, suc, ◌+◌, ◌<◌, Bool, true, false, List, [], ◌∷◌, ◌++◌, length, map, reverse, Option, Some, None, Ok, is_none, IfNone, IfSome, Contains, refl, ap, sym, ◌∙◌, subst, arith, append_assoc, append-nil, inl, inr}
use Rattle.std.specs.List.{All, AllByRecursion}
use Rattle.std.specs.Option.{IsSomeAnd}
use Rattle.std.proofs.lemmas.Bool.{cases_Bool}
use Rattle.std.proofs.lemmas.List.{reverse-append, length-map}
use Rattle.std.proofs.lemmas.List.Elements.{recursion_from_All, All-head}
use Rattle.std.proofs.lemmas.Option.{none-some}
use Rattle.market_types.specs.declared.command.Cmd.{Cmd}
use Rattle.market_types.specs.declared.command.Cmd.TheVariants.{Join}
use Rattle.market_types.specs.declared.reply.Entry.{Entry}
use Rattle.market_types.specs.History.{of_seat}
use Rattle.market_types.specs.State.{usual_last}
use Rattle.edit_history.specs.declared.keeping.Keeping.TheVariants.{Everything}
use Rattle.market_types.specs.declared.reply.Reply.{Reply}
use Rattle.market_types.specs.declared.reply.Reply.TheVariants.{Idle}
use Rattle.edit_history.specs.Chronicled.{entry}
use Rattle.edit_history.specs.declared.fault.CallFault.{CallFault}
use Rattle.edit_history.specs.declared.fault.CallFault.TheVariants as call
use Rattle.edit_history.specs.declared.terms.Terms.{Terms}
use Rattle.market_lock.specs.Moves.{Called}
use Rattle.market_lock.specs.Seen.{OfPass}
use Rattle.market_lock.specs.declared.office.Closed.{Closed}
use Rattle.office_crew.specs.Works.{HaveWorked, HasFollowed}
use Rattle.drive_plan.specs.declared.plan.PlannedArena.{PlannedArena}
use Rattle.drive_plan.specs.Format.{plan_of}
use Rattle.drive_plan.specs.Plans.{Planned}
use Rattle.worker_main.specs.declared.station.Station.{Station}
use Rattle.worker_main.specs.declared.report.Ended.{Ended}
use Rattle.worker_main.specs.declared.report.Ended.TheVariants.{GateShut, NoStation, Call}
use Rattle.worker_main.specs.declared.report.Ended.TheVariants as ended
use Rattle.worker_main.specs.Books.{IfIdle, IfNoStation}
use Rattle.worker_main.proofs.Calls.{called, full_earlier, if_idle_then, placed_later}
use Rattle.market_drive.specs.Arenas.{AreNumbered}
use Rattle.market_drive.specs.Causes.{AreEnds, AreEndsFrom, AreTurnsIn, CanEndAt, CanEndIn, HasEndedAt, HasEndedSo, IsOpenedBy, terms_of_plan}
use Rattle.market_drive.specs.Driving.{HasCause, HasCauseIn, IsOfText, IsOfficeOf}
use Rattle.market_drive.specs.Ending.{IsDueTo, end_fault}
use Rattle.market_drive.specs.Jobs.{HaveRequestsOf}
use Rattle.market_drive.specs.Making.{commands_of}
use Rattle.market_drive.specs.Opening.{AreStill, HasGiven, HasTakenTurns}
use Rattle.market_drive.specs.Reports.{OfReports, end_for, ends_of}
use Rattle.market_drive.specs.declared.fault.DriveFault.{DriveFault}
use Rattle.market_drive.specs.declared.fault.DriveFault.TheVariants.{BadPlan, Unservable, Unfinished, Doubled, Missing, Memory}
use Rattle.market_drive.specs.declared.opener.Opener.{Opener}

-- ---- what is told, one by one

pub ends_more : (told more : List Ended) (left rest : List (Option Ended)) (w : Option Ended) (e : Ended) → more ≡ told ++ e ∷ [] → left ≡ rest ++ w ∷ [] → w ≡ Some e → more ++ ends_of (reverse rest) ≡ told ++ ends_of (reverse left)
ends_more told more left rest w e m l is =
    let others = ends_of (reverse rest) in
    let back : reverse left ≡ Some e ∷ reverse rest = ap reverse l ∙ (reverse-append rest (w ∷ []) ∙ ap (λ x. x ∷ reverse rest) is) in
    ap (λ x. x ++ others) m ∙ (append_assoc told (e ∷ []) others ∙ ap (λ x. told ++ ends_of x) (sym back))

pub ends_same : (told : List Ended) (left rest : List (Option Ended)) (w : Option Ended) → left ≡ rest ++ w ∷ [] → w ≡ None → told ++ ends_of (reverse rest) ≡ told ++ ends_of (reverse left)
ends_same told left rest w l is =
    let back : reverse left ≡ None ∷ reverse rest = ap reverse l ∙ (reverse-append rest (w ∷ []) ∙ ap (λ x. x ∷ reverse rest) is) in
    ap (λ x. told ++ ends_of x) (sym back)

-- the ends that openers' faults are
abbrev pub faults_of : List Opener → List Ended
faults_of os = ends_of (map (λ (o : Opener). end_for o.fault) os)

pub faults_more : (told more : List Ended) (left rest : List Opener) (o : Opener) (fault : CallFault) → more ≡ told ++ Call fault ∷ [] → left ≡ rest ++ o ∷ [] → o.fault ≡ Some fault → more ++ faults_of (reverse rest) ≡ told ++ faults_of (reverse left)
faults_more told more left rest o fault m l is =
    let others = faults_of (reverse rest) in
    let back : reverse left ≡ o ∷ reverse rest = ap reverse l ∙ reverse-append rest (o ∷ []) in
    let first : faults_of (reverse left) ≡ Call fault ∷ others = ap faults_of back ∙ ap (λ f. ends_of (end_for f ∷ map (λ (x : Opener). end_for x.fault) (reverse rest))) is in
    ap (λ x. x ++ others) m ∙ (append_assoc told (Call fault ∷ []) others ∙ ap (λ x. told ++ x) (sym first))

pub faults_same : (told : List Ended) (left rest : List Opener) (o : Opener) → left ≡ rest ++ o ∷ [] → o.fault ≡ None → told ++ faults_of (reverse rest) ≡ told ++ faults_of (reverse left)
faults_same told left rest o l is =
    let back : reverse left ≡ o ∷ reverse rest = ap reverse l ∙ reverse-append rest (o ∷ []) in
    let first : faults_of (reverse left) ≡ faults_of (reverse rest) = ap faults_of back ∙ ap (λ f. ends_of (end_for f ∷ map (λ (x : Opener). end_for x.fault) (reverse rest))) is in
    ap (λ x. told ++ x) (sym first)

-- ---- an end after a call more

pub ended_later : (p q r : OfPass) (cmd : Cmd) (reply : Reply) (e : Ended) → Called p cmd reply q → HasEndedSo q r e → HasEndedSo p r e
ended_later p q r cmd reply e on h =
    let one = entry p.seat cmd reply in (
      if_idle_then e
          (λ idle. let last = entry p.seat Join Idle ∷ [] in (
            one ∷ idle.0,
            (let e : r.mine ≡ q.mine ++ (idle.0 ++ last) = idle.1 ∙ ap (λ s. q.mine ++ (idle.0 ++ entry s Join Idle ∷ [])) on.0.2 in
                e ∙ (ap (λ l. l ++ (idle.0 ++ last)) on.2.3 ∙ append_assoc p.mine (one ∷ []) (idle.0 ++ last))),
          ))
          h.0,
      full_earlier p q r (Some e) (called p q cmd reply on) h.1,
      placed_later p q r (one ∷ []) e on.0.2 on.2.3 h.2,
    )

pub some_later : (CanEnd : Ended → Type 0) (o : Option Ended) (p q r : OfPass) (cmd : Cmd) (reply : Reply) → Called p cmd reply q → IsSomeAnd o (λ e. CanEnd e × HasEndedSo q r e) → IsSomeAnd o (λ e. CanEnd e × HasEndedSo p r e)
some_later CanEnd None p q r cmd reply on h = h
some_later CanEnd (Some e) p q r cmd reply on h = (h.0, ended_later p q r cmd reply e on h.1)

-- ---- what the ends of a meeting come to

abbrev pub WorkerWorks : (Ended → Type 0) → (ℕ → List Entry → Type 0) → Option Ended → OfPass → Option Ended → OfPass → Type 0
WorkerWorks CanEnd Turns before p after q =
    before ≡ None → IsSomeAnd after (λ e. CanEnd e × HasEndedSo p q e) × (p.seen ≡ [] → IsSomeAnd after (HasTakenTurns Turns p q))

-- the turns of a worker that came with a new pass are all that the history has of its seat
turned_at : (Turns : ℕ → List Entry → Type 0) (history : List Entry) (seat : ℕ) (p q : OfPass) (e : Ended) → p.seat ≡ seat → p.mine ≡ [] → q.seat ≡ p.seat → of_seat q.seat history ≡ q.mine → HasTakenTurns Turns p q e → IfIdle e (Turns seat (of_seat seat history))
turned_at Turns history seat p q e at new same met h =
    if_idle_then e
    (λ t.
    let all : of_seat seat history ≡ t.0 = ap (λ n. of_seat n history) (sym (same ∙ at)) ∙ (met ∙ (t.1 ∙ ap (λ l. l ++ t.0) new)) in
    subst (Turns seat) (sym all) (subst (λ n. Turns n t.0) at t.2))
    h

abbrev pub OpenerWorks : Opener → OfPass → Opener → OfPass → Type 0
OpenerWorks before p after q = IfNone after.fault (HasGiven before.cmds.now p q) × (before.fault ≡ None → IfSome after.fault (λ fault. HasEndedSo p q (Call fault)))

abbrev pub OpenerLets : Opener → Bool → Type 0
OpenerLets o b = b ≡ is_none o.fault

module _ (CanEnd : Ended → Type 0) (Turns : ℕ → List Entry → Type 0) (terms : Terms) (history : List Entry) where
  all_ended : (seat : ℕ) (xs ys : List (Option Ended)) → AllByRecursion (λ (w : Option Ended). w ≡ None) xs → HaveWorked (WorkerWorks CanEnd Turns) terms history seat xs ys → AreEndsFrom CanEnd Turns terms history seat (ends_of ys) × (length (ends_of ys) ≡ length ys)
  all_ended seat [] [] a h = (tt, refl)
  all_ended seat [] (y ∷ ys) a h = absurd h
  all_ended seat (x ∷ xs) [] a h = absurd h
  all_ended seat (x ∷ xs) (None ∷ ys) a h = absurd (h.0.3 a.0).0
  all_ended seat (x ∷ xs) (Some e ∷ ys) a h =
      let w = (h.0.3 a.0).0 in
      let new = h.0.2 in
      let turned = turned_at Turns history seat h.0.0 h.0.1 e new.1 new.3 h.0.4.2 h.0.5.1 ((h.0.3 a.0).1 new.2) in
      let rest = all_ended (seat + 1) xs ys a.1 h.1 in
      (((w.0, (h.0.0, h.0.1, new, h.0.4, h.0.5, w.1, turned)), rest.0), ap suc rest.1)

  none_ended : (xs : List (Option Ended)) → AllByRecursion (λ (w : Option Ended). w ≡ None) xs → ends_of xs ≡ []
  none_ended [] a = refl
  none_ended (None ∷ xs) a = none_ended xs a.1
  none_ended (Some e ∷ xs) a = absurd (none-some e (sym a.0))

  -- one opener that lets others work told no fault; one that doesn't told one
  tells_none : (o : Opener) (f : Option CallFault) → o.fault ≡ f → true ≡ is_none f → faults_of (o ∷ []) ≡ []
  tells_none o None is lets = ap (λ x. ends_of (end_for x ∷ [])) is
  tells_none o (Some fault) is lets = cc

  tells_one : (x o : Opener) (f : Option CallFault) → x.fault ≡ None → o.fault ≡ f → false ≡ is_none f → HaveWorked OpenerWorks terms history 0 (x ∷ []) (o ∷ []) → (fault : CallFault) × (faults_of (o ∷ []) ≡ Call fault ∷ []) × HasEndedAt Turns terms history 0 (Call fault)
  tells_one x o None new is lets h = cc
  tells_one x o (Some fault) new is lets h =
      let w = subst (λ y. IfSome y (λ z. HasEndedSo h.0.0 h.0.1 (Call z))) is (h.0.3.1 new) in
      (fault, ap (λ y. ends_of (end_for y ∷ [])) is, (h.0.0, h.0.1, h.0.2, h.0.4, h.0.5, w, tt))

  none_failed : (os : List Opener) → length os ≡ 1 → All (λ (o : Opener). OpenerLets o true) os → faults_of (reverse os) ≡ []
  none_failed [] one all = absurd (omega arith)
  none_failed (o ∷ []) one all = tells_none o o.fault refl (All-head (λ (x : Opener). OpenerLets x true) o [] all)
  none_failed (o ∷ x ∷ os) one all = absurd (omega arith)

  one_failed : (xs os : List Opener) (o : Opener) → All (λ (x : Opener). x.fault ≡ None) xs → length os ≡ 1 → HaveWorked OpenerWorks terms history 0 xs os → Contains os o → OpenerLets o false → (fault : CallFault) × (faults_of (reverse os) ≡ Call fault ∷ []) × HasEndedAt Turns terms history 0 (Call fault)
  one_failed xs [] o new one h at lets = absurd (omega arith)
  one_failed [] (z ∷ []) o new one h at lets = absurd h
  one_failed (x ∷ []) (z ∷ []) o new one h (zero, lt, is) lets = tells_one x z z.fault (All-head (λ (y : Opener). y.fault ≡ None) x [] new) refl (lets ∙ ap (λ (y : Opener). is_none y.fault) (sym is)) h
  one_failed (x ∷ []) (z ∷ []) o new one h (suc k, lt, is) lets = absurd (omega arith)
  one_failed (x ∷ y ∷ xs) (z ∷ []) o new one h at lets = absurd h.1
  one_failed xs (z ∷ w ∷ os) o new one h at lets = absurd (omega arith)

  -- one opener that told no fault gave all its commands, and no other, where none of them moves a seat
  gave_all : (cmds : List Cmd) (x o : Opener) (f : Option CallFault) → AreStill cmds → x.cmds.now ≡ cmds → o.fault ≡ f → true ≡ is_none f → HaveWorked OpenerWorks terms history 0 (x ∷ []) (o ∷ []) → IsOpenedBy cmds history
  gave_all cmds x o (Some fault) quiet own is lets h = cc
  gave_all cmds x o None quiet own is lets h =
      let p = h.0.0 in
      let q = h.0.1 in
      let given = subst (λ y. IfNone y (HasGiven x.cmds.now p q)) is h.0.3.0 in
      let mine : q.mine ≡ given.0 = given.1 ∙ ap (λ l. l ++ given.0) h.0.2.3 in
      let all : of_seat 0 history ≡ given.0 = ap (λ n. of_seat n history) (sym (h.0.4.2 ∙ h.0.2.1)) ∙ (h.0.5.1 ∙ mine) in
      ap (λ (l : List Entry). map (λ (e : Entry). e.call.cmd) l) all ∙ (given.3 (subst AreStill (sym own) quiet) ∙ own)

  are_opened : (cmds : List Cmd) (xs os : List Opener) → AreStill cmds → All (λ (x : Opener). x.cmds.now ≡ cmds) xs → length os ≡ 1 → All (λ (o : Opener). OpenerLets o true) os → HaveWorked OpenerWorks terms history 0 xs os → IsOpenedBy cmds history
  are_opened cmds xs [] quiet own one lets h = absurd (omega arith)
  are_opened cmds [] (o ∷ []) quiet own one lets h = absurd h
  are_opened cmds (x ∷ []) (o ∷ []) quiet own one lets h = gave_all cmds x o o.fault quiet (All-head (λ (y : Opener). y.cmds.now ≡ cmds) x [] own) refl (All-head (λ (y : Opener). OpenerLets y true) o [] lets) h
  are_opened cmds (x ∷ y ∷ xs) (o ∷ []) quiet own one lets h = absurd h.1
  are_opened cmds xs (o ∷ z ∷ os) quiet own one lets h = absurd (omega arith)

  pub meeting_ends : (n : ℕ) (cmds : List Cmd) (xs os : List Opener) (workers ws : List (Option Ended)) (told : List Ended) → AreStill cmds → length os ≡ 1 → length ws ≡ n → All (λ (x : Opener). x.cmds.now ≡ cmds) xs → All (λ (x : Opener). x.fault ≡ None) xs → All (λ (w : Option Ended). w ≡ None) workers
      → HaveWorked OpenerWorks terms history 0 xs os → HasFollowed OpenerLets os (HaveWorked (WorkerWorks CanEnd Turns) terms history 1 workers ws) (ws ≡ workers)
      → told ≡ faults_of (reverse os) ++ ends_of ws → AreEnds CanEnd Turns terms cmds history n told
  meeting_ends n cmds xs os workers ws told quiet one many own new fresh opened (inl h) is =
      let all = all_ended 1 workers ws (recursion_from_All (λ (w : Option Ended). w ≡ None) workers fresh) h.1 in
      let e : told ≡ ends_of ws = is ∙ ap (λ l. l ++ ends_of ws) (none_failed os one h.0) in
      inl (subst (AreEndsFrom CanEnd Turns terms history 1) (sym e) all.0, ap length e ∙ (all.1 ∙ many), are_opened cmds xs os quiet own one h.0 opened)
  meeting_ends n cmds xs os workers ws told quiet one many own new fresh opened (inr h) is =
      let f = one_failed xs os h.0.0 new one opened h.0.1 h.0.2 in
      let nobody : ends_of ws ≡ [] = ap ends_of h.1 ∙ none_ended workers (recursion_from_All (λ (w : Option Ended). w ≡ None) workers fresh) in
      inr (f.0, is ∙ (ap (λ l. faults_of (reverse os) ++ l) nobody ∙ (append-nil (faults_of (reverse os)) ∙ f.1)), f.2)

-- the terms of an office with a plan's numbers
abbrev pub terms_with : ℕ → ℕ → ℕ → ℕ → Terms
terms_with base hard levels workers = record { opening = record { base = base; hard = hard; seats = 1 + workers; levels = levels; last = usual_last }; places = 1048576; keeping = Everything }

pub terms_are : (p : Planned) (base hard levels workers : ℕ) → base ≡ p.base → hard ≡ p.hard → levels ≡ p.levels → terms_with base hard levels workers ≡ terms_of_plan p workers
terms_are p base hard levels workers b h l = λ i. terms_with (b i) (h i) (l i) workers

-- ---- what a drive's fault comes of

abbrev IsMemory : DriveFault → Type 0
IsMemory Memory = Unit {0}
IsMemory fault = ⊥

pub not_torn : (b : Bool) → (b ≡ true → ⊥) → b ≡ false
not_torn true h = absurd (h refl)
not_torn false h = refl

-- one who ended for a fault of a call is none who ended because no work was left
no_fault : (fault : CallFault) → end_fault (Call fault ∷ []) ≡ None → ⊥
no_fault call.Memory e = none-some Memory (sym e)
no_fault call.HistoryFull e = none-some Unfinished (sym e)

-- where all ended because no work was left the market was opened
pub idle_opened : (CanEnd : Ended → Type 0) (Turns : ℕ → List Entry → Type 0) (terms : Terms) (cmds : List Cmd) (history : List Entry) (workers : ℕ) (es : List Ended) → end_fault es ≡ None → AreEnds CanEnd Turns terms cmds history workers es → IsOpenedBy cmds history
idle_opened CanEnd Turns terms cmds history workers es idle (inl h) = h.2
idle_opened CanEnd Turns terms cmds history workers es idle (inr h) = absurd (no_fault h.0 (ap end_fault (sym h.1) ∙ idle))

pub drive_cause : (refused : ℕ → ℕ → Type 0) (p : Planned) (workers : ℕ) (closed : Closed) (r : OfReports) (fault : DriveFault) → IsOfficeOf p workers closed → (r.torn ≡ true → fault ≡ Memory) → (r.torn ≡ false → IsDueTo p.jobs r.done r.ended fault)
    → (r.torn ≡ false → AreEnds (CanEndIn p refused) (AreTurnsIn p) (terms_of_plan p workers) (commands_of p) closed.chronicle.log workers r.ended) → HasCause refused p workers fault
drive_cause refused p workers closed r (BadPlan line) office torn due ends = tt
drive_cause refused p workers closed r (Unservable a) office torn due ends = tt
drive_cause refused p workers closed r (Doubled number) office torn due ends = tt
drive_cause refused p workers closed r Memory office torn due ends = tt
drive_cause refused p workers closed r Unfinished office torn due ends = elim (cases_Bool r.torn) [
  | inl t ↦ absurd (subst IsMemory (sym (torn t)) tt)
  | inr f ↦ record { closed = closed; office = office; ended = r.ended; ends = ends f; due_is = due f }
]
drive_cause refused p workers closed r (Missing number) office torn due ends = elim (cases_Bool r.torn) [
  | inl t ↦ absurd (subst IsMemory (sym (torn t)) tt)
  | inr f ↦ record { closed = closed; office = office; ended = r.ended; ends = ends f; due_is = (due f).0 }
]

-- the same of the plan's text
pub cause_in : (refused : ℕ → ℕ → Type 0) (text : List ℕ) (p : Planned) (workers : ℕ) (fault : DriveFault) → plan_of text ≡ Ok p → HasCause refused p workers fault → HasCauseIn refused text workers fault
cause_in refused text p workers (BadPlan line) is h = tt
cause_in refused text p workers (Unservable a) is h = tt
cause_in refused text p workers Unfinished is h = (p, is, h)
cause_in refused text p workers (Doubled number) is h = tt
cause_in refused text p workers (Missing number) is h = (p, is, h)
cause_in refused text p workers Memory is h = tt

pub cause_early : (refused : ℕ → ℕ → Type 0) (text : List ℕ) (workers : ℕ) (fault : DriveFault) → IsOfText fault → HasCauseIn refused text workers fault
cause_early refused text workers (BadPlan line) h = tt
cause_early refused text workers (Unservable a) h = absurd h
cause_early refused text workers Unfinished h = absurd h
cause_early refused text workers (Doubled number) h = absurd h
cause_early refused text workers (Missing number) h = absurd h
cause_early refused text workers Memory h = tt

if_no_station_then : {P Q : ℕ → Type 0} (e : Ended) → ((arena : ℕ) → P arena → Q arena) → IfNoStation e P → IfNoStation e Q
if_no_station_then (NoStation arena) f p = f arena p
if_no_station_then ended.Idle f p = tt
if_no_station_then ended.Memory f p = tt
if_no_station_then (GateShut job) f p = tt
if_no_station_then (Call fault) f p = tt

some_station : (ss : List Station) (k : ℕ) → k < length ss → Station
some_station [] k lt = absurd (omega arith)
some_station (s ∷ ss) k lt = s

-- an arena without a station is none of the plan's
pub no_arena : (p : Planned) (refused : ℕ → ℕ → Type 0) (ss : List Station) (e : Ended) → AreNumbered ss → HaveRequestsOf p.arenas ss → CanEndAt ss refused e → CanEndIn p refused e
no_arena p refused ss e numbered requests can =
    let many : length ss ≡ length p.arenas =
    sym (length-map ss (λ (s : Station). (s.wanted, s.mandatory))) ∙ (ap length requests ∙ length-map p.arenas (λ (a : PlannedArena). (a.wanted, a.mandatory))) in (
      can.0,
      if_no_station_then e
          (λ arena without k lt same.
          let low : k < length ss = omega arith in
          let s = some_station ss k low in
          without k s low (numbered k s low ∙ sym same))
          can.1,
    )
