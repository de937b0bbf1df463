-- What one call leaves: the desk was found after the history `log`, of which so many entries were not kept, and `e` is given back.
use Rattle.std.proofs.Common.{◌≡◌, ◌≢◌, ℕ, ◌+◌, ◌<◌, ◌≤◌, List, [], ◌∷◌, ◌++◌, length, drop, get_or, refl, ap, sym, ◌∙◌, subst, arith, length-append, Result, Ok, Err, Option, Some, None, true, false, is_ok}
use Rattle.std.specs.List.{sum_by}
use Rattle.std.proofs.lemmas.List.{length-replicate}
use Rattle.std.proofs.lemmas.List.Sums.{sum_by_push}
use Rattle.std.proofs.Math.Seq.{drop-append_seam}
use Rattle.std.specs.Prelude.{IfOk, IfErr, OnErr, IsErrOf, IsOk, IfSome, OnSome, IsSome}
use mathlib.Core.List.{IsPrefix}
use Rattle.atomic_table.specs.Table.{Me}
use Rattle.atomic_table.specs.Seated.{TableId}
use Rattle.market_types.specs.declared.command.Cmd.{Cmd}
use Rattle.market_types.specs.declared.reply.Entry.{Entry}
use Rattle.market_types.specs.declared.reply.Reply.{Reply}
use Rattle.market_types.specs.State.{State}
use Rattle.market_types.specs.Commands.{moves_seat}
use Rattle.market_types.specs.History.{IsLegal, calls_of, of_seat, place_after, place_in, state_after}
use Rattle.market_core.specs.Moves.{Answers}
use Rattle.edit_history.specs.Chronicled.{Chronicled, entry, most_forgotten}
use Rattle.edit_history.specs.Parts.{EndsWith}
use Rattle.edit_history.specs.Places.{takes, LacksPlaces}
use Rattle.edit_history.specs.declared.part.Part.{Part}
use Rattle.edit_history.specs.declared.fault.CallFault.{CallFault}
use Rattle.edit_history.specs.declared.fault.CallFault.TheVariants.{HistoryFull}
use Rattle.edit_history.specs.declared.keeping.Keeping.{Keeping}
use Rattle.edit_history.specs.declared.keeping.Keeping.TheVariants.{Everything, InParts, Nothing}
use Rattle.market_lock.specs.Workers.{own_place}
use Rattle.market_lock.specs.Forgetting.{forgotten}
use Rattle.market_lock.specs.declared.view.Cut.{Cut}
use Rattle.market_lock.specs.declared.view.Known.{Known}
use Rattle.market_lock.specs.declared.view.View.{View}
use Rattle.market_lock.specs.declared.view.View.TheVariants.{Outside, Holder}
use Rattle.market_lock.specs.Cutting.{cut_by, IsCutUp}
use Rattle.market_lock.specs.Views.{opening_of, chronicle_from, chronicle_cut, seats_placed_after, shown, cut, same_cuts, next_cuts}
use Rattle.market_lock.specs.Rule.{Follows}
use Rattle.market_lock.specs.Serving.{Done, Serves, MayServe, Cuts}
use Rattle.market_lock.specs.Held.{HasTaken, HasDesk, HoldsDesk, HasGiven, HasPart, IsSeenCut}
use Rattle.market_lock.specs.Seen.{known_of, pass_of, Extends, Looks, OthersCut, HasCut, IsTicket}
use Rattle.market_lock.specs.Moves.{Fails}
use Rattle.market_lock.proofs.Entries.{more-own, of-own, of-other, own_place-longer, unmoved}
use Rattle.market_lock.proofs.Fronts.{prefix_self}
use Rattle.market_lock.proofs.Tiles.{by_own, by_other, still_cut, all_cut}

-- what is not kept is not kept later either
forgotten-later : (q : Keeping) (m n from : ℕ) → m ≤ n → from ≡ forgotten q m from → from ≤ forgotten q n from
forgotten-later Everything m n from h e = omega (arith, e)
forgotten-later InParts m n from h e = omega arith
forgotten-later Nothing m n from h e = omega (arith, e, h)

-- what was found cut out of the history `log`
pub record Found (k : Known) (log : List Entry) (from : ℕ) (cuts : List Cut) : Type 0 where
  pub front : IsPrefix k.cuts cuts
  pub own : cut_by k.seat cuts ≡ cut_by k.seat k.cuts
  pub up : IsCutUp k.terms.keeping log from cuts

pub record Served (k : Known) (number : ℕ) (cmd : Cmd) (r : Result Reply CallFault) (log : List Entry) (from : ℕ) (cuts : List Cut) (e : Chronicled) (n m : ℕ) : Type 0 where
  pub ticket : IsTicket k number n
  pub front : IsPrefix k.seen log
  pub own : of_seat k.seat log ≡ k.mine
  pub later : k.from ≤ from
  pub found : Found k log from cuts
  pub did : Serves k.seat cmd r (chronicle_from k.terms log from) e n m

module _ (k : Known) (number : ℕ) (cmd : Cmd) (log : List Entry) (from : ℕ) (cuts : List Cut) (e : Chronicled) (a b : ℕ) where
  -- what is given back is the chronicle after its history
  back : (r : Result Reply CallFault) → Served k number cmd r log from cuts e a b → e ≡ chronicle_from k.terms e.log e.from
  back r s = λ i. record { start = s.did.start i; market = (s.did.held ∙ ap (λ (o : State). state_after o (calls_of e.log)) s.did.start) i; log = e.log; places = s.did.places i; from = e.from; keeping = s.did.keeping i }

  same_log : (f : CallFault) → Served k number cmd (Err f) log from cuts e a b → e.log ≡ log
  same_log f s = ap (λ (c : Chronicled). c.log) s.did.done.0

  goes_on : (r : Result Reply CallFault) → Served k number cmd r log from cuts e a b → IsPrefix log e.log
  goes_on (Ok x) s = (entry k.seat cmd x ∷ [], sym s.did.done.1)
  goes_on (Err f) s = subst (λ (l : List Entry). IsPrefix log l) (sym (same_log f s)) (prefix_self log)

  strangers : (r : Result Reply CallFault) → Served k number cmd r log from cuts e a b → (n : ℕ) → n ≢ k.seat → of_seat n e.log ≡ of_seat n log
  strangers (Ok x) s = λ n ne. ap (of_seat n) s.did.done.1 ∙ of-other k.seat n cmd x log (λ h. ne (sym h))
  strangers (Err f) s = λ n ne. ap (of_seat n) (same_log f s)

  -- no entry is kept again
  kept_less : (r : Result Reply CallFault) → Served k number cmd r log from cuts e a b → from ≤ e.from
  kept_less r s =
      let go = goes_on r s in
      let longer : length log ≤ length e.log = omega (arith, ap length go.1, length-append log go.0) in
      let was : from ≡ forgotten e.keeping (length log) from = s.did.found_from ∙ ap (λ (q : Keeping). forgotten q (length log) from) (sym s.did.keeping) in
      let more = forgotten-later e.keeping (length log) (length e.log) from longer was in
      omega (arith, more, s.did.from)

  -- nothing more is cut out
  cut_up_after : (r : Result Reply CallFault) → Served k number cmd r log from cuts e a b → IsCutUp k.terms.keeping e.log e.from cuts
  cut_up_after r s = still_cut k.terms.keeping log e.log from e.from cuts s.found.up (goes_on r s) (s.did.from ∙ ap (λ (q : Keeping). forgotten q (length e.log) from) s.did.keeping)

  pub others_cut : (t u : TableId) (r : Result Reply CallFault) → Served k number cmd r log from cuts e a b → OthersCut (pass_of t k) (pass_of u (shown k e.log e.from cuts))
  others_cut t u r s = (s.found.front, s.found.own, cut_up_after r s)

  pub follows : (r : Result Reply CallFault) → Served k number cmd r log from cuts e a b → Follows (shown k log from cuts) e.log e.from cuts
  follows r s =
      record {
        front = goes_on r s;
        others = strangers r s;
        later = kept_less r s;
        cut_front = prefix_self cuts;
        cut_others = λ n ne. refl;
        cut_weight = λ weigh. refl;
        cut_up = cut_up_after r s;
      }

  pub later : (r : Result Reply CallFault) → Served k number cmd r log from cuts e a b → k.from ≤ e.from
  later r s = omega (arith, s.later, kept_less r s)

  own_after : (x : Reply) → Served k number cmd (Ok x) log from cuts e a b → of_seat k.seat e.log ≡ k.mine ++ entry k.seat cmd x ∷ []
  own_after x s = ap (of_seat k.seat) s.did.done.1 ∙ (of-own k.seat cmd x log ∙ ap (λ l. l ++ entry k.seat cmd x ∷ []) s.own)

  own_same : (f : CallFault) → Served k number cmd (Err f) log from cuts e a b → of_seat k.seat e.log ≡ k.mine
  own_same f s = ap (of_seat k.seat) (same_log f s) ∙ s.own

  -- the seat is where its own entries left it
  here : (r : Result Reply CallFault) → Served k number cmd r log from cuts e a b → place_in k.seat log ≡ own_place k.mine
  here r s = ap own_place s.own

  legal_after : (r : Result Reply CallFault) → Served k number cmd r log from cuts e a b → IsLegal (opening_of k.terms) e.log
  legal_after r s = subst (λ (o : State). IsLegal o e.log) s.did.start s.did.legal

  pub extends : (t u : TableId) (r : Result Reply CallFault) → Served k number cmd r log from cuts e a b → IfOk r (λ x. Extends (pass_of t k) cmd x (pass_of u (shown k e.log e.from cuts)))
  extends t u (Ok x) s =
      let mine = own_after x s in
      (s.front.0, s.did.done.1 ∙ ap (λ l. l ++ entry k.seat cmd x ∷ []) (sym s.front.1), mine, mine)
  extends t u (Err f) s = tt

  -- the desk is given back as it was found
  as_found : (f : CallFault) → Served k number cmd (Err f) log from cuts e a b → chronicle_cut k.terms e.log e.from ≡ chronicle_from k.terms log from
  as_found f s = ap (λ (c : Chronicled). chronicle_cut k.terms c.log c.from) s.did.done.0 ∙ ap (chronicle_from k.terms log) (sym s.did.found_from)

  pub fails : (t u : TableId) → u ≡ t → (r : Result Reply CallFault) → Served k number cmd r log from cuts e a b → IfErr r (λ f. Fails (pass_of t k) cmd f (pass_of u (shown k e.log e.from cuts)))
  fails t u same (Ok x) s = tt
  fails t u same (Err f) s = (
    (same, refl, refl),
    legal_after (Err f) s,
    (subst (λ (l : List Entry). IsPrefix k.seen l) (sym (same_log f s)) s.front, own_same f s, refl),
    (λ is. subst (λ (c : Chronicled). LacksPlaces c k.seat cmd) (sym (as_found f s)) (s.did.done.2 is)),
    (λ lacks. s.did.done.3 (subst (λ (c : Chronicled). LacksPlaces c k.seat cmd) (as_found f s) lacks)),
    later (Err f) s,
    others_cut t u (Err f) s,
  )

  pub answers : (r : Result Reply CallFault) → Served k number cmd r log from cuts e a b → IfOk r (λ x. Answers (own_place k.mine) cmd x)
  answers (Ok x) s = subst (λ (p : Option ℕ). Answers p cmd x) (here (Ok x) s) s.did.done.0
  answers (Err f) s = tt

  pub never : (r : Result Reply CallFault) → Served k number cmd r log from cuts e a b → takes (own_place k.mine) cmd ≡ 0 → IsOk r
  never (Ok x) s free = refl
  never (Err f) s free = absurd (s.did.done.4 (ap (λ p. takes p cmd) (here (Err f) s) ∙ free))

  pub moved : (r : Result Reply CallFault) → Served k number cmd r log from cuts e a b → IfOk r (λ x. own_place (of_seat k.seat e.log) ≡ place_after (own_place k.mine) x)
  moved (Ok x) s = ap own_place (own_after x s) ∙ own_place-longer k.mine (entry k.seat cmd x)
  moved (Err f) s = tt

  pub still : (r : Result Reply CallFault) → Served k number cmd r log from cuts e a b → moves_seat cmd ≡ false → own_place (of_seat k.seat e.log) ≡ own_place k.mine
  still (Ok x) s quiet = moved (Ok x) s ∙ unmoved cmd (own_place k.mine) x quiet (answers (Ok x) s)
  still (Err f) s quiet = ap own_place (own_same f s)

  counted : (r : Result Reply CallFault) → Served k number cmd r log from cuts e a b → b ≡ length (of_seat k.seat e.log)
  counted (Ok x) s =
      let long = ap length (own_after x s) in
      let more = length-append k.mine (entry k.seat cmd x ∷ []) in
      let gain = s.did.done.2 in
      let old = s.ticket.counted in
      omega arith
  counted (Err f) s = s.did.done.1 ∙ (s.ticket.counted ∙ ap length (sym (own_same f s)))

  -- what the ticket then keeps
  pub keeps_ticket : (r : Result Reply CallFault) → Served k number cmd r log from cuts e a b → IsTicket (shown k e.log e.from cuts) number b
  keeps_ticket r s =
      record {
        number_is = s.ticket.number_is;
        small = s.ticket.small;
        legal = legal_after r s;
        own = refl;
        cut_up = cut_up_after r s;
        counted = counted r s;
      }

-- ---- a cut: the desk was found after the history `log`, of which so many entries were not kept, and `e` is given back

pub record CutOff (k : Known) (number room : ℕ) (r : Option Part) (log : List Entry) (from : ℕ) (cuts : List Cut) (e : Chronicled) (s : ℕ) : Type 0 where
  pub ticket : IsTicket k number s
  pub front : IsPrefix k.seen log
  pub own : of_seat k.seat log ≡ k.mine
  pub later : k.from ≤ from
  pub found : Found k log from cuts
  pub did : Cuts room r (chronicle_from k.terms log from) e

module _ (k : Known) (number room : ℕ) (log : List Entry) (from : ℕ) (cuts : List Cut) (e : Chronicled) (s : ℕ) where
  -- where the entries are kept from then on
  abbrev cut_end : Option Part → ℕ
  cut_end (Some part) = length log
  cut_end None = from

  cut_is : (r : Option Part) → CutOff k number room r log from cuts e s → e ≡ chronicle_from k.terms log (cut_end r)
  cut_is (Some part) o = o.did.out.2
  cut_is None o = o.did.out.0

  pub cut_log : (r : Option Part) → CutOff k number room r log from cuts e s → e.log ≡ log
  cut_log r o = ap (λ (c : Chronicled). c.log) (cut_is r o)

  cut_back : (r : Option Part) → CutOff k number room r log from cuts e s → e ≡ chronicle_from k.terms e.log e.from
  cut_back r o = subst (λ (c : Chronicled). c ≡ chronicle_from k.terms c.log c.from) (sym (cut_is r o)) refl

  cut_later : (r : Option Part) → CutOff k number room r log from cuts e s → from ≤ e.from
  cut_later (Some part) o = omega (arith, ap (λ (c : Chronicled). c.from) o.did.out.2, o.did.found)
  cut_later None o = omega (arith, ap (λ (c : Chronicled). c.from) o.did.out.0)

  -- what was cut out then
  abbrev cuts_after : Option Part → List Cut
  cuts_after r = next_cuts r (shown k log from cuts) log

  cuts_up : (r : Option Part) → CutOff k number room r log from cuts e s → IsCutUp k.terms.keeping log (cut_end r) (cuts_after r)
  cuts_up (Some part) o =
      let in_parts : k.terms.keeping ≡ InParts = o.did.out.3 in
      subst (λ (q : Keeping). IsCutUp q log (length log) (cuts_after (Some part))) (sym in_parts) (all_cut log from k.seat cuts (subst (λ (q : Keeping). IsCutUp q log from cuts) in_parts o.found.up))
  cuts_up None o = o.found.up

  cut_up_now : (r : Option Part) → CutOff k number room r log from cuts e s → IsCutUp k.terms.keeping e.log e.from (cuts_after r)
  cut_up_now r o = subst (λ (c : Chronicled). IsCutUp k.terms.keeping c.log c.from (cuts_after r)) (sym (cut_is r o)) (cuts_up r o)

  cuts_front : (r : Option Part) → IsPrefix cuts (cuts_after r)
  cuts_front (Some part) = (cut k.seat from (drop from log) ∷ [], refl)
  cuts_front None = prefix_self cuts

  cuts_others : (r : Option Part) (n : ℕ) → n ≢ k.seat → cut_by n (cuts_after r) ≡ cut_by n cuts
  cuts_others (Some part) n ne = by_other k.seat n from (drop from log) cuts (λ e. ne (sym e))
  cuts_others None n ne = refl

  cuts_weight : (weigh : Cut → ℕ) (r : Option Part) → sum_by weigh (cuts_after r) + sum_by weigh (cut_by k.seat cuts) ≡ sum_by weigh cuts + sum_by weigh (cut_by k.seat (cuts_after r))
  cuts_weight weigh (Some part) =
      let c : Cut = cut k.seat from (drop from log) in
      omega (arith, sum_by_push weigh cuts c, ap (sum_by weigh) (by_own k.seat from (drop from log) cuts), sum_by_push weigh (cut_by k.seat cuts) c)
  cuts_weight weigh None = refl

  -- in the words of who gives the desk back
  given_cuts : (r : Option Part) → CutOff k number room r log from cuts e s → next_cuts r (shown k log from cuts) e.log ≡ cuts_after r
  given_cuts r o = ap (next_cuts r (shown k log from cuts)) (cut_log r o)

  cut_follows : (r : Option Part) → CutOff k number room r log from cuts e s → Follows (shown k log from cuts) e.log e.from (cuts_after r)
  cut_follows r o =
      record {
        front = subst (λ (l : List Entry). IsPrefix log l) (sym (cut_log r o)) (prefix_self log);
        others = λ n ne. ap (of_seat n) (cut_log r o);
        later = cut_later r o;
        cut_front = cuts_front r;
        cut_others = cuts_others r;
        cut_weight = λ weigh. cuts_weight weigh r;
        cut_up = cut_up_now r o;
      }

  -- the part that was handed out is all that was kept
  cut_is_part : (part : Part) → CutOff k number room (Some part) log from cuts e s → cut k.seat from (drop from log) ≡ cut k.seat part.from part.entries.items
  cut_is_part part o =
      let end = o.did.out.0 in
      let at : part.from ≡ from = o.did.out.1 in
      let all : drop from log ≡ part.entries.items = ap (λ n. drop n log) (sym at ∙ sym end.2) ∙ (ap (drop (length end.0)) end.1 ∙ drop-append_seam end.0 part.entries.items) in
      λ i. cut k.seat (sym at i) (all i)

  cut_known : (t u : TableId) (r : Option Part) → CutOff k number room r log from cuts e s → HasCut (pass_of t k) r (pass_of u (shown k e.log e.from (cuts_after r)))
  cut_known t u (Some part) o =
      let c : Cut = cut k.seat part.from part.entries.items in
      let same : cuts_after (Some part) ≡ cuts ++ c ∷ [] = ap (λ (x : Cut). cuts ++ x ∷ []) (cut_is_part part o) in (
        o.found.front.0,
        same ∙ ap (λ cs. cs ++ c ∷ []) (sym o.found.front.1),
        ap (cut_by k.seat) same ∙ (by_own k.seat part.from part.entries.items cuts ∙ ap (λ cs. cs ++ c ∷ []) o.found.own),
        cut_up_now (Some part) o,
      )
  cut_known t u None o = (o.found.front, o.found.own, cut_up_now None o)

  cut_own : (r : Option Part) → CutOff k number room r log from cuts e s → of_seat k.seat e.log ≡ k.mine
  cut_own r o = ap (of_seat k.seat) (cut_log r o) ∙ o.own

  cut_looks : (t u : TableId) (r : Option Part) → CutOff k number room r log from cuts e s → Looks (pass_of t k) (pass_of u (shown k e.log e.from (cuts_after r)))
  cut_looks t u r o = (subst (λ (l : List Entry). IsPrefix k.seen l) (sym (cut_log r o)) o.front, cut_own r o, refl)

  cut_legal : (r : Option Part) → CutOff k number room r log from cuts e s → IsLegal (opening_of k.terms) e.log
  cut_legal r o = subst (λ (l : List Entry). IsLegal (opening_of k.terms) l) (sym (cut_log r o)) o.did.legal

  cut_ticket : (r : Option Part) → CutOff k number room r log from cuts e s → IsTicket (shown k e.log e.from (cuts_after r)) number s
  cut_ticket r o = record {
    number_is = o.ticket.number_is;
    small = o.ticket.small;
    legal = cut_legal r o;
    own = refl;
    cut_up = cut_up_now r o;
    counted = o.ticket.counted ∙ ap length (sym (cut_own r o));
  }

  -- what the caller is told
  cut_told : (r : Option Part) → CutOff k number room r log from cuts e s → HasPart k (shown k e.log e.from (cuts_after r)) room r
  cut_told (Some part) o = (
    subst (λ (l : List Entry). EndsWith l part.from part.entries.items) (sym (cut_log (Some part) o)) o.did.out.0,
    omega (arith, o.later, o.did.out.1),
    ap (λ (c : Chronicled). c.from) o.did.out.2 ∙ ap length (sym (cut_log (Some part) o)),
    o.did.out.3,
    omega (arith, o.did.out.4, ap length (cut_log (Some part) o)),
    omega (arith, o.did.out.5, ap (seats_placed_after k.terms) (cut_log (Some part) o)),
  )
  cut_told None o = λ keeps roomy few. o.did.out.1 keeps (omega (arith, ap (seats_placed_after k.terms) (cut_log None o), roomy)) (omega (arith, few, ap length (cut_log None o)))

  cut_few : (r : Option Part) → CutOff k number room r log from cuts e s → seats_placed_after k.terms e.log ≤ k.terms.opening.seats
  cut_few r o =
      let seats : length (opening_of k.terms).seats ≡ k.terms.opening.seats = length-replicate k.terms.opening.seats None in
      omega (arith, o.did.few, seats, ap (seats_placed_after k.terms) (cut_log r o))

-- ---- the three steps of a call
abbrev M : Type 0
M = Me Chronicled View

-- the desk that was taken has the seat
pub may_serve : (m0 m1 : M) (number a : ℕ) → IsTicket (known_of m0.0) number a → HasTaken m0 m1 → HasDesk m1 (λ d. MayServe number d a)
may_serve m0 m1 number a ticket t =
    let k : Known = known_of m0.0 in
    let d : Chronicled = chronicle_from k.terms t.0 t.1 in
    let long : length d.start.seats ≡ k.terms.opening.seats = length-replicate k.terms.opening.seats None in
    let room : number < length d.start.seats = omega (arith, long, ticket.small, ticket.number_is) in
    let own : of_seat number d.log ≡ k.mine = ap (λ n. of_seat n d.log) (sym ticket.number_is) ∙ t.5 in
    (d, t.3 ∙ ap (λ (v : View). (v, (0, d) ∷ [])) (sym (ap (λ (m : M). m.0) t.3)), (room, ticket.counted ∙ ap length (sym own)))

pub record After (k : Known) (number : ℕ) (cmd : Cmd) (r : Result Reply CallFault) (a b : ℕ) (m : M) : Type 0 where
  pub log : List Entry
  pub from : ℕ
  pub cuts : List Cut
  pub e : Chronicled
  pub served : Served k number cmd r log from cuts e a b
  pub holds : m ≡ (Holder (shown k log from cuts), (0, e) ∷ [])

pub served_by : (m0 m1 m2 : M) (number : ℕ) (cmd : Cmd) (r : Result Reply CallFault) (a b : ℕ) → IsTicket (known_of m0.0) number a → HasTaken m0 m1 → m2.0 ≡ m1.0
    → HasDesk m1 (λ d. HasDesk m2 (λ e. Serves number cmd r d e a b)) → After (known_of m0.0) number cmd r a b m2
served_by m0 m1 m2 number cmd r a b ticket t view v =
    let k : Known = known_of m0.0 in
    let d : Chronicled = chronicle_from k.terms t.0 t.1 in
    let e : Chronicled = v.2.0 in
    let same : v.0 ≡ d = ap (λ (m : M). (get_or m.1 0 (0, d)).1) (sym v.1 ∙ t.3) in
    record {
      log = t.0;
      from = t.1;
      cuts = t.2;
      e = e;
      served = record {
        ticket = ticket;
        front = t.4;
        own = t.5;
        later = t.6;
        found = record { front = t.7; own = t.8; up = t.9 };
        did = subst (λ (z : ℕ × Chronicled). Serves z.0 cmd r z.1 e a b) (λ i. (sym ticket.number_is i, same i)) v.2.2;
      };
      holds = v.2.1 ∙ ap (λ (x : View). (x, (0, e) ∷ [])) (view ∙ ap (λ (m : M). m.0) t.3);
    }

module _ (k : Known) (number : ℕ) (cmd : Cmd) (r : Result Reply CallFault) (a b : ℕ) (m : M) (o : After k number cmd r a b m) where
  given_back : m ≡ (Holder (shown k o.log o.from o.cuts), (0, chronicle_from k.terms o.e.log o.e.from) ∷ [])
  given_back = o.holds ∙ ap (λ (c : Chronicled). (Holder (shown k o.log o.from o.cuts), (0, c) ∷ [])) (back k number cmd o.log o.from o.cuts o.e a b r o.served)

  pub may_give : HoldsDesk m (λ h log from. Follows h log from (same_cuts h log))
  may_give = subst (λ (x : M). HoldsDesk x (λ h log from. Follows h log from (same_cuts h log))) (sym given_back) (o.e.log, o.e.from, refl, follows k number cmd o.log o.from o.cuts o.e a b r o.served)

  pub gave : (n : M) → HasGiven same_cuts m n → n ≡ (Outside (shown k o.e.log o.e.from o.cuts), [])
  gave n h =
      let same : h.0 ≡ o.e.log = ap (λ (x : M). (get_or x.1 0 (0, o.e)).1.log) (sym h.2 ∙ given_back) in
      let kept : h.1 ≡ o.e.from = ap (λ (x : M). (get_or x.1 0 (0, o.e)).1.from) (sym h.2 ∙ given_back) in
      let knew : known_of m.0 ≡ shown k o.log o.from o.cuts = ap (λ (x : M). known_of x.0) o.holds in
      h.3 ∙ (λ i. (Outside (shown (knew i) (same i) (kept i) (knew i).cuts), []))

  pub ticket_after : (n : M) → HasGiven same_cuts m n → (n ≡ (Outside (known_of n.0), [])) × IsTicket (known_of n.0) number b
  ticket_after n h = subst (λ (x : M). (x ≡ (Outside (known_of x.0), [])) × IsTicket (known_of x.0) number b) (sym (gave n h)) (refl, keeps_ticket k number cmd o.log o.from o.cuts o.e a b r o.served)

  pub extends_after : (n : M) → HasGiven same_cuts m n → (t u : TableId) → IfOk r (λ x. Extends (pass_of t k) cmd x (pass_of u (known_of n.0)))
  extends_after n h t u = subst (λ (x : M). IfOk r (λ y. Extends (pass_of t k) cmd y (pass_of u (known_of x.0)))) (sym (gave n h)) (extends k number cmd o.log o.from o.cuts o.e a b t u r o.served)

  pub fails_after : (n : M) → HasGiven same_cuts m n → (t u : TableId) → u ≡ t → IfErr r (λ f. Fails (pass_of t k) cmd f (pass_of u (known_of n.0)))
  fails_after n h t u same = subst (λ (x : M). IfErr r (λ f. Fails (pass_of t k) cmd f (pass_of u (known_of x.0)))) (sym (gave n h)) (fails k number cmd o.log o.from o.cuts o.e a b t u same r o.served)

  pub later_after : (n : M) → HasGiven same_cuts m n → k.from ≤ (known_of n.0).from
  later_after n h = subst (λ (x : M). k.from ≤ (known_of x.0).from) (sym (gave n h)) (later k number cmd o.log o.from o.cuts o.e a b r o.served)

  pub cuts_known : (n : M) → HasGiven same_cuts m n → (t u : TableId) → OthersCut (pass_of t k) (pass_of u (known_of n.0))
  cuts_known n h t u = subst (λ (x : M). OthersCut (pass_of t k) (pass_of u (known_of x.0))) (sym (gave n h)) (others_cut k number cmd o.log o.from o.cuts o.e a b t u r o.served)

  pub answers_after : IfOk r (λ x. Answers (own_place k.mine) cmd x)
  answers_after = answers k number cmd o.log o.from o.cuts o.e a b r o.served

  pub never_after : takes (own_place k.mine) cmd ≡ 0 → IsOk r
  never_after = never k number cmd o.log o.from o.cuts o.e a b r o.served

  pub moved_after : (n : M) → HasGiven same_cuts m n → IfOk r (λ x. own_place (known_of n.0).mine ≡ place_after (own_place k.mine) x)
  moved_after n h = subst (λ (x : M). IfOk r (λ y. own_place (known_of x.0).mine ≡ place_after (own_place k.mine) y)) (sym (gave n h)) (moved k number cmd o.log o.from o.cuts o.e a b r o.served)

  pub still_after : (n : M) → HasGiven same_cuts m n → moves_seat cmd ≡ false → own_place (known_of n.0).mine ≡ own_place k.mine
  still_after n h quiet = subst (λ (x : M). own_place (known_of x.0).mine ≡ own_place k.mine) (sym (gave n h)) (still k number cmd o.log o.from o.cuts o.e a b r o.served quiet)

-- ---- the same for a cut

-- the desk that was taken is there
pub may_cut : (m0 m1 : M) → HasTaken m0 m1 → HasDesk m1 (λ _. Unit {0})
may_cut m0 m1 t =
    let d : Chronicled = chronicle_from (known_of m0.0).terms t.0 t.1 in
    (d, t.3 ∙ ap (λ (v : View). (v, (0, d) ∷ [])) (sym (ap (λ (m : M). m.0) t.3)), tt)

pub record AfterCut (k : Known) (number room : ℕ) (r : Option Part) (s : ℕ) (m : M) : Type 0 where
  pub log : List Entry
  pub from : ℕ
  pub cuts : List Cut
  pub e : Chronicled
  pub off : CutOff k number room r log from cuts e s
  pub holds : m ≡ (Holder (shown k log from cuts), (0, e) ∷ [])

pub cut_off_by : (m0 m1 m2 : M) (number room : ℕ) (r : Option Part) (s : ℕ) → IsTicket (known_of m0.0) number s → HasTaken m0 m1 → m2.0 ≡ m1.0
    → HasDesk m1 (λ d. HasDesk m2 (λ e. Cuts room r d e)) → AfterCut (known_of m0.0) number room r s m2
cut_off_by m0 m1 m2 number room r s ticket t view v =
    let k : Known = known_of m0.0 in
    let d : Chronicled = chronicle_from k.terms t.0 t.1 in
    let e : Chronicled = v.2.0 in
    let same : v.0 ≡ d = ap (λ (m : M). (get_or m.1 0 (0, d)).1) (sym v.1 ∙ t.3) in
    record {
      log = t.0;
      from = t.1;
      cuts = t.2;
      e = e;
      off = record { ticket = ticket; front = t.4; own = t.5; later = t.6; found = record { front = t.7; own = t.8; up = t.9 }; did = subst (λ (z : Chronicled). Cuts room r z e) same v.2.2 };
      holds = v.2.1 ∙ ap (λ (x : View). (x, (0, e) ∷ [])) (view ∙ ap (λ (m : M). m.0) t.3);
    }

module _ (k : Known) (number room : ℕ) (r : Option Part) (s : ℕ) (m : M) (o : AfterCut k number room r s m) where
  cut_given_back : m ≡ (Holder (shown k o.log o.from o.cuts), (0, chronicle_from k.terms o.e.log o.e.from) ∷ [])
  cut_given_back = o.holds ∙ ap (λ (c : Chronicled). (Holder (shown k o.log o.from o.cuts), (0, c) ∷ [])) (cut_back k number room o.log o.from o.cuts o.e s r o.off)

  -- all that was cut out, as who gives the desk back has it
  abbrev all_cuts : List Cut
  all_cuts = cuts_after k number room o.log o.from o.cuts o.e s r

  cuts_are : next_cuts r (shown k o.log o.from o.cuts) o.e.log ≡ all_cuts
  cuts_are = given_cuts k number room o.log o.from o.cuts o.e s r o.off

  pub cut_may_give : HoldsDesk m (λ h log from. Follows h log from (next_cuts r h log))
  cut_may_give = subst (λ (x : M). HoldsDesk x (λ h log from. Follows h log from (next_cuts r h log))) (sym cut_given_back)
      (o.e.log, o.e.from, refl, subst (Follows (shown k o.log o.from o.cuts) o.e.log o.e.from) (sym cuts_are) (cut_follows k number room o.log o.from o.cuts o.e s r o.off))

  cut_gave : (n : M) → HasGiven (next_cuts r) m n → n ≡ (Outside (shown k o.e.log o.e.from all_cuts), [])
  cut_gave n h =
      let same : h.0 ≡ o.e.log = ap (λ (x : M). (get_or x.1 0 (0, o.e)).1.log) (sym h.2 ∙ cut_given_back) in
      let kept : h.1 ≡ o.e.from = ap (λ (x : M). (get_or x.1 0 (0, o.e)).1.from) (sym h.2 ∙ cut_given_back) in
      let knew : known_of m.0 ≡ shown k o.log o.from o.cuts = ap (λ (x : M). known_of x.0) o.holds in
      h.3 ∙ ((λ i. (Outside (shown (knew i) (same i) (kept i) (next_cuts r (knew i) (same i))), [])) ∙ ap (λ (cs : List Cut). (Outside (shown k o.e.log o.e.from cs), [])) cuts_are)

  pub cut_ticket_after : (n : M) → HasGiven (next_cuts r) m n → (n ≡ (Outside (known_of n.0), [])) × IsTicket (known_of n.0) number s
  cut_ticket_after n h = subst (λ (x : M). (x ≡ (Outside (known_of x.0), [])) × IsTicket (known_of x.0) number s) (sym (cut_gave n h)) (refl, cut_ticket k number room o.log o.from o.cuts o.e s r o.off)

  pub cut_known_after : (n : M) → HasGiven (next_cuts r) m n → (t u : TableId) → HasCut (pass_of t k) r (pass_of u (known_of n.0))
  cut_known_after n h t u = subst (λ (x : M). HasCut (pass_of t k) r (pass_of u (known_of x.0))) (sym (cut_gave n h)) (cut_known k number room o.log o.from o.cuts o.e s t u r o.off)

  -- all that is known of who cut
  pub cut_after : (n : M) → HasGiven (next_cuts r) m n → (t u : TableId) → IsSeenCut k (known_of n.0) room r × Looks (pass_of t k) (pass_of u (known_of n.0))
  cut_after n h t u = subst (λ (x : M). IsSeenCut k (known_of x.0) room r × Looks (pass_of t k) (pass_of u (known_of x.0))) (sym (cut_gave n h)) (
    record {
      terms = refl;
      seat = refl;
      legal = cut_legal k number room o.log o.from o.cuts o.e s r o.off;
      later = omega (arith, o.off.later, cut_later k number room o.log o.from o.cuts o.e s r o.off);
      few = cut_few k number room o.log o.from o.cuts o.e s r o.off;
      told = cut_told k number room o.log o.from o.cuts o.e s r o.off;
    },
    cut_looks k number room o.log o.from o.cuts o.e s t u r o.off,
  )

-- what is known of a part, and of none, apart
pub told_part : (k l : Known) (room : ℕ) (r : Option Part) → HasPart k l room r
    → IfSome r (λ part. EndsWith l.seen part.from part.entries.items) × IfSome r (λ part. k.from ≤ part.from) × OnSome r (l.from ≡ length l.seen) × OnSome r (k.terms.keeping ≡ InParts)
    × OnSome r (length l.seen ≤ most_forgotten) × OnSome r (seats_placed_after k.terms l.seen ≤ room)
told_part k l room (Some part) h = h
told_part k l room None h = (tt, tt, tt, tt, tt, tt)

pub told_enough : (k l : Known) (room : ℕ) (r : Option Part) → HasPart k l room r → k.terms.keeping ≡ InParts → seats_placed_after k.terms l.seen ≤ room → length l.seen ≤ most_forgotten → IsSome r
told_enough k l room (Some part) h keeps roomy few = refl
told_enough k l room None h keeps roomy few = absurd (h keeps roomy few)

-- one more entry of the caller's can be counted, where all can
pub one_more_own : (seat most : ℕ) (cmd : Cmd) (r : Result Reply CallFault) (xs ys : List Entry) → IfOk r (λ x. ys ≡ xs ++ entry seat cmd x ∷ []) → length ys ≤ most → is_ok r ≡ true
    → length (of_seat seat xs) + 1 ≤ most
one_more_own seat most cmd (Ok x) xs ys is few ok = more-own seat most cmd x xs ys is few
one_more_own seat most cmd (Err f) xs ys is few ok = absurd cc

-- what a call of the desk that is not answered leaves
pub refused_so : (seat : ℕ) (cmd : Cmd) (r : Result Reply CallFault) (d e : Chronicled) (n : ℕ) → OnErr r (e ≡ d) → IfErr r (λ fault. fault ≡ HistoryFull → LacksPlaces d seat cmd)
    → (LacksPlaces d seat cmd → IsErrOf r HistoryFull) → (takes (place_in seat d.log) cmd ≡ 0 → IsOk r) → is_ok r ≡ false → Done seat cmd r d e n n
refused_so seat cmd (Ok x) d e n same room full free not = absurd cc
refused_so seat cmd (Err f) d e n same room full free not = (same, refl, room, (λ lacks. let is = full lacks in cc), λ none. absurd (let is = free none in cc))
