-- What is known when all have met.
use Rattle.std.proofs.Common.{◌≡◌, ◌==◌, ℕ, ◌+◌, ◌<◌, ◌≤◌, List, [], ◌∷◌, ◌++◌, length, refl, ap, sym, ◌∙◌, subst, arith, length-append, All, Some, None}
use Rattle.std.proofs.lemmas.List.{length-replicate}
use Rattle.std.specs.List.{count_by, sum_by}
use mathlib.Core.Option.{some, some-injective}
use mathlib.Core.List.{IsPrefix}
use lib.ListN.{get_elem?}
use Rattle.atomic_table.specs.Table.{Me, Final, Seen}
use Rattle.market_types.specs.declared.reply.Entry.{Entry}
use Rattle.market_types.specs.State.{State, opening_to}
use Rattle.market_types.specs.Step.{place_of}
use Rattle.market_types.specs.Allotment.{active, allotment_of, is_top, recall, hire}
use Rattle.market_types.specs.History.{IsLegal, calls_of, of_seat, place_in, state_after}
use Rattle.edit_history.specs.Chronicled.{Chronicled, HasNumbersOf, market_of}
use Rattle.edit_history.specs.Places.{placed}
use Rattle.market_lock.specs.Workers.{own_place}
use Rattle.market_lock.specs.declared.view.Cut.{Cut}
use Rattle.market_lock.specs.declared.view.Known.{Known}
use Rattle.edit_history.specs.declared.terms.Terms.{Terms}
use Rattle.market_lock.specs.declared.view.View.{View}
use Rattle.market_lock.specs.declared.view.View.TheVariants.{Closer}
use Rattle.market_lock.specs.Views.{opening_of, chronicle_from}
use Rattle.market_lock.specs.Cutting.{cut_by, IsCutUp}
use Rattle.market_lock.specs.Rule.{Kept, Once, Fitting, parts_of, parts_of_all}
use Rattle.market_lock.specs.Seen.{OfPass, OfPlaced, Met, HasParts, AllParts}
use Rattle.market_lock.specs.Held.{taken_in, whos, IsClosing, kept_of, known_for}
use Rattle.market_lock.specs.Headline.{IsGivenBy, shown_of}
use Rattle.market_lock.proofs.Steps.{ends_it}
use Rattle.market_lock.proofs.Counting.{added, added_same, all_seats, entries_counted}
use Rattle.market_lock.proofs.Meeting.{all_taken, all_who, added_all, placed_is, active_is}

abbrev M : Type 0
M = Me Chronicled View

long_taken : (xs : List OfPass) → length (taken_in xs) ≡ length xs
long_taken [] = refl
long_taken (x ∷ xs) = omega (arith, long_taken xs, length-append (taken_in xs) (known_for x ∷ []))

pub long_whos : (qs : List OfPlaced) → length (whos qs) ≡ length qs
long_whos [] = refl
long_whos (q ∷ qs) = let rest = long_whos qs in omega arith

pub record Ended (key : Terms) (ps qs : List OfPass) (desk : Chronicled) : Type 0 where
  pub kept : List Known
  pub kept_is : kept ≡ taken_in ps ++ taken_in qs
  pub desk_is : desk ≡ chronicle_from key desk.log desk.from
  pub once : Once kept
  pub cuts : List Cut
  pub fits : (i : ℕ) (k : Known) → get_elem? kept i ≡ some k → Fitting key desk.log cuts k
  pub cut_up : IsCutUp key.keeping desk.log desk.from cuts
  pub parts : (weigh : Cut → ℕ) → parts_of_all weigh kept ≡ sum_by weigh cuts
  pub all : length kept ≡ key.opening.seats
  pub strangers : (n : ℕ) → key.opening.seats ≤ n → of_seat n desk.log ≡ []

pub ended_by : (key : Terms) (id : ℕ) (m0 m1 m2 : M) (ps qs : List OfPass) (ws : List ℕ) (xs : List Chronicled) (desk : Chronicled)
    → m0 ≡ (Closer key [], []) → IsClosing key m1 (kept_of m0.0 ++ taken_in ps) → IsClosing key m2 (kept_of m1.0 ++ taken_in qs) → length ps + length qs ≡ key.opening.seats
    → Final (Seen (Kept key) id m2.0) ws xs → get_elem? xs 0 ≡ some desk → Ended key ps qs desk
ended_by key id m0 m1 m2 ps qs ws xs desk e0 e1 e2 all final got =
    let first : kept_of m0.0 ≡ [] = ap (λ (m : M). kept_of m.0) e0 in
    let second : kept_of m1.0 ≡ taken_in ps = ap (λ (m : M). kept_of m.0) e1 ∙ ap (λ l. l ++ taken_in ps) first in
    let kept : List Known = taken_in ps ++ taken_in qs in
    let last : m2.0 ≡ Closer key kept = ap (λ (m : M). m.0) e2 ∙ ap (λ l. Closer key (l ++ taken_in qs)) second in
    let closed = subst (λ (v : View). Final (Seen (Kept key) id v) ws xs) last final in
    let long : length kept ≡ key.opening.seats = omega (arith, all, length-append (taken_in ps) (taken_in qs), long_taken ps, long_taken qs) in
    let en = ends_it key id key kept ws xs (omega (arith, long)) closed in
    let log : List Entry = en.0 in
    let same : chronicle_from key log en.1 ≡ desk = some-injective (chronicle_from key log en.1) desk (ap (λ (l : List Chronicled). get_elem? l 0) (sym en.3) ∙ got) in
    record {
      kept = kept;
      kept_is = refl;
      desk_is = subst (λ (d : Chronicled). d ≡ chronicle_from key d.log d.from) same refl;
      once = en.4;
      cuts = en.2;
      fits = λ i k e. subst (λ (x : Chronicled). Fitting key x.log en.2 k) same (en.5 i k e);
      cut_up = subst (λ (x : Chronicled). IsCutUp key.keeping x.log x.from en.2) same en.6;
      parts = en.7;
      all = long;
      strangers = subst (λ (x : Chronicled). (n : ℕ) → key.opening.seats ≤ n → of_seat n x.log ≡ []) same en.8;
    }

parts_added : (weigh : Cut → ℕ) (ks : List Known) → parts_of_all weigh ks ≡ added (parts_of weigh) ks
parts_added weigh [] = refl
parts_added weigh (k ∷ ks) = ap (λ n. parts_of weigh k + n) (parts_added weigh ks)

-- all parts that were cut
pub all_parts : (key : Terms) (ps : List OfPass) (qs : List OfPlaced) (desk : Chronicled) → Ended key ps (whos qs) desk → AllParts key.keeping desk.log desk.from ps qs
all_parts key ps qs desk o =
    let each = all_taken (λ (k : Known). IsPrefix k.cuts o.cuts × (cut_by k.seat o.cuts ≡ cut_by k.seat k.cuts)) o.kept ps (whos qs) o.kept_is (λ i k e. let f = o.fits i k e in (f.3, f.4)) in
    record {
      cuts = o.cuts;
      cut_up = o.cut_up;
      of_passes = each.0;
      of_placed = all_who (HasParts o.cuts) qs each.1;
      each_once = λ weigh. sym (o.parts weigh) ∙ (parts_added weigh o.kept ∙ added_all (parts_of weigh) o.kept ps qs o.kept_is);
    }

module _ (key : Terms) (ps qs : List OfPass) (desk : Chronicled) (o : Ended key ps qs desk) where
  pub all_met : (log : List Entry) → log ≡ desk.log → All (Met log) ps × All (Met log) qs
  all_met log is = subst (λ (l : List Entry). All (Met l) ps × All (Met l) qs) (sym is)
      (all_taken (λ (k : Known). IsPrefix k.seen desk.log × (of_seat k.seat desk.log ≡ k.mine)) o.kept ps qs o.kept_is (λ i k e. let f = o.fits i k e in (f.0, f.1)))

  pub started : desk.start ≡ opening_of key
  started = ap (λ (d : Chronicled). d.start) o.desk_is

  -- the market that it holds is what the opening becomes by its history
  held : desk.market ≡ state_after (opening_of key) (calls_of desk.log)
  held = ap (λ (d : Chronicled). d.market) o.desk_is

  -- what that market shows is what its history gives
  pub given_by : IsLegal desk.start desk.log → IsGivenBy (opening_of key) desk
  given_by legal = record {
    replies = subst (λ (s : State). IsLegal s desk.log) started legal;
    shows = λ a. ap (λ (s : State). shown_of s a) held;
    allotments = λ a. ap (λ (s : State). allotment_of s a) held;
    tops = λ a. ap (λ (s : State). is_top s a) held;
    recalls = λ a. ap (λ (s : State). recall s a) held;
    hires = λ a. ap (λ (s : State). hire s a) held;
  }

  -- it has as many seats as it was opened with
  pub seats_kept : (market : State) → market ≡ market_of desk → HasNumbersOf desk.start market → length (market_of desk).seats ≡ key.opening.seats
  seats_kept market is numbers =
      ap (λ (s : State). length s.seats) (sym is) ∙ (numbers.seats ∙ (ap (λ (s : State). length s.seats) started ∙ length-replicate key.opening.seats None))

-- a legal history places a seat where the seat's own entries say
abbrev pub OwnPlaces : Type 0
OwnPlaces = (base hard seats levels last seat : ℕ) (history : List Entry)
    → IsLegal (opening_to base hard seats levels last) history → seat < seats
    → place_of (state_after (opening_to base hard seats levels last) (calls_of history)) seat ≡ place_in seat history

module _ (key : Terms) (ps : List OfPass) (qs : List OfPlaced) (desk : Chronicled) (o : Ended key ps (whos qs) desk) where
  -- the history has as many entries as the callers have together
  pub all_calls : length desk.log ≡ sum_by (λ (p : OfPass). length p.mine) ps + sum_by (λ (q : OfPlaced). length q.who.mine) qs
  all_calls =
      let counted = entries_counted desk.log key.opening.seats o.strangers in
      let seats = all_seats (λ s. length (of_seat s desk.log)) o.kept key.opening.seats (λ i k e. (o.fits i k e).2) o.once o.all in
      let own = added_same (λ k. length (of_seat k.seat desk.log)) (λ k. length k.mine) o.kept (λ i k e. ap length (o.fits i k e).1) in
      omega (arith, counted, seats, own, added_all (λ k. length k.mine) o.kept ps qs o.kept_is)

  module _ (law : OwnPlaces) (legal : IsLegal desk.start desk.log) (long : length (market_of desk).seats ≡ key.opening.seats)
      (none' : All (λ (p : OfPass). own_place p.mine ≡ None) ps) (some' : All (λ (q : OfPlaced). own_place q.who.mine ≡ Some q.arena) qs) where
    there : (i : ℕ) (k : Known) → get_elem? o.kept i ≡ some k → (k.seat < length (market_of desk).seats) × (place_of (market_of desk) k.seat ≡ own_place k.mine)
    there i k e =
        let f = o.fits i k e in
        let begun : IsLegal (opening_of key) desk.log = subst (λ (s : State). IsLegal s desk.log) (started key ps (whos qs) desk o) legal in
        let at : place_of (state_after (opening_of key) (calls_of desk.log)) k.seat ≡ place_in k.seat desk.log = law key.opening.base key.opening.hard key.opening.seats key.opening.levels key.opening.last k.seat desk.log begun f.2 in
        let moved : place_of (market_of desk) k.seat ≡ place_of (state_after (opening_of key) (calls_of desk.log)) k.seat =
        ap (λ (s : State). place_of (state_after s (calls_of desk.log)) k.seat) (started key ps (whos qs) desk o) in
        (omega (arith, long, f.2), moved ∙ (at ∙ ap own_place f.1))

    pub all_placed : placed (market_of desk) ≡ length qs
    all_placed = placed_is (market_of desk) o.kept ps qs o.kept_is o.once (omega (arith, o.all, long)) there none' some'

    pub all_active : (a : ℕ) → active (market_of desk) a ≡ count_by (λ (q : OfPlaced). q.arena == a) qs
    all_active = active_is (market_of desk) o.kept ps qs o.kept_is o.once (omega (arith, o.all, long)) there none' some'
