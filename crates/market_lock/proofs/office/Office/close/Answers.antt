use Rattle.std.proofs.Common.{rules, ◌≡◌, length, arith, ap, sym, ◌∙◌, subst}
use Rattle.market_types.specs.State.{State}
use Rattle.market_types.specs.Allotment.{active}
use Rattle.edit_history.specs.Chronicled.{Chronicled, HasNumbersOf, market_of}
use Rattle.edit_history.specs.Places.{placed}
use Rattle.market_lock.specs.Forgetting.{forgotten}
use Rattle.edit_history.specs.declared.terms.Terms.{Terms}
use Rattle.market_lock.specs.Seen.{OfOffice, Met, AllParts}
use Rattle.market_lock.specs.Held.{whos}
use Rattle.market_lock.proofs.Meeting.{all_who}
use Rattle.market_lock.specs.Headline.{IsGivenBy}
use Rattle.market_lock.specs.Views.{opening_of, chronicle_from, chronicle_cut}
use Rattle.market_lock.proofs.Steps.{enters_it}
use Rattle.market_lock.proofs.Ending.{ended_by, all_met, all_parts, given_by, seats_kept, all_calls, all_placed, all_active, long_whos}
use Rattle.market_lock.proofs.office.Office.close.Goals as goal

pub load_new_seat-requires : goal.load_new_seat-requires
load_new_seat-requires c = (search rules, enters_it _ _)

pub returns : goal.returns
returns c =
    let key : Terms = c.self.inside.table.shared.key in
    let passes = c.args.passes.items in
    let placed_ones = c.args.placed.items in
    let desk : Chronicled = c.take-desk.result in
    let seat = c.take_back_placed.new.seat in
    let seats : key.opening.seats ≡ c.args.self.terms.opening.seats = ap (λ (x : OfOffice). x.terms.opening.seats) c.self.view_is in
    let o = ended_by key seat.id c.load_new_seat.result.1.me c.take_back_passes.new.seat.me seat.me passes (whos placed_ones) c.close_with-closed.result.words.items c.close_with-closed.result.slots.items desk
    (search rules) c.take_back_passes.ensures.seat c.take_back_placed.ensures.seat (omega (arith, long_whos placed_ones, seats, c.requires.all)) c.close_with-closed.ensures.values.2 c.take-desk.ensures.value in
    let same : c.into_chronicle-chronicle.result ≡ desk = c.into_chronicle-chronicle.ensures.chronicle in
    let terms : key ≡ c.args.self.terms = ap (λ (x : OfOffice). x.terms) c.self.view_is in
    let legal = c.into_chronicle-chronicle.ensures.legal in
    let from_kept : desk.from ≡ forgotten key.keeping (length desk.log) desk.from = c.into_chronicle-chronicle.ensures.from ∙ ap (λ (d : Chronicled). forgotten d.keeping (length desk.log) desk.from) o.desk_is in
    let met = all_met key passes (whos placed_ones) desk o c.into_chronicle-chronicle.result.log (ap (λ (d : Chronicled). d.log) same) in
    let market : State = c.market.result.now in
    let stands : market ≡ market_of desk = c.market.ensures.exact ∙ ap market_of same in
    let numbers : HasNumbersOf desk.start market = subst (λ (d : Chronicled). HasNumbersOf d.start market) same c.market.ensures.numbers in
    let kept = seats_kept key passes (whos placed_ones) desk o market stands numbers in
    let there = all_placed key passes placed_ones desk o c.own_entries_place_a_seat.ensures legal kept c.take_back_passes.ensures.unplaced c.take_back_placed.ensures.placed in
    record {
      headline = subst (λ (z : Terms × Chronicled). IsGivenBy (opening_of z.0) z.1) (λ i. (terms i, sym same i)) (given_by key passes (whos placed_ones) desk o legal);
      whole = subst (λ (z : Terms × Chronicled). z.1 ≡ chronicle_cut z.0 z.1.log z.1.from) (λ i. (terms i, sym same i)) (o.desk_is ∙ ap (chronicle_from key desk.log) from_kept);
      passes = met.0;
      placed = all_who (Met c.into_chronicle-chronicle.result.log) placed_ones met.1;
      parts = subst (λ (z : Terms × Chronicled). AllParts z.0.keeping z.1.log z.1.from passes placed_ones) (λ i. (terms i, sym same i)) (all_parts key passes placed_ones desk o);
      calls = c.len-calls.ensures.exact;
      calls_made = c.len-calls.ensures.exact ∙ (ap (λ (d : Chronicled). length d.log) same ∙ all_calls key passes placed_ones desk o);
      workers = omega (arith, c.args.placed.ok.0, there, ap (λ (d : Chronicled). placed (market_of d)) same);
      workers_placed = omega (arith, c.args.placed.ok.0);
      active = λ a. ap (λ (d : Chronicled). active (market_of d) a) same
          ∙ all_active key passes placed_ones desk o c.own_entries_place_a_seat.ensures legal kept c.take_back_passes.ensures.unplaced c.take_back_placed.ensures.placed a;
    }
