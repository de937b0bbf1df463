use Rattle.std.proofs.Common.{◌≤◌}
use Rattle.std.proofs.lemmas.List.Elements.{All-from_recursion}
use Rattle.market_types.specs.State.{Arena, opening_to}
use Rattle.market_types.specs.History.{state_after}
use Rattle.market_rest.proofs.Apart.{always_ordered, apart_in_order}
use Rattle.market_rest.proofs.Rest.{at_rest, none_picked}
use Rattle.market_rest.proofs.law.a_market_at_rest_asks_for_nothing.Goals as goal

pub returns-clause-some : goal.returns-clause-some
returns-clause-some c base hard seats levels last calls named free none some =
    let s = state_after (opening_to base hard seats levels last) calls in
    let ordered = always_ordered base hard seats levels last calls named in
    at_rest c.bound_is_given_out.ensures.allotted s (All-from_recursion (λ (b : Arena). (1 ≤ b.level) × (b.level ≤ s.levels)) s.arenas ordered.leveled) (apart_in_order s ordered.apart) free none some

pub returns-clause-none : goal.returns-clause-none
returns-clause-none c = none_picked
