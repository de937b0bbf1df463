use Rattle.std.proofs.Common.{refl}
use Rattle.market_types.specs.State.{opening_to}
use Rattle.market_types.specs.History.{state_after}
use Rattle.market_rest.specs.Alike.{AreAlike, concerning}
use Rattle.market_rest.proofs.Alone.{allotted_none}
use Rattle.market_rest.proofs.law.a_market_at_rest_serves_no_arena_alone.Goals as goal

pub returns : goal.returns
returns c a base hard seats others levels last calls fit plain free none =
    let s = state_after (opening_to base hard seats levels last) calls in
    let t = state_after (opening_to base hard others levels last) (concerning a calls) in
    let new : AreAlike a (opening_to base hard seats levels last) (opening_to base hard others levels last) =
    record { base = refl; hard = refl; levels = refl; controls = refl; last = refl; next_arena = refl; next_control = refl; next_stamp = refl; arenas = refl } in
    let alike = c.an_arena_asks_for_what_was_asked_at_it.ensures a (opening_to base hard seats levels last) (opening_to base hard others levels last) calls plain new in
    let rest = c.a_market_at_rest_asks_for_nothing.ensures in
    allotted_none a s t alike (rest.some base hard seats levels last calls fit free none) (rest.none s free none)
