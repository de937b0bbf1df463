use Rattle.edit_history.proofs.Placed.{place-by-own}
use Rattle.edit_history.proofs.law.own_entries_place_a_seat.Goals as goal

pub returns : goal.returns
returns c = place-by-own
