-- One seat: where its own entries place it.
use Rattle.std.specs.Prelude.{ℕ, List, Option, None}
use Rattle.std.specs.List.{fold}
use Rattle.market_types.specs.declared.reply.Entry.{Entry}
use Rattle.market_types.specs.History.{place_after}

-- where a seat is after these entries of its own: `place_in seat history` is `own_place (of_seat seat history)`
abbrev pub own_place : List Entry → Option ℕ
own_place own = fold (λ place (e : Entry). place_after place e.reply) None own
