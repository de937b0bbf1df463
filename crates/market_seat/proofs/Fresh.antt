-- Passes that are fresh one by one are fresh together.
use Rattle.std.proofs.Common.{◌≡◌, ℕ, ◌<◌, List, length, Some, refl, sym, subst}
use Rattle.std.specs.Prelude.{slice_get, All}
use Rattle.std.proofs.lemmas.Option.{get_or_from_slice_get}
use Rattle.market_lock.specs.Seen.{OfOffice, OfPass, fresh}
use Rattle.market_seat.specs.Seated.{IsFresh}

pub all-fresh : (o : OfOffice) (xs : List OfPass) → ((k : ℕ) → k < length xs → slice_get xs k ≡ Some (fresh o k)) → All (IsFresh o) xs
all-fresh o xs at k d h = subst (IsFresh o) (sym (get_or_from_slice_get xs k (fresh o k) d (at k h))) (refl, refl, refl, refl, refl, refl)
