-- An office that keeps no entries has places for each call.
use Rattle.std.proofs.Common.{◌≡◌, ℕ, ◌+◌, ◌≤◌, length, Result, Ok, Err, ap, sym, ◌∙◌, subst, arith}
use Rattle.std.proofs.Math.Nat.{min-eq_left}
use Rattle.std.proofs.lemmas.List.{length-replicate}
use Rattle.std.specs.Prelude.{IfOk, None}
use Rattle.market_types.specs.declared.command.Cmd.{Cmd}
use Rattle.market_types.specs.declared.reply.OpenFault.{OpenFault}
use Rattle.edit_history.specs.Chronicled.{Chronicled}
use Rattle.edit_history.specs.Places.{LacksPlaces}
use Rattle.edit_history.specs.declared.keeping.Keeping.{Keeping}
use Rattle.edit_history.specs.declared.keeping.Keeping.TheVariants.{Nothing}
use Rattle.market_lock.specs.Forgetting.{forgotten}
use Rattle.edit_history.specs.declared.terms.Terms.{Terms}
use Rattle.market_lock.specs.Views.{opening_of, chronicle_of, IsEndless}
use Rattle.market_lock.specs.Seen.{OfOffice}

-- who has forgotten all, and has two places more than seats, is never full
abbrev pub NeverFull : Type 0
NeverFull = (c : Chronicled) (seat : ℕ) (cmd : Cmd) → c.from ≡ length c.log → length c.start.seats + 2 ≤ c.places → LacksPlaces c seat cmd → ⊥

pub endless-by : NeverFull → (t : Terms) → t.keeping ≡ Nothing → t.opening.seats + 2 ≤ t.places → IsEndless t
endless-by law t keeps places log seat cmd few lacks =
    let seats : length (opening_of t).seats ≡ t.opening.seats = length-replicate t.opening.seats None in
    let from : forgotten t.keeping (length log) 0 ≡ length log = ap (λ (k : Keeping). forgotten k (length log) 0) keeps ∙ min-eq_left few in
    law (chronicle_of t log) seat cmd from (omega (arith, seats, places)) lacks

pub endless-of : {A : Type 0} (r : Result (OfOffice × A) OpenFault) (t : Terms) → IfOk r (λ o. o.0.terms ≡ t) → IsEndless t → IfOk r (λ o. IsEndless o.0.terms)
endless-of (Ok o) t same endless = subst IsEndless (sym same) endless
endless-of (Err fault) t same endless = tt
