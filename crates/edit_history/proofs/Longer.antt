-- A history one entry longer.
use Rattle.std.proofs.Common.{◌≡◌, List, [], ◌∷◌, ◌++◌, refl, ap, sym, ◌∙◌}
use Rattle.std.specs.Prelude.{map}
use Rattle.market_types.specs.declared.reply.Entry.{Entry}
use Rattle.market_types.specs.State.{State}
use Rattle.market_types.specs.Step.{step}
use Rattle.market_types.specs.History.{IsLegal, calls_of, state_after, replies_to}

pub state-longer : (s : State) (log : List Entry) (e : Entry) → state_after s (calls_of (log ++ e ∷ [])) ≡ (step (state_after s (calls_of log)) e.call.seat e.call.cmd).1
state-longer s [] e = refl
state-longer s (x ∷ xs) e = state-longer (step s x.call.seat x.call.cmd).1 xs e

replies-longer : (s : State) (log : List Entry) (e : Entry) → replies_to s (calls_of (log ++ e ∷ [])) ≡ replies_to s (calls_of log) ++ (step (state_after s (calls_of log)) e.call.seat e.call.cmd).0 ∷ []
replies-longer s [] e = refl
replies-longer s (x ∷ xs) e = ap (λ l. (step s x.call.seat x.call.cmd).0 ∷ l) (replies-longer (step s x.call.seat x.call.cmd).1 xs e)

map-longer : (log : List Entry) (e : Entry) → map (λ (x : Entry). x.reply) (log ++ e ∷ []) ≡ map (λ (x : Entry). x.reply) log ++ e.reply ∷ []
map-longer [] e = refl
map-longer (x ∷ xs) e = ap (λ l. x.reply ∷ l) (map-longer xs e)

pub legal-longer : (s : State) (log : List Entry) (e : Entry) → IsLegal s log → e.reply ≡ (step (state_after s (calls_of log)) e.call.seat e.call.cmd).0 → IsLegal s (log ++ e ∷ [])
legal-longer s log e legal here = map-longer log e ∙ ((λ i. legal i ++ here i ∷ []) ∙ sym (replies-longer s log e))
