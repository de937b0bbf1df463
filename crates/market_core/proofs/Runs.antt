use Rattle.std.proofs.Common.{◌≡◌, ℕ, ◌+◌, ◌<◌, List, [], ◌∷◌, ◌++◌, length, get_or, take, refl, sym, ap, ◌∙◌}
use Rattle.std.proofs.lemmas.List.{take_more}
use Rattle.market_types.specs.declared.command.Call.{Call}
use Rattle.market_types.specs.State.{State}
use Rattle.market_types.specs.Step.{step}
use Rattle.market_types.specs.History.{state_after}

state_after-append : (s : State) (calls : List Call) (c : Call) → state_after s (calls ++ c ∷ []) ≡ (step (state_after s calls) c.seat c.cmd).1
state_after-append s [] c = refl
state_after-append s (d ∷ calls) c = state_after-append (step s d.seat d.cmd).1 calls c

-- one call more
pub state_after_more : (s : State) (calls : List Call) (i : ℕ) (c : Call) → i < length calls → c ≡ get_or calls i c
    → state_after s (take (i + 1) calls) ≡ (step (state_after s (take i calls)) c.seat c.cmd).1
state_after_more s calls i c within e =
    ap (state_after s) (take_more calls i c within ∙ ap (λ d. take i calls ++ d ∷ []) (sym e)) ∙ state_after-append s (take i calls) c
