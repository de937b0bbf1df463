-- What a call more does to the moments of a history.
use Rattle.std.proofs.Common.{◌≡◌, List, [], ◌∷◌, ◌++◌, refl, ap}
use Rattle.market_types.specs.declared.command.Call.{Call}
use Rattle.market_types.specs.State.{State}
use Rattle.market_types.specs.Step.{step}
use Rattle.market_types.specs.History.{state_after}
use Rattle.journal_chart.specs.Numbers.{moments_of}

pub moments-more : (s : State) (calls : List Call) (c : Call) → moments_of s (calls ++ c ∷ []) ≡ moments_of s calls ++ (step (state_after s calls) c.seat c.cmd).1 ∷ []
moments-more s [] c = refl
moments-more s (d ∷ calls) c = ap (λ ms. (step s d.seat d.cmd).1 ∷ ms) (moments-more (step s d.seat d.cmd).1 calls c)

pub state-more : (s : State) (calls : List Call) (c : Call) → state_after s (calls ++ c ∷ []) ≡ (step (state_after s calls) c.seat c.cmd).1
state-more s [] c = refl
state-more s (d ∷ calls) c = state-more (step s d.seat d.cmd).1 calls c
