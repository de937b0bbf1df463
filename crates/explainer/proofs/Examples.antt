-- Explanations worked out by hand: each holds by computation.
use Rattle.std.specs.Prelude.{◌≡◌, ℕ, pos, List, [], ◌∷◌, ◌++◌, map, codes, refl}
use Rattle.std.specs.Fmt.{digits}
use Rattle.market_types.specs.declared.command.Cmd.{Cmd}
use Rattle.market_types.specs.declared.command.Cmd.TheVariants.{Open, Request, Control as ControlBy}
use Rattle.market_types.specs.declared.command.Call.{Call}
use Rattle.market_types.specs.State.{opening}
use Rattle.market_types.specs.History.{state_after}
use Rattle.explainer.specs.Explanation.{explanation_text}

-- the explanation of a market of base 8, hard limit 64 and so many levels, after these commands of a seat
abbrev explained : ℕ → List Cmd → List ℕ
explained levels cmds =
    explanation_text (state_after (opening 8 64 4 levels) (map (λ cmd. let call : Call = record { seat = 0; cmd = cmd } in call) cmds))

-- each line with its LF
abbrev lines : List (List ℕ) → List ℕ
lines [] = []
lines (line ∷ more) = line ++ (codes "\n" ++ lines more)

five_workers :
    explained 3 (ControlBy 6 ∷ Open 8 1 2 ∷ Open 8 1 2 ∷ Open 8 1 2 ∷ Request 1 (pos 3) (pos 0) ∷ Request 3 (pos 4) (pos 0) ∷ [])
    ≡ lines (codes "value 6 limit 5 effective 5 demand 7 workers 5"
    ∷ codes "level high   demand        0 assigned     0 left     5"
    ∷ codes "level normal demand        7 assigned     5 left     0"
    ∷ codes "arena       3 request     4 carry        0 product         20 allot     2 rest        6 top yes active     0 recall     0 hire     2"
    ∷ codes "arena       2 request     0 carry        - product          - allot     0 rest        - top no  active     0 recall     0 hire     0"
    ∷ codes "arena       1 request     3 carry        6 product         21 allot     3 rest        0 top yes active     0 recall     0 hire     3"
    ∷ codes "level low    demand        0 assigned     0 left     0"
    ∷ [])
unfolding digits
five_workers = refl

enqueued_work :
    explained 3 (ControlBy 1 ∷ Open 8 1 1 ∷ Open 8 1 3 ∷ Request 1 (pos 2) (pos 0) ∷ Request 2 (pos 1) (pos 1) ∷ [])
    ≡ lines (codes "value 1 limit 0 effective 1 demand 3 workers 1"
    ∷ codes "level high   demand        2 assigned     0 left     1"
    ∷ codes "arena       1 request     2 carry        - product          - allot     0 rest        - top yes active     0 recall     0 hire     0"
    ∷ codes "level normal demand        0 assigned     0 left     1"
    ∷ codes "level low    demand        1 assigned     1 left     0"
    ∷ codes "arena       2 request     1 carry        - product          - allot     1 rest        - top no  active     0 recall     0 hire     1"
    ∷ [])
unfolding digits
enqueued_work = refl

no_arena :
    explained 3 []
    ≡ lines (codes "value 8 limit 7 effective 7 demand 0 workers 0"
    ∷ codes "level high   demand        0 assigned     0 left     0"
    ∷ codes "level normal demand        0 assigned     0 left     0"
    ∷ codes "level low    demand        0 assigned     0 left     0"
    ∷ [])
unfolding digits
no_arena = refl
