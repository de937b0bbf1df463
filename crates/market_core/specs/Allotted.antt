use Rattle.std.specs.Prelude.{ℕ, ◌≤◌, sum_by}
use Rattle.market_types.specs.State.{Arena, State}
use Rattle.market_types.specs.Claims.{cap_of, request_of}
use Rattle.market_types.specs.Allotment.{allotment_of, active, at_level}
use Rattle.market_types.specs.declared.reply.Reply.{Reply}
use Rattle.market_types.specs.declared.reply.Reply.TheVariants.{Placed, Recalled}

-- an arena is allotted no more than it asks for, asks for no more than it can use, and can use no more than its slots
pub record IsWithin (s : State) (a : Arena) : Type 0 where
  pub allotted : allotment_of s a.number ≤ request_of a.claim
  pub asked : request_of a.claim ≤ cap_of a.claim
  pub usable : cap_of a.claim ≤ a.claim.slots

-- what all arenas are allotted together
abbrev pub total_allotment : State → ℕ
total_allotment s = sum_by (λ (a : Arena). allotment_of s a.number) s.arenas

-- what the arenas of a level are allotted together
abbrev pub level_allotment : State → ℕ → ℕ
level_allotment s level = sum_by (λ (a : Arena). allotment_of s a.number) (at_level level s.arenas)

-- after a worker was placed its arena has no more workers than it is allotted, and after one was recalled no fewer
abbrev pub IsStaffed : Reply → State → Type 0
IsStaffed (Placed a) s = active s a ≤ allotment_of s a
IsStaffed (Recalled a) s = allotment_of s a ≤ active s a
IsStaffed _ s = Unit {0}
