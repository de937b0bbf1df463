-- What becomes of an arena's claim.
use Rattle.std.specs.Prelude.{Option, None, Some, Result, Err}
use Rattle.market_types.specs.declared.reply.Fault.{Fault}
use Rattle.market_types.specs.declared.reply.Fault.TheVariants.{NoArena}
use Rattle.market_types.specs.State.{Arena, Claim}
use Rattle.market_types.specs.Claims.{added_claim, resized_claim}
use Rattle.arena_store.specs.declared.change.Change.{Change}
use Rattle.arena_store.specs.declared.change.Change.TheVariants.{Add, Resize}

-- the claim that is made of one, or the refusal
abbrev pub changed : Change → Claim → Result Claim Fault
changed (Add workers mandatory) claim = added_claim claim workers mandatory
changed (Resize slots reserved) claim = resized_claim claim slots reserved

-- the same of an arena that may be missing
abbrev pub changed_at : Option Arena → Change → Result Claim Fault
changed_at None change = Err NoArena
changed_at (Some a) change = changed change a.claim
