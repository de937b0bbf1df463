-- What an arena may use and has asked for, and how that changes.
use Rattle.std.specs.Prelude.{ℕ, ◌-◌, ℤ, pos, negsuc, ◌+ℤ◌, ◌^◌, min, Bool, false, ◌||◌, ◌&&◌, not, nat_lt, nat_le, ◌==◌, if◌then◌else◌, Result, Ok, Err}
use Rattle.market_types.specs.declared.reply.Fault.{Fault}
use Rattle.market_types.specs.declared.reply.Fault.TheVariants.{BadSlots, BadReserve, WantedRange, MandatoryRange}
use Rattle.market_types.specs.State.{Claim}

-- how many workers an arena can use: its slots but the reserved ones (oneTBB's task_arena); an arena of one slot, which is
-- reserved, still has a worker for enqueued work (own)
abbrev pub cap_of : Claim → ℕ
cap_of c = if c.slots == 1 && c.reserved == 1 && nat_lt 0 c.mandatory then 1 else c.slots - c.reserved

-- a signed total, at least 0 and at most `cap`
abbrev pub clamp_total : ℤ → ℕ → ℕ
clamp_total (pos n) cap = min n cap
clamp_total (negsuc n) cap = 0

-- how many workers an arena asks for (own)
abbrev pub request_of : Claim → ℕ
request_of c = clamp_total c.wanted (cap_of c)

-- the arena has enqueued work, and asks for some worker (own)
abbrev pub is_mandated : Claim → Bool
is_mandated c = nat_lt 0 (request_of c) && nat_lt 0 c.mandatory

-- why an arena cannot have these slots, or the claim that can (own)
abbrev pub sized : ℕ → ℕ → Claim → Result Claim Fault
sized slots reserved c =
    if slots == 0 || nat_lt 65535 slots then Err BadSlots
    else if nat_lt slots reserved then Err BadReserve
    else Ok c

-- the claim of a new arena, or why there is none
abbrev pub new_claim : ℕ → ℕ → Result Claim Fault
new_claim slots reserved =
    sized slots reserved (record { slots = slots; reserved = reserved; wanted = pos 0; mandatory = 0 })

-- the same totals with other slots
abbrev pub with_slots : Claim → ℕ → ℕ → Claim
with_slots c slots reserved = record c { slots = slots; reserved = reserved }

-- the claim with other slots, or why it cannot have them
abbrev pub resized_claim : Claim → ℕ → ℕ → Result Claim Fault
resized_claim c slots reserved = sized slots reserved (with_slots c slots reserved)

-- the totals' ranges
abbrev pub is_wanted : ℤ → Bool
is_wanted (pos n) = nat_lt n (2 ^ 31)
is_wanted (negsuc n) = nat_lt n (2 ^ 31)

abbrev pub is_mandatory : ℤ → Bool
is_mandatory (pos n) = nat_le n 65535
is_mandatory (negsuc n) = false

-- the natural number of a whole one, and 0 of one below 0
abbrev pub natural : ℤ → ℕ
natural (pos n) = n
natural (negsuc n) = 0

-- the claim after an addition to both totals, or why it is refused (own)
abbrev pub added_claim : Claim → ℤ → ℤ → Result Claim Fault
added_claim c workers mandatory =
    if not (is_wanted (c.wanted +ℤ workers)) then Err WantedRange
    else if not (is_mandatory (pos c.mandatory +ℤ mandatory)) then Err MandatoryRange
    else Ok (record c { wanted = c.wanted +ℤ workers; mandatory = natural (pos c.mandatory +ℤ mandatory) })
