-- What is so of an attempt that was made, and of one that found the desk away (own).
use Rattle.market_lock.specs.declared.attempt.Attempt.{Attempt}
use Rattle.market_lock.specs.declared.attempt.Attempt.TheVariants.{Made, Busy}

-- where the call was made, this holds of what it gave
abbrev pub IfMade : {T B : Type 0} → Attempt T B → (T → Type 0) → Type 0
IfMade (Made answer) P = P answer
IfMade (Busy back) P = Unit {0}

-- where another caller had the desk, this holds of what came back
abbrev pub IfBusy : {T B : Type 0} → Attempt T B → (B → Type 0) → Type 0
IfBusy (Made answer) P = Unit {0}
IfBusy (Busy back) P = P back
