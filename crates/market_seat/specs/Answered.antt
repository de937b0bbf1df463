-- What is so of an answer (own).
use Rattle.std.specs.Prelude.{ℕ, Bool, true, false, Result, Ok, Err, Option, Some, None}
use Rattle.std.specs.Global.{Global}
use Rattle.std.specs.declared.vec.Vec.{Vec}
use Rattle.market_types.specs.declared.reply.Reply.{Reply}
use Rattle.market_types.specs.declared.reply.Reply.TheVariants.{Placed, Idle, Stays, Recalled as RecalledFrom}
use Rattle.market_types.specs.declared.reply.Entry.{Entry}
use Rattle.edit_history.specs.declared.fault.CallFault.{CallFault}
use Rattle.edit_history.specs.declared.part.Part.{Part}
use Rattle.market_lock.specs.declared.attempt.Attempt.{Attempt}
use Rattle.market_lock.specs.declared.attempt.Attempt.TheVariants as attempt
use Rattle.market_seat.specs.declared.answer.Answer.{Answer}
use Rattle.market_seat.specs.declared.answer.Answer.TheVariants.{Made, Failed, Busy, Unfit}
use Rattle.market_seat.specs.declared.answer.Cutting.{Cutting}
use Rattle.market_seat.specs.declared.answer.Cutting.TheVariants as cutting
use Rattle.market_seat.specs.declared.answer.Kept.{Kept}
use Rattle.market_seat.specs.declared.answer.Kept.TheVariants.{Wanted, Recalled}

-- where the call was made, this holds of its reply
abbrev pub IfAnswered : {T : Type 0} → Answer T → (T → Type 0) → Type 0
IfAnswered (Made reply) P = P reply
IfAnswered _ P = Unit {0}

-- where it was not answered, this holds of the fault
abbrev pub IfFailed : {T : Type 0} → Answer T → (CallFault → Type 0) → Type 0
IfFailed (Failed fault) P = P fault
IfFailed _ P = Unit {0}

-- where nothing was asked, this holds
abbrev pub IfUnasked : {T : Type 0} → Answer T → Type 0 → Type 0
IfUnasked Busy P = P
IfUnasked Unfit P = P
IfUnasked _ P = Unit {0}

-- the seat could not ask this as it was
abbrev pub is_unfit : {T : Type 0} → Answer T → Bool
is_unfit Unfit = true
is_unfit _ = false

-- where the desk was at home for a cut, this holds of the part, or of none
abbrev pub IfCut : Cutting → (Option Part → Type 0) → Type 0
IfCut (cutting.Made answer) P = P answer
IfCut _ P = Unit {0}

-- where it was not, nor was asked for, this holds of the spare vector that came back
abbrev pub IfUncut : Cutting → (Vec Entry Global → Type 0) → Type 0
IfUncut (cutting.Busy back) P = P back
IfUncut (cutting.Unfit back) P = P back
IfUncut _ P = Unit {0}

-- the seat could not ask for a part, being placed
abbrev pub is_unfit_to_cut : Cutting → Bool
is_unfit_to_cut (cutting.Unfit back) = true
is_unfit_to_cut _ = false

-- what an attempt came to
abbrev pub answer_to : {T B : Type 0} → Attempt (Result T CallFault) B → Answer T
answer_to (attempt.Made (Ok reply)) = Made reply
answer_to (attempt.Made (Err fault)) = Failed fault
answer_to (attempt.Busy back) = Busy

-- what a Join is answered that gives this place
abbrev pub joined_by : Option ℕ → Reply
joined_by (Some arena) = Placed arena
joined_by None = Idle

-- what a Stay is answered
abbrev pub stayed_by : Kept → Reply
stayed_by (Wanted arena) = Stays arena
stayed_by (Recalled arena) = RecalledFrom arena

-- the arena that answered, and where its worker then is placed
abbrev pub arena_of : Kept → ℕ
arena_of (Wanted arena) = arena
arena_of (Recalled arena) = arena

abbrev pub place_kept : Kept → Option ℕ
place_kept (Wanted arena) = Some arena
place_kept (Recalled arena) = None
