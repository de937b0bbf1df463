-- The numbers of the answers (own).
use Rattle.std.specs.Prelude.{◌≡◌, ◌≢◌, ◌≤◌, ℤ, pos, negsuc}
use Rattle.market_types.specs.declared.reply.Fault.{Fault}
use Rattle.market_types.specs.declared.reply.Fault.TheVariants.{BadSlots, BadReserve, TooManyArenas, OutOfNumbers, NoArena, Busy, WantedRange, MandatoryRange, BadValue, TooManyControls, NoControl, AlreadyPlaced, NotPlaced, BadLevel}
use Rattle.market_types.specs.declared.reply.OpenFault.{OpenFault}
use Rattle.market_types.specs.declared.reply.OpenFault.TheVariants.{BadBase, BadHard, BadSeats, BadPlaces, BadLevels, Memory}
use Rattle.market_types.specs.declared.reply.Reply.{Reply}
use Rattle.market_types.specs.declared.reply.Reply.TheVariants.{Refused}
use Rattle.market_seat.specs.declared.answer.WhyNot.{WhyNot}
use Rattle.market_seat.specs.declared.answer.WhyNot.TheVariants.{StillPlaced, OthersOut, Memory as OutOfMemory}

-- the number of a refusal
abbrev pub code_of : Fault → ℤ
code_of BadSlots = pos 11
code_of BadReserve = pos 12
code_of TooManyArenas = pos 13
code_of OutOfNumbers = pos 14
code_of NoArena = pos 15
code_of (Busy seats) = pos 16
code_of WantedRange = pos 17
code_of MandatoryRange = pos 18
code_of BadValue = pos 19
code_of TooManyControls = pos 20
code_of NoControl = pos 21
code_of (AlreadyPlaced arena) = pos 22
code_of NotPlaced = pos 23
code_of BadLevel = pos 24

-- the number of why a market is not opened
abbrev pub open_code : OpenFault → ℤ
open_code BadBase = pos 31
open_code BadHard = pos 32
open_code BadSeats = pos 33
open_code BadPlaces = pos 34
open_code BadLevels = pos 35
open_code Memory = negsuc 0

-- the number of why a seat is not taken back, or a market not closed
abbrev pub why_code : WhyNot → ℤ
why_code StillPlaced = pos 7
why_code OthersOut = pos 6
why_code OutOfMemory = negsuc 0

-- the number is that of the reply's refusal, or says that the reply is none
abbrev pub IsRefusal : ℤ → Reply → Type 0
IsRefusal code (Refused fault) = code ≡ code_of fault
IsRefusal code _ = code ≡ negsuc 8

-- the number is none of those that say that nothing was answered, nor that all was done
abbrev pub IsAnswer : ℤ → Type 0
IsAnswer code = (code ≢ pos 0) × (code ≢ pos 1) × (code ≢ pos 2) × (code ≢ negsuc 0) × (code ≢ negsuc 1)

-- the number is that of some refusal
abbrev pub IsRefused : ℤ → Type 0
IsRefused (pos n) = (11 ≤ n) × (n ≤ 24)
IsRefused (negsuc n) = ⊥

-- the number says neither that all was done nor that the call was refused
abbrev pub IsUndone : ℤ → Type 0
IsUndone code = (code ≢ pos 0) × (IsRefused code → ⊥)
