-- The devices over memory, as contracts see them.
use Rattle.std.specs.Prelude.{ℕ, ◌-◌, ◌^◌, List, ◌++◌, length, take, drop, min, Bool, true, false, Option, Some, None, ◌||◌, ◌&&◌, ◌==◌, nat_lt}
use Rattle.byte_devices.specs.declared.test_device.Refusal.{Refusal}
use Rattle.byte_devices.specs.declared.test_device.Refusal.TheVariants.{Fault, NoneTaken}

-- A source: the bytes left, the most that one read gives, and how many reads still are good, where that is limited.
pub record TestInput : Type 0 where
  pub left : List ℕ
  pub piece : ℕ
  pub good_reads : Option ℕ
  pub failed : Bool
  pub ended : Bool

-- the source of all of the bytes, in one piece
abbrev pub whole_input : List ℕ → TestInput
whole_input bytes = record { left = bytes; piece = 2 ^ 64 - 1; good_reads = None; failed = false; ended = false }

-- no good read is left
abbrev pub is_spent : Option ℕ → Bool
is_spent None = false
is_spent (Some reads) = reads == 0

-- one good read less
abbrev pub after_one : Option ℕ → Option ℕ
after_one None = None
after_one (Some reads) = Some (reads - 1)

-- how many bytes a good read gives into a buffer with that room
abbrev pub given_into : TestInput → ℕ → ℕ
given_into s room = min (min (length s.left) room) s.piece

-- the source after a good read
abbrev pub after_read : TestInput → ℕ → TestInput
after_read s room = record s {
  left = drop (given_into s room) s.left;
  good_reads = after_one s.good_reads;
  ended = s.ended || ((given_into s room == 0) && nat_lt 0 room);
}

-- A sink: the bytes taken, the most that one write takes, how many more it takes, and what it does then.
pub record TestOutput : Type 0 where
  pub taken : List ℕ
  pub piece : ℕ
  pub room : ℕ
  pub refusal : Refusal
  pub failed : Bool

-- the sink that adds to what was taken as many bytes as there is room for, and then fails
abbrev pub whole_output : List ℕ → ℕ → TestOutput
whole_output taken room = record { taken = taken; piece = 2 ^ 64 - 1; room = room; refusal = Fault; failed = false }

-- how many of some bytes a write takes
abbrev pub taken_of : TestOutput → ℕ → ℕ
taken_of s count = min (min count s.room) s.piece

-- bytes are there, and the sink has no room for any
abbrev pub is_refused : TestOutput → ℕ → Bool
is_refused s count = nat_lt 0 count && (s.room == 0)

abbrev pub is_fault : Refusal → Bool
is_fault Fault = true
is_fault NoneTaken = false

-- the sink after a write
abbrev pub after_write : TestOutput → List ℕ → TestOutput
after_write s bytes = record s {
  taken = s.taken ++ take (taken_of s (length bytes)) bytes;
  room = s.room - taken_of s (length bytes);
  failed = s.failed || is_refused s (length bytes);
}
