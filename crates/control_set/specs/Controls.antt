-- The living controls of a market.
use Rattle.std.specs.Prelude.{◌≡◌, ℕ, ◌+◌, ◌≤◌, min, Bool, ◌||◌, not, nat_lt, nat_le, ◌==◌, if◌then◌else◌, List, [], ◌∷◌, ◌++◌, map, length, Option, None, Some, Result, Ok, Err, All}
use Rattle.std.specs.List.{filter, list_any, reduce}
use Rattle.market_types.specs.declared.reply.Fault.{Fault}
use Rattle.market_types.specs.declared.reply.Fault.TheVariants.{BadValue, TooManyControls, OutOfNumbers}
use Rattle.market_types.specs.State.{Control}

-- the controls that live, oldest first, and the number of the next
pub record Controls : Type 0 where
  pub living : List Control
  pub next : ℕ

-- the number of a new control of this value, which is no later than the last, or the first refusal that applies
abbrev pub new_control : Controls → ℕ → ℕ → Result ℕ Fault
new_control c value last =
    if value == 0 || nat_lt 65536 value then Err BadValue
    else if nat_le 256 (length c.living) then Err TooManyControls
    else if nat_lt last c.next then Err OutOfNumbers
    else Ok c.next

-- with a new control of this value, the youngest
abbrev pub with_control : Controls → ℕ → Controls
with_control c value =
    record { living = c.living ++ record { number = c.next; value = value } ∷ []; next = c.next + 1 }

-- without the control of this number
abbrev pub without_control : Controls → ℕ → Controls
without_control c number = record c { living = filter (λ (d : Control). not (d.number == number)) c.living }

-- a control of this number lives
abbrev pub is_living : Controls → ℕ → Bool
is_living c number = list_any (λ (d : Control). d.number == number) c.living

-- the least value, where some control lives
abbrev pub least_of : List Control → Option ℕ
least_of controls = reduce min (map (λ (d : Control). d.value) controls)

-- the least so far and one value more
abbrev pub least_with : Option ℕ → ℕ → Option ℕ
least_with None value = Some value
least_with (Some least) value = Some (min least value)

-- what is kept of the controls: their least value, and the range of values
pub record IsKept (living : List Control) (least : Option ℕ) : Type 0 where
  pub least_kept : least ≡ least_of living
  pub values : All (λ (d : Control). (1 ≤ d.value) × (d.value ≤ 65536)) living
