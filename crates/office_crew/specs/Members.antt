-- Callers with their tasks. No clause of a public call has these words (own).
use Rattle.std.specs.Prelude.{◌≡◌, List, [], ◌∷◌, ◌++◌, Option, Some, map, reverse}
use Rattle.std.specs.List.{AllZip, flat_map}
use Rattle.std.specs.Option.{IsSomeAnd}
use Rattle.market_lock.specs.Seen.{OfPass, OfPlaced, IsSamePass}
use Rattle.office_crew.specs.Callers.{who_is}
use Rattle.office_crew.specs.declared.caller.Caller.{Caller}
use Rattle.office_crew.specs.declared.caller.Caller.TheVariants.{Free, Working}

-- a caller, if it is there, and its task
pub record OfMember (T : Type 0) : Type 0 where
  pub caller : Option (Caller OfPass OfPlaced)
  pub task : T

abbrev pub tasks_of : {T : Type 0} → List (OfMember T) → List T
tasks_of {T} ms = map (λ (m : OfMember T). m.task) ms

-- this is so of its caller
abbrev pub IsCaller : {T : Type 0} → (OfPass → Type 0) → OfMember T → Type 0
IsCaller P m = IsSomeAnd m.caller (λ c. P (who_is c))

-- its caller is this pass
abbrev pub HasPass : {T : Type 0} → OfPass → OfMember T → Type 0
HasPass p m = m.caller ≡ Some (Free p)

-- its task worked with its caller, once
abbrev pub HasDone : {T : Type 0} → (T → OfPass → T → OfPass → Type 0) → OfMember T → OfMember T → Type 0
HasDone worked m n = IsCaller (λ p. IsCaller (λ q. worked m.task p n.task q × IsSamePass p q) n) m

-- the caller, where it is a pass, and where it is placed
abbrev pub free_in : Option (Caller OfPass OfPlaced) → List OfPass
free_in (Some (Free p)) = p ∷ []
free_in caller = []

abbrev pub working_in : Option (Caller OfPass OfPlaced) → List OfPlaced
working_in (Some (Working q)) = q ∷ []
working_in caller = []

-- those of these members
abbrev pub free_of : {T : Type 0} → List (OfMember T) → List OfPass
free_of {T} ms = flat_map (λ (m : OfMember T). free_in m.caller) ms

abbrev pub working_of : {T : Type 0} → List (OfMember T) → List OfPlaced
working_of {T} ms = flat_map (λ (m : OfMember T). working_in m.caller) ms

-- the last passes and the last tasks became these members, the last first
pub record AreSeated {T : Type 0} (passes left : List OfPass) (tasks waiting : List T) (ms : List (OfMember T)) : Type 0 where
  pub taken : List OfPass
  pub passes_are : passes ≡ left ++ taken
  pub tasks_are : tasks ≡ waiting ++ tasks_of (reverse ms)
  pub paired : AllZip HasPass taken (reverse ms)
