-- A taker's fault, passed on as one of the input.
use Rattle.std.proofs.Common.{◌≡◌, true≢false, Result, Ok, Err, IsErrAnd, MatchResult, IfErr, OnOk, is_ok, sym, subst}
use Rattle.line_engine.specs.Input.{IsLineFault}
use Rattle.line_engine.specs.declared.fault.InputFault.{InputFault}
use Rattle.line_engine.specs.declared.fault.InputFault.TheVariants.{Taker}

-- two results that are both values, or both faults
pub on_ok-passed : {T E F : Type 0} (r : Result T E) (s : Result T F) (P Q : Type 0) → is_ok s ≡ is_ok r → (P → Q) → OnOk r P → OnOk s Q
on_ok-passed (Ok x) (Ok y) P Q e f p = f p
on_ok-passed (Ok x) (Err y) P Q e f p = tt
on_ok-passed (Err x) (Err y) P Q e f p = tt
on_ok-passed (Err x) (Ok y) P Q e f p = absurd (true≢false e)

pub fault-passed : {T F : Type 0} (r : Result T F) (s : Result T (InputFault F)) (stops : F → Type 0) → MatchResult r (λ x. s ≡ Ok x) (λ fault. IsErrAnd s (λ passed. passed ≡ Taker fault)) → IfErr r stops → IfErr s (IsLineFault stops)
fault-passed (Ok x) (Ok y) stops h why = tt
fault-passed (Ok x) (Err y) stops h why = cc
fault-passed (Err x) (Ok y) stops h why = absurd h
fault-passed (Err x) (Err y) stops h why = subst (λ fault. IsLineFault stops fault) (sym h) why
