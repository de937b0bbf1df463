-- A text in one piece.
use Rattle.std.proofs.Common.{◌≡◌, ℕ, ◌+◌, ◌≤◌, List, [], ◌++◌, length, false, Option, None, sym, subst, ◌∙◌, arith}
use Rattle.line_engine.specs.Lines.{Line, whole_lines, last_line, lines_of}
use Rattle.line_engine.specs.Rule.{LineRule, after}
use Rattle.line_engine.specs.Input.{StopsAt, IsLineFault}
use Rattle.line_engine.specs.Pieces.{Takes, IsPieceFault}
use Rattle.line_engine.specs.declared.fault.InputFault.{InputFault}
use Rattle.line_engine.proofs.Taking.{no_lf-nil, takes-begun, all-state, stops-piece, stops-end}
use Rattle.line_engine.proofs.Feeding.{line-fault-of-piece}

module _ {S : Type 0} (rule : LineRule S) (longest : ℕ) where
  -- nothing was unfinished before it
  takes-whole : (begun s now : S) (a b : Option (List ℕ)) (open_before text u : List ℕ) → begun ≡ s → open_before ≡ [] → Takes rule longest begun now a b (open_before ++ text) [] u → Takes rule longest s now a b text [] u
  takes-whole begun s now a b open_before text u same none t = subst (λ (z : S × List ℕ). Takes rule longest z.0 now a b (z.1 ++ text) [] u) (λ i. (same i, none i)) t

  pub whole-state : (begun s now last : S) (a b : Option (List ℕ)) (open_before text u : List ℕ) → begun ≡ s → open_before ≡ [] → Takes rule longest begun now a b (open_before ++ text) [] u
      → last ≡ after rule now (last_line longest u) → last ≡ after rule s (lines_of longest text)
  whole-state begun s now last a b open_before text u same none t is =
      is ∙ sym (all-state rule longest s now a b text u (takes-whole begun s now a b open_before text u same none t))

  module _ {F : Type 0} (stops : S → Line → F → Type 0) where
    -- a line that an LF ends was not taken
    pub whole-stops : (begun s : S) (open_before text : List ℕ) (fault : InputFault F) → begun ≡ s → open_before ≡ [] → IsPieceFault (StopsAt rule stops begun (whole_lines longest (open_before ++ text))) fault false
        → IsLineFault (StopsAt rule stops s (lines_of longest text)) fault
    whole-stops begun s open_before text fault same none why =
        let short : length {A = ℕ} [] ≤ longest + 1 = omega arith in
        line-fault-of-piece (StopsAt rule stops s (whole_lines longest text)) (StopsAt rule stops s (lines_of longest text))
        (λ f h. stops-piece rule longest stops s s None None [] [] text f (takes-begun rule longest s None [] no_lf-nil short) h) fault
        (subst (λ (z : S × List ℕ). IsPieceFault (StopsAt rule stops z.0 (whole_lines longest (z.1 ++ text))) fault false) (λ i. (same i, none i)) why)

    -- the last line was not taken
    pub whole-stops_last : (begun s now : S) (a b : Option (List ℕ)) (open_before text u : List ℕ) (fault : InputFault F) → begun ≡ s → open_before ≡ [] → Takes rule longest begun now a b (open_before ++ text) [] u
        → IsPieceFault (StopsAt rule stops now (last_line longest u)) fault false → IsLineFault (StopsAt rule stops s (lines_of longest text)) fault
    whole-stops_last begun s now a b open_before text u fault same none t why =
        line-fault-of-piece (StopsAt rule stops now (last_line longest u)) (StopsAt rule stops s (lines_of longest text))
        (λ f h. stops-end rule longest stops s now a b text u f (takes-whole begun s now a b open_before text u same none t) h) fault why
