use Rattle.std.proofs.Common.{◌≡◌, take}
use Rattle.control_set.specs.Controls.{least_of}
use Rattle.control_set.proofs.control.least_of.Given as goal

-- the least of the controls so far
abbrev pub invariant-loop-control : goal.invariant-loop-control
invariant-loop-control l = l.least ≡ least_of (take l.control-index l.controls)
