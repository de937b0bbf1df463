use Rattle.std.proofs.Common.{◌≤◌, ◌+◌, ◌-◌, length, arith}
use Rattle.std.proofs.lemmas.Grind.{common_steps}
use Rattle.line_engine.proofs.Handed.{kept, no_lf-kept, short-kept}
use Rattle.line_engine.proofs.lines.Lines.keep.Goals as goal

pub returns-clause-kept : goal.returns-clause-kept
returns-clause-kept g c =
    let s = c.args.self.now in
    let short : length s.unfinished.items ≤ g.A.LineTaker.LONGEST + 1 = omega (arith, s.unfinished.ok.0, s.short) in
    let k = kept (g.A.LineTaker.LONGEST + 1) s.unfinished.items c.args.part.now short in
    grind (arith, common_steps, k, s.unfinished.ok.0)

pub invariant_of-self : goal.invariant_of-self
invariant_of-self g c =
    let s = c.args.self.now in
    let e = c.extend_from_slice.ensures in
    let room : c.min-count.result ≤ (g.A.LineTaker.LONGEST + 1) - s.unfinished.len = omega arith in
    record { no_lf = no_lf-kept _ s.unfinished.items c.args.part.now _ c.min-count.result s.no_lf c.requires e.items; short = short-kept _ _ _ c.min-count.result (g.A.LineTaker.LONGEST + 1) c.args.part.now e.len s.short room }
