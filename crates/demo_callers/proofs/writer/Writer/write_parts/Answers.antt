use Rattle.std.proofs.Common.{◌∙◌}
use Rattle.demo_callers.proofs.Parts.{one_more}
use Rattle.demo_callers.proofs.writer.Writer.write_parts.Goals as goal

pub loop-preserved : goal.loop-preserved
loop-preserved g c = record {
  same = let now = c.cut.ensures.same in let before = c.loop.invariant.same in (now.0 ∙ before.0, now.1 ∙ before.1, now.2 ∙ before.2);
  wrote = one_more _ _ _ c.loop.scribe.written c.in_ok-part.part.entries.items c.cut.new.self.written c.in_ok-part.ensures.written c.loop.invariant.wrote c.in_ok-write.ensures.all;
}

pub returns-then-is_over-clause-written : goal.returns-then-is_over-clause-written
returns-then-is_over-clause-written g c =
    one_more _ _ _ c.loop.scribe.written c.in_ok-part.part.entries.items c.cut.new.self.written c.in_ok-part.ensures.written c.loop.invariant.wrote c.in_ok-write.ensures.all
