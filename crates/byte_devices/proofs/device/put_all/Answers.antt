use Rattle.std.proofs.Common.{◌∙◌, arith}
use Rattle.std.proofs.lemmas.Grind.{common_steps}
use Rattle.byte_devices.proofs.Known.{WritesFront-take, Appends-more, Appends-then_none, still_working}
use Rattle.byte_devices.proofs.device.put_all.Goals as goal

pub returns-in_default-clause-prefix : goal.returns-in_default-clause-prefix
returns-in_default-clause-prefix g c =
    WritesFront-take _ _ c.args.text.now c.loop-at.at (Appends-then_none _ _ _ _ c.loop-at.invariant.wrote c.in_default.ensures.none_taken)

pub returns-then-count-eq0-clause-prefix : goal.returns-then-count-eq0-clause-prefix
returns-then-count-eq0-clause-prefix g c =
    WritesFront-take _ _ c.args.text.now _ (Appends-more _ _ _ c.args.text.now c.loop-at.at c.in-Ok.count c.loop-at.invariant.wrote c.in-Ok.ensures.taken)

pub loop-at-preserved : goal.loop-at-preserved
loop-at-preserved g c = record {
  within = let b = c.in-Ok.ensures.within in grind (arith, common_steps);
  wrote = Appends-more _ _ _ c.args.text.now c.loop-at.at c.in-Ok.count c.loop-at.invariant.wrote c.in-Ok.ensures.taken;
  working = still_working _ _ _ _ c.if-count-eq0.false c.in-Ok.ensures.failed ∙ c.loop-at.invariant.working;
}
