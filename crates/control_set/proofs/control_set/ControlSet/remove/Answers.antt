use Rattle.std.proofs.Common.{◌∙◌, ap, sym, subst}
use Rattle.std.specs.Prelude.{not, ◌==◌}
use Rattle.std.specs.List.{All}
use Rattle.std.proofs.lemmas.List.Elements.{All-filter}
use Rattle.market_types.specs.State.{Control}
use Rattle.control_set.specs.Controls.{least_of}
use Rattle.control_set.proofs.Least.{InRange}
use Rattle.control_set.proofs.control_set.ControlSet.remove.Goals as goal

pub invariant_of-self : goal.invariant_of-self
invariant_of-self c =
    record {
      least_kept = c.least_of-self-inside.ensures ∙ ap least_of c.deref-2.ensures.value;
      values = subst (All InRange) (sym c.take_out.ensures) (All-filter (λ (d : Control). not (d.number == c.args.id)) InRange c.self.inside.controls.items c.self.invariant.values);
    }
