use Rattle.std.proofs.Common.{rules}
use Rattle.std.specs.Prelude.{not, ◌==◌}
use Rattle.std.proofs.lemmas.Fn.{filter_same}
use Rattle.market_types.specs.State.{Control}
use Rattle.control_set.proofs.control.take_out.Goals as goal

pub returns : goal.returns
returns c = filter_same _ (λ (d : Control). not (d.number == c.args.id)) _ (λ x b f' k. search rules) _ _ c.retain.ensures.filtered
