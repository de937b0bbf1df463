use Rattle.std.proofs.Common.{ap, subst, min, ◌≡◌, ◌∙◌}
use Rattle.market_types.specs.State.{State}
use Rattle.market_types.specs.Allotment.{assigned_to, bound_of, limit_of, effective_limit_of, total_request}
use Rattle.market_types.specs.declared.reply.LimitView.{LimitView}
use Rattle.arena_store.specs.Arenas.{StandOnce}
use Rattle.market_core.proofs.market.Market.divide.Goals as goal
use Rattle.market_core.proofs.market.Market.divide.Goals.{then-limits-eq0, else-limits-eq0}

pub returns-clause-exact : goal.returns-clause-exact
returns-clause-exact c =
    let s = c.args.self.now in
    let limit : c.limits-limits.result.limit ≡ limit_of s = ap (λ (l : LimitView). l.limit) c.limits-limits.ensures.exact in
    let effective : c.limits-limits.result.effective ≡ effective_limit_of s = ap (λ (l : LimitView). l.effective) c.limits-limits.ensures.exact in
    let total : c.sum_of.result ≡ total_request s.arenas = c.sum_of.ensures.exact ∙ c.bound_is_given_out.ensures.asked s c.demands-demands.result c.demands-demands.ensures.leveled c.demands-demands.ensures.exact in
    let bound : c.min-bound.result ≡ bound_of s = c.min-bound.ensures ∙ ap (λ n. min n c.from.result) total ∙ ap (λ n. min (total_request s.arenas) n) (c.from.ensures ∙ effective) in
    record {
      once = subst (λ (t : State). StandOnce t.arenas) c.self.view_is c.stand_once.ensures;
      leveled = c.demands-demands.ensures.leveled;
      limit = limit;
      bound = bound;
      demands = c.demands-demands.ensures.exact;
      size = c.demands-demands.ensures.size;
      small = c.demands-demands.ensures.small;
      given = c.assign.ensures.exact ∙ ap (assigned_to c.demands-demands.result) c.from-2.ensures;
      assigned = λ level low high. c.assign.ensures.in_market s c.demands-demands.ensures.exact (c.from-2.ensures ∙ bound) level low high;
      within = c.assign.ensures.no_more_than_asked;
      picked = λ none. elim c.if-limits-eq0.branch [
        | then-limits-eq0 w ↦ w.picked-is ∙ w.mandatory_arena-picked.ensures.exact
        | else-limits-eq0 w ↦ absurd (w.if-limits-eq0.false (limit ∙ none))
      ];
    }
