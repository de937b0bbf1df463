use Rattle.std.proofs.Common.{◌++◌, ◌∙◌, sym, ap, drop, append-nil, arith}
use Rattle.std.proofs.lemmas.List.{drop_all}
use Rattle.market_types.specs.Corrections.{counts_to}
use Rattle.market_texts.specs.Texts.{counts_text}
use Rattle.market_texts.specs.Written.{counts_left, more_counts_text}
use Rattle.market_types.proofs.Corrections.{counts_here, counts_past}
use Rattle.market_texts.proofs.Counts.{counts-step}
use Rattle.market_texts.proofs.Written.{extends_trans}
use Rattle.market_texts.proofs.writing.push_counts.Goals.{then-eq+in_ok-push_comma+in_ok-push_count, else-eq}
use Rattle.market_texts.proofs.writing.push_counts.Goals as goal

pub loop-arena-preserved : goal.loop-arena-preserved
loop-arena-preserved c =
    let i = c.loop-arena.arena-index in
    let a = c.arena-item.result in
    let out = c.loop-arena.out.items in
    elim c.if-eq.branch [
      | then-eq+in_ok-push_comma+in_ok-push_count w ↦
          let next = counts_here c.args.correction c.args.arenas.now i a c.loop-arena-test.true c.arena-item.is (sym c.eq.ensures ∙ w.if-eq.true) in
          record {
            left =
                rw (w.begun-is, w.out-is) (
                counts-step c.loop-arena.begun out w.push_comma.new.out.items w.push_count.new.out.items (a.arena, a.count) _ _ next
                w.in_ok-push_comma.ensures.ok w.in_ok-push_count.ensures.ok
                ∙ c.loop-arena.invariant.left
                );
            kept = rw w.out-is (extends_trans c.loop-arena.invariant.kept (extends_trans w.push_comma.ensures.grows w.push_count.ensures.grows));
          }
      | else-eq w ↦
          let next = counts_past c.args.correction c.args.arenas.now i a c.loop-arena-test.true c.arena-item.is (sym c.eq.ensures ∙ w.if-eq.false) in
          record {
            left = rw (w.begun-is, w.out-is) (ap (λ es. out ++ counts_left c.loop-arena.begun es) (sym next) ∙ c.loop-arena.invariant.left);
            kept = rw w.out-is c.loop-arena.invariant.kept;
          }
    ]

pub returns-in_err-push_comma-clause-grows : goal.returns-in_err-push_comma-clause-grows
returns-in_err-push_comma-clause-grows c = extends_trans c.loop-arena.invariant.kept c.push_comma.ensures.grows

pub returns-in_err-push_count-clause-grows : goal.returns-in_err-push_count-clause-grows
returns-in_err-push_count-clause-grows c =
    extends_trans c.loop-arena.invariant.kept (extends_trans c.push_comma.ensures.grows c.push_count.ensures.grows)

pub returns-then-begun-clause-ok : goal.returns-then-begun-clause-ok
returns-then-begun-clause-ok c =
    let out = c.loop-arena.out.items in
    let left = drop c.loop-arena.arena-index c.args.arenas.now in
    let none = ap (counts_to c.args.correction) (drop_all c.loop-arena.arena-index c.args.arenas.now (omega (arith, c.loop-arena-test.false))) in
    sym (append-nil out) ∙ ap (λ es. out ++ more_counts_text es) (sym none)
    ∙ ap (λ begun. out ++ counts_left begun (counts_to c.args.correction left)) (sym c.if-begun.true) ∙ c.loop-arena.invariant.left

pub returns-else-begun-clause-ok : goal.returns-else-begun-clause-ok
returns-else-begun-clause-ok c =
    let out = c.loop-arena.out.items in
    let left = drop c.loop-arena.arena-index c.args.arenas.now in
    let none = ap (counts_to c.args.correction) (drop_all c.loop-arena.arena-index c.args.arenas.now (omega (arith, c.loop-arena-test.false))) in
    let whole = ap (λ es. out ++ counts_text es) (sym none)
    ∙ ap (λ begun. out ++ counts_left begun (counts_to c.args.correction left)) (sym c.if-begun.false) ∙ c.loop-arena.invariant.left in
    rw (← whole) c.push_text.ensures.ok
