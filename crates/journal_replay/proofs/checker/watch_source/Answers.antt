use Rattle.std.specs.Prelude.{⊤}
use Rattle.std.proofs.Common.{sym, subst}
use Rattle.std.proofs.lemmas.Result.{err_from_is_err_and}
use Rattle.market_core.proofs.Moved.{same_seats, steps}
use Rattle.journal_replay.specs.Verdicts.{verdict_of}
use Rattle.journal_replay.specs.Watched.{Watches}
use Rattle.journal_replay.proofs.Limits.{stops-reading}
use Rattle.journal_replay.proofs.Watching.{watches}
use Rattle.journal_replay.proofs.checker.watch_source.Goals as goal

pub returns-in_err-checker-clause-stops : goal.returns-in_err-checker-clause-stops
returns-in_err-checker-clause-stops g c =
    let p = err_from_is_err_and c.from_residual.result c.from_residual.ensures.1 in
    rw (p.1, p.2) (stops-reading g.W.Watcher.seen (λ _ _ _. ⊤) (c.new.result.progress, g.W.Watcher.made c.new.result.watcher) _ _ _ _ _ c.in_err-checker.field-0.0 c.new.ensures.progress c.in_err-checker.ensures.stops)

pub returns-clause-watches : goal.returns-clause-watches
returns-clause-watches g c =
    let seen = g.W.Watcher.seen in
    let left = g.R.Source.left c.args.source.now in
    let left' = g.R.Source.left c.take_lines.new.source in
    let h = watches seen (λ s seat cmd. (same_seats s seat cmd, (steps s seat cmd).levels)) (c.new.result.progress, g.W.Watcher.made c.new.result.watcher)
    (c.in_ok-checker.checker.progress, g.W.Watcher.made c.in_ok-checker.checker.watcher) left left' _ _ c.new.ensures.progress c.in_ok-checker.ensures.all in
    subst (λ z. Watches seen (g.W.Watcher.made c.args.watcher) (g.W.Watcher.made z.1) left left' z.0) (sym c.end.ensures)
    (subst (λ w. Watches seen (g.W.Watcher.made w) (g.W.Watcher.made c.in_ok-checker.checker.watcher) left left' (verdict_of c.in_ok-checker.checker.progress)) c.new.ensures.watcher h)
