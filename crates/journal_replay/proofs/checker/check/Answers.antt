use Rattle.std.specs.Prelude.{⊤}
use Rattle.std.proofs.Common.{◌∙◌, ap}
use Rattle.line_engine.specs.Lines.{lines_of}
use Rattle.line_engine.specs.Rule.{after}
use Rattle.journal_replay.specs.declared.checker.Progress.{Progress}
use Rattle.journal_replay.specs.Verdicts.{journal_rule, longest_line, verdict_of}
use Rattle.journal_replay.proofs.Limits.{watched-progress}
use Rattle.journal_replay.proofs.checker.check.Goals as goal

pub returns : goal.returns
returns c =
    let lines = lines_of longest_line c.args.text.now in
    record {
      verdict =
          c.into_verdict.ensures
          ∙ ap verdict_of
          (ap (λ (now : Progress × ⊤). now.0) c.in-Ok.ensures.all
          ∙ watched-progress {W = ⊤} (λ _ _ _ _. tt) (c.new.result.progress, tt) lines
          ∙ ap (λ s. after journal_rule s lines) c.new.ensures.progress);
    }
