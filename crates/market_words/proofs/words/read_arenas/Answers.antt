use Rattle.std.proofs.Common.{rules, ◌≡◌, ◌+◌, [], ◌∷◌, ◌++◌, ℕ, Option, None, map, take, sym, ap, ◌∙◌, subst}
use Rattle.market_words.specs.Words.{AreSpelled, numbers_among}
use Rattle.market_words.proofs.Spelling.{none-more, spelled-next}
use Rattle.market_words.proofs.words.read_arenas.Goals as goal
use Rattle.market_words.proofs.words.read_arenas.Goals.{in-Some+in_ok-push, in_default}

pub loop-word-preserved : goal.loop-word-preserved
loop-word-preserved c =
    let spelled : AreSpelled (map (λ s. s.now) (take (c.loop-word.word-index + 1) c.args.words.now)) (c.loop-word.arenas.items ++ numbers_among (c.read_arena.result ∷ [])) =
    spelled-next (λ s. s.now) c.args.words.now c.loop-word.word-index (record { ref_ptr = (0, 0); now = [] }) c.read_arena.result c.loop-word.arenas.items c.loop-word-test.true c.loop-word.invariant
    c.read_arena.ensures in
    elim c.match-read_arena.branch [
      | in-Some+in_ok-push w ↦
          let pushed : w.push.new.self.items ≡ c.loop-word.arenas.items ++ w.in-Some.arena ∷ [] = search rules in
          subst (AreSpelled (map (λ s. s.now) (take (c.loop-word.word-index + 1) c.args.words.now)))
          (ap (λ n. c.loop-word.arenas.items ++ numbers_among (n ∷ [])) w.in-Some.is ∙ sym pushed ∙ ap (λ v. v.items) (sym w.arenas-is)) spelled
      | in_default w ↦
          let none : c.read_arena.result ≡ None = search rules in
          subst (AreSpelled (map (λ s. s.now) (take (c.loop-word.word-index + 1) c.args.words.now)))
          (ap (λ v. v.items) (sym w.arenas-is))
          (none-more _ _ (subst (λ (n : Option ℕ). AreSpelled (map (λ s. s.now) (take (c.loop-word.word-index + 1) c.args.words.now)) (c.loop-word.arenas.items ++ numbers_among (n ∷ []))) none spelled))
    ]
