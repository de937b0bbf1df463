use Rattle.std.proofs.Common.{arith, inl, inr, ◌-◌, length}
use Rattle.std.proofs.lemmas.Bool.{cases_lt}
use Rattle.std.proofs.lemmas.List.{get_or_default}
use Rattle.arena_store.proofs.Search.{rising}
use Rattle.arena_store.proofs.lookup.bounds_of.Goals as goal

pub returns-clause-order : goal.returns-clause-order
returns-clause-order c =
    let keys = c.args.keys.now in
    elim (cases_lt 0 (length keys)) [
      | inl some ↦ omega (arith, rising keys c.requires 0 (length keys - 1) 0 (omega arith) (omega arith), c.saturating_sub-low.ensures, c.min-high.ensures)
      | inr none ↦ omega (arith, c.saturating_sub-low.ensures)
    ]

pub returns-clause-before : goal.returns-clause-before
returns-clause-before c = λ index d below.
    let keys = c.args.keys.now in
    omega (arith, rising keys c.requires index (length keys - 1) d (omega arith) (omega arith), get_or_default keys (length keys - 1) d 0 (omega arith), c.saturating_sub-low.ensures)

pub returns-clause-behind : goal.returns-clause-behind
returns-clause-behind c = λ index d past within.
    let keys = c.args.keys.now in
    omega (arith, rising keys c.requires 0 index d (omega arith) within, get_or_default keys 0 d 0 (omega arith), c.min-high.ensures)
