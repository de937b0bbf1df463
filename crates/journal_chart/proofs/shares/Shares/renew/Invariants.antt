use Rattle.std.specs.Prelude.{◌&&◌, ◌||◌, slice_index}
use Rattle.std.proofs.Common.{◌≡◌, ◌*◌, ◌<◌, ◌≤◌, ℕ, false, get_or, length, true}
use Rattle.market_types.specs.Allotment.{effective_limit_of}
use Rattle.journal_chart.specs.Shares.{apart}
use Rattle.journal_chart.specs.Unkept.{unkept_of}
use Rattle.journal_chart.specs.Steps.{is_same_part}
use Rattle.journal_chart.proofs.Assigning.{Cleared, Renewing}
use Rattle.journal_chart.proofs.Levels.{AreSoFar}
use Rattle.journal_chart.proofs.shares.Shares.renew.Given as goal

-- the levels before a place are renewed, and it is told of them whether they are given what they were
abbrev pub invariant-loop-place : goal.invariant-loop-place
invariant-loop-place l = record {
  renewing : Renewing l.market (effective_limit_of l.market) l.initial.self-inside.given l.initial.self-inside.asked l.self-inside.given l.self-inside.asked l.left l.place;
  old : l.self-inside.levels ≡ l.initial.self-inside.levels;
  size : length l.kept ≡ 8;
  told : (j : ℕ) → j < l.place → get_or l.kept j false
      ≡ (l.idle || (l.divided && is_same_part (slice_index l.initial.self-inside.given j) (slice_index l.self-inside.given j) (slice_index l.initial.self-inside.asked j) (slice_index l.self-inside.asked j)));
  rest : (j : ℕ) → l.place ≤ j → j < 8 → get_or l.kept j false ≡ true;
  few : l.count ≤ l.place;
  moved : l.moved ≡ apart l.place l.initial.self-inside.asked l.self-inside.asked;
  small : l.moved ≤ l.place * (1024 * 65535);
  last : l.last < 8;
  open_ : AreSoFar l.kept l.place (unkept_of l.count l.last);
}

-- of the levels that the market lacks those before a place have nothing
abbrev pub invariant-loop-place-2 : goal.invariant-loop-place-2
invariant-loop-place-2 l = record {
  given : Cleared l.levels l.initial.self-inside.given l.self-inside.given l.place;
  asked : Cleared l.levels l.initial.self-inside.asked l.self-inside.asked l.place;
  low : l.levels ≤ l.place;
  high : l.place-end ≤ 8;
}
