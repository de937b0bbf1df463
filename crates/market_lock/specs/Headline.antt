-- What an office leaves, as a function of its history (own).
use Rattle.std.specs.Prelude.{◌≡◌, ℕ, map, Option, option_map}
use Rattle.market_types.specs.declared.reply.Entry.{Entry}
use Rattle.market_types.specs.State.{State, Arena}
use Rattle.market_types.specs.Allotment.{allotment_of, is_top, recall, hire}
use Rattle.market_types.specs.History.{calls_of, replies_to, state_after}
use Rattle.market_types.specs.Step.{arena_at, view_of}
use Rattle.market_types.specs.declared.reply.ArenaView.{ArenaView}
use Rattle.edit_history.specs.Chronicled.{Chronicled}

-- what a market's reader shows of the arena with this number
abbrev pub shown_of : State → ℕ → Option ArenaView
shown_of s a = option_map (view_of s) (arena_at a s.arenas)

-- Every reply, and what the market that is held shows of every arena, is what the definitions give from the opening and the history's calls: among that, every allotment, top-priority flag, recall
-- count and hire count.
pub record IsGivenBy (start : State) (c : Chronicled) : Type 0 where
  pub replies : map (λ (e : Entry). e.reply) c.log ≡ replies_to start (calls_of c.log)
  pub shows : (a : ℕ) → shown_of c.market a ≡ shown_of (state_after start (calls_of c.log)) a
  pub allotments : (a : ℕ) → allotment_of c.market a ≡ allotment_of (state_after start (calls_of c.log)) a
  pub tops : (a : Arena) → is_top c.market a ≡ is_top (state_after start (calls_of c.log)) a
  pub recalls : (a : ℕ) → recall c.market a ≡ recall (state_after start (calls_of c.log)) a
  pub hires : (a : ℕ) → hire c.market a ≡ hire (state_after start (calls_of c.log)) a
