-- What C reads of an arena and of the limits (own).
use Rattle.std.specs.Prelude.{if◌then◌else◌, ◌==◌}
use Rattle.market_types.specs.declared.lists.Correction.TheVariants.{Recall, Hire}
use Rattle.market_types.specs.declared.lists.Imbalance.{Imbalance}
use Rattle.market_types.specs.Corrections.{is_same}
use Rattle.market_types.specs.declared.reply.ArenaView.{ArenaView}
use Rattle.market_types.specs.declared.reply.LimitView.{LimitView}
use Rattle.market_c.specs.declared.reads.MarketView.{MarketView}
use Rattle.market_c.specs.declared.reads.MarketLimit.{MarketLimit}
use Rattle.market_c.specs.declared.reads.MarketCounts.{MarketCounts}

abbrev pub view_of : MarketView → ArenaView
view_of v = record { arena = v.arena; request = v.request; allot = v.allot; top = v.top == 1; active = v.active; recall = v.recall; hire = v.hire }

abbrev pub limits_of : MarketLimit → LimitView
limits_of l = record { value = l.value; limit = l.limit; effective = l.effective }

-- how many workers an arena has too many, and how many too few
abbrev pub counts_of : Imbalance → MarketCounts
counts_of a = record { arena = a.arena; recall = if is_same a.correction Recall then a.count else 0; hire = if is_same a.correction Hire then a.count else 0 }
