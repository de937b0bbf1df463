-- The chart of a journal (own).
use Rattle.std.specs.Prelude.{◌≡◌, ℕ, ◌≤◌, List, length, Option}
use Rattle.std.specs.Io.KnownBytes.{Consumes}
use Rattle.market_types.specs.declared.reply.Entry.{Entry}
use Rattle.market_types.specs.State.{State}
use Rattle.market_types.specs.History.{IsLegal, calls_of}
use Rattle.journal_replay.specs.declared.header.Extent.{Extent}
use Rattle.journal_replay.specs.declared.verdict.Verdict.{Verdict}
use Rattle.journal_replay.specs.declared.verdict.Verdict.TheVariants.{Legal}
use Rattle.journal_replay.specs.Legality.{Reads}
use Rattle.journal_replay.specs.Verdicts.{limit_of, verdict}
use Rattle.journal_chart.specs.Numbers.{Charted, chart_between}

-- The text reads as a header and a legal history, and this is the chart of its entries from one on to another.
pub record IsChartOf (most : ℕ) (arenas : List ℕ) (from to : ℕ) (text : List ℕ) (chart : Charted) : Type 0 where
  pub start : State
  pub extent : Extent
  pub history : List Entry
  pub reads : Reads text start extent history
  pub legal : IsLegal start history
  pub is : chart ≡ chart_between most arenas from to start (calls_of history)

-- The text was read, this is its verdict, and where it is legal this is the chart of its entries from one on to another.
pub record Charts (most : ℕ) (arenas : List ℕ) (from to : ℕ) (left left' : Option (List ℕ)) (found : Verdict) (chart : Charted) : Type 0 where
  pub text : List ℕ
  pub read : Consumes left left' text
  pub within : length text ≤ limit_of text
  pub is : found ≡ verdict text
  pub charted : (entries : ℕ) → found ≡ Legal entries → IsChartOf most arenas from to text chart
