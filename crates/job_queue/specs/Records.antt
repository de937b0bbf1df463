-- What the rule knows of passes that contracts see. No public clause has these words.
use Rattle.std.specs.Prelude.{List, [], ◌++◌, map}
use Rattle.job_queue.specs.declared.view.Known.{Known}
use Rattle.job_queue.specs.Views.{known}
use Rattle.job_queue.specs.Seen.{OfFeeder, OfTaker}

module _ {J : Type 0} where
  abbrev pub feeder_known : OfFeeder J → Known J
  feeder_known f = known f.queue.feeders f.queue.takers f.number f.stored [] 0

  abbrev pub taker_known : OfTaker J → Known J
  taker_known t = known t.queue.feeders t.queue.takers t.number [] t.taken t.empties

  abbrev pub all_known : List (OfFeeder J) → List (OfTaker J) → List (Known J)
  all_known fs ts = map taker_known ts ++ map feeder_known fs
