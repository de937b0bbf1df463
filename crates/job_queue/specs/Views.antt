-- What each kind of step does to the views. No public clause has these words.
use Rattle.std.specs.Prelude.{ℕ, ◌+◌, List, [], ◌∷◌, ◌++◌}
use Rattle.job_queue.specs.declared.view.Fed.{Fed}
use Rattle.job_queue.specs.declared.view.Known.{Known}
use Rattle.job_queue.specs.declared.view.View.{View}
use Rattle.job_queue.specs.declared.view.View.TheVariants.{Opener, Records}

module _ {J : Type 0} where
  abbrev pub known : ℕ → ℕ → ℕ → List J → List (Fed J) → ℕ → Known J
  known feeders takers number stored taken empties = record { feeders = feeders; takers = takers; number = number; stored = stored; taken = taken; empties = empties }

  -- a pass that did nothing yet
  abbrev pub fresh : ℕ → ℕ → ℕ → Known J
  fresh feeders takers number = known feeders takers number [] [] 0

  abbrev pub stores : Known J → J → Known J
  stores k job = known k.feeders k.takers k.number (k.stored ++ job ∷ []) k.taken k.empties

  abbrev pub takes : Known J → Fed J → Known J
  takes k x = known k.feeders k.takers k.number k.stored (k.taken ++ x ∷ []) k.empties

  abbrev pub misses : Known J → Known J
  misses k = known k.feeders k.takers k.number k.stored k.taken (k.empties + 1)

  abbrev pub records_of : View J → List (Known J)
  records_of (Opener f t m) = []
  records_of (Records ks) = ks

  abbrev pub head : List (Known J) → Known J
  head [] = fresh 0 0 0
  head (k ∷ ks) = k

  abbrev pub rest : List (Known J) → List (Known J)
  rest [] = []
  rest (k ∷ ks) = ks

  -- the one pass that a view stands for, or the first of them
  abbrev pub known_of : View J → Known J
  known_of v = head (records_of v)

  abbrev pub one : Known J → View J
  one k = Records (k ∷ [])

  -- it stands for no pass
  abbrev pub spent : View J
  spent = Records []

  abbrev pub feeder_promised : View J → View J
  feeder_promised (Opener f t m) = Opener (f + 1) t m
  feeder_promised (Records ks) = Records ks

  abbrev pub taker_promised : View J → View J
  taker_promised (Opener f t m) = Opener f (t + 1) m
  taker_promised (Records ks) = Records ks

  abbrev pub dealt : View J → View J
  dealt (Opener f t m) = Opener f t (m + 1)
  dealt (Records ks) = Records ks

  abbrev pub next_pass : View J → View J
  next_pass (Opener f t m) = one (fresh f t m)
  next_pass (Records ks) = Records []

  abbrev pub missed : View J → View J
  missed (Opener f t m) = Opener f t m
  missed (Records ks) = Records (misses (head ks) ∷ rest ks)

  -- it stands for the other's passes too, and for its own after them
  abbrev pub joined : View J → View J → View J
  joined v w = Records (records_of w ++ records_of v)
