-- The rule of the lock (own). Word 0 is 0 while the desk is at home, and 1 while one seat has it. No public clause has these words.
use Rattle.std.specs.Prelude.{◌≡◌, ◌≢◌, ℕ, ◌+◌, ◌<◌, ◌≤◌, List, [], ◌∷◌, length, slice_index, sum_by}
use mathlib.Core.Option.{Option, none, some}
use mathlib.Core.List.{IsPrefix}
use lib.ListN.{get_elem?}
use Rattle.atomic_table.specs.Table.{State, Me, Step}
use Rattle.market_types.specs.declared.reply.Entry.{Entry}
use Rattle.market_types.specs.History.{of_seat}
use Rattle.edit_history.specs.Chronicled.{Chronicled}
use Rattle.edit_history.specs.declared.terms.Terms.{Terms}
use Rattle.market_lock.specs.declared.view.Cut.{Cut}
use Rattle.market_lock.specs.declared.view.Known.{Known}
use Rattle.market_lock.specs.declared.view.View.{View}
use Rattle.market_lock.specs.declared.view.View.TheVariants.{Opener, Outside, Holder, Closer, Spent}
use Rattle.market_lock.specs.Cutting.{cut_by, IsCutUp}
use Rattle.market_lock.specs.Views.{shown, same_cuts, more_cuts, terms_of, chronicle_from}

-- what a caller saw begins the history, and its entries are all that the history has of its seat; and so it is with the parts that were cut
pub record Knows (terms : Terms) (made : ℕ) (log : List Entry) (cuts : List Cut) (k : Known) : Type 0 where
  pub from : k.terms ≡ terms
  pub below : k.seat < made
  pub front : IsPrefix k.seen log
  pub own : of_seat k.seat log ≡ k.mine
  pub cut_front : IsPrefix k.cuts cuts
  pub cut_own : cut_by k.seat cuts ≡ cut_by k.seat k.cuts

-- the seat number of a live view
abbrev pub seat_of : View → Option ℕ
seat_of (Outside k) = some k.seat
seat_of (Holder k) = some k.seat
seat_of v = none

-- for how many passes a view stands
abbrev pub weight : View → ℕ
weight (Outside k) = 1
weight (Holder k) = 1
weight (Closer t kept) = length kept
weight v = 0

-- the parts that a caller cut, each weighed by `weigh`, added up; and those that callers cut for which a view stands
abbrev pub parts_of : (Cut → ℕ) → Known → ℕ
parts_of weigh k = sum_by weigh (cut_by k.seat k.cuts)

abbrev pub parts_of_all : (Cut → ℕ) → List Known → ℕ
parts_of_all weigh [] = 0
parts_of_all weigh (k ∷ ks) = parts_of weigh k + parts_of_all weigh ks

abbrev pub parts_in : (Cut → ℕ) → View → ℕ
parts_in weigh (Outside k) = parts_of weigh k
parts_in weigh (Holder k) = parts_of weigh k
parts_in weigh (Closer t kept) = parts_of_all weigh kept
parts_in weigh v = 0

-- the sum of this over all views
abbrev pub total : (View → ℕ) → List View → ℕ
total f [] = 0
total f (v ∷ vs) = f v + total f vs

module _ (terms : Terms) (made opener : ℕ) (log : List Entry) (cuts : List Cut) (word holder : ℕ) where
  -- what holds of the view of the seat j
  abbrev pub Fits : ℕ → View → Type 0
  Fits j (Opener t n) = (t ≡ terms) × (n ≡ made) × (j ≡ opener)
  Fits j (Outside k) = Knows terms made log cuts k
  Fits j (Holder k) = Knows terms made log cuts k × (k.seen ≡ log) × (k.cuts ≡ cuts) × (j ≡ holder) × (word ≢ 0)
  Fits j (Closer t kept) = t ≡ terms
  Fits j Spent = Unit {0}

-- a caller knows of no later cut than the last, and who has the desk knows of that one
abbrev pub Marks : ℕ → View → Type 0
Marks from (Outside k) = k.from ≤ from
Marks from (Holder k) = k.from ≡ from
Marks from v = Unit {0}

-- live views have different seat numbers
abbrev pub Apart : List View → Type 0
Apart views = (i j n : ℕ) (v w : View) → get_elem? views i ≡ some v → get_elem? views j ≡ some w → seat_of v ≡ some n → seat_of w ≡ some n → i ≡ j

-- no live view has this number
abbrev pub IsGone : List View → ℕ → Type 0
IsGone views n = (j : ℕ) (v : View) → get_elem? views j ≡ some v → seat_of v ≢ some n

-- what is kept is of different seats
abbrev pub Once : List Known → Type 0
Once kept = (i j : ℕ) (k l : Known) → get_elem? kept i ≡ some k → get_elem? kept j ≡ some l → k.seat ≡ l.seat → i ≡ j

pub record Kept (terms : Terms) (s : State Chronicled View) : Type 0 where
  pub log : List Entry
  -- how many of its first entries are not kept
  pub from : ℕ
  -- the parts that were cut out, by all seats
  pub cuts : List Cut
  -- how many passes were dealt, by which seat, and which seat has the desk while the word is not 0
  pub made : ℕ
  pub opener : ℕ
  pub holder : ℕ
  pub one_word : length s.words ≡ 1
  pub home : slice_index s.words 0 ≡ 0 → s.homes ≡ some (chronicle_from terms log from) ∷ []
  pub away : slice_index s.words 0 ≢ 0 → (k : Known) × (get_elem? s.views holder ≡ some (Holder k))
  pub each : (j : ℕ) (v : View) → get_elem? s.views j ≡ some v → Fits terms made opener log cuts (slice_index s.words 0) holder j v
  pub marks : (j : ℕ) (v : View) → get_elem? s.views j ≡ some v → Marks from v
  pub apart : Apart s.views
  -- who takes passes back keeps what is true of the history, of numbers that no live view has
  pub keeps : (j : ℕ) (t : Terms) (kept : List Known) → get_elem? s.views j ≡ some (Closer t kept)
      → (i : ℕ) (k : Known) → get_elem? kept i ≡ some k → Knows terms made log cuts k × IsGone s.views k.seat
  pub once : (j : ℕ) (t : Terms) (kept : List Known) → get_elem? s.views j ≡ some (Closer t kept) → Once kept
  pub strangers : (n : ℕ) → made ≤ n → of_seat n log ≡ []
  -- what was cut out lies end to end, and each part was cut by one of the seats
  pub cut_up : IsCutUp terms.keeping log from cuts
  pub no_parts : (n : ℕ) → made ≤ n → cut_by n cuts ≡ []
  pub parted : (weigh : Cut → ℕ) → total (parts_in weigh) s.views ≡ sum_by weigh cuts
  pub counted : total weight s.views ≡ made
  pub enough : made ≤ terms.opening.seats

-- a take by who knew k found the desk at home, with a history that goes on from what was seen; or nothing changed
abbrev pub Wins : Me Chronicled View → Known → ℕ → Me Chronicled View → Type 0
Wins m k r n =
    (r ≡ 0 → (log : List Entry) × (from : ℕ) × (cuts : List Cut) × (n ≡ (Holder (shown k log from cuts), (0, chronicle_from k.terms log from) ∷ [])) × IsPrefix k.seen log × (of_seat k.seat log ≡ k.mine) × (k.from ≤ from)
    × IsPrefix k.cuts cuts × (cut_by k.seat cuts ≡ cut_by k.seat k.cuts) × IsCutUp k.terms.keeping log from cuts)
    × (r ≢ 0 → n ≡ m)

abbrev pub Takes : Step Chronicled → Me Chronicled View → ℕ → Me Chronicled View → Type 0
Takes st m r n = (k : Known) → m ≡ (Outside k, []) → Wins m k r n

-- who gives the desk back has seen the history that it gives back, and what was cut out of it: `next` of what it knew
abbrev pub GivesAs : (Known → List Entry → List Cut) → Step Chronicled → Me Chronicled View → ℕ → Me Chronicled View → Type 0
GivesAs next st m r n = (k : Known) (log : List Entry) (from : ℕ) → m ≡ (Holder k, (0, chronicle_from k.terms log from) ∷ []) → n ≡ (Outside (shown k log from (next k log)), [])

-- nothing more was cut out
abbrev pub Gives : Step Chronicled → Me Chronicled View → ℕ → Me Chronicled View → Type 0
Gives = GivesAs same_cuts

-- all that was kept was
abbrev pub GivesCut : Step Chronicled → Me Chronicled View → ℕ → Me Chronicled View → Type 0
GivesCut = GivesAs more_cuts

abbrev pub Enters : Step Chronicled → Me Chronicled View → ℕ → Me Chronicled View → Type 0
Enters st m r n = n ≡ (Closer (terms_of m.0) [], [])

-- what the holder may give back: a history that goes on from what it found, by its own entries alone, of which no entry is kept again; and what was cut out of it goes on by its own parts alone
pub record Follows (k : Known) (log : List Entry) (from : ℕ) (cuts : List Cut) : Type 0 where
  pub front : IsPrefix k.seen log
  pub others : (n : ℕ) → n ≢ k.seat → of_seat n log ≡ of_seat n k.seen
  pub later : k.from ≤ from
  pub cut_front : IsPrefix k.cuts cuts
  pub cut_others : (n : ℕ) → n ≢ k.seat → cut_by n cuts ≡ cut_by n k.cuts
  pub cut_weight : (weigh : Cut → ℕ) → sum_by weigh cuts + parts_of weigh k ≡ sum_by weigh k.cuts + sum_by weigh (cut_by k.seat cuts)
  pub cut_up : IsCutUp k.terms.keeping log from cuts

-- what was kept is true of the history
abbrev pub Fitting : Terms → List Entry → List Cut → Known → Type 0
Fitting terms log cuts k = IsPrefix k.seen log × (of_seat k.seat log ≡ k.mine) × (k.seat < terms.opening.seats) × IsPrefix k.cuts cuts × (cut_by k.seat cuts ≡ cut_by k.seat k.cuts)
