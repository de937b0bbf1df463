-- What each kind of step does to the views of the seats. No public clause has these words but the first six.
use Rattle.std.specs.Prelude.{ℕ, ◌+◌, ◌≤◌, List, [], ◌∷◌, ◌++◌, length, drop, Option, Some, None}
use Rattle.market_types.specs.declared.command.Cmd.{Cmd}
use Rattle.market_types.specs.declared.reply.Entry.{Entry}
use Rattle.market_types.specs.State.{State}
use Rattle.market_types.specs.Opening.{opening_with}
use Rattle.market_types.specs.History.{of_seat, calls_of, state_after}
use Rattle.edit_history.specs.Chronicled.{Chronicled, most_forgotten}
use Rattle.edit_history.specs.Places.{placed, LacksPlaces}
use Rattle.edit_history.specs.declared.keeping.Keeping.TheVariants.{Everything}
use Rattle.edit_history.specs.declared.part.Part.{Part}
use Rattle.market_lock.specs.Forgetting.{forgotten}
use Rattle.edit_history.specs.declared.terms.Terms.{Terms}
use Rattle.market_lock.specs.declared.view.Cut.{Cut}
use Rattle.market_lock.specs.declared.view.Known.{Known}
use Rattle.market_lock.specs.declared.view.View.{View}
use Rattle.market_lock.specs.declared.view.View.TheVariants.{Opener, Outside, Closer, Spent}

-- the market as it was opened
abbrev pub opening_of : Terms → State
opening_of t = opening_with t.opening

-- the chronicle of an office after this history, whose market it has made, and of which it keeps the entries from this one on
abbrev pub chronicle_from : Terms → List Entry → ℕ → Chronicled
chronicle_from t log from = record { start = opening_of t; market = state_after (opening_of t) (calls_of log); log = log; places = t.places; from = from; keeping = t.keeping }

-- the chronicle that lies on the desk after this history, of which so many entries were cut out where it is kept in parts
abbrev pub chronicle_cut : Terms → List Entry → ℕ → Chronicled
chronicle_cut t log cut = chronicle_from t log (forgotten t.keeping (length log) cut)

-- the same where none was cut out
abbrev pub chronicle_of : Terms → List Entry → Chronicled
chronicle_of t log = chronicle_cut t log 0

-- it has places for each call, whatever was called before, up to `most_forgotten` calls: it isn't full before
abbrev pub IsEndless : Terms → Type 0
IsEndless t = (log : List Entry) (seat : ℕ) (cmd : Cmd) → length log ≤ most_forgotten → LacksPlaces (chronicle_of t log) seat cmd → ⊥

-- how many seats are placed after this history
abbrev pub seats_placed_after : Terms → List Entry → ℕ
seats_placed_after t log = placed (state_after (opening_of t) (calls_of log))

abbrev pub no_terms : Terms
no_terms = record { opening = record { base = 0; hard = 0; seats = 0; levels = 0; last = 0 }; places = 0; keeping = Everything }

abbrev pub known : Terms → ℕ → List Entry → ℕ → List Cut → List Entry → Known
known terms seat seen from cuts mine = record { terms = terms; seat = seat; seen = seen; from = from; cuts = cuts; mine = mine }

-- the caller, once it has seen this history, from where on it is kept, and what was cut out of it
abbrev pub shown : Known → List Entry → ℕ → List Cut → Known
shown k log from cuts = known k.terms k.seat log from cuts (of_seat k.seat log)

-- a part of a seat
abbrev pub cut : ℕ → ℕ → List Entry → Cut
cut seat from entries = record { seat = seat; from = from; entries = entries }

-- what was cut out as the caller knows, after a call of it that cuts nothing; after one that cuts out all that is kept of this history; and after a cut
abbrev pub same_cuts : Known → List Entry → List Cut
same_cuts k log = k.cuts

abbrev pub more_cuts : Known → List Entry → List Cut
more_cuts k log = k.cuts ++ cut k.seat k.from (drop k.from log) ∷ []

abbrev pub next_cuts : Option Part → Known → List Entry → List Cut
next_cuts (Some part) = more_cuts
next_cuts None = same_cuts

-- one pass more is dealt
abbrev pub one_more : View → View
one_more (Opener t made) = Opener t (made + 1)
one_more v = v

-- the next pass, which has seen nothing and called nothing
abbrev pub next_pass : View → View
next_pass (Opener t made) = Outside (known t made [] 0 [] [])
next_pass v = Spent

-- who takes passes back keeps what one of them knew
abbrev pub with_pass : Terms → List Known → View → View
with_pass t kept (Outside k) = Closer t (kept ++ k ∷ [])
with_pass t kept w = Closer t kept

abbrev pub joined : View → View → View
joined (Closer t kept) w = with_pass t kept w
joined v w = v

abbrev pub terms_of : View → Terms
terms_of (Opener t made) = t
terms_of v = no_terms
