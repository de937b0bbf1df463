-- What contracts see of an office, of its passes and of its placed workers (own).
use Rattle.std.specs.Prelude.{◌≡◌, ℕ, ◌+◌, ◌<◌, List, [], ◌∷◌, ◌++◌, length, Result, Ok, Err, Option, Some, None, All, sum_by}
use mathlib.Core.List.{IsPrefix}
use Rattle.atomic_table.specs.Seated.{TableId}
use Rattle.market_types.specs.declared.command.Cmd.{Cmd}
use Rattle.market_types.specs.declared.reply.Entry.{Entry}
use Rattle.market_types.specs.declared.reply.OpenFault.{OpenFault}
use Rattle.market_types.specs.declared.reply.Reply.{Reply}
use Rattle.market_types.specs.History.{IsLegal, of_seat}
use Rattle.edit_history.specs.Chronicled.{Chronicled, entry}
use Rattle.edit_history.specs.declared.keeping.Keeping.{Keeping}
use Rattle.edit_history.specs.declared.part.Part.{Part}
use Rattle.edit_history.specs.declared.terms.Terms.{Terms}
use Rattle.market_lock.specs.declared.view.Cut.{Cut}
use Rattle.market_lock.specs.declared.view.Known.{Known}
use Rattle.market_lock.specs.declared.view.View.{View}
use Rattle.market_lock.specs.declared.view.View.TheVariants.{Outside, Holder}
use Rattle.market_lock.specs.Cutting.{cut_by, IsCutUp}
use Rattle.market_lock.specs.Views.{known, cut, no_terms, opening_of, chronicle_of}

-- a caller: of which office, which seat; the history that it saw last, how many of its first entries were not kept then, and the parts that had been cut out of it, by whichever caller; and its own entries in it
pub record OfPass : Type 0 where
  pub table : TableId
  pub terms : Terms
  pub seat : ℕ
  pub seen : List Entry
  pub from : ℕ
  pub cuts : List Cut
  pub mine : List Entry

-- a caller that is placed, and where
pub record OfPlaced : Type 0 where
  pub who : OfPass
  pub arena : ℕ

-- an office, and what it was opened with
pub record OfOffice : Type 0 where
  pub table : TableId
  pub terms : Terms

-- it is of this office still, and has the same seat
abbrev pub IsSamePass : OfPass → OfPass → Type 0
IsSamePass p q = (q.table ≡ p.table) × (q.terms ≡ p.terms) × (q.seat ≡ p.seat)

-- the history begins with all that was seen and ends with the call, which is one entry more of the caller's
abbrev pub Extends : OfPass → Cmd → Reply → OfPass → Type 0
Extends p cmd reply q = let e = entry p.seat cmd reply in
    (between : List Entry) × (q.seen ≡ (p.seen ++ between) ++ e ∷ []) × (of_seat p.seat q.seen ≡ p.mine ++ e ∷ []) × (q.mine ≡ p.mine ++ e ∷ [])

-- more of the history was seen, and no call of the caller's was made
abbrev pub Looks : OfPass → OfPass → Type 0
Looks p q = IsPrefix p.seen q.seen × (q.mine ≡ p.mine) × (of_seat p.seat q.seen ≡ q.mine)

-- more is known of what was cut out of the history, and the caller cut none of it
abbrev pub OthersCut : OfPass → OfPass → Type 0
OthersCut p q = IsPrefix p.cuts q.cuts × (cut_by p.seat q.cuts ≡ cut_by p.seat p.cuts) × IsCutUp q.terms.keeping q.seen q.from q.cuts

-- the same, but that the last of it is the caller's new part, where there is one
abbrev pub HasCut : OfPass → Option Part → OfPass → Type 0
HasCut p None q = OthersCut p q
HasCut p (Some part) q = let c = cut p.seat part.from part.entries.items in
    (between : List Cut) × (q.cuts ≡ (p.cuts ++ between) ++ c ∷ []) × (cut_by p.seat q.cuts ≡ cut_by p.seat p.cuts ++ c ∷ []) × IsCutUp q.terms.keeping q.seen q.from q.cuts

-- ---- at the opening

-- a pass of the seat k that has seen nothing and called nothing
abbrev pub fresh : OfOffice → ℕ → OfPass
fresh o k = record { table = o.table; terms = o.terms; seat = k; seen = []; from = 0; cuts = []; mine = [] }

-- the chronicle that a new office keeps, or why there is none
abbrev pub kept_by : {A : Type 0} → Result (OfOffice × A) OpenFault → Result Chronicled OpenFault
kept_by (Ok o) = Ok (chronicle_of o.0.terms [])
kept_by (Err fault) = Err fault

-- ---- at the close

-- it had seen a beginning of the history, and its entries are all that the history has of its seat
abbrev pub Met : List Entry → OfPass → Type 0
Met history p = IsPrefix p.seen history × (of_seat p.seat history ≡ p.mine)

-- it knew the first of these parts, and those that it cut are all that its seat has of them
abbrev pub HasParts : List Cut → OfPass → Type 0
HasParts cuts p = IsPrefix p.cuts cuts × (cut_by p.seat cuts ≡ cut_by p.seat p.cuts)

-- the parts that a caller cut, each weighed by this, added up
abbrev pub weight_by : (Cut → ℕ) → OfPass → ℕ
weight_by weigh p = sum_by weigh (cut_by p.seat p.cuts)

-- all parts that these callers cut of a history, each by the caller whose seat it names: they lie end to end, and in an office in parts they are the history together with the entries that are kept. However parts are weighed, they weigh what
-- those of the callers weigh together: so each of them is one part of one caller, and none of a caller's is missing.
pub record AllParts (keeping : Keeping) (history : List Entry) (from : ℕ) (passes : List OfPass) (placed : List OfPlaced) : Type 0 where
  pub cuts : List Cut
  pub cut_up : IsCutUp keeping history from cuts
  pub of_passes : All (HasParts cuts) passes
  pub of_placed : All (λ (q : OfPlaced). HasParts cuts q.who) placed
  pub each_once : (weigh : Cut → ℕ) → sum_by weigh cuts ≡ sum_by (weight_by weigh) passes + sum_by (λ (q : OfPlaced). weight_by weigh q.who) placed

-- ---- inside

abbrev pub known_of : View → Known
known_of (Outside k) = k
known_of (Holder k) = k
known_of v = known no_terms 0 [] 0 [] []

abbrev pub pass_of : TableId → Known → OfPass
pass_of t k = record { table = t; terms = k.terms; seat = k.seat; seen = k.seen; from = k.from; cuts = k.cuts; mine = k.mine }

abbrev pub office_of : TableId → Terms → OfOffice
office_of t terms = record { table = t; terms = terms }

-- what a caller's ticket keeps (no public clause has this word): its entries are all that its legal history has of its seat, the parts that it knows of are all that was cut out of that history, and it
-- has counted its entries
pub record IsTicket (k : Known) (number calls : ℕ) : Type 0 where
  pub number_is : k.seat ≡ number
  pub small : k.seat < k.terms.opening.seats
  pub legal : IsLegal (opening_of k.terms) k.seen
  pub own : of_seat k.seat k.seen ≡ k.mine
  pub cut_up : IsCutUp k.terms.keeping k.seen k.from k.cuts
  pub counted : calls ≡ length k.mine
