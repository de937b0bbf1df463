-- The rule of the queue (own). Passes are numbered as they are made: first the feeders, and then the takers.
use Rattle.std.specs.Prelude.{◌≡◌, ℕ, ◌+◌, ◌==◌, ◌<◌, ◌≤◌, ◌⊎◌, cond, List, [], ◌∷◌, ◌++◌}
use Rattle.std.specs.List.{AllByRecursion}
use mathlib.Core.Option.{some}
use lib.ListN.{get_elem?}
use Rattle.job_queue.specs.declared.view.Fed.{Fed}
use Rattle.job_queue.specs.declared.view.Known.{Known}
use Rattle.job_queue.specs.declared.view.View.{View}
use Rattle.job_queue.specs.declared.view.View.TheVariants.{Opener, Records}
use Rattle.job_queue.specs.Jobs.{fed_from, own, by, given, HavePlaces, IsMomentOf}
use Rattle.job_queue.specs.Views.{known_of, records_of, stores, takes, rest}

module _ {J : Type 0} where
  -- for how many passes with this number a view stands
  abbrev pub times : ℕ → List (Known J) → ℕ
  times n [] = 0
  times n (k ∷ ks) = cond (k.number == n) 1 0 + times n ks

  abbrev pub total : ℕ → List (View J) → ℕ
  total n [] = 0
  total n (v ∷ vs) = times n (records_of v) + total n vs

  -- a pass knows what it stored and took, where `put n` is what pass n stored, and `got n` what it took
  abbrev pub Knows : ℕ → ℕ → ℕ → (ℕ → List (Fed J)) → (ℕ → List (Fed J)) → Known J → Type 0
  Knows feeders takers made put got k =
      (k.feeders ≡ feeders) × (k.takers ≡ takers) × (k.number < made) × (fed_from k.number 0 k.stored ≡ put k.number) × (k.taken ≡ got k.number)

  abbrev pub Fits : ℕ → ℕ → ℕ → ℕ → (ℕ → List (Fed J)) → (ℕ → List (Fed J)) → ℕ → View J → Type 0
  Fits feeders takers made opener put got j (Opener f t m) = (f ≡ feeders) × (t ≡ takers) × (m ≡ made) × (j ≡ opener)
  Fits feeders takers made opener put got j (Records ks) = AllByRecursion (Knows feeders takers made put got) ks

  abbrev pub IsFed : ℕ → ℕ → Fed J → Type 0
  IsFed feeders made x = (x.feeder < feeders) × (x.feeder < made)

  abbrev pub IsPopped : ℕ → ℕ → ℕ × Fed J → Type 0
  IsPopped feeders made p = (feeders ≤ p.0) × (p.0 < made)

  pub record Kept (items : List (Fed J)) (views : List (View J)) : Type 0 where
    -- the pops so far, in order
    pub out : List (ℕ × Fed J)
    pub feeders : ℕ
    pub takers : ℕ
    pub made : ℕ
    pub opener : ℕ
    -- what a pass stored was taken or is in the queue, and what it took was given to it
    pub each : (j : ℕ) (v : View J) → get_elem? views j ≡ some v → Fits feeders takers made opener (λ n. own n (given out ++ items)) (λ n. by n out) j v
    -- no two passes have the same number, and none has one that is still to be made
    pub once : (n : ℕ) → total n views ≤ 1
    pub later : (n : ℕ) → made ≤ n → total n views ≡ 0
    -- each job of a feeder is at its place, whether it was taken or is in the queue
    pub placed : (n : ℕ) → HavePlaces 0 (own n (given out ++ items))
    -- only feeders store, and only takers take
    pub fed : AllByRecursion (IsFed feeders made) (given out ++ items)
    pub popped : AllByRecursion (IsPopped feeders made) out
    pub enough : made ≤ feeders + takers

  -- what the queue held, beside what the pass did
  abbrev pub Saw : View J → List (Fed J) → Type 0
  Saw v items = let k = known_of v in
      (out : List (ℕ × Fed J)) × (fed_from k.number 0 k.stored ≡ own k.number (given out ++ items)) × (k.taken ≡ by k.number out)
      × IsMomentOf k.feeders k.takers (record { pops = out; held = items })

  abbrev pub Stored : View J → Fed J → View J → Type 0
  Stored v x w = w ≡ Records (stores (known_of v) x.job ∷ rest (records_of v))

  -- of what the pass took from the job's feeder, the job was stored last
  abbrev pub IsLater : List (Fed J) → Fed J → Type 0
  IsLater taken x = AllByRecursion (λ (y : Fed J). y.feeder ≡ x.feeder → y.place < x.place) taken

  abbrev pub Taken : View J → Fed J → View J → Type 0
  Taken v x w = (w ≡ Records (takes (known_of v) x ∷ rest (records_of v))) × IsLater (known_of v).taken x

  -- one of these passes has the number
  abbrev pub HasNumber : ℕ → List (Known J) → Type 0
  HasNumber n [] = ⊥
  HasNumber n (k ∷ ks) = (k.number ≡ n) ⊎ HasNumber n ks

  abbrev pub Account : List (ℕ × Fed J) → List (Fed J) → Known J → Type 0
  Account out items k = (fed_from k.number 0 k.stored ≡ own k.number (given out ++ items)) × (k.taken ≡ by k.number out)

  -- There is one list of pops. What each pass stored is what the list, and then the queue, has of it, in order; what each took is what the list has for it, in order; and the list and the queue have nothing of others
  pub record Settles (feeders : ℕ) (ks : List (Known J)) (out : List (ℕ × Fed J)) (items : List (Fed J)) : Type 0 where
    pub each : AllByRecursion (Account out items) ks
    pub fed : AllByRecursion (λ (x : Fed J). (x.feeder < feeders) × HasNumber x.feeder ks) (given out ++ items)
    pub popped : AllByRecursion (λ (p : ℕ × Fed J). (feeders ≤ p.0) × HasNumber p.0 ks) out
    pub once : (n : ℕ) → times n ks ≤ 1

  abbrev pub Closes : View J → Fed J → View J → Type 0
  Closes v x w = (out : List (ℕ × Fed J)) × (items : List (Fed J)) × Settles (known_of v).feeders (records_of v) out (x ∷ items)

  abbrev pub Rests : View J → List (Fed J) → Type 0
  Rests v items = (out : List (ℕ × Fed J)) × Settles (known_of v).feeders (records_of v) out items
