-- Lists by descending stamp, and what is known of them when they are cut at a row x.
use Rattle.std.specs.Prelude.{All}
use Rattle.std.proofs.Common.{◌≡◌, ℕ, suc, ◌<◌, List, [], ◌∷◌, ◌++◌, arith}
use Rattle.std.proofs.lemmas.List.Elements.{All-nil, All-cons, All-head, All-tail, All-weaker}
use Rattle.std.proofs.lemmas.List.Kept.{AllPairs-cons}
use Rattle.market_types.specs.declared.row.Row.{Row}
use Rattle.market_types.specs.Rows.{IsNewestFirst, IsAbsent}

-- what holds of each row of two lists holds of each of the first
pub all-front : (P : Row → Type 0) (l m : List Row) → All P (l ++ m) → All P l
all-front P [] m a = All-nil P
all-front P (x ∷ l) m a = All-cons P x l (All-head P x (l ++ m) a) (all-front P l m (All-tail P x (l ++ m) a))

-- and of each of the second
pub all-back : (P : Row → Type 0) (l m : List Row) → All P (l ++ m) → All P m
all-back P [] m a = a
all-back P (x ∷ l) m a = all-back P l m (All-tail P x (l ++ m) a)

-- the rows after the first are older
pub newest-head : (x : Row) (t : List Row) → IsNewestFirst (x ∷ t) → All (λ y. y.stamp < x.stamp) t
newest-head x t d = λ k e h. d 0 (suc k) e (omega arith) (omega arith)

-- and descend among themselves
pub newest-tail : (x : Row) (t : List Row) → IsNewestFirst (x ∷ t) → IsNewestFirst t
newest-tail x t d = λ i j e p q. d (suc i) (suc j) e (omega arith) (omega arith)

-- a row over older ones
pub newest-cons : (x : Row) (t : List Row) → All (λ y. y.stamp < x.stamp) t → IsNewestFirst t → IsNewestFirst (x ∷ t)
newest-cons x t a d = AllPairs-cons (λ newer older. older.stamp < newer.stamp) x t a d

-- no rows at all
pub newest-nil : IsNewestFirst []
newest-nil = λ i j e p q. absurd (omega arith)

-- the front of such a list is one
pub newest-front : (l m : List Row) → IsNewestFirst (l ++ m) → IsNewestFirst l
newest-front [] m d = newest-nil
newest-front (x ∷ l) m d =
    newest-cons x l (all-front (λ y. y.stamp < x.stamp) l m (newest-head x (l ++ m) d)) (newest-front l m (newest-tail x (l ++ m) d))

-- what it is for l ++ x ∷ r to descend
pub record Parts (l : List Row) (x : Row) (r : List Row) : Type 0 where
  pub left : IsNewestFirst l
  pub right : IsNewestFirst r
  pub over : All (λ y. x.stamp < y.stamp) l
  pub under : All (λ y. y.stamp < x.stamp) r

-- a list that descends comes apart at a row
pub parts : (l : List Row) (x : Row) (r : List Row) → IsNewestFirst (l ++ x ∷ r) → Parts l x r
parts [] x r d = record { left = newest-nil; right = newest-tail x r d; over = All-nil (λ y. x.stamp < y.stamp); under = newest-head x r d }
parts (y ∷ l) x r d =
    let p = parts l x r (newest-tail y (l ++ x ∷ r) d) in
    let a = newest-head y (l ++ x ∷ r) d in
    let h = All-head (λ z. z.stamp < y.stamp) x r (all-back (λ z. z.stamp < y.stamp) l (x ∷ r) a) in
    record {
      left = newest-cons y l (all-front (λ z. z.stamp < y.stamp) l (x ∷ r) a) p.left;
      right = p.right;
      over = All-cons (λ z. x.stamp < z.stamp) y l h p.over;
      under = p.under;
    }

-- a stamp below that of x is below all of l
pub over_all : (s : ℕ) (l : List Row) (x : Row) (r : List Row) → IsNewestFirst (l ++ x ∷ r) → s < x.stamp → All (λ y. s < y.stamp) l
over_all s l x r d h = All-weaker (λ y. x.stamp < y.stamp) (λ y. s < y.stamp) (λ y g. omega arith) l (parts l x r d).over

-- a stamp above that of x is above all of r and x
pub under_all : (s : ℕ) (l : List Row) (x : Row) (r : List Row) → IsNewestFirst (l ++ x ∷ r) → x.stamp < s → All (λ y. y.stamp < s) (x ∷ r)
under_all s l x r d h =
    All-cons (λ y. y.stamp < s) x r h (All-weaker (λ y. y.stamp < x.stamp) (λ y. y.stamp < s) (λ y g. omega arith) r (parts l x r d).under)

-- x itself is below all of l
pub over_here : (l : List Row) (x : Row) (r : List Row) → IsNewestFirst (l ++ x ∷ r) → (s : ℕ) → x.stamp ≡ s → All (λ y. s < y.stamp) l
over_here l x r d s h = All-weaker (λ y. x.stamp < y.stamp) (λ y. s < y.stamp) (λ y g. omega arith) l (parts l x r d).over

-- and above all of r
pub under_here : (l : List Row) (x : Row) (r : List Row) → IsNewestFirst (l ++ x ∷ r) → (s : ℕ) → x.stamp ≡ s → All (λ y. y.stamp < s) r
under_here l x r d s h = All-weaker (λ y. y.stamp < x.stamp) (λ y. y.stamp < s) (λ y g. omega arith) r (parts l x r d).under

-- a stamp below all is that of none
pub absent_below : (s : ℕ) (t : List Row) → All (λ y. s < y.stamp) t → IsAbsent s t
absent_below s t a = All-weaker (λ y. s < y.stamp) (λ y. y.stamp ≡ s → ⊥) (λ y g e. omega arith) t a

-- a stamp above all is that of none
pub absent_above : (s : ℕ) (t : List Row) → All (λ y. y.stamp < s) t → IsAbsent s t
absent_above s t a = All-weaker (λ y. y.stamp < s) (λ y. y.stamp ≡ s → ⊥) (λ y g e. omega arith) t a
