-- What the tasks of a meeting did, in a task's own words: that it worked, and whether it lets others work (own).
use Rattle.std.specs.Prelude.{◌≡◌, ◌⊎◌, ℕ, ◌+◌, Bool, true, false, List, [], ◌∷◌, All, Contains, ⊤}
use Rattle.market_types.specs.declared.reply.Entry.{Entry}
use Rattle.edit_history.specs.declared.terms.Terms.{Terms}
use Rattle.market_lock.specs.Seen.{OfPass, IsSamePass, Met}

-- the pass of this seat, which has seen nothing and called nothing
abbrev pub IsUnused : Terms → ℕ → OfPass → Type 0
IsUnused terms seat p = (p.terms ≡ terms) × (p.seat ≡ seat) × (p.seen ≡ []) × (p.mine ≡ [])

-- a task worked, once, with the pass of this seat, and became another: its calls are all that the history has of the seat
abbrev pub HasWorked : {T : Type 0} → (T → OfPass → T → OfPass → Type 0) → Terms → List Entry → ℕ → T → T → Type 0
HasWorked worked terms history seat before after =
    (p : OfPass) × (q : OfPass) × IsUnused terms seat p × worked before p after q × IsSamePass p q × Met history q

-- each of these tasks did, the first with the pass of this seat, the second with that of the next, and so on
abbrev pub HaveWorked : {T : Type 0} → (T → OfPass → T → OfPass → Type 0) → Terms → List Entry → ℕ → List T → List T → Type 0
HaveWorked worked terms history seat [] [] = ⊤
HaveWorked worked terms history seat [] (y ∷ ys) = ⊥
HaveWorked worked terms history seat (x ∷ xs) [] = ⊥
HaveWorked worked terms history seat (x ∷ xs) (y ∷ ys) = HasWorked worked terms history seat x y × HaveWorked worked terms history (seat + 1) xs ys

-- where all openers let others work, the one; where an opener doesn't, the other
abbrev pub HasFollowed : {O : Type 0} → (O → Bool → Type 0) → List O → Type 0 → Type 0 → Type 0
HasFollowed {O} lets openers worked waited =
    (All (λ (o : O). lets o true) openers × worked) ⊎ (((o : O) × Contains openers o × lets o false) × waited)
