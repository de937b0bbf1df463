-- Of which levels the arenas may be allotted something else. Private functions alone cite these words.
use Rattle.std.specs.Prelude.{◌≡◌, ℕ, zero, suc, ◌+◌, ◌-◌, ◌<◌, ◌≤◌, Bool, List, false, get_or, true, Option, None, Some}
use Rattle.std.specs.List.{All}
use Rattle.journal_chart.specs.Rows.{Row}
use Rattle.journal_chart.specs.declared.unkept.Unkept.{Unkept}
use Rattle.journal_chart.specs.declared.unkept.Unkept.TheVariants.{Nowhere, At, Anywhere}

-- of eight levels all are kept but this one
pub record IsAlone (kept : List Bool) (level : ℕ) : Type 0 where
  pub open_ : get_or kept (level - 1) false ≡ false
  pub others : (other : ℕ) → 1 ≤ other → other ≤ 8 → (other ≡ level → ⊥) → get_or kept (other - 1) false ≡ true

-- all are kept, or all but one, or nothing is said of them
abbrev pub AreUnkept : List Bool → Unkept → Type 0
AreUnkept kept Nowhere = (index : ℕ) → index < 8 → get_or kept index false ≡ true
AreUnkept kept (At level) = IsAlone kept level
AreUnkept kept Anywhere = Unit {0}

-- by how many are not kept, and the index of the last of them
abbrev pub unkept_of : ℕ → ℕ → Unkept
unkept_of zero last = Nowhere
unkept_of (suc zero) last = At (last + 1)
unkept_of (suc (suc more)) last = Anywhere

-- an arena stands at one of eight levels, or nowhere
abbrev pub IsAtLevel : Option ℕ → Type 0
IsAtLevel None = Unit {0}
IsAtLevel (Some level) = (1 ≤ level) × (level ≤ 8)

-- so do those of all rows
abbrev pub AreAtLevels : List Row → Type 0
AreAtLevels rows = All (λ (r : Row). IsAtLevel r.stands) rows
