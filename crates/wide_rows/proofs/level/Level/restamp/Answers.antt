use Rattle.std.proofs.Common.{◌≡◌, false, [], ◌∷◌, length, get_or, refl, sym, ap, ◌∙◌, arith}
use Rattle.market_types.specs.declared.row.Row.{Row}
use Rattle.market_types.specs.Bits.{bits}
use Rattle.market_types.specs.Rows.{requests}
use Rattle.wide_rows.specs.Leveled.{Leveled}
use Rattle.wide_rows.specs.Forms.{leveled}
use Rattle.wide_rows.proofs.Alone.{alone, is-leaf, restamped_level}
use Rattle.wide_rows.proofs.level.Level.restamp.Goals as goal
use Rattle.wide_rows.proofs.level.Level.restamp.Goals.{Joined-self, in-Leaf, in_default}

one : (c : Joined-self) → length (leveled c.self.inside.form).rows ≡ 1
one c = ap (λ (level : Leveled). length level.rows) c.self.view_is ∙ c.requires.one

-- the row that it held
abbrev none : Row
none = record { stamp = 0; arena = 0; request = 0; mandated = false }

abbrev held : Joined-self → Row
held c = get_or (leveled c.self.inside.form).rows 0 none

is-held : (c : Joined-self) → (leveled c.self.inside.form).rows ≡ held c ∷ []
is-held c = alone (leveled c.self.inside.form).rows none (one c)

-- what the form is seen as now
changed : (c : Joined-self) (row : Row) → (leveled c.self.inside.form).rows ≡ row ∷ [] → leveled c.match-self.self-inside.form ≡ record (leveled c.self.inside.form) { rows = record row { stamp = c.args.stamp } ∷ [] }
changed c row is = elim c.match-self.branch [
  | in-Leaf w ↦ rw (w.self-inside-is, w.in-Leaf.is, w.restamp.ensures row (w.deref_mut.ensures.value ∙ sym (ap (λ form. (leveled form).rows) w.in-Leaf.is) ∙ is)) refl
  | in_default w ↦ absurd (is-leaf c.self.inside.form c.self.invariant.sound (one c) w.in_default.not-Leaf)
]

total : (c : Joined-self) → c.match-self.self-inside.total ≡ c.self.inside.total
total c = elim c.match-self.branch [
  | in-Leaf w ↦ rw w.self-inside-is refl
  | in_default w ↦ rw w.self-inside-is refl
]

pub invariant_of-self : goal.invariant_of-self
invariant_of-self c =
    let e = changed c (held c) (is-held c) in
    record {
      sound = restamped_level (leveled c.self.inside.form) (leveled c.match-self.self-inside.form) c.args.stamp (held c) c.self.invariant.sound (is-held c) e;
      summed = total c ∙ c.self.invariant.summed ∙ ap requests (is-held c) ∙ sym (ap (λ (level : Leveled). requests level.rows) e);
    }

pub returns-clause-visits : goal.returns-clause-visits
returns-clause-visits c = elim c.match-self.branch [
  | in-Leaf w ↦
      let rows : length w.in-Leaf.leaf.value ≡ 1 = ap (λ form. length (leveled form).rows) (sym w.in-Leaf.is) ∙ one c in
      let first : w.len.result ≡ 1 = w.len.ensures.exact ∙ ap length w.deref.ensures ∙ rows in
      let leaf = w.restamp.ensures (held c) (w.deref_mut.ensures.value ∙ sym (ap (λ form. (leveled form).rows) w.in-Leaf.is) ∙ is-held c) in
      let second : w.len-in-Leaf.result ≡ 1 = w.len-in-Leaf.ensures.exact ∙ ap length (w.deref-in-Leaf.ensures ∙ leaf) in
      omega (arith, w.visits-is, w.enter-in-Leaf.ensures.counted, ap bits second, w.enter.ensures.counted, ap bits first)
  | in_default w ↦ absurd (is-leaf c.self.inside.form c.self.invariant.sound (one c) w.in_default.not-Leaf)
]
