use Rattle.std.proofs.Common.{◌≡◌, ◌+◌, ◌-◌, ◌<◌, length, refl, ap, ◌∙◌, arith, Some}
use Rattle.market_types.specs.Bits.{bits}
use Rattle.market_types.specs.Rows.{row_at, set_row}
use Rattle.market_types.proofs.RowChanges.{set-requests}
use Rattle.market_types.proofs.RowReadings.{request-within}
use Rattle.wide_rows.specs.Leveled.{IsLevel}
use Rattle.wide_rows.proofs.NodeDigits.{node-leaf, node-shelf}
use Rattle.wide_rows.specs.Forms.{leveled}
use Rattle.wide_rows.proofs.OneLevel.{level_set, total_fits}
use Rattle.wide_rows.proofs.level.Level.update.Goals as goal
use Rattle.wide_rows.proofs.level.Level.update.Goals.{Joined-self, in-Empty, in-Leaf, in-Shelf}

pub overflow_sub-self : goal.overflow_sub-self
overflow_sub-self c =
    let there : row_at c.args.row.now.stamp (leveled c.self.inside.form).rows ≡ Some c.args.row.now = rw c.self.view_is c.requires.there in
    omega (arith, c.self.invariant.summed, request-within c.args.row.now.stamp (leveled c.self.inside.form).rows c.args.row.now there)

pub overflow_add-self : goal.overflow_add-self
overflow_add-self c = omega (arith, c.self.invariant.summed, c.requires.request, total_fits (leveled c.self.inside.form) c.self.invariant.sound)

-- what the form is seen as now
changed : (c : Joined-self) → leveled c.match-self.self-inside.form ≡ record (leveled c.self.inside.form) { rows = set_row c.args.row.now.stamp c.args.request c.args.mandated (leveled c.self.inside.form).rows }
changed c = elim c.match-self.branch [
  | in-Empty w ↦ rw (w.self-inside-is, w.in-Empty.is) refl
  | in-Leaf w ↦ rw (w.self-inside-is, w.in-Leaf.is, w.set.ensures, w.deref_mut.ensures.value) refl
  | in-Shelf w ↦ rw (w.self-inside-is, w.in-Shelf.is, w.update.ensures.changed, w.deref_mut-in-Shelf.ensures.value) refl
]

summed : (c : Joined-self) → c.match-self.self-inside.total ≡ c.self.inside.total - c.args.row.now.request + c.args.request
summed c = elim c.match-self.branch [
  | in-Empty w ↦ rw w.self-inside-is refl
  | in-Leaf w ↦ rw w.self-inside-is refl
  | in-Shelf w ↦ rw w.self-inside-is refl
]

sound : (c : Joined-self) → IsLevel (leveled c.match-self.self-inside.form)
sound c = level_set (leveled c.self.inside.form) (leveled c.match-self.self-inside.form) c.args.row.now.stamp c.args.request c.args.mandated c.self.invariant.sound c.requires.request (changed c)

pub invariant_of-self : goal.invariant_of-self
invariant_of-self c =
    let old = leveled c.self.inside.form in
    let there : row_at c.args.row.now.stamp old.rows ≡ Some c.args.row.now = rw c.self.view_is c.requires.there in
    let rows = set-requests c.args.row.now.stamp c.args.request c.args.mandated old.rows c.args.row.now c.self.invariant.sound.newest_first there in
    let within = request-within c.args.row.now.stamp old.rows c.args.row.now there in
    record { sound = sound c; summed = rw (changed c) (omega (arith, summed c, c.self.invariant.summed, rows, within)) }

pub returns-clause-sound : goal.returns-clause-sound
returns-clause-sound c = sound c

pub returns-clause-least : goal.returns-clause-least
returns-clause-least c =
    let same : length (leveled c.self.inside.form).rows ≡ length c.args.self.now.rows = ap (λ level. length level.rows) c.self.view_is in
    elim c.match-self.branch [
      | in-Empty w ↦
          let none : length c.args.self.now.rows ≡ 0 = omega (arith, same, ap (λ form. length (leveled form).rows) w.in-Empty.is) in
          omega (arith, ap bits none, w.visits-is, node-leaf (length c.args.self.now.rows))
      | in-Leaf w ↦
          let long : w.len.result ≡ length c.args.self.now.rows = omega (arith, same, w.len.ensures.exact, ap length w.deref.ensures, ap (λ form. length (leveled form).rows) w.in-Leaf.is) in
          omega (arith, w.enter.ensures.counted, ap bits long, w.visits-is, node-leaf (length c.args.self.now.rows))
      | in-Shelf w ↦
          let many : 12 < length c.args.self.now.rows = omega (arith, same, c.self.invariant.sound.boxes.shelves, ap (λ form. (leveled form).shelves) w.in-Shelf.is) in
          omega (arith, w.update.ensures.entered, w.visits-is, node-shelf (length c.args.self.now.rows) many)
    ]

-- what a leaf counts, where it has all rows
pub returns-clause-alone : goal.returns-clause-alone
returns-clause-alone c few =
    let same : length (leveled c.self.inside.form).rows ≡ length c.args.self.now.rows = ap (λ level. length level.rows) c.self.view_is in
    elim c.match-self.branch [
      | in-Empty w ↦
          let none : length c.args.self.now.rows ≡ 0 = omega (arith, same, ap (λ form. length (leveled form).rows) w.in-Empty.is) in
          omega (arith, ap bits none, w.visits-is)
      | in-Leaf w ↦
          let long : w.len.result ≡ length c.args.self.now.rows = omega (arith, same, w.len.ensures.exact, ap length w.deref.ensures, ap (λ form. length (leveled form).rows) w.in-Leaf.is) in
          omega (arith, w.enter.ensures.counted, ap bits long, w.visits-is)
      | in-Shelf w ↦ absurd (omega (arith, few, same, c.self.invariant.sound.boxes.shelves, ap (λ form. (leveled form).shelves) w.in-Shelf.is))
    ]

pub returns-clause-far : goal.returns-clause-far
returns-clause-far c moved = elim c.match-self.branch [
  | in-Empty w ↦ absurd (moved w.near-is)
  | in-Leaf w ↦ absurd (moved w.near-is)
  | in-Shelf w ↦ omega (arith, w.update.ensures.far (λ e. moved (w.near-is ∙ e)), w.visits-is)
]
