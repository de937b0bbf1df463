use Rattle.std.proofs.Common.{◌≡◌, ◌+◌, ◌*◌, ◌/◌, ◌<◌, ◌≤◌, ◌∷◌, length, ap, ◌∙◌, sym, subst, arith}
use Rattle.std.specs.Prelude.{All}
use Rattle.market_types.specs.Bits.{bits}
use Rattle.market_types.specs.Rows.{requests}
use Rattle.market_types.proofs.RowReadings.{requests-cons}
use Rattle.wide_rows.specs.Leveled.{HasFewBoxes, IsLevel}
use Rattle.wide_rows.specs.Forms.{leveled}
use Rattle.wide_rows.specs.Shelves.{Shelved}
use Rattle.wide_rows.proofs.NodeDigits.{bits-next, put-leaf, put-shelf}
use Rattle.wide_rows.proofs.OneLevel.{level_pushed, total_fits}
use Rattle.wide_rows.proofs.level.Level.push.Goals as goal
use Rattle.wide_rows.proofs.level.Level.push.Goals.{After-len-leaves}

pub overflow_add-self : goal.overflow_add-self
overflow_add-self c = omega (arith, c.self.invariant.summed, c.requires.request, total_fits (leveled c.self.inside.form) c.self.invariant.sound)

-- the rows of a shelf after a push
pushed : (c : After-len-leaves) → c.push_newest-in-Shelf.new.self.rows ≡ c.args.row.now ∷ (leveled c.self.inside.form).rows
pushed c =
    c.push_newest-in-Shelf.ensures.rows
    ∙ ap (λ shelf. c.args.row.now ∷ shelf.rows) c.deref_mut-in-Shelf.ensures.value
    ∙ ap (λ form. c.args.row.now ∷ (leveled form).rows) (sym c.in-Shelf.is)

sound : (c : After-len-leaves) → IsLevel (record { rows = c.push_newest-in-Shelf.new.self.rows; leaves = c.push_newest-in-Shelf.new.self.leaves; shelves = 1 })
sound c =
    let old = leveled c.self.inside.form in
    let newest : All (λ other. other.stamp < c.args.row.now.stamp) old.rows = rw c.self.view_is c.requires.newest in
    let room : length old.rows < 1024 = rw c.self.view_is c.requires.room in
    let shelf = c.push_newest-in-Shelf.new.self in
    let leaves : shelf.leaves ≤ 2 * (length shelf.rows / 13) + 1 = subst (λ (s : Shelved). s.leaves ≤ 2 * (length s.rows / 13) + 1) c.deref-in-Shelf.ensures c.len-leaves.ensures.few in
    let shelved : 2 ≤ old.leaves = omega (arith, c.self.invariant.sound.boxes.shelved, ap (λ form. (leveled form).shelves) c.in-Shelf.is) in
    let same : old.leaves ≡ c.deref_mut-in-Shelf.result.now.leaves = ap (λ form. (leveled form).leaves) c.in-Shelf.is ∙ ap (λ s. s.leaves) (sym c.deref_mut-in-Shelf.ensures.value) in
    let two : 2 ≤ shelf.leaves = omega (arith, shelved, same, c.push_newest-in-Shelf.ensures.none_less) in
    let few : HasFewBoxes (record { rows = shelf.rows; leaves = shelf.leaves; shelves = 1 }) = record { leaves = omega (arith, leaves, two); shelves = omega (arith, leaves, two); shelved = omega (arith, two) } in
    level_pushed old _ c.args.row.now c.self.invariant.sound newest c.requires.request room (pushed c) few

pub invariant_of-self-in-Shelf : goal.invariant_of-self-in-Shelf
invariant_of-self-in-Shelf c =
    let d = (goal.at.invariant_of-self-in-Shelf c).After-len-leaves in
    record { sound = sound d; summed = omega (arith, c.self.invariant.summed, requests-cons c.args.row.now (leveled c.self.inside.form).rows, ap requests (pushed d)) }

pub returns-then-len-lt-MOST_ROWS-clause-visits : goal.returns-then-len-lt-MOST_ROWS-clause-visits
returns-then-len-lt-MOST_ROWS-clause-visits c =
    let rows : (leveled c.self.inside.form).rows ≡ c.in-Leaf.leaf.value = ap (λ form. (leveled form).rows) c.in-Leaf.is in
    let same : c.args.self.now.rows ≡ c.in-Leaf.leaf.value = ap (λ level. level.rows) (sym c.self.view_is) ∙ rows in
    let more : c.len-then-len-lt-MOST_ROWS.result ≡ length c.args.self.now.rows + 1 =
    omega (arith, c.len-then-len-lt-MOST_ROWS.ensures.exact, ap length c.deref-then-len-lt-MOST_ROWS.ensures, ap length c.push_newest-then-len-lt-MOST_ROWS.ensures, ap length c.deref_mut-then-len-lt-MOST_ROWS.ensures.value, ap length same) in
    omega (arith, c.enter-then-len-lt-MOST_ROWS.ensures.counted, ap bits more, bits-next (length c.args.self.now.rows))

pub returns-in-Empty-clause-least : goal.returns-in-Empty-clause-least
returns-in-Empty-clause-least c =
    let none : length c.args.self.now.rows ≡ 0 = omega (arith, ap (λ level. length level.rows) c.self.view_is, ap (λ form. length (leveled form).rows) c.in-Empty.is) in
    omega (arith, c.enter.ensures.counted, put-leaf (length c.args.self.now.rows), ap (λ n. bits (n + 1)) none)

pub returns-then-len-lt-MOST_ROWS-clause-least : goal.returns-then-len-lt-MOST_ROWS-clause-least
returns-then-len-lt-MOST_ROWS-clause-least c =
    let rows : (leveled c.self.inside.form).rows ≡ c.in-Leaf.leaf.value = ap (λ form. (leveled form).rows) c.in-Leaf.is in
    let same : c.args.self.now.rows ≡ c.in-Leaf.leaf.value = ap (λ level. level.rows) (sym c.self.view_is) ∙ rows in
    let more : c.len-then-len-lt-MOST_ROWS.result ≡ length c.args.self.now.rows + 1 =
    omega (arith, c.len-then-len-lt-MOST_ROWS.ensures.exact, ap length c.deref-then-len-lt-MOST_ROWS.ensures, ap length c.push_newest-then-len-lt-MOST_ROWS.ensures, ap length c.deref_mut-then-len-lt-MOST_ROWS.ensures.value, ap length same) in
    omega (arith, c.enter-then-len-lt-MOST_ROWS.ensures.counted, ap bits more, put-leaf (length c.args.self.now.rows))

pub returns-else-len-lt-MOST_ROWS-clause-least : goal.returns-else-len-lt-MOST_ROWS-clause-least
returns-else-len-lt-MOST_ROWS-clause-least c =
    let rows : (leveled c.self.inside.form).rows ≡ c.in-Leaf.leaf.value = ap (λ form. (leveled form).rows) c.in-Leaf.is in
    let same : c.args.self.now.rows ≡ c.in-Leaf.leaf.value = ap (λ level. level.rows) (sym c.self.view_is) ∙ rows in
    let many : 12 < length c.args.self.now.rows = omega (arith, c.if-len-lt-MOST_ROWS.false, c.len.ensures.exact, ap length c.deref.ensures, ap length same) in
    omega (arith, c.open_shelf.ensures.entered, put-shelf (length c.args.self.now.rows) many)

pub returns-in-Shelf-clause-least : goal.returns-in-Shelf-clause-least
returns-in-Shelf-clause-least c =
    let many : 12 < length c.args.self.now.rows = omega (arith, c.self.invariant.sound.boxes.shelves, ap (λ form. (leveled form).shelves) c.in-Shelf.is, ap (λ level. length level.rows) c.self.view_is) in
    omega (arith, c.push_newest-in-Shelf.ensures.entered, put-shelf (length c.args.self.now.rows) many)

pub returns-then-len-lt-MOST_ROWS-clause-alone : goal.returns-then-len-lt-MOST_ROWS-clause-alone
returns-then-len-lt-MOST_ROWS-clause-alone c few =
    let rows : (leveled c.self.inside.form).rows ≡ c.in-Leaf.leaf.value = ap (λ form. (leveled form).rows) c.in-Leaf.is in
    let same : c.args.self.now.rows ≡ c.in-Leaf.leaf.value = ap (λ level. level.rows) (sym c.self.view_is) ∙ rows in
    let more : c.len-then-len-lt-MOST_ROWS.result ≡ length c.args.self.now.rows + 1 =
    omega (arith, c.len-then-len-lt-MOST_ROWS.ensures.exact, ap length c.deref-then-len-lt-MOST_ROWS.ensures, ap length c.push_newest-then-len-lt-MOST_ROWS.ensures, ap length c.deref_mut-then-len-lt-MOST_ROWS.ensures.value, ap length same) in
    omega (arith, c.enter-then-len-lt-MOST_ROWS.ensures.counted, ap bits more)

pub returns-else-len-lt-MOST_ROWS-clause-alone : goal.returns-else-len-lt-MOST_ROWS-clause-alone
returns-else-len-lt-MOST_ROWS-clause-alone c few =
    let rows : (leveled c.self.inside.form).rows ≡ c.in-Leaf.leaf.value = ap (λ form. (leveled form).rows) c.in-Leaf.is in
    let same : c.args.self.now.rows ≡ c.in-Leaf.leaf.value = ap (λ level. level.rows) (sym c.self.view_is) ∙ rows in
    absurd (omega (arith, few, c.if-len-lt-MOST_ROWS.false, c.len.ensures.exact, ap length c.deref.ensures, ap length same))

pub returns-in-Shelf-clause-alone : goal.returns-in-Shelf-clause-alone
returns-in-Shelf-clause-alone c few =
    absurd (omega (arith, few, c.self.invariant.sound.boxes.shelves, ap (λ form. (leveled form).shelves) c.in-Shelf.is, ap (λ level. length level.rows) c.self.view_is))

pub returns-in-Shelf-clause-sound : goal.returns-in-Shelf-clause-sound
returns-in-Shelf-clause-sound c = sound (goal.at.returns-in-Shelf-clause-sound c).After-len-leaves
