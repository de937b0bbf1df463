use Rattle.std.proofs.Common.{◌≡◌, ◌+◌, length, ap, ◌∙◌, sym, arith}
use Rattle.market_types.specs.Bits.{bits}
use Rattle.market_types.specs.Rows.{without}
use Rattle.wide_rows.specs.Forms.{leveled}
use Rattle.wide_rows.proofs.OneLevel.{without_most}
use Rattle.wide_rows.proofs.level.take_from.Goals as goal
use Rattle.wide_rows.proofs.level.take_from.Goals.{After-enter}

pub give_up-requires-then-len-eq1-clause-idle : goal.give_up-requires-then-len-eq1-clause-idle
give_up-requires-then-len-eq1-clause-idle c =
    let old = leveled c.args.form.now in
    let one : c.take-row-in-Shelf.new.self.leaves ≡ 1 = search arith in
    let rows : old.rows ≡ c.in-Shelf.shelf.value.rows = ap (λ form. (leveled form).rows) c.in-Shelf.is in
    let shelves : old.shelves ≡ 1 = ap (λ form. (leveled form).shelves) c.in-Shelf.is in
    let left : c.take-row-in-Shelf.new.self.rows ≡ without c.args.stamp old.rows =
    c.take-row-in-Shelf.ensures.rows ∙ ap (λ shelf. without c.args.stamp shelf.rows) c.deref_mut-in-Shelf.ensures.value ∙ ap (without c.args.stamp) (sym rows) in
    (one, omega (arith, shelves, c.requires.sound.boxes.shelves, without_most c.args.stamp old.rows c.requires.sound.newest_first, ap length left))

-- what a leaf counts
counted : (c : After-enter) → c.enter.new.visits ≡ c.args.visits.now + bits (length (leveled c.args.form.now).rows)
counted c =
    let rows : (leveled c.args.form.now).rows ≡ c.in-Leaf.leaf.value = ap (λ form. (leveled form).rows) c.in-Leaf.is in
    let long : c.len.result ≡ length (leveled c.args.form.now).rows = c.len.ensures.exact ∙ ap length (c.deref.ensures ∙ sym rows) in
    omega (arith, c.enter.ensures.counted, ap bits long)

pub returns-then-len-eq0-clause-least : goal.returns-then-len-eq0-clause-least
returns-then-len-eq0-clause-least c = omega (arith, counted (goal.at.returns-then-len-eq0-clause-least c).After-enter)

pub returns-else-len-eq0-clause-least : goal.returns-else-len-eq0-clause-least
returns-else-len-eq0-clause-least c = omega (arith, counted (goal.at.returns-else-len-eq0-clause-least c).After-enter)

pub returns-then-len-eq0-clause-alone : goal.returns-then-len-eq0-clause-alone
returns-then-len-eq0-clause-alone c few = counted (goal.at.returns-then-len-eq0-clause-alone c).After-enter

pub returns-else-len-eq0-clause-alone : goal.returns-else-len-eq0-clause-alone
returns-else-len-eq0-clause-alone c few = counted (goal.at.returns-else-len-eq0-clause-alone c).After-enter

pub returns-then-len-eq1-clause-alone : goal.returns-then-len-eq1-clause-alone
returns-then-len-eq1-clause-alone c few = absurd (omega (arith, few, c.requires.sound.boxes.shelves, ap (λ form. (leveled form).shelves) c.in-Shelf.is))

pub returns-else-len-eq1-clause-alone : goal.returns-else-len-eq1-clause-alone
returns-else-len-eq1-clause-alone c few = absurd (omega (arith, few, c.requires.sound.boxes.shelves, ap (λ form. (leveled form).shelves) c.in-Shelf.is))
