use Rattle.std.proofs.Common.{◌≡◌, ◌<◌, length, ap, ◌∙◌, sym, arith}
use Rattle.market_types.specs.Bits.{bits}
use Rattle.wide_rows.specs.Forms.{leveled}
use Rattle.wide_rows.proofs.NodeDigits.{node-leaf, node-shelf}
use Rattle.wide_rows.proofs.WayDown.{if_some}
use Rattle.wide_rows.proofs.level.Level.first_mandated.Goals as goal

pub returns-in-Empty-clause-entered : goal.returns-in-Empty-clause-entered
returns-in-Empty-clause-entered c =
    let none : length c.args.self.now.rows ≡ 0 = omega (arith, ap (λ level. length level.rows) c.self.view_is, ap (λ form. length (leveled form).rows) c.in-Empty.is) in
    omega (arith, node-leaf (length c.args.self.now.rows), ap bits none)

pub returns-in-Leaf-clause-entered : goal.returns-in-Leaf-clause-entered
returns-in-Leaf-clause-entered c =
    let rows : c.in-Leaf.leaf.value ≡ c.args.self.now.rows = ap (λ form. (leveled form).rows) (sym c.in-Leaf.is) ∙ ap (λ level. level.rows) c.self.view_is in
    let long : c.len.result ≡ length c.args.self.now.rows = c.len.ensures.exact ∙ ap length (c.deref.ensures ∙ rows) in
    omega (arith, c.enter.ensures.counted, ap bits long, node-leaf (length c.args.self.now.rows))

pub returns-in-Shelf-clause-entered : goal.returns-in-Shelf-clause-entered
returns-in-Shelf-clause-entered c =
    let many : 12 < length c.args.self.now.rows = omega (arith, c.self.invariant.sound.boxes.shelves, ap (λ form. (leveled form).shelves) c.in-Shelf.is, ap (λ level. length level.rows) c.self.view_is) in
    omega (arith, c.first_mandated-in-Shelf.ensures.entered, node-shelf (length c.args.self.now.rows) many)

pub returns-in-Leaf-clause-least : goal.returns-in-Leaf-clause-least
returns-in-Leaf-clause-least c =
    let rows : c.in-Leaf.leaf.value ≡ c.args.self.now.rows = ap (λ form. (leveled form).rows) (sym c.in-Leaf.is) ∙ ap (λ level. level.rows) c.self.view_is in
    let long : c.len.result ≡ length c.args.self.now.rows = c.len.ensures.exact ∙ ap length (c.deref.ensures ∙ rows) in
    if_some c.first_mandated.result (omega (arith, c.enter.ensures.counted, ap bits long))

pub returns-in-Leaf-clause-alone : goal.returns-in-Leaf-clause-alone
returns-in-Leaf-clause-alone c few =
    let rows : c.in-Leaf.leaf.value ≡ c.args.self.now.rows = ap (λ form. (leveled form).rows) (sym c.in-Leaf.is) ∙ ap (λ level. level.rows) c.self.view_is in
    let long : c.len.result ≡ length c.args.self.now.rows = c.len.ensures.exact ∙ ap length (c.deref.ensures ∙ rows) in
    omega (arith, c.enter.ensures.counted, ap bits long)

pub returns-in-Shelf-clause-alone : goal.returns-in-Shelf-clause-alone
returns-in-Shelf-clause-alone c few =
    absurd (omega (arith, few, c.self.invariant.sound.boxes.shelves, ap (λ form. (leveled form).shelves) c.in-Shelf.is, ap (λ level. length level.rows) c.self.view_is))
