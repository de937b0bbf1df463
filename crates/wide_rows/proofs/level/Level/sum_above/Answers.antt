use Rattle.std.proofs.Common.{◌≡◌, length, ap, ◌∙◌, sym, arith}
use Rattle.market_types.specs.Bits.{bits}
use Rattle.wide_rows.specs.Forms.{leveled}
use Rattle.wide_rows.proofs.level.Level.sum_above.Goals as goal

pub returns-in-Leaf-clause-least : goal.returns-in-Leaf-clause-least
returns-in-Leaf-clause-least c =
    let rows : c.in-Leaf.leaf.value ≡ c.args.self.now.rows = ap (λ form. (leveled form).rows) (sym c.in-Leaf.is) ∙ ap (λ level. level.rows) c.self.view_is in
    let long : c.len.result ≡ length c.args.self.now.rows = c.len.ensures.exact ∙ ap length (c.deref.ensures ∙ rows) in
    omega (arith, c.enter.ensures.counted, ap bits long)

pub returns-in-Leaf-clause-alone : goal.returns-in-Leaf-clause-alone
returns-in-Leaf-clause-alone c few =
    let rows : c.in-Leaf.leaf.value ≡ c.args.self.now.rows = ap (λ form. (leveled form).rows) (sym c.in-Leaf.is) ∙ ap (λ level. level.rows) c.self.view_is in
    let long : c.len.result ≡ length c.args.self.now.rows = c.len.ensures.exact ∙ ap length (c.deref.ensures ∙ rows) in
    omega (arith, c.enter.ensures.counted, ap bits long)

pub returns-in-Shelf-clause-alone : goal.returns-in-Shelf-clause-alone
returns-in-Shelf-clause-alone c few =
    absurd (omega (arith, few, c.self.invariant.sound.boxes.shelves, ap (λ form. (leveled form).shelves) c.in-Shelf.is, ap (λ level. length level.rows) c.self.view_is))
