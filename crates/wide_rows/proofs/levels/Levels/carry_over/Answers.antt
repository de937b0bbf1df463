use Rattle.std.proofs.Common.{◌≡◌, ◌<◌, false, [], ◌∷◌, length, set, get_or, sym, ap, subst, ◌∙◌, arith}
use Rattle.std.proofs.lemmas.List.{length-set}
use Rattle.market_types.specs.declared.row.Row.{Row}
use Rattle.wide_rows.specs.Leveled.{Leveled, AreLevels, rows_at}
use Rattle.wide_rows.proofs.Alone.{alone, restamped_level}
use Rattle.wide_rows.proofs.EightLevels.{IsPart, part, carried, emptied, length-view, newest-at, none, rows-at, view-set}
use Rattle.wide_rows.proofs.levels.Levels.carry_over.Goals as goal
use Rattle.wide_rows.proofs.levels.Levels.carry_over.Goals.{Joined-self-to}

-- the level that the row leaves
abbrev from : Joined-self-to → Leveled
from c = get_or c.self.inside.levels c.args.from c.index-self-from.result

from-rows : (c : Joined-self-to) → rows_at c.args.from c.args.self.now ≡ (from c).rows
from-rows c = ap (rows_at c.args.from) (sym c.self.view_is) ∙ rows-at c.self.inside.levels c.args.from c.index-self-from.result (omega (arith, c.self.invariant.eight, c.requires.from))

-- it has none then
left : (c : Joined-self-to) → c.replace-level.new.dest ≡ none
left c = c.replace-level.ensures.after ∙ c.new.ensures

-- the row comes with all that the level took
moved : (c : Joined-self-to) (row : Row) → (from c).rows ≡ row ∷ [] → c.restamp.new.self ≡ record (from c) { rows = record row { stamp = c.args.newest } ∷ [] }
moved c row is =
    let was = c.replace-level.ensures.value in
    c.restamp.ensures.rows row (ap (λ (level : Leveled). level.rows) was ∙ is) ∙ ap (λ (level : Leveled). record level { rows = record row { stamp = c.args.newest } ∷ [] }) was

-- where it comes to there is none
empty : (c : Joined-self-to) → rows_at c.args.to (set c.args.self.now c.args.from []) ≡ []
empty c = emptied c.args.self.now c.args.from c.args.to (omega (arith, ap length c.self.view_is, length-view c.self.inside.levels, c.self.invariant.eight, c.requires.from)) c.requires.free

pub invariant_of-self : goal.invariant_of-self
invariant_of-self c =
    let levels = c.self.inside.levels in
    let there : c.args.from < length levels = omega (arith, c.self.invariant.eight, c.requires.from) in
    let one : length (from c).rows ≡ 1 = ap length (sym (from-rows c)) ∙ c.requires.one in
    let d : Row = record { stamp = 0; arena = 0; request = 0; mandated = false } in
    let row = get_or (from c).rows 0 d in
    let is : (from c).rows ≡ row ∷ [] = alone (from c).rows d one in
    let e : c.restamp.new.self ≡ record (from c) { rows = record row { stamp = c.args.newest } ∷ [] } = moved c row is in
    let p : IsPart (from c) c.self.inside.spare c.self.inside.rows = part c.args.from c.index-self-from.result c.self.invariant c.requires.from in
    let to : c.args.to < length (set levels c.args.from none) = omega (arith, length-set levels c.args.from none, c.self.invariant.eight, c.requires.to) in
    let free : (get_or (set levels c.args.from none) c.args.to none).rows ≡ [] =
    sym (rows-at (set levels c.args.from none) c.args.to none to) ∙ ap (rows_at c.args.to) (view-set levels c.args.from none ∙ ap (λ view. set view c.args.from []) c.self.view_is) ∙ empty c in
    subst (λ (level : Leveled). AreLevels (set (set levels c.args.from level) c.args.to c.restamp.new.self) c.self.inside.spare c.self.inside.rows) (sym (left c))
    (carried c.args.from c.args.to c.index-self-from.result none c.restamp.new.self c.self.invariant c.requires.from c.requires.to one free
    (restamped_level (from c) c.restamp.new.self c.args.newest row p.sound is e)
    (ap (λ (level : Leveled). length level.rows) e)
    (ap (λ (level : Leveled). level.leaves) e)
    (ap (λ (level : Leveled). level.shelves) e))

pub returns-clause-moved : goal.returns-clause-moved
returns-clause-moved c row is =
    let levels = c.self.inside.levels in
    view-set (set levels c.args.from c.replace-level.new.dest) c.args.to c.restamp.new.self
    ∙ ap (λ view. set view c.args.to c.restamp.new.self.rows) (view-set levels c.args.from c.replace-level.new.dest)
    ∙ ap (λ view. set (set view c.args.from c.replace-level.new.dest.rows) c.args.to c.restamp.new.self.rows) c.self.view_is
    ∙ ap (λ (level : Leveled). set (set c.args.self.now c.args.from level.rows) c.args.to c.restamp.new.self.rows) (left c)
    ∙ ap (λ (level : Leveled). set (set c.args.self.now c.args.from []) c.args.to level.rows) (moved c row (sym (from-rows c) ∙ is))
    ∙ ap (λ rows. set (set c.args.self.now c.args.from []) c.args.to (record row { stamp = c.args.newest } ∷ rows)) (sym (empty c))

pub returns-clause-newest_first_from : goal.returns-clause-newest_first_from
returns-clause-newest_first_from c = newest-at c.args.from (invariant_of-self c) c.requires.from

pub returns-clause-newest_first_to : goal.returns-clause-newest_first_to
returns-clause-newest_first_to c = newest-at c.args.to (invariant_of-self c) c.requires.to
