use Rattle.std.specs.Prelude.{All}
use Rattle.std.proofs.Common.{◌≡◌, ◌≢◌, ◌+◌, ◌-◌, ◌<◌, [], length, ap, ◌∙◌, sym, subst, arith, get_or, set, Some}
use Rattle.std.proofs.lemmas.Bool.{eqb-true}
use Rattle.std.proofs.lemmas.List.{nil_from_length}
use Rattle.market_types.specs.declared.row.Row.{Row}
use Rattle.market_types.specs.Bits.{bits}
use Rattle.market_types.specs.Rows.{row_at}
use Rattle.wide_rows.specs.Ways.{least_way, least_put}
use Rattle.wide_rows.proofs.Alone.{found-alone, gone-alone}
use Rattle.wide_rows.specs.Leveled.{Leveled, AreLevels, rows_of_each, rows_at, with_first, without_at}
use Rattle.wide_rows.proofs.NodeDigits.{bits-few}
use Rattle.wide_rows.proofs.OneLevel.{row_low, without_length}
use Rattle.wide_rows.proofs.EightLevels.{IsPart, part, changed, taken, leaf-spare, shelf-spare, emptied, length-view, newest-at, rows-at, view-taken, view-pushed}
use Rattle.wide_rows.proofs.levels.Levels.promote.Goals as goal
use Rattle.wide_rows.proofs.levels.Levels.promote.Goals.{In-Some, After-push, After-carry_over, then-from-to, else-from-to}

-- the level that the row leaves
from_part : (c : In-Some) → IsPart (get_or c.self.inside.levels c.args.from c.index-self-from-2.result) c.self.inside.spare c.self.inside.rows
from_part c = part c.args.from c.index-self-from-2.result c.self.invariant c.requires.from

found : (c : In-Some) → row_at c.args.stamp (get_or c.self.inside.levels c.args.from c.index-self-from-2.result).rows ≡ Some c.in-Some.row
found c = sym c.take.ensures.taken ∙ c.in-Some.is

some : (c : In-Some) → 0 < c.self.inside.rows
some c =
    let p = from_part c in
    omega (arith, p.rows, without_length c.args.stamp (get_or c.self.inside.levels c.args.from c.index-self-from-2.result).rows c.in-Some.row p.sound.newest_first (found c))

-- the levels without the row
kept : (c : In-Some) → AreLevels (set c.self.inside.levels c.args.from c.take.new.self) c.take.new.spare (c.self.inside.rows - 1)
kept c =
    taken c.args.from c.args.stamp c.index-self-from-2.result c.take.new.self c.take.new.spare c.in-Some.row c.self.invariant c.requires.from c.take.ensures.sound c.take.ensures.rows
    (record { leaves = c.take.ensures.leaves; shelves = c.take.ensures.shelves; made_leaves = c.take.ensures.made_leaves; made_shelves = c.take.ensures.made_shelves }) (found c)

view : (c : In-Some) → rows_of_each (set c.self.inside.levels c.args.from c.take.new.self) ≡ without_at c.args.from c.args.stamp c.args.self.now
view c =
    view-taken c.self.inside.levels c.args.from c.args.stamp c.index-self-from-2.result c.take.new.self (omega (arith, c.self.invariant.eight, c.requires.from)) c.take.ensures.rows
    ∙ ap (without_at c.args.from c.args.stamp) c.self.view_is

-- the level that the row comes to
to_part : (c : In-Some) (d : Leveled) → IsPart (get_or (set c.self.inside.levels c.args.from c.take.new.self) c.args.to d) c.take.new.spare (c.self.inside.rows - 1)
to_part c d = part c.args.to d (kept c) c.requires.to

to_rows : (c : In-Some) (d : Leveled) → rows_at c.args.to (without_at c.args.from c.args.stamp c.args.self.now) ≡ (get_or (set c.self.inside.levels c.args.from c.take.new.self) c.args.to d).rows
to_rows c d =
    let k = kept c in
    ap (rows_at c.args.to) (sym (view c)) ∙ rows-at (set c.self.inside.levels c.args.from c.take.new.self) c.args.to d (omega (arith, k.eight, c.requires.to))

pub push-requires-clause-room : goal.push-requires-clause-room
push-requires-clause-room c =
    let d = (goal.at.push-requires-clause-room c).In-Some in
    let p = to_part d c.index-self-to-2.result in
    omega (arith, p.rows, some d, c.self.invariant.few)

pub push-requires-clause-request : goal.push-requires-clause-request
push-requires-clause-request c =
    let d = (goal.at.push-requires-clause-request c).In-Some in
    let p = from_part d in
    row_low c.args.stamp (get_or c.self.inside.levels c.args.from c.index-self-from-2.result).rows c.in-Some.row p.sound.low (found d)

pub push-requires-clause-newest : goal.push-requires-clause-newest
push-requires-clause-newest c =
    let d = (goal.at.push-requires-clause-newest c).In-Some in
    subst (All (λ (older : Row). older.stamp < c.args.newest)) (to_rows d c.index-self-to-2.result) c.requires.newest

pub push-requires-clause-leaf : goal.push-requires-clause-leaf
push-requires-clause-leaf c =
    let d = (goal.at.push-requires-clause-leaf c).In-Some in
    leaf-spare (kept d) (omega (arith, c.self.invariant.enough_leaves, some d, c.take.ensures.made_leaves))

pub push-requires-clause-shelf : goal.push-requires-clause-shelf
push-requires-clause-shelf c long lacks =
    let k = kept (goal.at.push-requires-clause-shelf c).In-Some in
    shelf-spare k k.enough_shelves c.args.to c.index-self-to-2.result c.requires.to long lacks

pub push-requires-clause-made : goal.push-requires-clause-made
push-requires-clause-made c =
    let p = to_part (goal.at.push-requires-clause-made c).In-Some c.index-self-to-2.result in
    p.leaves

pub push-requires-clause-few : goal.push-requires-clause-few
push-requires-clause-few c =
    let x = get_or c.self.inside.levels c.args.from c.index-self-from-2.result in
    let p = from_part (goal.at.push-requires-clause-few c).In-Some in
    omega (arith, c.requires.few, c.take.ensures.visits, bits-few (length x.rows) (omega (arith, p.rows, c.self.invariant.few)))

pub invariant_of-self : goal.invariant_of-self
invariant_of-self c =
    let d = (goal.at.invariant_of-self c).In-Some in
    let n = some d in
    changed c.args.to c.index-self-to-2.result c.push.new.self c.push.new.spare c.self.inside.rows (kept d) c.requires.to c.push.ensures.sound
    (record { leaves = c.push.ensures.leaves; shelves = c.push.ensures.shelves; made_leaves = c.push.ensures.made_leaves; made_shelves = c.push.ensures.made_shelves })
    (omega (arith, n, ap length c.push.ensures.rows)) c.self.invariant.few
    (omega (arith, c.self.invariant.enough_leaves, c.take.ensures.made_leaves)) (omega (arith, c.self.invariant.enough_shelves, c.take.ensures.made_shelves))

-- the two levels as they were, and as they are without the row
from_rows : (c : In-Some) → rows_at c.args.from c.args.self.now ≡ (get_or c.self.inside.levels c.args.from c.index-self-from-2.result).rows
from_rows c = ap (rows_at c.args.from) (sym c.self.view_is) ∙ rows-at c.self.inside.levels c.args.from c.index-self-from-2.result (omega (arith, c.self.invariant.eight, c.requires.from))

pub returns-clause-least : goal.returns-clause-least
returns-clause-least c =
    let d = (goal.at.returns-clause-least c).In-Some in
    omega (arith, c.take.ensures.least, c.push.ensures.least, ap (λ rows. least_way (length rows)) (from_rows d), ap (λ rows. least_put (length rows)) (to_rows d c.index-self-to-2.result))

pub returns-clause-alone : goal.returns-clause-alone
returns-clause-alone c few-from few-to =
    let d = (goal.at.returns-clause-alone c).In-Some in
    let there = from_rows d in
    let next = to_rows d c.index-self-to-2.result in
    omega (
      arith,
      c.take.ensures.alone (omega (arith, few-from, ap length there)),
      c.push.ensures.alone (omega (arith, few-to, ap length next)),
      ap (λ rows. bits (length rows)) there,
      ap (λ rows. bits (length rows + 1)) next,
    )

pub returns-clause-visits : goal.returns-clause-visits
returns-clause-visits c =
    let d = (goal.at.returns-clause-visits c).In-Some in
    omega (arith, c.take.ensures.visits, c.push.ensures.visits, ap (λ rows. bits (length rows)) (from_rows d), ap (λ rows. bits (length rows)) (to_rows d c.index-self-to-2.result))

same-row : {x y : Row} → Some y ≡ Some x → y ≡ x
same-row {x} {y} e = cc

pub returns-clause-promoted : goal.returns-clause-promoted
returns-clause-promoted c row there =
    let d = (goal.at.returns-clause-promoted c).In-Some in
    let k = kept d in
    let here : c.in-Some.row ≡ row = same-row (sym (found d) ∙ ap (row_at c.args.stamp) (sym (rows-at c.self.inside.levels c.args.from c.index-self-from-2.result (omega (arith, c.self.invariant.eight, c.requires.from))) ∙ ap (rows_at c.args.from) c.self.view_is) ∙ there) in
    view-pushed (set c.self.inside.levels c.args.from c.take.new.self) c.args.to _ c.index-self-to-2.result c.push.new.self (omega (arith, k.eight, c.requires.to)) c.push.ensures.rows
    ∙ ap (with_first c.args.to (record c.in-Some.row { stamp = c.args.newest })) (view d)
    ∙ ap (λ (r : Row). with_first c.args.to (record r { stamp = c.args.newest }) (without_at c.args.from c.args.stamp c.args.self.now)) here

pub returns-clause-newest_first_from : goal.returns-clause-newest_first_from
returns-clause-newest_first_from c = newest-at c.args.from (invariant_of-self (goal.at.returns-clause-newest_first_from c).After-push) c.requires.from

pub returns-clause-newest_first_to : goal.returns-clause-newest_first_to
returns-clause-newest_first_to c = newest-at c.args.to (invariant_of-self (goal.at.returns-clause-newest_first_to c).After-push) c.requires.to

-- ---- the only row of its level, which goes with its leaf

-- its level has one row
one : (c : After-carry_over) → length (rows_at c.args.from c.args.self.now) ≡ 1
one c =
    let d = c.index-self-from.result in
    let rows : rows_at c.args.from c.args.self.now ≡ (get_or c.self.inside.levels c.args.from d).rows =
    ap (rows_at c.args.from) (sym c.self.view_is) ∙ rows-at c.self.inside.levels c.args.from d (omega (arith, c.self.invariant.eight, c.requires.from)) in
    ap length rows ∙ eqb-true _ 1 (sym c.has_one.ensures ∙ c.if-has_one.true)

-- and the level that it comes to has none
other : (c : After-carry_over) → c.args.from ≢ c.args.to → rows_at c.args.to c.args.self.now ≡ []
other c apart = elim c.if-from-to.branch [
  | then-from-to w ↦ absurd (apart w.if-from-to.true)
  | else-from-to w ↦
      ap (rows_at c.args.to) (sym c.self.view_is) ∙ rows-at c.self.inside.levels c.args.to w.index-self-to.result (omega (arith, c.self.invariant.eight, c.requires.to))
      ∙ nil_from_length (get_or c.self.inside.levels c.args.to w.index-self-to.result).rows (eqb-true _ 0 (sym w.is_empty.ensures ∙ sym w.value-is ∙ c.if-is_empty.true))
]

free : (c : After-carry_over) → rows_at c.args.to (without_at c.args.from c.args.stamp c.args.self.now) ≡ []
free c =
    ap (λ rows. rows_at c.args.to (set c.args.self.now c.args.from rows)) (gone-alone c.args.stamp (rows_at c.args.from c.args.self.now) (one c) c.requires.there)
    ∙ emptied c.args.self.now c.args.from c.args.to (omega (arith, ap length c.self.view_is, length-view c.self.inside.levels, c.self.invariant.eight, c.requires.from)) (other c)

pub returns-then-is_empty-clause-promoted : goal.returns-then-is_empty-clause-promoted
returns-then-is_empty-clause-promoted c row there =
    let found = found-alone c.args.stamp (rows_at c.args.from c.args.self.now) row (one c) there in
    c.carry_over.ensures.moved row found.0
    ∙ ap (λ rows. with_first c.args.to (record row { stamp = c.args.newest }) (set c.args.self.now c.args.from rows)) (sym found.1)

pub returns-then-is_empty-clause-least : goal.returns-then-is_empty-clause-least
returns-then-is_empty-clause-least c = omega (arith, c.carry_over.ensures.visits, ap least_way (one c), ap (λ rows. least_put (length rows)) (free c))

pub returns-then-is_empty-clause-alone : goal.returns-then-is_empty-clause-alone
returns-then-is_empty-clause-alone c few-from few-to = omega (arith, c.carry_over.ensures.visits, ap bits (one c), ap (λ rows. bits (length rows + 1)) (free c))
