use Rattle.std.proofs.Common.{arith, sym, ap, subst, ◌∙◌, ◌≡◌, ◌+◌, ◌≤◌, length}
use Rattle.std.specs.Prelude.{OnOk}
use Rattle.std.proofs.lemmas.List.{length-map}
use Rattle.market_types.specs.State.{State}
use Rattle.market_types.specs.Rows.{requests}
use Rattle.market_types.specs.Allotment.{at_level, total_request}
use Rattle.arena_store.specs.Arenas.{level_row, level_rows}
use Rattle.recall_hire.specs.Shared.{CanShareAll, IsListed, staffed}
use Rattle.recall_hire.specs.Staffed.{row_of, actives, imbalances, looks}
use Rattle.market_core.specs.Divided.{rows_at}
use Rattle.market_core.proofs.market.Market.list_level.Goals as goal
use Rattle.market_core.proofs.market.Market.list_level.Goals.{After-whole}

module _ (c : After-whole) where
  seats : c.self.inside.roster ≡ c.args.self.now.seats
  seats = ap (λ (t : State). t.seats) c.self.view_is

  rows : c.whole.result.0 ≡ level_rows c.args.level c.args.self.now.arenas
  rows = c.whole.ensures.rows ∙ ap (λ (t : State). level_rows c.args.level t.arenas) c.self.view_is

  walk : staffed c.args.sharing c.self.inside.roster 0 c.whole.result.0 ≡ rows_at c.args.self.now c.args.level
  walk = rw (seats, rows) c.requires.shared.rows

pub list-requires-clause-shared : goal.list-requires-clause-shared
list-requires-clause-shared c =
    let asked : requests c.whole.result.0 ≡ total_request (at_level c.args.level c.args.self.now.arenas) = c.whole.ensures.asked ∙ ap (λ (t : State). total_request (at_level c.args.level t.arenas)) c.self.view_is in
    subst (CanShareAll c.args.sharing 0) (sym asked) c.requires.shared.fits

pub list-requires-clause-few : goal.list-requires-clause-few
list-requires-clause-few c = c.whole.ensures.short

pub list-requires-clause-room : goal.list-requires-clause-room
list-requires-clause-room c =
    let few : length c.args.self.now.arenas ≤ 1024 = subst (λ (t : State). length t.arenas ≤ 1024) c.self.view_is c.whole.ensures.few in
    omega (arith, few, c.requires.room, c.whole.ensures.short)

pub list-requires-clause-unmet : goal.list-requires-clause-unmet
list-requires-clause-unmet c =
    let here = (goal.at.list-requires-clause-unmet c).After-whole in
    subst (λ xs. actives xs ≤ c.args.unmet.now) (sym (walk here)) c.requires.unmet

pub returns-clause-listed : goal.returns-clause-listed
returns-clause-listed c =
    let here = (goal.at.returns-clause-listed c).After-whole in
    subst (λ xs. OnOk c.list.result (IsListed xs c.args.lists.now c.list.new.lists)) (walk here) c.list.ensures.listed

pub returns-clause-met : goal.returns-clause-met
returns-clause-met c =
    let here = (goal.at.returns-clause-met c).After-whole in
    subst (λ xs. OnOk c.list.result (c.args.unmet.now ≡ c.list.new.unmet + actives xs)) (walk here) c.list.ensures.met

pub returns-clause-looked : goal.returns-clause-looked
returns-clause-looked c =
    let here = (goal.at.returns-clause-looked c).After-whole in
    subst (λ xs. OnOk c.list.result (c.args.visits.now + imbalances xs ≤ c.list.new.visits)) (walk here) c.list.ensures.looked

pub returns-clause-met_first : goal.returns-clause-met_first
returns-clause-met_first c =
    let here = (goal.at.returns-clause-met_first c).After-whole in
    subst (λ xs. OnOk c.list.result (c.args.visits.now + looks c.args.unmet.now xs ≤ c.list.new.visits)) (walk here) c.list.ensures.met_first

pub returns-clause-once : goal.returns-clause-once
returns-clause-once c =
    let here = (goal.at.returns-clause-once c).After-whole in
    let xs = at_level c.args.level c.args.self.now.arenas in
    let many : length c.whole.result.0 ≡ length (rows_at c.args.self.now c.args.level) = ap length (rows here) ∙ length-map xs level_row ∙ sym (length-map xs (row_of c.args.self.now)) in
    subst (λ n. OnOk c.list.result (c.list.new.visits ≤ c.args.visits.now + n)) many c.list.ensures.once
