use Rattle.std.proofs.Common.{ℕ, refl, ◌≡◌, ◌≢◌, ◌-◌, ◌<◌, get_or, sym, ◌∙◌}
use Rattle.std.specs.Prelude.{slice_range}
use Rattle.std.specs.List.{All}
use Rattle.std.specs.Result.{MatchResult}
use Rattle.arena_store.proofs.Search.{IsNear, searched, index-missing, index-found, near-rising, near-missing, near-found, found-within}
use Rattle.arena_store.proofs.lookup.index_of.Goals as goal
use Rattle.arena_store.proofs.lookup.index_of.Goals.{After-ok}

module _ (c : After-ok) where
  near : IsNear c.args.keys.now c.args.number c.bounds_of-low.result.0 c.bounds_of-low.result.1
  near =
      record {
        order = c.bounds_of-low.ensures.order;
        within = c.bounds_of-low.ensures.within;
        before = c.bounds_of-low.ensures.before;
        behind = c.bounds_of-low.ensures.behind;
      }

  found : MatchResult c.binary_search-near.result
      (λ i. (d : ℕ) → get_or (slice_range c.args.keys.now c.bounds_of-low.result.0 c.bounds_of-low.result.1) i d ≡ c.args.number)
      (λ _. All (λ (key : ℕ). key ≢ c.args.number) (slice_range c.args.keys.now c.bounds_of-low.result.0 c.bounds_of-low.result.1))
  found =
      searched (slice_range c.args.keys.now c.bounds_of-low.result.0 c.bounds_of-low.result.1) c.args.number
      (near-rising c.args.keys.now c.bounds_of-low.result.0 c.bounds_of-low.result.1 c.bounds_of-low.ensures.within c.requires)
      c.binary_search-near.result (c.binary_search-near.ensures.position)

pub returns-in_err-ok-clause-missing : goal.returns-in_err-ok-clause-missing
returns-in_err-ok-clause-missing c =
    let here = (goal.at.returns-in_err-ok-clause-missing c).After-ok in
    let none : All (λ (key : ℕ). key ≢ c.args.number) (slice_range c.args.keys.now c.bounds_of-low.result.0 c.bounds_of-low.result.1) =
    rw c.in_err-ok.was at (index-missing (slice_range c.args.keys.now c.bounds_of-low.result.0 c.bounds_of-low.result.1) c.args.number c.args.number c.binary_search-near.result c.ok.result c.ok.ensures.value refl (found here)) in
    rw c.from_residual.ensures (near-missing c.args.keys.now c.args.number c.bounds_of-low.result.0 c.bounds_of-low.result.1 (near here) none)

pub returns-clause-found : goal.returns-clause-found
returns-clause-found c =
    let here = (goal.at.returns-clause-found c).After-ok in
    let there : (d : ℕ) → get_or (slice_range c.args.keys.now c.bounds_of-low.result.0 c.bounds_of-low.result.1) c.in_ok-ok.field-0 d ≡ c.args.number =
    rw c.in_ok-ok.was at (index-found (slice_range c.args.keys.now c.bounds_of-low.result.0 c.bounds_of-low.result.1) c.args.number c.args.number c.binary_search-near.result c.ok.result c.ok.ensures.value refl (found here)) in
    let inside : c.in_ok-ok.field-0 < c.bounds_of-low.result.1 - c.bounds_of-low.result.0 =
    found-within c.args.keys.now c.bounds_of-low.result.0 c.bounds_of-low.result.1 c.in_ok-ok.field-0 c.binary_search-near.result (sym c.in_ok-ok.was ∙ c.ok.ensures.value) c.binary_search-near.ensures.bound in
    near-found c.args.keys.now c.args.number c.bounds_of-low.result.0 c.bounds_of-low.result.1 c.in_ok-ok.field-0 inside there
