-- What comes before an arena at its level.
use Rattle.std.proofs.Common.{◌≡◌, ◌≢◌, ℕ, ◌+◌, Bool, false, eqb, List, [], ◌∷◌, ◌++◌, None, refl, sym, ap, subst, ◌∙◌}
use Rattle.std.specs.List.{All}
use Rattle.std.proofs.lemmas.Bool.{eq-eqb}
use Rattle.std.proofs.lemmas.List.Elements.{All-append, All-filter, All-head, All-tail}
use Rattle.std.proofs.lemmas.List.Sums.{sum_by-cons}
use Rattle.market_types.specs.State.{Arena}
use Rattle.market_types.specs.Claims.{request_of}
use Rattle.market_types.specs.Allotment.{total_request, at_level}
use Rattle.market_types.specs.Step.{arena_at}
use Rattle.arena_store.specs.Arenas.{has_number, newer, older, IsMissing, IsFound}
use Rattle.market_core.specs.Ahead.{asked_ahead}
use Rattle.market_core.proofs.Allotted.{at_level-own, at_level-other, missing-at}

-- the arena of this number ends the sum, those of other numbers before it are in it
asked_ahead-stops : (n : ℕ) (row : Arena) (xs ys : List Arena) → row.number ≡ n → IsMissing n xs → asked_ahead n (xs ++ row ∷ ys) ≡ total_request xs
asked_ahead-stops n row [] ys e h = rw (eq-eqb row.number n e) refl
asked_ahead-stops n row (x ∷ xs) ys e h =
    let P : Arena → Type 0 = λ (a : Arena). has_number n a ≡ false in
    rw (All-head P x xs h) (ap (λ m. request_of x.claim + m) (asked_ahead-stops n row xs ys e (All-tail P x xs h)) ∙ sym (sum_by-cons (λ (a : Arena). request_of a.claim) x xs))

-- all that are there are ahead of an arena that is not
pub asked_ahead-missing : (n : ℕ) (xs : List Arena) → IsMissing n xs → asked_ahead n xs ≡ total_request xs
asked_ahead-missing n [] h = refl
asked_ahead-missing n (x ∷ xs) h =
    let P : Arena → Type 0 = λ (a : Arena). has_number n a ≡ false in
    rw (All-head P x xs h) (ap (λ m. request_of x.claim + m) (asked_ahead-missing n xs (All-tail P x xs h)) ∙ sym (sum_by-cons (λ (a : Arena). request_of a.claim) x xs))

-- ahead of an arena are those of its level that are newer
pub asked_ahead-found : (n : ℕ) (row : Arena) (arenas : List Arena) → IsFound n row arenas
    → total_request (at_level row.level (newer row.stamp arenas)) ≡ asked_ahead n (at_level row.level arenas)
asked_ahead-found n row arenas f =
    let P : Arena → Type 0 = λ (a : Arena). has_number n a ≡ false in
    let xs = newer row.stamp arenas in
    let ys = older row.stamp arenas in
    let own : at_level row.level arenas ≡ at_level row.level xs ++ row ∷ at_level row.level ys = ap (at_level row.level) f.split ∙ at_level-own xs ys row in
    sym
    (ap (asked_ahead n) own
    ∙ asked_ahead-stops n row (at_level row.level xs) (at_level row.level ys) f.number (All-filter (λ (a : Arena). eqb a.level row.level) P xs f.missing_before))

-- ahead of an arena of another level are all of this one
pub asked_ahead-other : (n level : ℕ) (row : Arena) (arenas : List Arena) → IsFound n row arenas → row.level ≢ level
    → asked_ahead n (at_level level arenas) ≡ total_request (at_level level arenas)
asked_ahead-other n level row arenas f apart =
    let P : Arena → Type 0 = λ (a : Arena). has_number n a ≡ false in
    let p : Arena → Bool = λ (a : Arena). eqb a.level level in
    let xs = newer row.stamp arenas in
    let ys = older row.stamp arenas in
    let others : at_level level arenas ≡ at_level level xs ++ at_level level ys = ap (at_level level) f.split ∙ at_level-other level xs ys row apart in
    asked_ahead-missing n (at_level level arenas)
    (subst (All P) (sym others)
    (All-append P (at_level level xs) (at_level level ys) (All-filter p P xs f.missing_before) (All-filter p P ys f.missing_after)))

-- ahead of an arena that does not live are all of a level
pub asked_ahead-nobody : (n level : ℕ) (arenas : List Arena) → arena_at n arenas ≡ None → asked_ahead n (at_level level arenas) ≡ total_request (at_level level arenas)
asked_ahead-nobody n level arenas none =
    asked_ahead-missing n (at_level level arenas)
    (All-filter (λ (a : Arena). eqb a.level level) (λ (a : Arena). has_number n a ≡ false) arenas (missing-at n arenas none))
