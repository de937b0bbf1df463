-- What the arenas ask for, one after the other.
use Rattle.std.proofs.Common.{◌≡◌, ◌∙◌, ◌<◌, ◌+◌, ◌++◌, ℕ, [], ◌∷◌, ap, arith, get_or, length, sym, take}
use Rattle.std.specs.List.{enumerate_from}
use Rattle.std.proofs.lemmas.List.{get_or-map, length-map, take_more}
use Rattle.std.proofs.lemmas.List.FromFn.{get_or-enumerate_from, length-enumerate_from}
use Rattle.market_types.specs.declared.command.Cmd.{Cmd}
use Rattle.drive_plan.specs.declared.plan.PlannedArena.{PlannedArena}
use Rattle.drive_plan.specs.Plans.{Planned}
use Rattle.market_drive.specs.Making.{asks, requests}

pub length-requests : (p : Planned) → length (requests p) ≡ length p.arenas
length-requests p =
    length-map (enumerate_from 1 p.arenas) (λ (e : ℕ × PlannedArena). asks e.0 e.1) ∙ length-enumerate_from 1 p.arenas

-- one request more
pub requests_more : (p : Planned) (i : ℕ) (arena : PlannedArena) → i < length p.arenas → arena ≡ get_or p.arenas i arena
    → take (i + 1) (requests p) ≡ take i (requests p) ++ asks (i + 1) arena ∷ []
requests_more p i arena within is =
    let f : ℕ × PlannedArena → Cmd = λ e. asks e.0 e.1 in
    let numbered = enumerate_from 1 p.arenas in
    let many : length (requests p) ≡ length p.arenas = length-requests p in
    let number : 1 + i ≡ i + 1 = omega arith in
    let there : i < length numbered = omega (arith, within, length-enumerate_from 1 p.arenas) in
    let at : get_or (requests p) i (asks (i + 1) arena) ≡ asks (i + 1) arena =
    get_or-map f numbered i (0, arena) (asks (i + 1) arena) there
    ∙ ap f (get_or-enumerate_from 1 p.arenas i (0, arena) within)
    ∙ ap (λ a. asks (1 + i) a) (sym is)
    ∙ ap (λ n. asks n arena) number in
    take_more (requests p) i (asks (i + 1) arena) (omega (arith, within, many))
    ∙ ap (λ cmd. take i (requests p) ++ cmd ∷ []) at
