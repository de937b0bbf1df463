-- A turn more, and the last Join, in what a worker's entries tell.
use Rattle.std.proofs.Common.{◌≡◌, ◌≢◌, ℕ, ◌+◌, List, [], ◌∷◌, ◌++◌, length, set, slice_get, Some, AllPairs, Contains, flat_map, refl, ap, sym, ◌∙◌, subst, append_assoc, append-nil, arith}
use Rattle.std.specs.List.{AllZip}
use Rattle.std.proofs.lemmas.Option.{same_Some}
use Rattle.std.proofs.lemmas.List.Elements.{All-push}
use Rattle.std.proofs.lemmas.List.{flat_map_more}
use mathlib.Core.Logic.{dite}
use native.Mathlib.Decide.{ℕ_discrete, dec_lt}
use Rattle.market_types.specs.declared.reply.Entry.{Entry}
use Rattle.market_types.specs.declared.command.Cmd.TheVariants.{Join}
use Rattle.market_types.specs.declared.reply.Reply.TheVariants.{Idle}
use Rattle.edit_history.specs.Chronicled.{entry}
use Rattle.market_lock.specs.Seen.{OfPass}
use Rattle.job_queue.specs.Seen.{OfTaker}
use Rattle.plan_jobs.specs.declared.task.Job.{Job}
use Rattle.worker_main.specs.declared.station.Station.{Station}
use Rattle.worker_main.specs.Stations.{HaveOwnArenas}
use Rattle.worker_main.specs.Turns.{Turn, entries_of, rest_of, joined, stays_for, requests_for, IsTurnOf, IsLastJoin, AreWhole, AreTurnsOf}
use Rattle.worker_main.specs.Books.{IsTakerAfter, IsBalanced, HasAdded}
use Rattle.worker_main.specs.Steps.{HasTurned, jobs_in, misses_in}
use Rattle.worker_main.proofs.Lists.{set_same, set_else, pair_at, zip_at}
use Rattle.worker_main.proofs.Counts.{count_append, stays, requests, turn_stays, turn_requests, elsewhere_stays, elsewhere_requests}

-- ---- the balance

-- two stations at different places are not of the same arena
apart : (stations : List Station) (i j : ℕ) (s t : Station) → AllPairs HaveOwnArenas stations → slice_get stations i ≡ Some s → slice_get stations j ≡ Some t → i ≢ j → s.arena ≢ t.arena
apart stations i j s t all at there ne = dite (dec_lt i j) (λ lt. pair_at HaveOwnArenas stations i j s t lt all at there)
    (λ not. λ e. pair_at HaveOwnArenas stations j i t s (omega (arith, not, ne)) all there at (sym e))

pub balanced_none : (stations : List Station) (takers : List (OfTaker Job)) → IsBalanced stations takers takers []
balanced_none stations takers k s p q at old new =
    let same : q ≡ p = same_Some q p (sym new ∙ old) in (
      ap (λ (t : OfTaker Job). length t.taken) same ∙ (let e : length p.taken ≡ length p.taken + 0 = omega arith in e),
      ap (λ (t : OfTaker Job). t.empties) same ∙ (let e : p.empties ≡ p.empties + 0 = omega arith in e),
    )

-- the taker at place `here` took what a turn at that station's arena tells
balanced_turn : (stations : List Station) (takers : List (OfTaker Job)) (here seat : ℕ) (s : Station) (p q : OfTaker Job) (t : Turn)
    → AllPairs HaveOwnArenas stations → slice_get stations here ≡ Some s → slice_get takers here ≡ Some p → t.station ≡ s
    → length q.taken ≡ length p.taken + jobs_in t.stays t.end → q.empties ≡ p.empties + misses_in t.end → IsBalanced stations takers (set takers here q) (entries_of seat t)
balanced_turn stations takers here seat s p q t apart_all at there is took missed k s' p' q' at' old new = dite (ℕ_discrete k here)
    (λ same.
    let own : t.station.arena ≡ s'.arena = ap (λ (x : Station). x.arena) (is ∙ same_Some s s' (sym at ∙ (ap (slice_get stations) (sym same) ∙ at'))) in
    let first : p ≡ p' = same_Some p p' (sym there ∙ (ap (slice_get takers) (sym same) ∙ old)) in
    let last : q' ≡ q = same_Some q' q (sym new ∙ (ap (slice_get (set takers here q)) same ∙ set_same takers here p q there)) in
    let stays_are = turn_stays seat s'.arena t own in
    let requests_are = turn_requests seat s'.arena t own in (
      ap (λ (x : OfTaker Job). length x.taken) last ∙ (took ∙ (λ i. length (first i).taken + sym stays_are i)),
      ap (λ (x : OfTaker Job). x.empties) last ∙ (missed ∙ (λ i. (first i).empties + sym requests_are i)),
    )
    )
    (λ ne.
    let other : t.station.arena ≢ s'.arena = λ e. apart stations k here s' s apart_all at' at ne (sym (sym (ap (λ (x : Station). x.arena) is) ∙ e)) in
    let same : q' ≡ p' = same_Some q' p' (sym new ∙ (set_else takers here k q ne ∙ old)) in
    let none_stays = elsewhere_stays seat s'.arena t other in
    let none_requests = elsewhere_requests seat s'.arena t other in (
      ap (λ (x : OfTaker Job). length x.taken) same ∙ (let e : length p'.taken ≡ length p'.taken + stays_for s'.arena (entries_of seat t) = omega arith in e),
      ap (λ (x : OfTaker Job). x.empties) same ∙ (let e : p'.empties ≡ p'.empties + requests_for s'.arena (entries_of seat t) = omega arith in e),
    )
    )

balanced_trans : (stations : List Station) (a b c : List (OfTaker Job)) (xs ys : List Entry) → AllZip IsTakerAfter a b → IsBalanced stations a b xs → IsBalanced stations b c ys → IsBalanced stations a c (xs ++ ys)
balanced_trans stations a b c xs ys zip u v k s p r at old new =
    let mid = zip_at IsTakerAfter a b k p zip old in
    let h = u k s p mid.0 at old mid.1 in
    let i = v k s mid.0 r at mid.1 new in
    let m = count_append (stays s.arena) xs ys in
    let n = count_append (requests s.arena) xs ys in
    (omega arith, omega arith)

-- ---- the entries

pub starts : (stations : List Station) (takers : List (OfTaker Job)) (p : OfPass) → HasAdded (AreWhole stations) stations takers takers p p
starts stations takers p = ([], sym (append-nil p.mine), ([], (λ k d lt. absurd (omega arith)), refl), balanced_none stations takers)

-- a Join and the rest of a turn at the station of place `here`
pub turned : (stations : List Station) (takers : List (OfTaker Job)) (here : ℕ) (s : Station) (p q : OfTaker Job) (a b c : OfPass)
    → AllPairs HaveOwnArenas stations → Contains stations s → slice_get stations here ≡ Some s → slice_get takers here ≡ Some p → b.seat ≡ a.seat → b.mine ≡ a.mine ++ joined a.seat s ∷ []
    → HasTurned s p q b c → HasAdded (IsTurnOf stations) stations takers (set takers here q) a c
turned stations takers here s p q a b c own in' at there seat joins u = (
  entries_of a.seat u.turn,
  u.mine_is ∙ (ap (λ l. l ++ rest_of b.seat u.turn) joins ∙ (append_assoc a.mine (joined a.seat s ∷ []) (rest_of b.seat u.turn) ∙ (λ i. a.mine ++ joined a.seat (sym u.at i) ∷ rest_of (seat i) u.turn))),
  (u.turn, subst (Contains stations) (sym u.at) in', refl),
  balanced_turn stations takers here a.seat s p q u.turn own at there u.at u.jobs u.misses,
)

pub more_turns : (stations : List Station) (old mid new : List (OfTaker Job)) (a b c : OfPass) → AllZip IsTakerAfter old mid → b.seat ≡ a.seat → HasAdded (AreWhole stations) stations old mid a b → HasAdded (IsTurnOf stations) stations mid new b c
    → HasAdded (AreWhole stations) stations old new a c
more_turns stations old mid new a b c zip seat u v =
    let turns = u.2.0 in
    let t = v.2.0 in (
      u.0 ++ v.0,
      v.1 ∙ (ap (λ l. l ++ v.0) u.1 ∙ append_assoc a.mine u.0 v.0),
      (
        turns ++ t ∷ [],
        All-push (λ (x : Turn). Contains stations x.station) turns t u.2.1 v.2.1,
        ap (λ l. l ++ v.0) u.2.2 ∙ (ap (λ l. flat_map (entries_of a.seat) turns ++ l) (v.2.2 ∙ ap (λ n. entries_of n t) seat) ∙ flat_map_more (entries_of a.seat) [] turns t),
      ),
      balanced_trans stations old mid new u.0 v.0 zip u.3 v.3,
    )

pub ends_idle : (stations : List Station) (old mid new : List (OfTaker Job)) (a b c : OfPass) → AllZip IsTakerAfter old mid → b.seat ≡ a.seat → HasAdded (AreWhole stations) stations old mid a b → HasAdded IsLastJoin stations mid new b c
    → HasAdded (AreTurnsOf stations) stations old new a c
ends_idle stations old mid new a b c zip seat u v = (
  u.0 ++ v.0,
  v.1 ∙ (ap (λ l. l ++ v.0) u.1 ∙ append_assoc a.mine u.0 v.0),
  (
    u.2.0,
    u.2.1,
    (λ i. u.2.2 i ++ v.0) ∙ ap (λ l. flat_map (entries_of a.seat) u.2.0 ++ l) (v.2 ∙ ap (λ n. entry n Join Idle ∷ []) seat),
  ),
  balanced_trans stations old mid new u.0 v.0 zip u.3 v.3,
)
