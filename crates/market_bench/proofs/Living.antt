-- How many arenas live after a command.
use Rattle.std.proofs.Common.{◌≡◌, ℕ, true, length, Option, Some, None, Result, Ok, Err, refl}
use Rattle.std.proofs.lemmas.List.{length-map}
use Rattle.std.proofs.lemmas.Bool.{cond_both}
use Rattle.std.specs.Prelude.{nat_lt}
use Rattle.market_types.specs.State.{Claim, Arena, State}
use Rattle.market_types.specs.Claims.{added_claim}
use Rattle.market_types.specs.Allotment.{need, recall}
use Rattle.market_types.specs.Step.{Outcome, arena_at, if_arena, if_claim, place_of, with_place, join_at, join_from, stay_from, leave_from, step}
use Rattle.market_types.specs.declared.reply.Fault.{Fault}
use Rattle.market_types.specs.declared.reply.Reply.TheVariants.{Stays, Recalled}
use Rattle.market_types.specs.declared.command.Cmd.{Cmd}
use Rattle.market_types.specs.declared.command.Cmd.TheVariants.{Open, Close, Priority, Resize, Request, Control, Uncontrol, Join, Stay, Leave, Show, Lists, Limit}
use Rattle.market_bench.specs.Turns.{is_in_turns}

-- as many arenas live after it as before
abbrev Keeps : State → Outcome → Type 0
Keeps s outcome = length outcome.1.arenas ≡ length s.arenas

of_arena : (s : State) (o : Option Arena) (f : Arena → Outcome) → ((a : Arena) → Keeps s (f a)) → Keeps s (if_arena s o f)
of_arena s None f h = refl
of_arena s (Some a) f h = h a

of_claim : (s : State) (r : Result Claim Fault) (f : Claim → Outcome) → ((c : Claim) → Keeps s (f c)) → Keeps s (if_claim s r f)
of_claim s (Err fault) f h = refl
of_claim s (Ok c) f h = h c

of_need : (s : State) (seat : ℕ) (o : Option Arena) → Keeps s (join_at s seat o)
of_need s seat None = refl
of_need s seat (Some a) = refl

of_join : (s : State) (seat : ℕ) (o : Option ℕ) → Keeps s (join_from s seat o)
of_join s seat None = of_need s seat (need s)
of_join s seat (Some a) = refl

of_stay : (s : State) (seat : ℕ) (o : Option ℕ) → Keeps s (stay_from s seat o)
of_stay s seat None = refl
of_stay s seat (Some a) = cond_both (nat_lt 0 (recall s a)) (Recalled a, with_place s seat None) (Stays a, s) (Keeps s) (λ _. refl) (λ _. refl)

of_leave : (s : State) (seat : ℕ) (o : Option ℕ) → Keeps s (leave_from s seat o)
of_leave s seat None = refl
of_leave s seat (Some a) = refl

pub same_living : (s : State) (seat : ℕ) (cmd : Cmd) → is_in_turns cmd ≡ true → length (step s seat cmd).1.arenas ≡ length s.arenas
same_living s seat (Request a workers mandatory) h = of_arena s (arena_at a s.arenas) _ (λ arena. of_claim s (added_claim arena.claim workers mandatory) _ (λ claim. length-map s.arenas _))
same_living s seat Join h = of_join s seat (place_of s seat)
same_living s seat Stay h = of_stay s seat (place_of s seat)
same_living s seat Leave h = of_leave s seat (place_of s seat)
same_living s seat (Show a) h = of_arena s (arena_at a s.arenas) _ (λ _. refl)
same_living s seat Lists h = refl
same_living s seat (Open slots reserved level) h = cc
same_living s seat (Close a) h = cc
same_living s seat (Priority a level) h = cc
same_living s seat (Resize a slots reserved) h = cc
same_living s seat (Control value) h = cc
same_living s seat (Uncontrol c) h = cc
same_living s seat Limit h = cc
