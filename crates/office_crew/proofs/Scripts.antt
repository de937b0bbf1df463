-- What a script has given, a command more.
use Rattle.std.proofs.Common.{◌≡◌, ◌<◌, ℕ, ◌+◌, true, List, [], ◌∷◌, ◌++◌, length, take, get_or, refl, sym, ◌∙◌, subst, Ok, Err, Some, None}
use Rattle.std.proofs.lemmas.List.{take_more}
use Rattle.market_types.specs.declared.command.Cmd.{Cmd}
use Rattle.market_types.specs.declared.reply.Reply.{Reply}
use Rattle.edit_history.specs.declared.fault.CallFault.{CallFault}
use Rattle.edit_history.specs.declared.fault.CallFault.TheVariants.{Memory, HistoryFull}
use Rattle.market_lock.specs.Moves.{Called, Fails}
use Rattle.market_lock.specs.Seen.{OfPass}
use Rattle.office_crew.specs.Scripts.{Answer, HasTried, HasGivenEach, IsAnswered, lacked_memory}

-- ---- one answer

pub answered_so : (p q : OfPass) (cmd : Cmd) (answer : Answer) → ((reply : Reply) → answer ≡ Some (Ok reply) → Called p cmd reply q) → ((fault : CallFault) → answer ≡ Some (Err fault) → Fails p cmd fault q) → (answer ≡ None → q ≡ p) → IsAnswered p cmd answer q
answered_so p q cmd None answered failed unasked = unasked refl
answered_so p q cmd (Some (Ok reply)) answered failed unasked = answered reply refl
answered_so p q cmd (Some (Err fault)) answered failed unasked = failed fault refl

pub was_memory : (answer : Answer) → lacked_memory answer ≡ true → answer ≡ Some (Err Memory)
was_memory None e = cc
was_memory (Some (Ok reply)) e = cc
was_memory (Some (Err Memory)) e = refl
was_memory (Some (Err HistoryFull)) e = cc

-- ---- a command more

given_more : (cmds : List Cmd) (cmd : Cmd) (p m q : OfPass) (old between new : List ℕ) → HasGivenEach cmds p old m between → HasTried cmd m between q new → HasGivenEach (cmds ++ cmd ∷ []) p old q new
given_more [] cmd p m q old between new given tried =
    (q, new, subst (λ x. HasTried cmd x old q new) given.0 (subst (λ t. HasTried cmd m t q new) given.1 tried), (refl, refl))
given_more (c ∷ cmds) cmd p m q old between new given tried =
    (given.0, given.1, given.2, given_more cmds cmd given.0 m q given.1 between new given.3 tried)

pub given_next : (cmds : List Cmd) (k : ℕ) (cmd : Cmd) (p m q : OfPass) (old between new : List ℕ) → k < length cmds → cmd ≡ get_or cmds k cmd → HasGivenEach (take k cmds) p old m between → HasTried cmd m between q new
    → HasGivenEach (take (k + 1) cmds) p old q new
given_next cmds k cmd p m q old between new low is given tried =
    let front : take (k + 1) cmds ≡ take k cmds ++ cmd ∷ [] = take_more cmds k cmd low ∙ (λ i. take k cmds ++ sym is i ∷ []) in
    subst (λ cs. HasGivenEach cs p old q new) (sym front) (given_more (take k cmds) cmd p m q old between new given tried)
