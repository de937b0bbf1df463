-- What a script gives and writes down (own).
use Rattle.std.specs.Prelude.{◌≡◌, ◌⊎◌, ℕ, Bool, true, false, List, [], ◌∷◌, ◌++◌, Option, Some, None, Result, Ok, Err, is_some, codes}
use Rattle.market_types.specs.declared.command.Cmd.{Cmd}
use Rattle.market_types.specs.declared.reply.Reply.{Reply}
use Rattle.market_types.specs.History.{place_in}
use Rattle.market_texts.specs.Texts.{reply_text}
use Rattle.edit_history.specs.declared.fault.CallFault.{CallFault}
use Rattle.edit_history.specs.declared.fault.CallFault.TheVariants.{Memory, HistoryFull}
use Rattle.market_lock.specs.Seen.{OfPass}
use Rattle.market_lock.specs.Moves.{Called, Fails}
use Rattle.office_crew.specs.Callers.{may_give}

-- the commands that it gives, and what it has written down
pub record OfScript : Type 0 where
  pub cmds : List Cmd
  pub told : List ℕ

-- what a caller is answered: nothing where nothing was asked
abbrev pub Answer : Type 0
Answer = Option (Result Reply CallFault)

abbrev pub answer_text : Answer → List ℕ
answer_text None = codes "not asked"
answer_text (Some (Ok reply)) = reply_text reply
answer_text (Some (Err Memory)) = codes "C1 memory"
answer_text (Some (Err HistoryFull)) = codes "C2 history full"

-- memory ran out
abbrev pub lacked_memory : Answer → Bool
lacked_memory (Some (Err Memory)) = true
lacked_memory answer = false

-- the answer is a line more; where there was no memory for it, a line without its end, or nothing
abbrev pub IsToldOf : List ℕ → Answer → List ℕ → Type 0
IsToldOf old answer new =
    (new ≡ (old ++ answer_text answer) ++ 10 ∷ []) ⊎ ((new ≡ old ++ answer_text answer) ⊎ (new ≡ old))

-- the caller made the call and was answered so; or it made none
abbrev pub IsAnswered : OfPass → Cmd → Answer → OfPass → Type 0
IsAnswered p cmd None q = q ≡ p
IsAnswered p cmd (Some (Ok reply)) q = Called p cmd reply q
IsAnswered p cmd (Some (Err fault)) q = Fails p cmd fault q

-- the caller gave this command where its seat is one that may, was answered so, and its script wrote that down
pub record HasGiven (cmd : Cmd) (p : OfPass) (old : List ℕ) (answer : Answer) (q : OfPass) (new : List ℕ) : Type 0 where
  pub asked : is_some answer ≡ may_give (place_in p.seat p.seen) cmd
  pub answered : IsAnswered p cmd answer q
  pub told : IsToldOf old answer new

-- it gave the command once; or memory ran out, and it gave it once more
abbrev pub HasTried : Cmd → OfPass → List ℕ → OfPass → List ℕ → Type 0
HasTried cmd p old q new =
    ((answer : Answer) × HasGiven cmd p old answer q new × (lacked_memory answer ≡ false))
    ⊎ ((m : OfPass) × (between : List ℕ) × (answer : Answer) × HasGiven cmd p old (Some (Err Memory)) m between × HasGiven cmd m between answer q new)

-- it gave each of these commands, one after the other, and made no other call
abbrev pub HasGivenEach : List Cmd → OfPass → List ℕ → OfPass → List ℕ → Type 0
HasGivenEach [] p old q new = (q ≡ p) × (new ≡ old)
HasGivenEach (cmd ∷ cmds) p old q new =
    (m : OfPass) × (between : List ℕ) × HasTried cmd p old m between × HasGivenEach cmds m between q new
