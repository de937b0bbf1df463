-- What a chronicle answers to a call, and what it then is, but for the entries that it keeps.
use Rattle.std.specs.Prelude.{◌≡◌, ℕ, ◌++◌, [], ◌∷◌, Result, IfOk, OnErr, IfErr, IsErrOf, IsOk}
use Rattle.market_types.specs.declared.command.Cmd.{Cmd}
use Rattle.market_types.specs.declared.reply.Reply.{Reply}
use Rattle.market_types.specs.Step.{step, place_of}
use Rattle.edit_history.specs.declared.fault.CallFault.{CallFault}
use Rattle.edit_history.specs.declared.fault.CallFault.TheVariants.{HistoryFull}
use Rattle.edit_history.specs.Chronicled.{Chronicled, entry, market_of}
use Rattle.edit_history.specs.Places.{takes, LacksPlaces}

-- the reply is the market's, and is recorded with its call behind the history that was; a call that is refused since places are lacking, and for no other reason by
-- that refusal, or since memory ran out changes nothing; a Leave by a placed seat is never refused. Own.
pub record IsAnswered (old : Chronicled) (seat : ℕ) (cmd : Cmd) (result : Result Reply CallFault) (new : Chronicled) : Type 0 where
  pub reply : IfOk result (λ reply. reply ≡ (step (market_of old) seat cmd).0)
  pub held : IfOk result (λ reply. new.market ≡ (step old.market seat cmd).1)
  pub recorded : IfOk result (λ reply. new.log ≡ old.log ++ entry seat cmd reply ∷ [])
  pub unchanged : OnErr result (new ≡ old)
  pub full : LacksPlaces old seat cmd → IsErrOf result HistoryFull
  pub room : IfErr result (λ fault. fault ≡ HistoryFull → LacksPlaces old seat cmd)
  pub leave : takes (place_of (market_of old) seat) cmd ≡ 0 → IsOk result
  pub start : new.start ≡ old.start
  pub places : new.places ≡ old.places
  pub keeping : new.keeping ≡ old.keeping
