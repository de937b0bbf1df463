-- What a chronicle answers to a call, and what it then is.
use Rattle.std.specs.Prelude.{slice_get}
use Rattle.std.proofs.Common.{◌≡◌, ℕ, ◌+◌, ◌<◌, ◌≤◌, ◌++◌, ◌∷◌, [], true, false, List, Option, Some, None, unwrap_or, Result, Ok, Err, append_assoc, refl, ap, sym, ◌∙◌, subst, arith}
use Rattle.std.proofs.lemmas.List.{append-nil}
use Rattle.market_types.specs.declared.command.Cmd.{Cmd}
use Rattle.market_types.specs.declared.command.Cmd.TheVariants.{Join, Leave}
use Rattle.market_types.specs.declared.reply.Entry.{Entry}
use Rattle.market_types.specs.declared.reply.Reply.{Reply}
use Rattle.market_types.specs.Replies.{is_listed}
use Rattle.market_types.specs.State.{State}
use Rattle.market_types.specs.Step.{place_of, step}
use Rattle.market_core.specs.Memory.{takes_memory}
use Rattle.market_core.specs.Moves.{Answers}
use Rattle.edit_history.specs.declared.fault.CallFault.{CallFault}
use Rattle.edit_history.specs.declared.fault.CallFault.TheVariants.{HistoryFull, Memory}
use Rattle.edit_history.specs.Answered.{IsAnswered}
use Rattle.edit_history.specs.Chronicled.{Chronicled, entry, market_of}
use Rattle.edit_history.specs.Places.{takes, taken, LacksPlaces}

-- ---- a call that takes no place is a Leave by a placed seat

pub takes-none : (p : Option ℕ) (cmd : Cmd) → takes p cmd ≡ 0 → takes_memory cmd ≡ false
takes-none None Join none = absurd (omega arith)
takes-none (Some a) Leave none = refl
takes-none None _ none = absurd (omega arith)
takes-none (Some a) _ none = absurd (omega arith)

pub lists-none : (p : Option ℕ) (cmd : Cmd) (r : Reply) → takes p cmd ≡ 0 → Answers p cmd r → is_listed r ≡ true → ⊥
lists-none None Join r none is listed = omega arith
lists-none (Some a) Leave r none is listed = let unlisted : false ≡ true = sym (ap is_listed is) ∙ listed in cc
lists-none None _ r none is listed = omega arith
lists-none (Some a) _ r none is listed = omega arith

-- ---- the entry of a call

-- it comes behind the others
pub log-longer : (past recent recent' : List Entry) (e : Entry) → recent' ≡ recent ++ e ∷ [] → past ++ recent' ≡ (past ++ recent) ++ e ∷ []
log-longer past recent recent' e more = ap (λ (l : List Entry). past ++ l) more ∙ sym (append_assoc past recent (e ∷ []))

-- or it comes behind the past, where none is kept
pub log-forgot : (past recent past' recent' : List Entry) (e : Entry) → recent ≡ [] → past' ≡ past ++ e ∷ [] → recent' ≡ recent → past' ++ recent' ≡ (past ++ recent) ++ e ∷ []
log-forgot past recent past' recent' e none pushed same =
    ap (λ (l : List Entry). past' ++ l) (same ∙ none) ∙ append-nil past' ∙ pushed ∙ ap (λ (l : List Entry). l ++ e ∷ []) (sym (append-nil past) ∙ ap (λ (l : List Entry). past ++ l) (sym none))

-- ---- what a call is answered

-- the places that it takes, by what the market says of its seat
pub takes-is : (market state : State) (seat : ℕ) (cmd : Cmd) (arena : Option ℕ) (needed : ℕ) → market ≡ state → slice_get market.seats seat ≡ Some arena → needed ≡ takes arena cmd
    → needed ≡ takes (place_of state seat) cmd
takes-is market state seat cmd arena needed same at is =
    is ∙ ap (λ (o : Option (Option ℕ)). takes (unwrap_or o None) cmd) (sym at) ∙ ap (λ (s : State). takes (place_of s seat) cmd) same

pub seen : (seat : ℕ) (cmd : Cmd) (result : Result Reply CallFault) (new d d' : Chronicled) → d ≡ d' → IsAnswered d seat cmd result new → IsAnswered d' seat cmd result new
seen seat cmd result new d d' same answered = subst (λ (x : Chronicled). IsAnswered x seat cmd result new) same answered

module _ (d : Chronicled) (seat : ℕ) (cmd : Cmd) where
  pub lacks : (places needed : ℕ) → places + taken d ≡ d.places → needed ≡ takes (place_of (market_of d) seat) cmd → places < needed → LacksPlaces d seat cmd
  lacks places needed sum is few = omega (arith, sum, is, few)

  pub lacks-none : (places needed : ℕ) → places + taken d ≡ d.places → needed ≡ takes (place_of (market_of d) seat) cmd → needed ≤ places → LacksPlaces d seat cmd → ⊥
  lacks-none places needed sum is enough lack = omega (arith, sum, is, enough, lack)

  pub at-full : LacksPlaces d seat cmd → IsAnswered d seat cmd (Err HistoryFull) d
  at-full lack =
      record {
        reply = tt;
        held = tt;
        recorded = tt;
        unchanged = refl;
        full = λ _. refl;
        room = λ _. lack;
        leave = λ none. absurd (omega (arith, none, lack));
        start = refl;
        places = refl;
        keeping = refl;
      }

  pub at-memory : (log : List Entry) (market : State) → log ≡ d.log → market ≡ d.market → (LacksPlaces d seat cmd → ⊥) → (takes (place_of (market_of d) seat) cmd ≡ 0 → ⊥) → IsAnswered d seat cmd (Err Memory) (record d { market = market; log = log })
  at-memory log market same stays enough some =
      record {
        reply = tt;
        held = tt;
        recorded = tt;
        unchanged = λ i. record d { market = stays i; log = same i };
        full = λ lack. absurd (enough lack);
        room = λ full. absurd (let other : Memory ≡ HistoryFull = full in cc);
        leave = λ none. absurd (some none);
        start = refl;
        places = refl;
        keeping = refl;
      }

  pub at-reply : (log : List Entry) (market : State) (from : ℕ) (r : Reply) → r ≡ (step (market_of d) seat cmd).0 → market ≡ (step d.market seat cmd).1 → log ≡ d.log ++ entry seat cmd r ∷ [] → (LacksPlaces d seat cmd → ⊥)
      → IsAnswered d seat cmd (Ok r) (record d { market = market; log = log; from = from })
  at-reply log market from r is next more enough =
      record {
        reply = is;
        held = next;
        recorded = more;
        unchanged = tt;
        full = λ lack. absurd (enough lack);
        room = tt;
        leave = λ _. refl;
        start = refl;
        places = refl;
        keeping = refl;
      }
