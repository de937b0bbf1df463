-- What a chronicle keeps, at the start and after a call.
use Rattle.std.proofs.Common.{◌≡◌, ℕ, ◌+◌, ◌-◌, ◌^◌, ◌<◌, ◌≤◌, List, [], ◌∷◌, ◌++◌, length, append_assoc, length-append, ap, sym, ◌∙◌, subst, arith}
use Rattle.std.proofs.lemmas.List.{append-nil, nil_from_length}
use Rattle.std.proofs.lemmas.List.Elements.{All-push}
use Rattle.std.specs.List.{All}
use Rattle.market_types.specs.declared.command.Cmd.{Cmd}
use Rattle.market_types.specs.declared.reply.Entry.{Entry}
use Rattle.market_types.specs.declared.reply.Reply.{Reply}
use Rattle.market_types.specs.State.{State}
use Rattle.market_types.specs.Step.{place_of, step}
use Rattle.market_types.specs.History.{IsLegal, calls_of, state_after}
use Rattle.market_types.specs.Commands.{Fits}
use Rattle.edit_history.specs.Chronicled.{IsCallOf, entry}
use Rattle.edit_history.specs.Kept.{IsKept}
use Rattle.edit_history.specs.Places.{placed, takes}
use Rattle.edit_history.proofs.Longer.{state-longer, legal-longer}
use Rattle.market_core.proofs.Moved.{steps}
use Rattle.edit_history.proofs.Placed.{same-seats-after, one-of, placed-after, room, takes-some}

module _ (start market : State) (past recent : List Entry) (from places capacity : ℕ) (k : IsKept start market past recent from places capacity) where
  pub kept-seats : length market.seats ≡ length start.seats
  kept-seats = ap (λ (s : State). length s.seats) k.market_is ∙ same-seats-after start (past ++ recent)

  -- the entries that are kept
  pub kept-length : length (past ++ recent) - from ≡ length recent
  kept-length = omega (arith, length-append past recent, k.from_is)

  pub kept-long : length (past ++ recent) ≡ from + length recent
  kept-long = omega (arith, length-append past recent, k.from_is)

  pub kept-placed : placed (state_after start (calls_of (past ++ recent))) ≡ placed market
  kept-placed = ap placed (sym k.market_is)

  -- a call finds room for its entry
  pub kept-some : (seat : ℕ) (cmd : Cmd) → 1 ≤ placed market + takes (place_of market seat) cmd
  kept-some seat cmd = omega (arith, one-of market.seats seat, takes-some (place_of market seat) cmd)

  pub kept-more : (seat : ℕ) (cmd : Cmd) (r : Reply) (recent' : List Entry) (market' : State) (capacity' : ℕ) → seat < length market.seats
      → r ≡ (step market seat cmd).0 → market' ≡ (step market seat cmd).1 → recent' ≡ recent ++ entry seat cmd r ∷ []
      → length recent + placed market + takes (place_of market seat) cmd ≤ places → length recent + placed market + takes (place_of market seat) cmd ≤ capacity'
      → Fits cmd → IsKept start market' past recent' from places capacity'
  kept-more seat cmd r recent' market' capacity' small is next more fits memory held =
      let e : Entry = entry seat cmd r in
      let log : past ++ recent' ≡ (past ++ recent) ++ e ∷ [] = ap (λ l. past ++ l) more ∙ sym (append_assoc past recent (e ∷ [])) in
      let due : r ≡ (step (state_after start (calls_of (past ++ recent))) seat cmd).0 = is ∙ ap (λ (s : State). (step s seat cmd).0) k.market_is in
      let moved = placed-after market seat cmd small in
      let enough = room (place_of market seat) cmd (step market seat cmd).0 (steps market seat cmd).answers in
      let now : placed market' ≡ placed (step market seat cmd).1 = ap placed next in
      let long : length recent' ≡ length recent + 1 = ap length more ∙ length-append recent (e ∷ []) in
      record {
        opened = k.opened;
        legal = subst (λ (l : List Entry). IsLegal start l) (sym log) (legal-longer start (past ++ recent) e k.legal due);
        calls = subst (λ (l : List Entry). All (IsCallOf (length start.seats)) l) (sym log) (All-push (IsCallOf (length start.seats)) (past ++ recent) e k.calls (let seated : seat < length start.seats = omega (arith, kept-seats) in (seated, held)));
        market_is =
            next ∙ ap (λ (s : State). (step s seat cmd).1) k.market_is ∙ sym (state-longer start (past ++ recent) e) ∙ ap (λ (l : List Entry). state_after start (calls_of l)) (sym log);
        from_is = k.from_is;
        room = omega arith;
        memory = omega arith;
        few = k.few;
        countable = k.countable;
      }

  -- a call that has its places has them besides all entries and all placed seats
  pub kept-room : (free needed : ℕ) → free + ((length (past ++ recent) - from) + placed (state_after start (calls_of (past ++ recent)))) ≡ places → needed ≤ free → length recent + placed market + needed ≤ places
  kept-room free needed sum enough = omega (arith, kept-length, kept-placed)

  -- where all entries are forgotten none is kept
  pub kept-none : from ≡ length (past ++ recent) → recent ≡ []
  kept-none all = nil_from_length recent (omega (arith, kept-length, all))

  -- what is kept is forgotten
  pub kept-forget : (past' recent' : List Entry) (from' capacity' : ℕ) → past' ≡ past ++ recent → recent' ≡ [] → from' ≡ from + length recent → from' + places < 2 ^ 64 → placed market ≤ capacity'
      → IsKept start market past' recent' from' places capacity'
  kept-forget past' recent' from' capacity' is none long enough held =
      let log : past' ++ recent' ≡ past ++ recent = ap (λ (l : List Entry). past' ++ l) none ∙ append-nil past' ∙ is in
      let empty : length recent' ≡ 0 = ap length none in
      record {
        opened = k.opened;
        legal = subst (λ (l : List Entry). IsLegal start l) (sym log) k.legal;
        calls = subst (λ (l : List Entry). All (IsCallOf (length start.seats)) l) (sym log) k.calls;
        market_is = k.market_is ∙ ap (λ (l : List Entry). state_after start (calls_of l)) (sym log);
        from_is = long ∙ sym kept-long ∙ ap length (sym is);
        room = omega (arith, k.room);
        memory = omega arith;
        few = k.few;
        countable = enough;
      }

  -- nothing but the memory has grown
  pub kept-same : (market' : State) (recent' : List Entry) (capacity' : ℕ) → market' ≡ market → recent' ≡ recent → capacity ≤ capacity' → IsKept start market' past recent' from places capacity'
  kept-same market' recent' capacity' same same_recent more =
      subst (λ (z : State × List Entry). IsKept start z.0 past z.1 from places capacity') (λ i. (sym same i, sym same_recent i)) (
      record {
        opened = k.opened;
        legal = k.legal;
        calls = k.calls;
        market_is = k.market_is;
        from_is = k.from_is;
        room = k.room;
        memory = omega (arith, k.memory);
        few = k.few;
        countable = k.countable;
      }
      )
