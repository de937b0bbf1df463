-- The chart of a journal's entries from one on to another, entry by entry.
use Rattle.std.proofs.Common.{◌≡◌, ℕ, zero, suc, ◌+◌, ◌-◌, ◌<◌, ◌≤◌, true, false, nat_le, nat_lt, List, [], ◌∷◌, ◌++◌, length, take, drop, Option, None, Some, option_and_then, option_map, refl, sym, ap, ◌∙◌, subst, arith, inl, inr, append-nil, append_assoc}
use Rattle.std.proofs.lemmas.Bool.{cases_Bool}
use Rattle.std.proofs.lemmas.Bool.Decides.{nat_tests}
use Rattle.std.specs.List.{All}
use Rattle.std.proofs.lemmas.List.Elements.{All-nil}
use Rattle.std.proofs.lemmas.List.{length_push, drop_all, drop-append-le}
use Rattle.market_types.specs.declared.command.Call.{Call}
use Rattle.market_types.specs.declared.command.Cmd.{Cmd}
use Rattle.market_types.specs.declared.reply.Entry.{Entry}
use Rattle.market_types.specs.declared.reply.Reply.{Reply}
use Rattle.market_types.specs.State.{Arena, State}
use Rattle.market_types.specs.Step.{Outcome, step}
use Rattle.market_types.specs.History.{IsLegal, calls_of, state_after}
use Rattle.journal_replay.specs.declared.header.Header.{Header}
use Rattle.journal_replay.specs.declared.verdict.Verdict.{Verdict}
use Rattle.journal_replay.specs.Reading.{header_in, opened_by}
use Rattle.journal_replay.specs.Verdicts.{json_by}
use Rattle.journal_replay.specs.Watched.{Watched, Watches, seen_all}
use Rattle.journal_chart.specs.Numbers.{Charted, chart_of, moments_of}
use Rattle.journal_chart.specs.declared.row.Known.{Known}
use Rattle.journal_chart.specs.Shares.{Shared}
use Rattle.journal_chart.specs.Steps.{Followed, Making, made_more, next_chart, passed_chart}
use Rattle.journal_chart.specs.Journals.{Charts}
use Rattle.journal_chart.proofs.Bounds.{Once, Whole}
use Rattle.journal_chart.proofs.Charts.{chart-passed}
use Rattle.journal_chart.proofs.Kept.{Fine, fine-step}
use Rattle.journal_chart.proofs.Next.{IsFollowed, Knows, next-known}

-- a header opens a market without arenas
module _ {D O : Type 0} (read : D → Option Header) (opened : Header → O) (market : O → State) (empty : (h : Header) → (market (opened h)).arenas ≡ []) where
  header-opens : (h : Option Header) (o : O) → option_map opened h ≡ Some o → (market o).arenas ≡ []
  header-opens None o is = absurd (cc)
  header-opens (Some h) o is =
      let same : opened h ≡ o = cc in
      sym (ap (λ p. (market p).arenas) same) ∙ empty h

  opens-empty : (j : Option D) (o : O) → option_and_then (λ d. option_map opened (read d)) j ≡ Some o → (market o).arenas ≡ []
  opens-empty None o is = absurd (cc)
  opens-empty (Some d) o is = header-opens (read d) o is

-- entries beyond the last that is drawn
made-still : (history : List Entry) (s : State) (m : Making) → nat_le m.to m.seen ≡ true → seen_all made_more s history m ≡ m
made-still [] s m full = refl
made-still (e ∷ history) s m full =
    let o : Outcome = step s e.call.seat e.call.cmd in
    let still : made_more m o.1 e.call.cmd e.reply ≡ m = rw full refl in
    ap (seen_all made_more o.1 history) still ∙ made-still history o.1 m full

module _ (whole : Whole) (most : ℕ) (arenas : List ℕ) (before to : ℕ) (some : 0 < most) where
  -- the chart in the making after these moments
  abbrev making : List State → State → ℕ → List Known → Shared → Making
  making ms s seen ks given =
      record { before = before; to = to; seen = seen; followed = record { chart = chart_of most arenas (drop before ms) s; known = ks; shares = given } }

  -- what was known of the arenas is told by the last moment that is drawn
  knows-more : (t : State) (ms : List State) (f : Followed) → before ≤ length ms → IsFollowed most arenas (drop before ms) t f
      → Knows most t arenas (drop before (ms ++ t ∷ [])) f.known f.shares
  knows-more t ms f long next = inr (drop before ms, (drop-append-le before ms (t ∷ []) long, next.held))

  -- the moments after one entry more, and what is then known
  record Made (s t : State) (cmd : Cmd) (reply : Reply) (ms : List State) (ks : List Known) (given : Shared) : Type 0 where
    ks' : List Known
    given' : Shared
    knows : Knows most t arenas (drop before (ms ++ t ∷ [])) ks' given'
    is : made_more (making ms s (length ms) ks given) t cmd reply ≡ making (ms ++ t ∷ []) t (length ms + 1) ks' given'

  made-one : (s t : State) (seat : ℕ) (cmd : Cmd) (reply : Reply) (ms : List State) (ks : List Known) (given : Shared) → step s seat cmd ≡ (reply, t) → Fine s → Fine t
      → Knows most s arenas (drop before ms) ks given → length ms < to → Made s t cmd reply ms ks given
  made-one s t seat cmd reply ms ks given answered fine fine' knows inside =
      let open_ : nat_le to (length ms) ≡ false = grind (arith, nat_tests) in
      elim (cases_Bool (nat_lt (length ms) before)) [
        | inl early ↦
            let short : length ms < before = grind (arith, nat_tests) in
            let none : drop before ms ≡ [] = drop_all before ms (omega arith) in
            let still : drop before (ms ++ t ∷ []) ≡ [] = drop_all before (ms ++ t ∷ []) (omega (arith, length_push ms t)) in
            let chart : passed_chart cmd reply (chart_of most arenas (drop before ms) s) ≡ chart_of most arenas (drop before (ms ++ t ∷ [])) t =
            chart-passed most arenas (drop before ms) s t seat cmd reply answered ∙ ap (λ l. chart_of most arenas l t) (none ∙ sym still) in
            record {
              ks' = ks;
              given' = given;
              knows = inl still;
              is = rw (open_, early) (λ i. record { before = before; to = to; seen = length ms + 1; followed = record { chart = chart i; known = ks; shares = given } });
            }
        | inr late ↦
            let long : before ≤ length ms = grind (arith, nat_tests) in
            let next = next-known whole most arenas (drop before ms) s t seat cmd reply ks given some answered fine fine' knows in
            let f : Followed = next_chart t cmd reply (record { chart = chart_of most arenas (drop before ms) s; known = ks; shares = given }) in
            let more = drop-append-le before ms (t ∷ []) long in
            record {
              ks' = f.known;
              given' = f.shares;
              knows = knows-more t ms f long next;
              is =
                  rw (open_, late)
                  ((λ i. record { before = before; to = to; seen = length ms + 1; followed = record { chart = next.chart i; known = f.known; shares = f.shares } })
                  ∙ (λ i. record {
                    before = before;
                    to = to;
                    seen = length ms + 1;
                    followed = record { chart = chart_of most arenas (sym more i) t; known = f.known; shares = f.shares };
                  }));
            }
      ]

  made-all : (left : ℕ) (history : List Entry) (s : State) (ms : List State) (ks : List Known) (given : Shared) → IsLegal s history → Fine s → Knows most s arenas (drop before ms) ks given
      → length ms + left ≡ to
      → (seen_all made_more s history (making ms s (length ms) ks given)).followed.chart
      ≡ chart_of most arenas (drop before (ms ++ moments_of s (take left (calls_of history)))) (state_after s (take left (calls_of history)))
  made-all zero history s ms ks given legal fine knows sum =
      let full : nat_le to (length ms) ≡ true = grind (arith, nat_tests) in
      ap (λ (m : Making). m.followed.chart) (made-still history s (making ms s (length ms) ks given) full)
      ∙ ap (λ l. chart_of most arenas (drop before l) s) (sym (append-nil ms))
  made-all (suc left) [] s ms ks given legal fine knows sum = ap (λ l. chart_of most arenas (drop before l) s) (sym (append-nil ms))
  made-all (suc left) (e ∷ history) s ms ks given legal fine knows sum =
      let o : Outcome = step s e.call.seat e.call.cmd in
      let due : e.reply ≡ o.0 = cc in
      let rest : IsLegal o.1 history = cc in
      let answered : step s e.call.seat e.call.cmd ≡ (e.reply, o.1) = λ i. (sym due i, o.1) in
      let fine' : Fine o.1 = fine-step s o.1 e.call.seat e.call.cmd e.reply answered fine in
      let one : Made s o.1 e.call.cmd e.reply ms ks given = made-one s o.1 e.call.seat e.call.cmd e.reply ms ks given answered fine fine' knows (omega (arith, sum)) in
      let longer : length (ms ++ o.1 ∷ []) ≡ length ms + 1 = omega (arith, length_push ms o.1) in
      let more : length (ms ++ o.1 ∷ []) + left ≡ to = omega (arith, longer, sum) in
      let tail : List Call = take left (calls_of history) in
      ap (λ (m : Making). (seen_all made_more o.1 history m).followed.chart) one.is
      ∙ ap (λ n. (seen_all made_more o.1 history (making (ms ++ o.1 ∷ []) o.1 n one.ks' one.given')).followed.chart) (sym longer)
      ∙ made-all left history o.1 (ms ++ o.1 ∷ []) one.ks' one.given' rest fine' one.knows more
      ∙ ap (λ l. chart_of most arenas (drop before l) (state_after o.1 tail)) (append_assoc ms (o.1 ∷ []) (moments_of o.1 tail))

-- a market without arenas
pub fine-empty : (s : State) → s.arenas ≡ [] → Fine s
fine-empty s none =
    record {
      once = subst Once (sym none) tt;
      given = subst (All (λ (a : Arena). a.number < s.next_arena)) (sym none) (All-nil (λ (a : Arena). a.number < s.next_arena));
      leveled = subst (All (λ (a : Arena). a.level ≤ s.levels)) (sym none) (All-nil (λ (a : Arena). a.level ≤ s.levels));
    }

-- whoever watched a journal has its chart
pub charts : (whole : Whole) (most : ℕ) (arenas : List ℕ) (from to : ℕ) (begun : Charted) (ks : List Known) (given : Shared) (end : Making) (left left' : Option (List ℕ)) (found : Verdict) → 0 < most
    → ((s : State) → s.arenas ≡ [] → begun ≡ chart_of most arenas [] s)
    → Watches made_more (record { before = from - 1; to = to; seen = 0; followed = record { chart = begun; known = ks; shares = given } }) end left left' found
    → Charts most arenas from to left left' found end.followed.chart
charts whole most arenas from to begun ks given end left left' found some empty h =
    record {
      text = h.text;
      read = h.read;
      within = h.within;
      is = h.is;
      charted = λ n legal.
          let w : Watched made_more h.text (record { before = from - 1; to = to; seen = 0; followed = record { chart = begun; known = ks; shares = given } }) end = h.watched n legal in
          let none : drop (from - 1) [] ≡ [] = drop_all (from - 1) [] (omega arith) in
          let bare : w.start.arenas ≡ [] = opens-empty header_in opened_by (λ o. o.market) (λ h. refl) (json_by w.reads.header.form w.reads.header.bytes) _ w.reads.opens in
          let first : begun ≡ chart_of most arenas (drop (from - 1) []) w.start = empty w.start bare ∙ ap (λ l. chart_of most arenas l w.start) (sym none) in
          record {
            start = w.start;
            extent = w.extent;
            history = w.history;
            reads = w.reads;
            legal = w.legal;
            is =
                ap (λ (m : Making). m.followed.chart) w.is
                ∙ ap (λ (c : Charted). (seen_all made_more w.start w.history (record { before = from - 1; to = to; seen = 0; followed = record { chart = c; known = ks; shares = given } })).followed.chart) first
                ∙ made-all whole most arenas (from - 1) to some to w.history w.start [] ks given w.legal (fine-empty w.start bare) (inl none) (omega arith);
          };
    }
