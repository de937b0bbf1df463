-- The Stays and the Requests among the entries of a turn.
use Rattle.std.proofs.Common.{◌≡◌, ◌≢◌, ℕ, zero, suc, ◌+◌, Bool, true, false, cond, List, [], ◌∷◌, ◌++◌, replicate, count_by, refl, ap, ◌∙◌, arith, eq-eqb, ne_eqb}
use Rattle.std.proofs.lemmas.List.Sums.{sum_by-cons, sum_by-append}
use Rattle.market_types.specs.declared.reply.Entry.{Entry}
use Rattle.market_types.specs.declared.command.Cmd.TheVariants.{Stay, Leave}
use Rattle.market_types.specs.declared.reply.Reply.TheVariants.{Recalled, Left}
use Rattle.edit_history.specs.Chronicled.{entry}
use Rattle.worker_main.specs.declared.station.Station.{Station}
use Rattle.worker_main.specs.Turns.{Turn, TurnEnd, give_back, recalled, emptied, joined, stayed, ending, entries_of, is_stay, is_request, stays_for, requests_for}
use Rattle.worker_main.specs.Steps.{jobs_in, misses_in}

-- ---- counting

abbrev weight : Bool → ℕ
weight b = cond b 1 0

module _ (p : Entry → Bool) where
  count_cons : (e : Entry) (es : List Entry) → count_by p (e ∷ es) ≡ cond (p e) 1 0 + count_by p es
  count_cons e es = sum_by-cons (λ x. cond (p x) 1 0) e es

  pub count_append : (xs ys : List Entry) → count_by p (xs ++ ys) ≡ count_by p xs + count_by p ys
  count_append xs ys = sum_by-append (λ x. cond (p x) 1 0) xs ys

  pub count_yes : (e : Entry) (es : List Entry) → p e ≡ true → count_by p (e ∷ es) ≡ 1 + count_by p es
  count_yes e es is = let h : count_by p (e ∷ es) ≡ weight (p e) + count_by p es = count_cons e es in let k = ap weight is in omega arith

  pub count_no : (e : Entry) (es : List Entry) → p e ≡ false → count_by p (e ∷ es) ≡ count_by p es
  count_no e es is = let h : count_by p (e ∷ es) ≡ weight (p e) + count_by p es = count_cons e es in let k = ap weight is in omega arith

  count_each : (n : ℕ) (e : Entry) → p e ≡ true → count_by p (replicate n e) ≡ n
  count_each zero e is = refl
  count_each (suc n) e is = let h = count_each n e is in let k = count_yes e (replicate n e) is in omega arith

  count_none : (n : ℕ) (e : Entry) → p e ≡ false → count_by p (replicate n e) ≡ 0
  count_none zero e is = refl
  count_none (suc n) e is = count_no e (replicate n e) is ∙ count_none n e is

abbrev pub stays : ℕ → Entry → Bool
stays arena e = is_stay arena e.call.cmd e.reply

abbrev pub requests : ℕ → Entry → Bool
requests arena e = is_request arena e.call.cmd

-- ---- a turn's own arena

module _ (seat a : ℕ) (s : Station) (here : s.arena ≡ a) where
  ending_stays : (n : ℕ) (end : TurnEnd) → n + stays_for a (ending seat s end) ≡ jobs_in n end
  ending_stays n recalled =
      let h : stays_for a (ending seat s recalled) ≡ 1 = count_yes (stays a) (entry seat Stay (Recalled s.arena)) [] (eq-eqb s.arena a here) in omega arith
  ending_stays n (emptied reply) = let h : stays_for a (ending seat s (emptied reply)) ≡ 0 = refl in omega arith

  ending_requests : (end : TurnEnd) → requests_for a (ending seat s end) ≡ misses_in end
  ending_requests recalled = refl
  ending_requests (emptied reply) = count_yes (requests a) (entry seat (give_back s) reply) (entry seat Leave (Left s.arena) ∷ []) (eq-eqb s.arena a here)

  own_stays : (n : ℕ) (end : TurnEnd) → stays_for a (joined seat s ∷ (replicate n (stayed seat s) ++ ending seat s end)) ≡ jobs_in n end
  own_stays n end =
      let h = count_no (stays a) (joined seat s) (replicate n (stayed seat s) ++ ending seat s end) refl in
      let k = count_append (stays a) (replicate n (stayed seat s)) (ending seat s end) in
      let m = count_each (stays a) n (stayed seat s) (eq-eqb s.arena a here) in
      let e = ending_stays n end in
      omega arith

  own_requests : (n : ℕ) (end : TurnEnd) → requests_for a (joined seat s ∷ (replicate n (stayed seat s) ++ ending seat s end)) ≡ misses_in end
  own_requests n end =
      let h = count_no (requests a) (joined seat s) (replicate n (stayed seat s) ++ ending seat s end) refl in
      let k = count_append (requests a) (replicate n (stayed seat s)) (ending seat s end) in
      let m = count_none (requests a) n (stayed seat s) refl in
      let e = ending_requests end in
      omega arith

pub turn_stays : (seat a : ℕ) (t : Turn) → t.station.arena ≡ a → stays_for a (entries_of seat t) ≡ jobs_in t.stays t.end
turn_stays seat a t here = own_stays seat a t.station here t.stays t.end

pub turn_requests : (seat a : ℕ) (t : Turn) → t.station.arena ≡ a → requests_for a (entries_of seat t) ≡ misses_in t.end
turn_requests seat a t here = own_requests seat a t.station here t.stays t.end

-- ---- another arena

module _ (seat a : ℕ) (s : Station) (there : s.arena ≢ a) where
  ending_no_stays : (end : TurnEnd) → stays_for a (ending seat s end) ≡ 0
  ending_no_stays recalled = count_no (stays a) (entry seat Stay (Recalled s.arena)) [] (ne_eqb s.arena a there)
  ending_no_stays (emptied reply) = refl

  ending_no_requests : (end : TurnEnd) → requests_for a (ending seat s end) ≡ 0
  ending_no_requests recalled = refl
  ending_no_requests (emptied reply) = count_no (requests a) (entry seat (give_back s) reply) (entry seat Leave (Left s.arena) ∷ []) (ne_eqb s.arena a there)

  other_stays : (n : ℕ) (end : TurnEnd) → stays_for a (joined seat s ∷ (replicate n (stayed seat s) ++ ending seat s end)) ≡ 0
  other_stays n end =
      let h = count_no (stays a) (joined seat s) (replicate n (stayed seat s) ++ ending seat s end) refl in
      let k = count_append (stays a) (replicate n (stayed seat s)) (ending seat s end) in
      let m = count_none (stays a) n (stayed seat s) (ne_eqb s.arena a there) in
      let e = ending_no_stays end in
      omega arith

  other_requests : (n : ℕ) (end : TurnEnd) → requests_for a (joined seat s ∷ (replicate n (stayed seat s) ++ ending seat s end)) ≡ 0
  other_requests n end =
      let h = count_no (requests a) (joined seat s) (replicate n (stayed seat s) ++ ending seat s end) refl in
      let k = count_append (requests a) (replicate n (stayed seat s)) (ending seat s end) in
      let m = count_none (requests a) n (stayed seat s) refl in
      let e = ending_no_requests end in
      omega arith

pub elsewhere_stays : (seat a : ℕ) (t : Turn) → t.station.arena ≢ a → stays_for a (entries_of seat t) ≡ 0
elsewhere_stays seat a t there = other_stays seat a t.station there t.stays t.end

pub elsewhere_requests : (seat a : ℕ) (t : Turn) → t.station.arena ≢ a → requests_for a (entries_of seat t) ≡ 0
elsewhere_requests seat a t there = other_requests seat a t.station there t.stays t.end
