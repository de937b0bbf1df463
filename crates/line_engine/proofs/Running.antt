-- An input, from its start up to some moment between two pieces.
use Rattle.std.proofs.Common.{◌≡◌, ℕ, ◌+◌, ◌<◌, ◌≤◌, ◌++◌, List, [], length, Bool, false, true≢false, Option, Result, Ok, Err, IfErr, refl, sym, ap, ◌∙◌, subst, arith, append-nil, length-append}
use Rattle.std.specs.Io.KnownBytes.{Consumes, Appends}
use Rattle.std.proofs.KnownBytes.{Consumes-trans, Consumes-nil}
use Rattle.byte_devices.specs.Devices.{WritesFront}
use Rattle.line_engine.specs.Lines.{Line, unfinished_line, whole_lines, last_line, lines_of}
use Rattle.line_engine.specs.Rule.{LineRule, after, replies_to}
use Rattle.line_engine.specs.Input.{limit_by, TakesAll, StopsAt, CauseOf, Stops, HandsOver}
use Rattle.line_engine.specs.Pieces.{Takes, IsReadFault, BreaksOff, IsPieceFault}
use Rattle.line_engine.specs.declared.fault.InputFault.{InputFault}
use Rattle.line_engine.specs.declared.fault.InputFault.TheVariants.{Read, TooLong, Write, Memory, Taker}
use Rattle.line_engine.proofs.Folds.{after-append, after-grows}
use Rattle.line_engine.proofs.Taking.{no_lf-nil, whole_lines-append, takes-begun, takes-more, front-piece, front-end, all-replies, all-state, handed-over, stops-piece, stops-end, WritesFront-none}

-- the input was read up to here, and what no LF has ended is unfinished
pub record Running {S : Type 0} (rule : LineRule S) (longest : ℕ) (start now : S) (left left' taken taken' : Option (List ℕ)) (unfinished : List ℕ) (total : ℕ) : Type 0 where
  pub input : List ℕ
  pub read : Consumes left left' input
  pub len : length input ≡ total
  pub takes : Takes rule longest start now taken taken' input [] unfinished

-- nothing was read at the end
read-all : (a b c : Option (List ℕ)) (input : List ℕ) → Consumes a b input → Consumes b c [] → Consumes a c input
read-all a b c input h k = subst (λ xs. Consumes a c xs) (append-nil input) (Consumes-trans a b c input [] h k)

-- a cause is one for whatever follows from the taker's fault
cause-weaker : {F : Type 0} (P Q : F → Type 0) → ((fault : F) → P fault → Q fault) → (limit : List ℕ → ℕ) (fault : InputFault F) (input : List ℕ) (source_failed sink_failed : Bool)
    → CauseOf P limit fault input source_failed sink_failed → CauseOf Q limit fault input source_failed sink_failed
cause-weaker P Q h limit Read input x y c = c
cause-weaker P Q h limit TooLong input x y c = c
cause-weaker P Q h limit Write input x y c = c
cause-weaker P Q h limit Memory input x y c = c
cause-weaker P Q h limit (Taker fault) input x y c = (c.0, c.1, c.2, h fault c.3)

-- why a piece could not be read after the input's front has nothing to do with the taker
pub cause-of-read : {F : Type 0} (P : F → Type 0) (limit : List ℕ → ℕ) (fault : InputFault F) (front piece : List ℕ) (room : ℕ) (source_failed : Bool)
    → length front + room ≡ limit front → IsReadFault fault room piece source_failed → CauseOf P limit fault (front ++ piece) source_failed false
cause-of-read P limit Read front piece room x is why =
    let within : length front ≤ limit front = omega (arith, is) in
    (subst (λ input. length input ≤ limit input) (sym (ap (λ p. front ++ p) why.0 ∙ append-nil front)) within, why.1, refl)
cause-of-read P limit TooLong front piece room x is why =
    (record { front = front; piece = piece; are = refl; within = omega (arith, is); above = omega (arith, is, why.0, length-append front piece) }, why.1, refl)
cause-of-read P limit Write front piece room x is why = absurd why
cause-of-read P limit Memory front piece room x is why = absurd why
cause-of-read P limit (Taker fault) front piece room x is why = absurd why

module _ {S : Type 0} (rule : LineRule S) (longest : ℕ) where
  pub running-begun : (s : S) (left taken : Option (List ℕ)) (u : List ℕ) → u ≡ [] → Running rule longest s s left left taken taken u 0
  running-begun s left taken u none = record {
    input = [];
    read = Consumes-nil left;
    len = refl;
    takes = let short : 0 ≤ longest + 1 = omega arith in subst (λ xs. Takes rule longest s s taken taken [] [] xs) (sym none) (takes-begun rule longest s taken [] no_lf-nil short);
  }

  -- a piece is taken
  pub running-fed : (s now new : S) (left a left' taken b taken' : Option (List ℕ)) (u piece u' : List ℕ) (total n : ℕ) → Running rule longest s now left a taken b u total
      → Consumes a left' piece → length piece ≡ n → Takes rule longest now new b taken' (u ++ piece) [] u' → Running rule longest s new left left' taken taken' u' (total + n)
  running-fed s now new left a left' taken b taken' u piece u' total n r more len t = record {
    input = r.input ++ piece;
    read = Consumes-trans left a left' r.input piece r.read more;
    len = omega (arith, length-append r.input piece, r.len);
    takes = takes-more rule longest s now new taken b taken' r.input u piece [] u' r.takes t;
  }

  -- a read failed: nothing was pending
  pub running-prompt : (s now : S) (left a left' taken b : Option (List ℕ)) (u : List ℕ) (total : ℕ) → Running rule longest s now left a taken b u total
      → Consumes a left' [] → HandsOver rule longest s left left' taken b
  running-prompt s now left a left' taken b u total r none = record {
    input = r.input;
    read = read-all left a left' r.input r.read none;
    wrote = handed-over rule longest s now taken b r.input u r.takes;
  }

  module _ (most_bytes : S → ℕ) (grows : (s : S) (line : Line) → most_bytes s ≤ most_bytes (rule.next s line)) where
    -- reading more takes nothing away from the limit
    limit-grows : (s : S) (xs ys : List ℕ) → limit_by rule longest most_bytes s xs ≤ limit_by rule longest most_bytes s (xs ++ ys)
    limit-grows s xs ys =
        let before = whole_lines longest xs in
        let more = whole_lines longest (unfinished_line xs ++ ys) in
        let same : limit_by rule longest most_bytes s (xs ++ ys) ≡ most_bytes (after rule (after rule s before) more) =
        ap (λ ls. most_bytes (after rule s ls)) (whole_lines-append longest xs ys) ∙ ap most_bytes (after-append rule s before more) in
        omega (arith, same, after-grows rule most_bytes grows (after rule s before) more)

    -- a piece leaves the input within its limit
    pub within-fed : (now new : S) (b taken' : Option (List ℕ)) (text u' : List ℕ) (total n : ℕ) → total + n ≤ most_bytes now
        → Takes rule longest now new b taken' text [] u' → total + n ≤ most_bytes new
    within-fed now new b taken' text u' total n within t =
        omega (arith, within, after-grows rule most_bytes grows now (whole_lines longest text), ap most_bytes t.state)

    -- all was taken
    pub running-all : (s now last : S) (left a left' taken b taken' : Option (List ℕ)) (u : List ℕ) (total : ℕ) → Running rule longest s now left a taken b u total
        → Consumes a left' [] → total ≤ most_bytes now → Appends b taken' (replies_to rule now (last_line longest u)) → last ≡ after rule now (last_line longest u)
        → TakesAll rule longest most_bytes s last left left' taken taken'
    running-all s now last left a left' taken b taken' u total r none within w is = record {
      input = r.input;
      read = read-all left a left' r.input r.read none;
      within = omega (arith, r.len, within, after-grows rule most_bytes grows now (last_line longest u), ap most_bytes is);
      wrote = all-replies rule longest s now taken b taken' r.input u r.takes w;
      state = is ∙ sym (all-state rule longest s now taken b r.input u r.takes);
    }

    module _ {F : Type 0} (stops : S → Line → F → Type 0) where
      -- a piece was not read
      pub stopped-reading : (s now : S) (left a left' taken b : Option (List ℕ)) (u : List ℕ) (total room : ℕ) (source_failed : Bool) (fault : InputFault F) → Running rule longest s now left a taken b u total
          → total + room ≡ most_bytes now → BreaksOff a left' room source_failed fault → Stops rule longest most_bytes stops s left left' taken b source_failed false fault
      stopped-reading s now left a left' taken b u total room source_failed fault r is broken =
          let most : length r.input + room ≡ limit_by rule longest most_bytes s r.input = ap (λ n. n + room) r.len ∙ (is ∙ ap most_bytes r.takes.state) in
          record {
            input = r.input ++ broken.piece;
            read = Consumes-trans left a left' r.input broken.piece r.read broken.read;
            wrote = front-piece rule longest s now taken b b r.input u broken.piece r.takes (WritesFront-none b _);
            cause = cause-of-read (StopsAt rule stops s (lines_of longest (r.input ++ broken.piece))) (limit_by rule longest most_bytes s) fault r.input broken.piece room source_failed most broken.why;
          }

      -- a piece was not taken
      pub stopped-inside : (s now : S) (left a left' taken b taken' : Option (List ℕ)) (u piece : List ℕ) (total n : ℕ) (sink_failed : Bool) (fault : InputFault F) → Running rule longest s now left a taken b u total
          → Consumes a left' piece → length piece ≡ n → total + n ≤ most_bytes now → WritesFront b taken' (replies_to rule now (whole_lines longest (u ++ piece)))
          → IsPieceFault (StopsAt rule stops now (whole_lines longest (u ++ piece))) fault sink_failed → Stops rule longest most_bytes stops s left left' taken taken' false sink_failed fault
      stopped-inside s now left a left' taken b taken' u piece total n sink_failed fault r more len within w why =
          let limit = limit_by rule longest most_bytes s in
          let short : length (r.input ++ piece) ≤ limit (r.input ++ piece) = omega (arith, length-append r.input piece, r.len, len, within, ap most_bytes r.takes.state, limit-grows s r.input piece) in
          record {
            input = r.input ++ piece;
            read = Consumes-trans left a left' r.input piece r.read more;
            wrote = front-piece rule longest s now taken b taken' r.input u piece r.takes w;
            cause = cause-weaker (StopsAt rule stops now (whole_lines longest (u ++ piece))) (StopsAt rule stops s (lines_of longest (r.input ++ piece)))
                (λ f h. stops-piece rule longest stops s now taken b r.input u piece f r.takes h) limit fault (r.input ++ piece) false sink_failed (why limit (r.input ++ piece) short);
          }

      -- the last line was not taken
      pub stopped-last : (s now : S) (left a left' taken b taken' : Option (List ℕ)) (u : List ℕ) (total : ℕ) (sink_failed : Bool) (fault : InputFault F) → Running rule longest s now left a taken b u total
          → Consumes a left' [] → total ≤ most_bytes now → WritesFront b taken' (replies_to rule now (last_line longest u))
          → IsPieceFault (StopsAt rule stops now (last_line longest u)) fault sink_failed → Stops rule longest most_bytes stops s left left' taken taken' false sink_failed fault
      stopped-last s now left a left' taken b taken' u total sink_failed fault r none within w why =
          let limit = limit_by rule longest most_bytes s in
          let short : length r.input ≤ limit r.input = omega (arith, r.len, within, ap most_bytes r.takes.state) in
          record {
            input = r.input;
            read = read-all left a left' r.input r.read none;
            wrote = front-end rule longest s now taken b taken' r.input u r.takes w;
            cause = cause-weaker (StopsAt rule stops now (last_line longest u)) (StopsAt rule stops s (lines_of longest r.input))
                (λ f h. stops-end rule longest stops s now taken b r.input u f r.takes h) limit fault r.input false sink_failed (why limit r.input short);
          }

      -- memory ran out before anything was read
      pub stopped-before : (s : S) (left taken : Option (List ℕ)) (source_failed sink_failed : Bool) → source_failed ≡ false → sink_failed ≡ false
          → Stops rule longest most_bytes stops s left left taken taken source_failed sink_failed Memory
      stopped-before s left taken source_failed sink_failed e f = record {
        input = [];
        read = Consumes-nil left;
        wrote = WritesFront-none taken _;
        cause = (let none : 0 ≤ limit_by rule longest most_bytes s [] = omega arith in none, e, f);
      }

-- the faults that come when lines are handed on are no faults of the source
pub no-read-fault : {T F : Type 0} (stops : F → Type 0) (sink_failed : Bool) (r : Result T (InputFault F)) → IfErr r (λ fault. IsPieceFault stops fault sink_failed) → r ≡ Err Read → ⊥
no-read-fault stops sink_failed (Ok x) why is = cc
no-read-fault stops sink_failed (Err Read) why is = let none : length {A = ℕ} [] ≤ 0 = omega arith in true≢false (sym (why (λ _. 0) [] none).1)
no-read-fault stops sink_failed (Err TooLong) why is = cc
no-read-fault stops sink_failed (Err Write) why is = cc
no-read-fault stops sink_failed (Err Memory) why is = cc
no-read-fault stops sink_failed (Err (Taker fault)) why is = cc

-- whatever the value would have been, it is this fault
pub read-again : {T U F : Type 0} (fault : InputFault F) → ◌≡◌ {A = Result T (InputFault F)} (Err fault) (Err Read) → ◌≡◌ {A = Result U (InputFault F)} (Err fault) (Err Read)
read-again fault is =
    let same : fault ≡ Read = cc in
    ap (λ x. Err x) same

pub memory-no-read : {T F : Type 0} → ◌≡◌ {A = Result T (InputFault F)} (Err Memory) (Err Read) → ⊥
memory-no-read is = cc

pub value-no-read : {T F : Type 0} (x : T) → ◌≡◌ {A = Result T (InputFault F)} (Ok x) (Err Read) → ⊥
value-no-read x is = cc

-- a buffer of one piece is not empty
pub some-room : (n m : ℕ) → n ≡ m → m ≡ 65536 → 0 < n
some-room n m e f = omega arith
