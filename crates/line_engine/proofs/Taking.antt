-- An input that is taken part by part.
use Rattle.std.proofs.Common.{◌≡◌, ℕ, ◌+◌, ◌≤◌, false, List, [], ◌∷◌, ◌++◌, length, take, map, Option, refl, sym, ap, ◌∙◌, subst, arith, append_assoc, append-nil}
use Rattle.std.specs.Io.KnownBytes.{Appends}
use Rattle.std.proofs.KnownBytes.{Appends-trans, Appends-nil}
use Rattle.std.proofs.lemmas.List.{take_all, map-append}
use Rattle.std.proofs.lemmas.List.Elements.{All-append, All-nil}
use Rattle.byte_devices.specs.Devices.{WritesFront}
use Rattle.line_engine.specs.declared.form.LineForm.TheVariants.{Whole}
use Rattle.line_engine.specs.Lines.{is_lf, Line, NoLf, ended_lines, unfinished_line, handed, whole_lines, last_line, lines_of}
use Rattle.line_engine.specs.Rule.{LineRule, after, replies_to}
use Rattle.line_engine.specs.Input.{StopsAt}
use Rattle.line_engine.specs.Pieces.{Takes}
use Rattle.line_engine.proofs.Cut.{ended_lines-append, unfinished_line-append, ended_lines-first, ended_lines-none, unfinished_line-first, unfinished_line-none, NoLf-unfinished_line}
use Rattle.line_engine.proofs.Folds.{after-append, replies_to-append}
use Rattle.line_engine.proofs.Handed.{handed-cut, take-cut, whole_cut, unfinished_cut, last_line-taken}

-- ---- a prefix of a text

pub WritesFront-none : (a : Option (List ℕ)) (text : List ℕ) → WritesFront a a text
WritesFront-none a text = record { out = []; wrote = Appends-nil a; front = (text, refl) }

pub WritesFront-after : (a b c : Option (List ℕ)) (out text : List ℕ) → Appends a b out → WritesFront b c text → WritesFront a c (out ++ text)
WritesFront-after a b c out text h w = record {
  out = out ++ w.out;
  wrote = Appends-trans a b c out w.out h w.wrote;
  front = (w.front.0, ap (λ t. out ++ t) w.front.1 ∙ sym (append_assoc out w.out w.front.0));
}

pub WritesFront-longer : (a b : Option (List ℕ)) (text more : List ℕ) → WritesFront a b text → WritesFront a b (text ++ more)
WritesFront-longer a b text more w = record {
  out = w.out;
  wrote = w.wrote;
  front = (w.front.0 ++ more, ap (λ t. t ++ more) w.front.1 ∙ append_assoc w.out w.front.0 more);
}

pub no_lf-nil : NoLf []
no_lf-nil = All-nil (λ b. is_lf b ≡ false)

no_lf-append : (xs ys : List ℕ) → NoLf xs → NoLf ys → NoLf (xs ++ ys)
no_lf-append xs ys h k = All-append (λ b. is_lf b ≡ false) xs ys h k

-- ---- lines, a part of the input after another

module _ (longest : ℕ) where
  pub whole_lines-append : (xs ys : List ℕ) → whole_lines longest (xs ++ ys) ≡ whole_lines longest xs ++ whole_lines longest (unfinished_line xs ++ ys)
  whole_lines-append xs ys =
      ap (map (handed longest Whole)) (ended_lines-append xs ys)
      ∙ map-append (handed longest Whole) (ended_lines xs) (ended_lines (unfinished_line xs ++ ys))

  whole_lines-none : (xs : List ℕ) → NoLf xs → whole_lines longest xs ≡ []
  whole_lines-none xs free = ap (map (handed longest Whole)) (ended_lines-none xs free)

  -- the rest begins with the end of the unfinished line
  whole_lines-line : (xs line more : List ℕ) → NoLf line
      → whole_lines longest (xs ++ (line ++ 10 ∷ more)) ≡ whole_lines longest xs ++ handed longest Whole (unfinished_line xs ++ line) ∷ whole_lines longest more
  whole_lines-line xs line more free =
      let x = unfinished_line xs in
      let cut : ended_lines (x ++ (line ++ 10 ∷ more)) ≡ (x ++ line) ∷ ended_lines more =
      ap ended_lines (sym (append_assoc x line (10 ∷ more))) ∙ ended_lines-first (x ++ line) more (no_lf-append x line (NoLf-unfinished_line xs) free) in
      whole_lines-append xs (line ++ 10 ∷ more) ∙ ap (λ ls. whole_lines longest xs ++ map (handed longest Whole) ls) cut

  unfinished_line-line : (xs line more : List ℕ) → NoLf line → unfinished_line (xs ++ (line ++ 10 ∷ more)) ≡ unfinished_line more
  unfinished_line-line xs line more free =
      let x = unfinished_line xs in
      unfinished_line-append xs (line ++ 10 ∷ more)
      ∙ (ap unfinished_line (sym (append_assoc x line (10 ∷ more))) ∙ unfinished_line-first (x ++ line) more (no_lf-append x line (NoLf-unfinished_line xs) free))

  whole_lines-part : (xs part : List ℕ) → NoLf part → whole_lines longest (xs ++ part) ≡ whole_lines longest xs
  whole_lines-part xs part free =
      let x = unfinished_line xs in
      whole_lines-append xs part
      ∙ (ap (λ ls. whole_lines longest xs ++ ls) (whole_lines-none (x ++ part) (no_lf-append x part (NoLf-unfinished_line xs) free)) ∙ append-nil (whole_lines longest xs))

  unfinished_line-part : (xs part : List ℕ) → NoLf part → unfinished_line (xs ++ part) ≡ unfinished_line xs ++ part
  unfinished_line-part xs part free =
      unfinished_line-append xs part ∙ unfinished_line-none (unfinished_line xs ++ part) (no_lf-append (unfinished_line xs) part (NoLf-unfinished_line xs) free)

  take-nil : take {A = ℕ} (longest + 1) [] ≡ []
  take-nil = let none : 0 ≤ longest + 1 = omega arith in take_all (longest + 1) [] none

-- ---- what was taken

module _ {S : Type 0} (rule : LineRule S) (longest : ℕ) where
  -- nothing but an unfinished line
  pub takes-begun : (s : S) (taken : Option (List ℕ)) (u : List ℕ) → NoLf u → length u ≤ longest + 1 → Takes rule longest s s taken taken u [] u
  takes-begun s taken u free short = record {
    out = [];
    wrote = Appends-nil taken;
    replies = ap (replies_to rule s) (whole_lines-none longest u free);
    state = sym (ap (after rule s) (whole_lines-none longest u free));
    kept = sym (ap (take (longest + 1)) (unfinished_line-none u free) ∙ take_all (longest + 1) u short);
  }

  -- a line is taken
  pub takes-line : (s now new : S) (a b : Option (List ℕ)) (input waiting waiting' u line : List ℕ) → Takes rule longest s now a b input waiting u → NoLf line
      → new ≡ rule.next now (handed longest Whole (u ++ line)) → waiting' ≡ waiting ++ rule.reply now (handed longest Whole (u ++ line))
      → Takes rule longest s new a b (input ++ (line ++ 10 ∷ [])) waiting' []
  takes-line s now new a b input waiting waiting' u line t free next told =
      let before = whole_lines longest input in
      let x = handed longest Whole (unfinished_line input ++ line) in
      let same : handed longest Whole (u ++ line) ≡ x =
      ap (λ v. handed longest Whole (v ++ line)) t.kept ∙ handed-cut longest Whole (unfinished_line input) line in
      let none : whole_lines longest [] ≡ [] = whole_lines-none longest [] no_lf-nil in
      let lines : whole_lines longest (input ++ (line ++ 10 ∷ [])) ≡ before ++ x ∷ [] =
      whole_lines-line longest input line [] free ∙ ap (λ ls. before ++ x ∷ ls) none in
      record {
        out = t.out;
        wrote = t.wrote;
        replies = ap (replies_to rule s) lines
            ∙ (replies_to-append rule s before (x ∷ [])
            ∙ (ap (λ text. text ++ replies_to rule (after rule s before) (x ∷ [])) t.replies
            ∙ (ap (λ (q : S). (t.out ++ waiting) ++ replies_to rule q (x ∷ [])) (sym t.state)
            ∙ (ap (λ text. (t.out ++ waiting) ++ text) (append-nil (rule.reply now x))
            ∙ (append_assoc t.out waiting (rule.reply now x)
            ∙ ap (λ text. t.out ++ text) (sym (told ∙ ap (λ (l : Line). waiting ++ rule.reply now l) same)))))));
        state = next ∙ (ap (λ (l : Line). rule.next now l) same
            ∙ (ap (λ (q : S). rule.next q x) t.state
            ∙ (sym (after-append rule s before (x ∷ [])) ∙ sym (ap (after rule s) lines))));
        kept = sym (ap (take (longest + 1)) (unfinished_line-line longest input line [] free ∙ unfinished_line-none [] no_lf-nil) ∙ take-nil longest);
      }

  -- the replies are handed over
  pub takes-handed : (s now : S) (a b c : Option (List ℕ)) (input waiting u : List ℕ) → Takes rule longest s now a b input waiting u → Appends b c waiting
      → Takes rule longest s now a c input [] u
  takes-handed s now a b c input waiting u t w = record {
    out = t.out ++ waiting;
    wrote = Appends-trans a b c t.out waiting t.wrote w;
    replies = t.replies ∙ sym (append-nil (t.out ++ waiting));
    state = t.state;
    kept = t.kept;
  }

  -- a part with no LF is kept
  pub takes-part : (s now : S) (a b : Option (List ℕ)) (input waiting u part u' : List ℕ) → Takes rule longest s now a b input waiting u → NoLf part
      → u' ≡ take (longest + 1) (u ++ part) → Takes rule longest s now a b (input ++ part) waiting u'
  takes-part s now a b input waiting u part u' t free is =
      let same = whole_lines-part longest input part free in
      record {
        out = t.out;
        wrote = t.wrote;
        replies = ap (replies_to rule s) same ∙ t.replies;
        state = t.state ∙ sym (ap (after rule s) same);
        kept = is ∙ (ap (λ v. take (longest + 1) (v ++ part)) t.kept
            ∙ (take-cut longest (unfinished_line input) part ∙ sym (ap (take (longest + 1)) (unfinished_line-part longest input part free))));
      }

  -- what a piece ends, by what was kept before it
  lines-after : (s now : S) (a b : Option (List ℕ)) (input waiting u : List ℕ) (t : Takes rule longest s now a b input waiting u) (piece : List ℕ)
      → whole_lines longest (input ++ piece) ≡ whole_lines longest input ++ whole_lines longest (u ++ piece)
  lines-after s now a b input waiting u t piece =
      let x = unfinished_line input in
      whole_lines-append longest input piece
      ∙ ap (λ ls. whole_lines longest input ++ ls)
      (sym (ap (λ v. whole_lines longest (v ++ piece)) t.kept ∙ whole_cut longest x piece (NoLf-unfinished_line input)))

  -- what was told of the input is the front of what is told of it and more lines
  replies-after : (s now : S) (a b : Option (List ℕ)) (input waiting u : List ℕ) (t : Takes rule longest s now a b input waiting u) (lines : List Line)
      → replies_to rule s (whole_lines longest input ++ lines) ≡ t.out ++ (waiting ++ replies_to rule now lines)
  replies-after s now a b input waiting u t lines =
      let before = whole_lines longest input in
      replies_to-append rule s before lines
      ∙ (ap (λ text. text ++ replies_to rule (after rule s before) lines) t.replies
      ∙ (ap (λ (q : S). (t.out ++ waiting) ++ replies_to rule q lines) (sym t.state) ∙ append_assoc t.out waiting (replies_to rule now lines)))

  state-after : (s now : S) (a b : Option (List ℕ)) (input waiting u : List ℕ) (t : Takes rule longest s now a b input waiting u) (lines : List Line)
      → after rule s (whole_lines longest input ++ lines) ≡ after rule now lines
  state-after s now a b input waiting u t lines =
      after-append rule s (whole_lines longest input) lines ∙ ap (λ (q : S). after rule q lines) (sym t.state)

  -- a piece after what was taken
  pub takes-more : (s now new : S) (a b c : Option (List ℕ)) (input u piece waiting u' : List ℕ) → Takes rule longest s now a b input [] u
      → Takes rule longest now new b c (u ++ piece) waiting u' → Takes rule longest s new a c (input ++ piece) waiting u'
  takes-more s now new a b c input u piece waiting u' t p =
      let more = whole_lines longest (u ++ piece) in
      let lines = lines-after s now a b input [] u t piece in
      record {
        out = t.out ++ p.out;
        wrote = Appends-trans a b c t.out p.out t.wrote p.wrote;
        replies = ap (replies_to rule s) lines
            ∙ (replies-after s now a b input [] u t more ∙ (ap (λ text. t.out ++ text) p.replies ∙ sym (append_assoc t.out p.out waiting)));
        state = p.state ∙ sym (ap (after rule s) lines ∙ state-after s now a b input [] u t more);
        kept = p.kept
            ∙ (ap (λ v. take (longest + 1) (unfinished_line (v ++ piece))) t.kept
            ∙ (unfinished_cut longest (unfinished_line input) piece (NoLf-unfinished_line input) ∙ sym (ap (take (longest + 1)) (unfinished_line-append input piece))));
      }

  -- ---- where it stops

  -- a prefix of what waits was written
  pub front-inside : (s now : S) (a b c : Option (List ℕ)) (input waiting u rest : List ℕ) → Takes rule longest s now a b input waiting u → WritesFront b c waiting
      → WritesFront a c (replies_to rule s (whole_lines longest (input ++ rest)))
  front-inside s now a b c input waiting u rest t w =
      subst (λ text. WritesFront a c text) (sym (ap (replies_to rule s) (lines-after s now a b input waiting u t rest) ∙ replies-after s now a b input waiting u t (whole_lines longest (u ++ rest))))
      (WritesFront-after a b c t.out _ t.wrote (WritesFront-longer b c waiting _ w))

  -- a prefix of the replies to some more lines was written
  front-more : (s now : S) (a b c : Option (List ℕ)) (input u : List ℕ) (lines rest : List Line) → Takes rule longest s now a b input [] u → WritesFront b c (replies_to rule now lines)
      → WritesFront a c (replies_to rule s (whole_lines longest input ++ (lines ++ rest)))
  front-more s now a b c input u lines rest t w =
      let longer = WritesFront-longer b c (replies_to rule now lines) (replies_to rule (after rule now lines) rest) w in
      let all = subst (λ text. WritesFront b c text) (sym (replies_to-append rule now lines rest)) longer in
      subst (λ text. WritesFront a c text) (sym (replies-after s now a b input [] u t (lines ++ rest))) (WritesFront-after a b c t.out _ t.wrote all)

  -- the lines of the input with a piece more
  lines_of-more : (s now : S) (a b : Option (List ℕ)) (input waiting u : List ℕ) (t : Takes rule longest s now a b input waiting u) (piece : List ℕ)
      → lines_of longest (input ++ piece) ≡ whole_lines longest input ++ (whole_lines longest (u ++ piece) ++ last_line longest (unfinished_line (input ++ piece)))
  lines_of-more s now a b input waiting u t piece =
      let last = last_line longest (unfinished_line (input ++ piece)) in
      ap (λ ls. ls ++ last) (lines-after s now a b input waiting u t piece) ∙ append_assoc (whole_lines longest input) (whole_lines longest (u ++ piece)) last

  -- the lines of an input that ends here
  lines_of-end : (s now : S) (a b : Option (List ℕ)) (input waiting u : List ℕ) (t : Takes rule longest s now a b input waiting u)
      → lines_of longest input ≡ whole_lines longest input ++ last_line longest u
  lines_of-end s now a b input waiting u t =
      ap (λ ls. whole_lines longest input ++ ls) (sym (ap (last_line longest) t.kept ∙ last_line-taken longest (unfinished_line input)))

  pub front-piece : (s now : S) (a b c : Option (List ℕ)) (input u piece : List ℕ) → Takes rule longest s now a b input [] u
      → WritesFront b c (replies_to rule now (whole_lines longest (u ++ piece))) → WritesFront a c (replies_to rule s (lines_of longest (input ++ piece)))
  front-piece s now a b c input u piece t w =
      subst (λ (ls : List Line). WritesFront a c (replies_to rule s ls)) (sym (lines_of-more s now a b input [] u t piece)) (front-more s now a b c input u _ _ t w)

  pub front-end : (s now : S) (a b c : Option (List ℕ)) (input u : List ℕ) → Takes rule longest s now a b input [] u
      → WritesFront b c (replies_to rule now (last_line longest u)) → WritesFront a c (replies_to rule s (lines_of longest input))
  front-end s now a b c input u t w =
      let none : last_line longest u ++ [] ≡ last_line longest u = append-nil (last_line longest u) in
      subst (λ (ls : List Line). WritesFront a c (replies_to rule s ls)) (ap (λ ls. whole_lines longest input ++ ls) none ∙ sym (lines_of-end s now a b input [] u t)) (front-more s now a b c input u (last_line longest u) [] t w)

  -- all is taken
  pub all-replies : (s now : S) (a b c : Option (List ℕ)) (input u : List ℕ) → Takes rule longest s now a b input [] u
      → Appends b c (replies_to rule now (last_line longest u)) → Appends a c (replies_to rule s (lines_of longest input))
  all-replies s now a b c input u t w =
      subst (λ text. Appends a c text) (sym (ap (replies_to rule s) (lines_of-end s now a b input [] u t) ∙ replies-after s now a b input [] u t (last_line longest u)))
      (Appends-trans a b c t.out _ t.wrote w)

  pub all-state : (s now : S) (a b : Option (List ℕ)) (input u : List ℕ) → Takes rule longest s now a b input [] u
      → after rule s (lines_of longest input) ≡ after rule now (last_line longest u)
  all-state s now a b input u t = ap (after rule s) (lines_of-end s now a b input [] u t) ∙ state-after s now a b input [] u t (last_line longest u)

  -- all that is due was handed over
  pub handed-over : (s now : S) (a b : Option (List ℕ)) (input u : List ℕ) → Takes rule longest s now a b input [] u
      → Appends a b (replies_to rule s (whole_lines longest input))
  handed-over s now a b input u t = subst (λ text. Appends a b text) (sym (t.replies ∙ append-nil t.out)) t.wrote

  module _ {F : Type 0} (stops : S → Line → F → Type 0) where
    -- it stops at one of some lines that come after others
    stops-after : (s now : S) (earlier lines rest all : List Line) (fault : F) → now ≡ after rule s earlier → all ≡ earlier ++ (lines ++ rest)
        → StopsAt rule stops now lines fault → StopsAt rule stops s all fault
    stops-after s now earlier lines rest all fault is e h = record {
      before = earlier ++ h.before;
      line = h.line;
      more = h.more ++ rest;
      are = e ∙ (ap (λ ls. earlier ++ (ls ++ rest)) h.are
          ∙ (ap (λ ls. earlier ++ ls) (append_assoc h.before (h.line ∷ h.more) rest) ∙ sym (append_assoc earlier h.before (h.line ∷ (h.more ++ rest)))));
      why = subst (λ (q : S). stops q h.line fault) (sym (after-append rule s earlier h.before ∙ ap (λ (q : S). after rule q h.before) (sym is))) h.why;
    }

    -- at the line that ends in a piece
    pub stops-line : (s now : S) (a b : Option (List ℕ)) (input waiting u line more : List ℕ) (fault : F) → Takes rule longest s now a b input waiting u → NoLf line
        → stops now (handed longest Whole (u ++ line)) fault → StopsAt rule stops s (whole_lines longest (input ++ (line ++ 10 ∷ more))) fault
    stops-line s now a b input waiting u line more fault t free why =
        let same : handed longest Whole (u ++ line) ≡ handed longest Whole (unfinished_line input ++ line) =
        ap (λ v. handed longest Whole (v ++ line)) t.kept ∙ handed-cut longest Whole (unfinished_line input) line in
        record {
          before = whole_lines longest input;
          line = handed longest Whole (unfinished_line input ++ line);
          more = whole_lines longest more;
          are = whole_lines-line longest input line more free;
          why = subst (λ (q : S). stops q (handed longest Whole (unfinished_line input ++ line)) fault) t.state (subst (λ (l : Line). stops now l fault) same why);
        }

    pub stops-piece : (s now : S) (a b : Option (List ℕ)) (input u piece : List ℕ) (fault : F) → Takes rule longest s now a b input [] u
        → StopsAt rule stops now (whole_lines longest (u ++ piece)) fault → StopsAt rule stops s (lines_of longest (input ++ piece)) fault
    stops-piece s now a b input u piece fault t h =
        stops-after s now (whole_lines longest input) (whole_lines longest (u ++ piece)) _ _ fault t.state (lines_of-more s now a b input [] u t piece) h

    pub stops-end : (s now : S) (a b : Option (List ℕ)) (input u : List ℕ) (fault : F) → Takes rule longest s now a b input [] u
        → StopsAt rule stops now (last_line longest u) fault → StopsAt rule stops s (lines_of longest input) fault
    stops-end s now a b input u fault t h =
        stops-after s now (whole_lines longest input) (last_line longest u) [] _ fault t.state
        (lines_of-end s now a b input [] u t ∙ ap (λ ls. whole_lines longest input ++ ls) (sym (append-nil (last_line longest u)))) h
