-- The lines of a history, written piece by piece.
use Rattle.std.specs.Prelude.{slice_get, OnErr, Result, Ok, Err}
use Rattle.std.proofs.Common.{◌≡◌, ℕ, zero, suc, ◌+◌, List, [], ◌∷◌, ◌++◌, take, drop, codes, append_assoc, append-nil, take-append-drop, Option, Some, refl, ap, sym, ◌∙◌, subst, arith}
use Rattle.std.proofs.KnownBytes.{Appends-trans}
use Rattle.std.proofs.lemmas.Grind.{flat_map-append}
use Rattle.std.proofs.lemmas.Option.{same_Some}
use Rattle.std.specs.Io.KnownBytes.{Appends}
use Rattle.byte_devices.specs.Devices.{WritesFront}
use Rattle.market_types.specs.declared.reply.Entry.{Entry}
use Rattle.market_types.specs.State.{State}
use Rattle.edit_history.specs.Parts.{joined}
use Rattle.edit_history.specs.declared.part.Part.{Part}
use Rattle.journal_replay.specs.declared.header.Extent.{Extent}
use Rattle.journal_replay.specs.declared.header.Header.{Header}
use Rattle.journal_replay.specs.Journal.{header_for, entry_line, entry_lines, header_line, journal_in, part_lines}
use Rattle.byte_devices.specs.Output.{Fronts}

-- an entry's line with its LF
abbrev line : ℕ → Entry → List ℕ
line levels e = entry_line levels e ++ codes "\n"

take-one-more : (log : List Entry) (i : ℕ) (e : Entry) → slice_get log i ≡ Some e → take (suc i) log ≡ take i log ++ e ∷ []
take-one-more [] i e found = cc
take-one-more (x ∷ xs) zero e found = ap (λ y. y ∷ []) (same_Some x e found)
take-one-more (x ∷ xs) (suc i) e found = ap (λ ys. x ∷ ys) (take-one-more xs i e found)

-- what holds anyway holds at an error
pub at-err : {T E : Type 0} (P : Type 0) (r : Result T E) → P → OnErr r P
at-err P (Ok x) p = tt
at-err P (Err e) p = p

-- the lines of one entry more
pub lines-more : (levels i : ℕ) (log : List Entry) (e : Entry) → slice_get log i ≡ Some e → entry_lines levels (take (i + 1) log) ≡ entry_lines levels (take i log) ++ line levels e
lines-more levels i log e found =
    ap (λ n. entry_lines levels (take n log)) (let next : i + 1 ≡ suc i = omega arith in next)
    ∙ ap (entry_lines levels) (take-one-more log i e found)
    ∙ flat_map-append (line levels) (take i log) (e ∷ [])
    ∙ ap (λ xs. entry_lines levels (take i log) ++ xs) (append-nil (line levels e))

-- what waits grows by a line
pub fronts-more : (a b : Option (List ℕ)) (waiting waiting' text text' more : List ℕ) → Fronts a b waiting text → waiting' ≡ waiting ++ more → text' ≡ text ++ more → Fronts a b waiting' text'
fronts-more a b waiting waiting' text text' more f w t =
    record { out = f.out; wrote = f.wrote; rest = t ∙ ap (λ xs. xs ++ more) f.rest ∙ append_assoc f.out waiting more ∙ ap (λ xs. f.out ++ xs) (sym w) }

-- the same of the same sink and the same bytes that wait
pub moved-fronts : (a b b' : Option (List ℕ)) (waiting waiting' text : List ℕ) → b' ≡ b → waiting' ≡ waiting → Fronts a b waiting text → Fronts a b' waiting' text
moved-fronts a b b' waiting waiting' text same same_waiting f =
    subst (λ (z : Option (List ℕ) × List ℕ). Fronts a z.0 z.1 text) (λ i. (sym same i, sym same_waiting i)) f

-- what waited is written
pub fronts-written : (a b c : Option (List ℕ)) (waiting text : List ℕ) → Fronts a b waiting text → Appends b c waiting → Fronts a c [] text
fronts-written a b c waiting text f wrote =
    record { out = f.out ++ waiting; wrote = Appends-trans a b c f.out waiting f.wrote wrote; rest = f.rest ∙ sym (append-nil (f.out ++ waiting)) }

-- the text up to some entry is a front of the whole
pub front-of-whole : (a b : Option (List ℕ)) (waiting start : List ℕ) (levels i : ℕ) (log : List Entry) → Fronts a b waiting (start ++ entry_lines levels (take i log)) → WritesFront a b (start ++ entry_lines levels log)
front-of-whole a b waiting start levels i log f =
    let rest : List ℕ = entry_lines levels (drop i log) in
    let split : entry_lines levels log ≡ entry_lines levels (take i log) ++ rest = ap (entry_lines levels) (sym (take-append-drop i log)) ∙ flat_map-append (line levels) (take i log) (drop i log) in
    record {
      out = f.out;
      wrote = f.wrote;
      front = (
        waiting ++ rest,
        ap (λ xs. start ++ xs) split
            ∙ sym (append_assoc start (entry_lines levels (take i log)) rest)
            ∙ ap (λ xs. xs ++ rest) f.rest
            ∙ append_assoc f.out waiting rest,
      );
    }

-- and so is a front of what waits behind what was written
pub front-then : (a b c : Option (List ℕ)) (waiting text whole more : List ℕ) → Fronts a b waiting text → whole ≡ text ++ more → WritesFront b c waiting → WritesFront a c whole
front-then a b c waiting text whole more f is w =
    record {
      out = f.out ++ w.out;
      wrote = Appends-trans a b c f.out w.out f.wrote w.wrote;
      front = (
        w.front.0 ++ more,
        is
            ∙ ap (λ xs. xs ++ more) (f.rest ∙ ap (λ xs. f.out ++ xs) w.front.1 ∙ sym (append_assoc f.out w.out w.front.0))
            ∙ append_assoc (f.out ++ w.out) w.front.0 more,
      );
    }

-- the lines of a history are those of its first entries and of the others
pub lines-split : (start : List ℕ) (levels i : ℕ) (log : List Entry) → start ++ entry_lines levels log ≡ (start ++ entry_lines levels (take i log)) ++ entry_lines levels (drop i log)
lines-split start levels i log =
    ap (λ xs. start ++ entry_lines levels xs) (sym (take-append-drop i log))
    ∙ ap (λ xs. start ++ xs) (flat_map-append (line levels) (take i log) (drop i log))
    ∙ sym (append_assoc start (entry_lines levels (take i log)) (entry_lines levels (drop i log)))

-- the header's line and the lines of all entries are the journal
pub header-is : (extent : Extent) (start : State) (h : Header) (log : List Entry) (text waiting : List ℕ) → h ≡ header_for extent start → text ≡ header_line h → waiting ≡ text ++ codes "\n"
    → waiting ++ entry_lines start.levels log ≡ journal_in extent start log
header-is extent start h log text waiting same is w =
    let header : List ℕ = header_line (header_for extent start) in
    let its : text ≡ header = is ∙ ap header_line same in
    ap (λ xs. xs ++ entry_lines start.levels log) (w ∙ ap (λ xs. xs ++ codes "\n") its) ∙ append_assoc header (codes "\n") (entry_lines start.levels log)

-- with what waits, all of the text is written
pub all-written : (a b c : Option (List ℕ)) (waiting text whole : List ℕ) → text ≡ whole → Fronts a b waiting text → Appends b c waiting → Appends a c whole
all-written a b c waiting text whole is f wrote =
    subst (λ xs. Appends a c xs) (sym f.rest ∙ is) (Appends-trans a b c f.out waiting f.wrote wrote)

-- and at least a front of it
pub some-written : (a b c : Option (List ℕ)) (waiting text whole : List ℕ) → text ≡ whole → Fronts a b waiting text → WritesFront b c waiting → WritesFront a c whole
some-written a b c waiting text whole is f w = front-then a b c waiting text whole [] f (sym is ∙ sym (append-nil text)) w

-- ---- parts

pub lines-of-parts : (levels : ℕ) (parts : List Part) → part_lines levels parts ≡ entry_lines levels (joined parts)
lines-of-parts levels [] = refl
lines-of-parts levels (p ∷ ps) =
    ap (λ xs. entry_lines levels p.entries.items ++ xs) (lines-of-parts levels ps) ∙ sym (flat_map-append (line levels) p.entries.items (joined ps))

pub parts-are-journal : (extent : Extent) (start : State) (history : List Entry) (parts : List Part) → joined parts ≡ history
    → (header_line (header_for extent start) ++ codes "\n") ++ part_lines start.levels parts ≡ journal_in extent start history
parts-are-journal extent start history parts all =
    append_assoc (header_line (header_for extent start)) (codes "\n") (part_lines start.levels parts)
    ∙ ap (λ xs. header_line (header_for extent start) ++ (codes "\n" ++ xs)) (lines-of-parts start.levels parts ∙ ap (entry_lines start.levels) all)
