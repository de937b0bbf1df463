-- Cutting an input into lines, a part at a time.
use Rattle.std.proofs.Common.{◌≡◌, ℕ, ◌++◌, Bool, true, false, cond, List, [], ◌∷◌, length, ◌⊎◌, length-append, refl, sym, ap, ◌∙◌, arith, inl, inr}
use Rattle.std.specs.List.{slice_split, onto_first}
use Rattle.std.proofs.lemmas.List.Splits.{slice_split_at, slice_split_none, slice_split-cons_yes, slice_split-cons_no}
use Rattle.std.proofs.lemmas.List.Elements.{All-nil, All-cons}
use Rattle.std.proofs.lemmas.Bool.{eqb-true}
use Rattle.line_engine.specs.Lines.{is_lf, NoLf, without_last, last_part, ended_lines, unfinished_line}

-- ---- parts

abbrev pub IsSome : List (List ℕ) → Type 0
IsSome parts = length parts ≡ 0 → ⊥

onto-some : (x : ℕ) (ps : List (List ℕ)) → IsSome (onto_first x ps)
onto-some x [] h = omega arith
onto-some x (p ∷ ps) h = omega arith

cut-some_by : (b : Bool) (x : ℕ) (ps : List (List ℕ)) → IsSome (cond b ([] ∷ ps) (onto_first x ps))
cut-some_by true x ps h = omega arith
cut-some_by false x ps h = onto-some x ps h

-- a text has a part
pub cut-some : (zs : List ℕ) → IsSome (slice_split is_lf zs)
cut-some [] h = omega arith
cut-some (z ∷ zs) h = cut-some_by (is_lf z) z (slice_split is_lf zs) h

without_last-cons : (p : List ℕ) (ps : List (List ℕ)) → IsSome ps → without_last (p ∷ ps) ≡ p ∷ without_last ps
without_last-cons p [] h = absurd (h refl)
without_last-cons p (q ∷ ps) h = refl

last_part-cons : (p : List ℕ) (ps : List (List ℕ)) → IsSome ps → last_part (p ∷ ps) ≡ last_part ps
last_part-cons p [] h = absurd (h refl)
last_part-cons p (q ∷ ps) h = refl

without_last-append : (ps qs : List (List ℕ)) → IsSome qs → without_last (ps ++ qs) ≡ ps ++ without_last qs
without_last-append [] qs h = refl
without_last-append (p ∷ ps) qs h =
    without_last-cons p (ps ++ qs) (λ e. h (omega (arith, length-append ps qs))) ∙ ap (λ t. p ∷ t) (without_last-append ps qs h)

last_part-append : (ps qs : List (List ℕ)) → IsSome qs → last_part (ps ++ qs) ≡ last_part qs
last_part-append [] qs h = refl
last_part-append (p ∷ ps) qs h =
    last_part-cons p (ps ++ qs) (λ e. h (omega (arith, length-append ps qs))) ∙ last_part-append ps qs h

-- a byte before the first part
onto-cut : (x : ℕ) (ps : List (List ℕ)) (xs ys : List ℕ) → is_lf x ≡ false → IsSome ps
    → onto_first x (without_last ps ++ slice_split is_lf (last_part ps ++ ys))
    ≡ without_last (onto_first x ps) ++ slice_split is_lf (last_part (onto_first x ps) ++ ys)
onto-cut x [] xs ys e h = absurd (h refl)
onto-cut x (p ∷ []) xs ys e h = sym (slice_split-cons_no is_lf x (p ++ ys) e)
onto-cut x (p ∷ q ∷ ps) xs ys e h = refl

-- a text is cut as its front, and then what is left open of it with the rest
cut-append_by : (b : Bool) (x : ℕ) (xs ys : List ℕ) → is_lf x ≡ b
    → slice_split is_lf (xs ++ ys) ≡ without_last (slice_split is_lf xs) ++ slice_split is_lf (last_part (slice_split is_lf xs) ++ ys)
    → slice_split is_lf (x ∷ (xs ++ ys)) ≡ without_last (slice_split is_lf (x ∷ xs)) ++ slice_split is_lf (last_part (slice_split is_lf (x ∷ xs)) ++ ys)
cut-append_by true x xs ys e h =
    let ps = slice_split is_lf xs in
    rw (slice_split-cons_yes is_lf x xs e)
    (rw (without_last-cons [] ps (cut-some xs), last_part-cons [] ps (cut-some xs)) (slice_split-cons_yes is_lf x (xs ++ ys) e ∙ ap (λ t. [] ∷ t) h))
cut-append_by false x xs ys e h =
    let ps = slice_split is_lf xs in
    rw (slice_split-cons_no is_lf x xs e)
    (slice_split-cons_no is_lf x (xs ++ ys) e ∙ (ap (onto_first x) h ∙ onto-cut x ps xs ys e (cut-some xs)))

pub cut-append : (xs ys : List ℕ)
    → slice_split is_lf (xs ++ ys) ≡ without_last (slice_split is_lf xs) ++ slice_split is_lf (last_part (slice_split is_lf xs) ++ ys)
cut-append [] ys = refl
cut-append (x ∷ xs) ys = cut-append_by (is_lf x) x xs ys refl (cut-append xs ys)

-- ---- what has ended, and what is open

pub ended_lines-append : (xs ys : List ℕ) → ended_lines (xs ++ ys) ≡ ended_lines xs ++ ended_lines (unfinished_line xs ++ ys)
unfolding ended_lines unfinished_line
ended_lines-append xs ys =
    ap without_last (cut-append xs ys)
    ∙ without_last-append (without_last (slice_split is_lf xs)) (slice_split is_lf (unfinished_line xs ++ ys)) (cut-some (unfinished_line xs ++ ys))

pub unfinished_line-append : (xs ys : List ℕ) → unfinished_line (xs ++ ys) ≡ unfinished_line (unfinished_line xs ++ ys)
unfolding ended_lines unfinished_line
unfinished_line-append xs ys =
    ap last_part (cut-append xs ys)
    ∙ last_part-append (without_last (slice_split is_lf xs)) (slice_split is_lf (unfinished_line xs ++ ys)) (cut-some (unfinished_line xs ++ ys))

-- the first line of a text
pub ended_lines-first : (line z : List ℕ) → NoLf line → ended_lines (line ++ 10 ∷ z) ≡ line ∷ ended_lines z
unfolding ended_lines
ended_lines-first line z h = ap without_last (slice_split_at is_lf line 10 z h refl) ∙ without_last-cons line (slice_split is_lf z) (cut-some z)

pub unfinished_line-first : (line z : List ℕ) → NoLf line → unfinished_line (line ++ 10 ∷ z) ≡ unfinished_line z
unfolding unfinished_line
unfinished_line-first line z h = ap last_part (slice_split_at is_lf line 10 z h refl) ∙ last_part-cons line (slice_split is_lf z) (cut-some z)

-- a text with no LF is open
pub ended_lines-none : (line : List ℕ) → NoLf line → ended_lines line ≡ []
unfolding ended_lines
ended_lines-none line h = ap without_last (slice_split_none is_lf line h)

pub unfinished_line-none : (line : List ℕ) → NoLf line → unfinished_line line ≡ line
unfolding unfinished_line
unfinished_line-none line h = ap last_part (slice_split_none is_lf line h)

-- a text has a first LF or none
abbrev pub HasLf : List ℕ → Type 0
HasLf z = (w : List ℕ) × (rest : List ℕ) × NoLf w × (z ≡ w ++ 10 ∷ rest)

first_lf-cons : (x : ℕ) (z : List ℕ) (b : Bool) → is_lf x ≡ b → HasLf z ⊎ NoLf z → HasLf (x ∷ z) ⊎ NoLf (x ∷ z)
first_lf-cons x z true e h =
    let ten : x ≡ 10 = eqb-true x 10 e in
    inl ([], z, All-nil (λ y. is_lf y ≡ false), ap (λ y. y ∷ z) ten)
first_lf-cons x z false e (inl h) = inl (x ∷ h.0, h.1, All-cons (λ y. is_lf y ≡ false) x h.0 e h.2, ap (λ ys. x ∷ ys) h.3)
first_lf-cons x z false e (inr h) = inr (All-cons (λ y. is_lf y ≡ false) x z e h)

pub first_lf : (z : List ℕ) → HasLf z ⊎ NoLf z
first_lf [] = inr (All-nil (λ x. is_lf x ≡ false))
first_lf (x ∷ z) = first_lf-cons x z (is_lf x) refl (first_lf z)

-- what is open has no LF
open-free_onto : (x : ℕ) (ps : List (List ℕ)) → is_lf x ≡ false → NoLf (last_part ps) → NoLf (last_part (onto_first x ps))
open-free_onto x [] e h = All-cons (λ y. is_lf y ≡ false) x [] e h
open-free_onto x (p ∷ []) e h = All-cons (λ y. is_lf y ≡ false) x p e h
open-free_onto x (p ∷ q ∷ ps) e h = h

open-free_by : (b : Bool) (x : ℕ) (ps : List (List ℕ)) → is_lf x ≡ b → IsSome ps → NoLf (last_part ps) → NoLf (last_part (cond b ([] ∷ ps) (onto_first x ps)))
open-free_by true x ps e s h = rw (last_part-cons [] ps s) h
open-free_by false x ps e s h = open-free_onto x ps e h

pub NoLf-unfinished_line : (xs : List ℕ) → NoLf (unfinished_line xs)
unfolding unfinished_line
NoLf-unfinished_line [] = All-nil (λ y. is_lf y ≡ false)
NoLf-unfinished_line (x ∷ xs) = open-free_by (is_lf x) x (slice_split is_lf xs) refl (cut-some xs) (NoLf-unfinished_line xs)
