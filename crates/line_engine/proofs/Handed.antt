-- Of an unfinished line one byte more than its taker needs is enough.
use Rattle.std.proofs.Common.{◌≡◌, ℕ, ◌+◌, ◌<◌, ◌≤◌, ◌-◌, min, Bool, true, false, if◌then◌else◌, subst, List, [], ◌∷◌, ◌++◌, length, take, map, ◌⊎◌, inl, inr, length-append, length-take, refl, sym, ap, ◌∙◌, arith, append_assoc, append-nil}
use Rattle.std.proofs.lemmas.Bool.{cases_lt, lt-ltb}
use Rattle.std.proofs.lemmas.List.{take_all, take-take, take-append-le, take_min}
use Rattle.std.proofs.lemmas.List.Elements.{All-append, All-take}
use Rattle.std.proofs.Math.Nat.{min_comm}
use Rattle.std.proofs.Math.Seq.{take-append-add}
use Rattle.line_engine.specs.declared.form.LineForm.{LineForm}
use Rattle.line_engine.specs.declared.form.LineForm.TheVariants.{Whole, WithoutLf, TooLong}
use Rattle.line_engine.specs.Lines.{is_lf, Line, NoLf, ended_lines, unfinished_line, handed, whole_lines, last_line}
use Rattle.line_engine.proofs.Cut.{HasLf, first_lf, ended_lines-first, ended_lines-none, unfinished_line-first, unfinished_line-none}

module _ (longest : ℕ) where
  -- a line that is too long
  pub handed-long : (form : LineForm) (line : List ℕ) → longest < length line → handed longest form line ≡ record { bytes = take longest line; form = TooLong }
  handed-long form line h = rw (lt-ltb longest (length line) h) refl

  -- the first bytes of a line's front do for the line
  pub handed-cut : (form : LineForm) (c w : List ℕ) → handed longest form (take (longest + 1) c ++ w) ≡ handed longest form (c ++ w)
  handed-cut form c w = elim (cases_lt (longest + 1) (length c)) [
    | inl h ↦
        let a : longest < length (take (longest + 1) c ++ w) = omega (arith, length-append (take (longest + 1) c) w, length-take (longest + 1) c) in
        let b : longest < length (c ++ w) = omega (arith, length-append c w) in
        let k : longest ≤ length (take (longest + 1) c) = omega (arith, length-take (longest + 1) c) in
        let m : longest ≤ length c = omega arith in
        let n : longest ≤ longest + 1 = omega arith in
        let same : take longest (take (longest + 1) c ++ w) ≡ take longest (c ++ w) =
        take-append-le longest (take (longest + 1) c) w k ∙ (take-take longest (longest + 1) c n ∙ sym (take-append-le longest c w m)) in
        handed-long form (take (longest + 1) c ++ w) a
        ∙ (ap (λ bytes. let line : Line = record { bytes = bytes; form = TooLong } in line) same ∙ sym (handed-long form (c ++ w) b))
    | inr h ↦ ap (λ x. handed longest form (x ++ w)) (take_all (longest + 1) c h)
  ]

  pub handed-taken : (form : LineForm) (line : List ℕ) → handed longest form (take (longest + 1) line) ≡ handed longest form line
  handed-taken form line =
      ap (handed longest form) (sym (append-nil (take (longest + 1) line))) ∙ (handed-cut form line [] ∙ ap (handed longest form) (append-nil line))

  pub take-cut : (c w : List ℕ) → take (longest + 1) (take (longest + 1) c ++ w) ≡ take (longest + 1) (c ++ w)
  take-cut c w = elim (cases_lt (longest + 1) (length c)) [
    | inl h ↦
        let a : longest + 1 ≤ length (take (longest + 1) c) = omega (arith, length-take (longest + 1) c) in
        let b : longest + 1 ≤ length c = omega arith in
        let short : length (take (longest + 1) c) ≤ longest + 1 = omega (arith, length-take (longest + 1) c) in
        take-append-le (longest + 1) (take (longest + 1) c) w a ∙ (take_all (longest + 1) (take (longest + 1) c) short ∙ sym (take-append-le (longest + 1) c w b))
    | inr h ↦ ap (λ x. take (longest + 1) (x ++ w)) (take_all (longest + 1) c h)
  ]

  -- ---- so what is kept of an unfinished line does for it, whatever comes after it

  module _ (c z : List ℕ) (free : NoLf c) where
    cut-free : NoLf (take (longest + 1) c)
    cut-free = All-take (λ x. is_lf x ≡ false) (longest + 1) c free

    both : (x w : List ℕ) → NoLf x → NoLf w → NoLf (x ++ w)
    both x w h k = All-append (λ y. is_lf y ≡ false) x w h k

    at_lf : (x w rest : List ℕ) → NoLf x → NoLf w → z ≡ w ++ 10 ∷ rest → ended_lines (x ++ z) ≡ (x ++ w) ∷ ended_lines rest
    at_lf x w rest h k is = ap (λ y. ended_lines (x ++ y)) is ∙ (ap ended_lines (sym (append_assoc x w (10 ∷ rest))) ∙ ended_lines-first (x ++ w) rest (both x w h k))

    after_lf : (x w rest : List ℕ) → NoLf x → NoLf w → z ≡ w ++ 10 ∷ rest → unfinished_line (x ++ z) ≡ unfinished_line rest
    after_lf x w rest h k is = ap (λ y. unfinished_line (x ++ y)) is ∙ (ap unfinished_line (sym (append_assoc x w (10 ∷ rest))) ∙ unfinished_line-first (x ++ w) rest (both x w h k))

    whole_cut_by : HasLf z ⊎ NoLf z → whole_lines longest (take (longest + 1) c ++ z) ≡ whole_lines longest (c ++ z)
    whole_cut_by (inl (w, rest, k, is)) =
        ap (map (handed longest Whole)) (at_lf (take (longest + 1) c) w rest cut-free k is)
        ∙ (ap (λ line. line ∷ whole_lines longest rest) (handed-cut Whole c w) ∙ sym (ap (map (handed longest Whole)) (at_lf c w rest free k is)))
    whole_cut_by (inr k) =
        ap (map (handed longest Whole)) (ended_lines-none (take (longest + 1) c ++ z) (both (take (longest + 1) c) z cut-free k) ∙ sym (ended_lines-none (c ++ z) (both c z free k)))

    unfinished_cut_by : HasLf z ⊎ NoLf z → take (longest + 1) (unfinished_line (take (longest + 1) c ++ z)) ≡ take (longest + 1) (unfinished_line (c ++ z))
    unfinished_cut_by (inl (w, rest, k, is)) =
        ap (take (longest + 1)) (after_lf (take (longest + 1) c) w rest cut-free k is ∙ sym (after_lf c w rest free k is))
    unfinished_cut_by (inr k) =
        ap (take (longest + 1)) (unfinished_line-none (take (longest + 1) c ++ z) (both (take (longest + 1) c) z cut-free k))
        ∙ (take-cut c z ∙ sym (ap (take (longest + 1)) (unfinished_line-none (c ++ z) (both c z free k))))

    pub whole_cut : whole_lines longest (take (longest + 1) c ++ z) ≡ whole_lines longest (c ++ z)
    whole_cut = whole_cut_by (first_lf z)

    pub unfinished_cut : take (longest + 1) (unfinished_line (take (longest + 1) c ++ z)) ≡ take (longest + 1) (unfinished_line (c ++ z))
    unfinished_cut = unfinished_cut_by (first_lf z)

  pub last_line-some : (line : List ℕ) → (length line ≡ 0 → ⊥) → last_line longest line ≡ handed longest WithoutLf line ∷ []
  last_line-some [] some = absurd (some refl)
  last_line-some (byte ∷ line) some = refl

  pub last_line-taken : (line : List ℕ) → last_line longest (take (longest + 1) line) ≡ last_line longest line
  last_line-taken [] = let none : 0 ≤ longest + 1 = omega arith in ap (last_line longest) (take_all (longest + 1) [] none)
  last_line-taken (byte ∷ line) =
      let some : length (take (longest + 1) (byte ∷ line)) ≡ 0 → ⊥ = λ e. omega (arith, e, length-take (longest + 1) (byte ∷ line)) in
      last_line-some (take (longest + 1) (byte ∷ line)) some ∙ ap (λ l. l ∷ []) (handed-taken WithoutLf (byte ∷ line))

-- what keeps a line's first bytes
pub kept : (k : ℕ) (xs ys : List ℕ) → length xs ≤ k → xs ++ take (min (length ys) (k - length xs)) ys ≡ take k (xs ++ ys)
kept k xs ys h =
    let room : k ≡ length xs + (k - length xs) = omega arith in
    ap (λ n. xs ++ take n ys) (min_comm (length ys) (k - length xs))
    ∙ (ap (λ zs. xs ++ zs) (take_min (k - length xs) ys)
    ∙ (sym (take-append-add xs ys (k - length xs)) ∙ ap (λ n. take n (xs ++ ys)) (sym room)))

-- it has no LF, and no byte too many
pub no_lf-kept : (full : Bool) (xs ys zs : List ℕ) (n : ℕ) → NoLf xs → NoLf ys → zs ≡ (if full then xs ++ take n ys else xs) → NoLf zs
no_lf-kept true xs ys zs n h k e = subst NoLf (sym e) (All-append (λ x. is_lf x ≡ false) xs (take n ys) h (All-take (λ x. is_lf x ≡ false) n ys k))
no_lf-kept false xs ys zs n h k e = subst NoLf (sym e) h

pub short-kept : (full : Bool) (n n' room most : ℕ) (ys : List ℕ) → n' ≡ (if full then n + length (take room ys) else n) → n ≤ most → room ≤ most - n → n' ≤ most
short-kept true n n' room most ys e h k = omega (arith, e, length-take room ys)
short-kept false n n' room most ys e h k = omega (arith, e)
