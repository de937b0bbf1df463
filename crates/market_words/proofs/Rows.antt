-- The rows of a number's option: what changes them, and that their word stays in its range.
use Rattle.std.proofs.Common.{◌≡◌, ◌∙◌, ◌+◌, ◌++◌, min, ◌&&◌, ◌||◌, ◌⊎◌, cond, ℕ, Bool, true, false, refl, sym, ap, subst, List, [], ◌∷◌, length, Option, Some, None, inl, inr, true≢false, pos, bytes_eq, find, fold, slice_get}
use Rattle.std.specs.Option.{option_map_or}
use Rattle.std.proofs.lemmas.Slice.Eq.{bytes_eq-Decides}
use Rattle.clap.specs.Walk.{Row, Rule, Text, action_of, at_row, count_of, counted, default_rows, has_row, more_values, new_count, reading_by, used, used_as, values_or_missing, with_count, with_default, with_values, without}
use Rattle.clap.specs.Faults.{repeat_fault, use_fault}
use Rattle.clap.specs.Kinds.{Kinds, or_else, range_kinds, value_kinds}
use Rattle.clap.specs.Simple.{filled}
use Rattle.clap.specs.ValueTests.{is_signed_in}
use Rattle.clap.specs.declared.builder.value_parser.ValueParser.TheVariants.{Signed}
use Rattle.clap.specs.declared.error.kind.ErrorKind.{ErrorKind}
use Rattle.clap.specs.declared.builder.value_parser.Reading.{Reading}
use Rattle.clap.specs.declared.builder.value_parser.Reading.TheVariants.{WithoutMinus}
use Rattle.clap.specs.declared.builder.action.ArgAction.{ArgAction}
use Rattle.clap.specs.declared.builder.action.ArgAction.TheVariants.{Set, Append, SetTrue, SetFalse, Count, Help, HelpShort, HelpLong, Version}
use Rattle.clap.specs.declared.parser.matches.ValueSource.{ValueSource}
use Rattle.clap.specs.declared.parser.matches.ValueSource.TheVariants.{DefaultValue, CommandLine}
use Rattle.market_words.specs.Words.{number_rule}

-- ---- tests and kinds

-- no kind comes of either part
pub or_else_nil : (a b : Kinds) → or_else a b ≡ [] → (a ≡ []) × (b ≡ [])
or_else_nil [] b e = (refl, e)
or_else_nil (k ∷ ks) b e = absurd (cc)

or_false : (a b : Bool) → (a || b) ≡ false → (a ≡ false) × (b ≡ false)
or_false true b e = absurd (true≢false e)
or_false false b e = (refl, e)

-- a test that would give a kind is false
pub no_kind : (b : Bool) (k : ErrorKind) (ks rest : Kinds) → ◌≡◌ {A = Kinds} (cond b (k ∷ ks) rest) [] → (b ≡ false) × (rest ≡ [])
no_kind true k ks rest e = absurd (cc)
no_kind false k ks rest e = (refl, e)

no_refusal : (b : Bool) (k : ErrorKind) → ◌≡◌ {A = Kinds} (cond b [] (k ∷ [])) [] → b ≡ true
no_refusal true k e = refl
no_refusal false k e = absurd (cc)

pub and_true : (b : Bool) → (b && true) ≡ false → b ≡ false
and_true true e = e
and_true false e = refl

-- ---- rows of another name

abbrev pub is_at : Text → Row → Bool
is_at name r = bytes_eq r.id name

other_name : (x y z : Text) → bytes_eq x y ≡ true → bytes_eq y z ≡ false → bytes_eq x z ≡ false
other_name x y z same other = rw ((bytes_eq-Decides x y).0 same) other

pub same_name : (x : Text) → bytes_eq x x ≡ true
same_name x = (bytes_eq-Decides x x).1 refl

-- a change at one name leaves the row of another
at_row_other : (id name : Text) (change : Row → List Row) (missing rows : List Row) → bytes_eq id name ≡ false
    → ((r : Row) (rest : List Row) → bytes_eq r.id name ≡ false → find (is_at name) (change r ++ rest) ≡ find (is_at name) rest)
    → find (is_at name) missing ≡ None → find (is_at name) (at_row id change missing rows) ≡ find (is_at name) rows
at_row_other id name change missing [] other skips none = none
at_row_other id name change missing (r ∷ rs) other skips none = go (at_row_other id name change missing rs other skips none) (bytes_eq r.id id) refl
  where
    go : find (is_at name) (at_row id change missing rs) ≡ find (is_at name) rs → (b : Bool) → bytes_eq r.id id ≡ b
        → find (is_at name) (cond b (change r ++ rs) (r ∷ at_row id change missing rs)) ≡ find (is_at name) (r ∷ rs)
    go rest true e =
        let miss : bytes_eq r.id name ≡ false = other_name r.id id name e other in
        skips r rs miss ∙ sym (ap (λ (b : Bool). cond b (Some r) (find (is_at name) rs)) miss)
    go rest false e = ap (λ (o : Option Row). cond (bytes_eq r.id name) (Some r) o) rest

without_other : (id name : Text) (rows : List Row) → bytes_eq id name ≡ false → find (is_at name) (without id rows) ≡ find (is_at name) rows
without_other id name rows other = at_row_other id name (λ _. []) [] rows other (λ r rest miss. refl) refl

with_values_other : (id name : Text) (how : Reading) (s : ValueSource) (values : List Text) (rows : List Row) → bytes_eq id name ≡ false
    → find (is_at name) (with_values id how s values rows) ≡ find (is_at name) rows
with_values_other id name how s values rows other =
    at_row_other id name (more_values s values) _ rows other (λ r rest miss. rw miss refl) (rw other refl)

with_count_other : (id name : Text) (how : Reading) (s : ValueSource) (n : ℕ) (rows : List Row) → bytes_eq id name ≡ false
    → find (is_at name) (with_count id how s n rows) ≡ find (is_at name) rows
with_count_other id name how s n rows other = at_row_other id name (new_count s n) _ rows other (λ r rest miss. rw miss refl) (rw other refl)

counted_other : (id name : Text) (how : Reading) (values : List Text) (rows : List Row) → bytes_eq id name ≡ false
    → find (is_at name) (counted id how values rows) ≡ find (is_at name) rows
counted_other id name how [] rows other = with_count_other id name how CommandLine (min (count_of id rows + 1) 255) (without id rows) other ∙ without_other id name rows other
counted_other id name how (v ∷ vs) rows other = with_values_other id name how CommandLine (v ∷ vs) (without id rows) other ∙ without_other id name rows other

used_as_other : (k : ArgAction) (id name : Text) (how : Reading) (values : List Text) (rows : List Row) → bytes_eq id name ≡ false
    → find (is_at name) (used_as k id how values rows) ≡ find (is_at name) rows
used_as_other Set id name how values rows other = with_values_other id name how CommandLine values (without id rows) other ∙ without_other id name rows other
used_as_other SetTrue id name how values rows other = with_values_other id name how CommandLine values (without id rows) other ∙ without_other id name rows other
used_as_other SetFalse id name how values rows other = with_values_other id name how CommandLine values (without id rows) other ∙ without_other id name rows other
used_as_other Append id name how values rows other = with_values_other id name how CommandLine values rows other
used_as_other Count id name how values rows other = counted_other id name how values rows other
used_as_other Help id name how values rows other = refl
used_as_other HelpShort id name how values rows other = refl
used_as_other HelpLong id name how values rows other = refl
used_as_other Version id name how values rows other = refl

default_rows_other : (id name : Text) (how : Reading) (values : List Text) (rows : List Row) → bytes_eq id name ≡ false
    → find (is_at name) (default_rows id how values rows) ≡ find (is_at name) rows
default_rows_other id name how [] rows other = refl
default_rows_other id name how (v ∷ vs) rows other = with_values_other id name how DefaultValue (v ∷ vs) rows other

with_default_other : (b : Rule) (name : Text) (rows : List Row) → bytes_eq b.id name ≡ false → find (is_at name) (with_default rows b) ≡ find (is_at name) rows
with_default_other b name rows other = go (has_row b.id rows)
  where
    go : (h : Bool) → find (is_at name) (cond h rows (default_rows b.id (reading_by b) b.defaults rows)) ≡ find (is_at name) rows
    go true = refl
    go false = default_rows_other b.id name (reading_by b) b.defaults rows other

-- ---- rows of the same name

find_new : (name : Text) (change : Row → List Row) (new : Row) (rows : List Row) → bytes_eq new.id name ≡ true → has_row name rows ≡ false
    → find (is_at name) (at_row name change (new ∷ []) rows) ≡ Some new
find_new name change new [] here none = rw here refl
find_new name change new (r ∷ rs) here none =
    let parts = or_false (bytes_eq r.id name) _ none in
    let miss : bytes_eq r.id name ≡ false = parts.0 in
    rw (miss, miss) (find_new name change new rs here parts.1)

without_none : (name : Text) (rows : List Row) → has_row name rows ≡ false → without name rows ≡ rows
without_none name [] none = refl
without_none name (r ∷ rs) none =
    let parts = or_false (bytes_eq r.id name) _ none in
    let miss : bytes_eq r.id name ≡ false = parts.0 in
    rw miss (ap (λ (xs : List Row). r ∷ xs) (without_none name rs parts.1))

found_row : (name : Text) (rows : List Row) → has_row name rows ≡ true → (r : Row) × (find (is_at name) rows ≡ Some r)
found_row name [] h = absurd (true≢false (sym h))
found_row name (r ∷ rs) h = go (found_row name rs) (bytes_eq r.id name) h
  where
    go : (has_row name rs ≡ true → (x : Row) × (find (is_at name) rs ≡ Some x)) → (b : Bool) → (b || has_row name rs) ≡ true
        → (x : Row) × (cond b (Some r) (find (is_at name) rs) ≡ Some x)
    go rest true e = (r, refl)
    go rest false e = rest e

-- ---- the option's word

-- the row's first word is a number from 1 to high
abbrev pub row_fits : ℕ → Row → Bool
row_fits high r = option_map_or (is_signed_in (pos 1) (pos high)) (slice_get r.values 0) false

-- the option's row, where there is one, has such a word
abbrev pub Fits : Text → ℕ → List Row → Type 0
Fits name high rows = option_map_or (row_fits high) (find (is_at name) rows) true ≡ true

-- there is such a row
abbrev pub Holds : Text → ℕ → List Row → Type 0
Holds name high rows = option_map_or (row_fits high) (find (is_at name) rows) false ≡ true

abbrev pub built_rule : Text → Text → ℕ → Rule
built_rule name default high = filled (number_rule name default high)

-- the rule of the option's name is the option's
abbrev pub Sees : Text → Text → ℕ → Rule → Type 0
Sees name default high b = bytes_eq b.id name ≡ true → b ≡ built_rule name default high

-- so with each of the rules
abbrev pub Only : Text → Text → ℕ → List Rule → Type 0
Only name default high [] = Unit {0}
Only name default high (b ∷ bs) = Sees name default high b × Only name default high bs

-- one of the rules is the option's
abbrev pub HasRule : Text → Text → ℕ → List Rule → Type 0
HasRule name default high [] = ⊥
HasRule name default high (b ∷ bs) = (b ≡ built_rule name default high) ⊎ HasRule name default high bs

-- the row that a first use makes
abbrev new_row : Text → List Text → ValueSource → Row
new_row name values source = record { id = name; values = values; count = None; source = Some source; reading = WithoutMinus }

module _ (name default : Text) (high : ℕ) where
  pub found_sees : (p : Rule → Bool) (c : List Rule) (b : Rule) → Only name default high c → find p c ≡ Some b → Sees name default high b
  found_sees p [] b only e = absurd (cc)
  found_sees p (x ∷ xs) b only e = go (found_sees p xs b only.1) (p x) e
    where
      go : (find p xs ≡ Some b → Sees name default high b) → (t : Bool) → cond t (Some x) (find p xs) ≡ Some b → Sees name default high b
      go rest true same =
          let is : x ≡ b = cc in
          subst (Sees name default high) is only.0
      go rest false same = rest same

  own_used : (values : List Text) (rows : List Row) → use_fault false (built_rule name default high) values rows ≡ []
      → Fits name high (used (built_rule name default high) values rows)
  own_used [] rows e = absurd (cc)
  own_used (v ∷ vs) rows e =
      let parts = or_else_nil (range_kinds 1 1 (length (v ∷ vs))) _ e in
      let set = or_else_nil (repeat_fault false name rows) _ parts.1 in
      let none : has_row name rows ≡ false = and_true _ (no_kind _ _ [] [] set.0).0 in
      let bare : has_row name (without name rows) ≡ false = subst (λ (xs : List Row). has_row name xs ≡ false) (sym (without_none name rows none)) none in
      let ok : is_signed_in (pos 1) (pos high) v ≡ true = no_refusal _ _ (or_else_nil (value_kinds false (Signed (pos 1) (pos high)) v) _ set.1).0 in
      ap (λ (o : Option Row). option_map_or (row_fits high) o true) (find_new name (more_values CommandLine (v ∷ vs)) (new_row name (v ∷ vs) CommandLine) (without name rows) (same_name name) bare) ∙ ok

  -- a use of a rule that does not fail
  pub used_fits : (b : Rule) (values : List Text) (rows : List Row) → Sees name default high b → use_fault false b values rows ≡ []
      → Fits name high rows → Fits name high (used b values rows)
  used_fits b values rows sees e ok = go (bytes_eq b.id name) refl
    where
      go : (t : Bool) → bytes_eq b.id name ≡ t → Fits name high (used b values rows)
      go true same =
          let is = sees same in
          subst (λ (r : Rule). Fits name high (used r values rows)) (sym is)
          (own_used values rows (subst (λ (r : Rule). use_fault false r values rows ≡ []) is e))
      go false other =
          ap (λ (o : Option Row). option_map_or (row_fits high) o true) (used_as_other (action_of b) b.id name (reading_by b) (values_or_missing b values) rows other) ∙ ok

  holds_fits : (rows : List Row) → Holds name high rows → Fits name high rows
  holds_fits rows h = go (find (is_at name) rows) h
    where
      go : (o : Option Row) → option_map_or (row_fits high) o false ≡ true → option_map_or (row_fits high) o true ≡ true
      go None e = refl
      go (Some r) e = e

  own_default : (rows : List Row) → is_signed_in (pos 1) (pos high) default ≡ true → Fits name high rows
      → Holds name high (with_default rows (built_rule name default high))
  own_default rows passes ok = go (has_row name rows) refl
    where
      there : (o : Option Row) (r : Row) → o ≡ Some r → option_map_or (row_fits high) o true ≡ true → option_map_or (row_fits high) o false ≡ true
      there None r is e = absurd (cc)
      there (Some x) r is e = e

      go : (t : Bool) → has_row name rows ≡ t
          → Holds name high (cond t rows (default_rows name (reading_by (built_rule name default high)) (default ∷ []) rows))
      go true has =
          let row = found_row name rows has in
          there _ row.0 row.1 ok
      go false none =
          ap (λ (o : Option Row). option_map_or (row_fits high) o false) (find_new name (more_values DefaultValue (default ∷ [])) (new_row name (default ∷ []) DefaultValue) rows (same_name name) none) ∙ passes

  default_fits : (b : Rule) (rows : List Row) → is_signed_in (pos 1) (pos high) default ≡ true → Sees name default high b → Fits name high rows
      → Fits name high (with_default rows b)
  default_fits b rows passes sees ok = go (bytes_eq b.id name) refl
    where
      go : (t : Bool) → bytes_eq b.id name ≡ t → Fits name high (with_default rows b)
      go true same =
          subst (λ (r : Rule). Fits name high (with_default rows r)) (sym (sees same)) (holds_fits _ (own_default rows passes ok))
      go false other = ap (λ (o : Option Row). option_map_or (row_fits high) o true) (with_default_other b name rows other) ∙ ok

  default_holds : (b : Rule) (rows : List Row) → is_signed_in (pos 1) (pos high) default ≡ true → Sees name default high b → Holds name high rows
      → Holds name high (with_default rows b)
  default_holds b rows passes sees ok = go (bytes_eq b.id name) refl
    where
      go : (t : Bool) → bytes_eq b.id name ≡ t → Holds name high (with_default rows b)
      go true same =
          subst (λ (r : Rule). Holds name high (with_default rows r)) (sym (sees same)) (own_default rows passes (holds_fits rows ok))
      go false other = ap (λ (o : Option Row). option_map_or (row_fits high) o false) (with_default_other b name rows other) ∙ ok

  fold_holds : (c : List Rule) (rows : List Row) → is_signed_in (pos 1) (pos high) default ≡ true → Only name default high c → Holds name high rows
      → Holds name high (fold with_default rows c)
  fold_holds [] rows passes only ok = ok
  fold_holds (b ∷ bs) rows passes only ok = fold_holds bs (with_default rows b) passes only.1 (default_holds b rows passes only.0 ok)

  -- the defaults give the option its row, where it has none
  pub defaults_hold : (c : List Rule) (rows : List Row) → is_signed_in (pos 1) (pos high) default ≡ true → Only name default high c
      → HasRule name default high c → Fits name high rows → Holds name high (fold with_default rows c)
  defaults_hold [] rows passes only has ok = absurd has
  defaults_hold (b ∷ bs) rows passes only (inl is) ok =
      fold_holds bs (with_default rows b) passes only.1
      (subst (λ (r : Rule). Holds name high (with_default rows r)) (sym is) (own_default rows passes ok))
  defaults_hold (b ∷ bs) rows passes only (inr has) ok =
      defaults_hold bs (with_default rows b) passes only.1 has (default_fits b rows passes only.0 ok)
