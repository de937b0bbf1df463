-- A task whose argument is all that is left of its line.
use Rattle.std.proofs.Common.{◌≡◌, ◌≢◌, ℕ, Bool, true, false, List, [], ◌∷◌, ◌++◌, None, option_map, sym, ap, ◌∙◌, refl, subst, codes}
use Rattle.std.specs.List.{slice_split, join_with_byte}
use Rattle.std.specs.Str.{all_ascii_digits, bytes_eq}
use Rattle.std.proofs.lemmas.List.Splits.{slice_split_none, join_with_byte-slice_split}
use Rattle.std.proofs.lemmas.Slice.Eq.{bytes_eq-Decides}
use Rattle.market_texts.specs.Reading.{is_space, number}
use Rattle.market_texts.proofs.Decimals.{digits_no_space, own}
use Rattle.plan_jobs.specs.declared.task.Task.TheVariants.{Sum, Digits}
use Rattle.drive_plan.specs.Reading.{number_in, long_number, task_of}
use Rattle.drive_plan.specs.Tasks.{task_left}

-- ---- digits are one field

one_field : (field : List ℕ) → all_ascii_digits field ≡ true → slice_split is_space field ≡ field ∷ []
one_field field h = slice_split_none is_space field (digits_no_space field (own.to field h))

-- ---- what is no task as a whole is none as fields

none_left : (kind field : List ℕ) (fields : List (List ℕ)) → join_with_byte 32 fields ≡ field → None ≡ task_of kind field → None ≡ task_left (kind ∷ fields)
none_left kind field [] e h = refl
none_left kind field (f ∷ []) e h = subst (λ x. None ≡ task_of kind x) (sym e) h
none_left kind field (f ∷ other ∷ more) e h = refl

whole : (kind field : List ℕ) (b : Bool) → all_ascii_digits field ≡ b → (b ≡ false → None ≡ task_of kind field) → task_of kind field ≡ task_left (kind ∷ slice_split is_space field)
whole kind field true e h = rw (one_field field e) refl
whole kind field false e h = sym (h refl) ∙ none_left kind field (slice_split is_space field) (join_with_byte-slice_split 32 field) (h refl)

no_sum : (field : List ℕ) → all_ascii_digits field ≡ false → None ≡ task_of (codes "sum") field
unfolding number
no_sum field h = rw h refl

no_digits : (field : List ℕ) → all_ascii_digits field ≡ false → None ≡ task_of (codes "digits") field
unfolding long_number
no_digits field h = rw h refl

pub sum_left : (text field : List ℕ) → text ≡ codes "sum " ++ field → option_map (λ n. Sum n) (number_in 0 1000000 field) ≡ task_left (slice_split is_space text)
sum_left text field e =
    subst (λ t. option_map (λ n. Sum n) (number_in 0 1000000 field) ≡ task_left (slice_split is_space t)) (sym e) (
    whole (codes "sum") field (all_ascii_digits field) refl (no_sum field))

pub digits_left : (text field : List ℕ) → text ≡ codes "digits " ++ field → option_map (λ n. Digits n) (long_number field) ≡ task_left (slice_split is_space text)
digits_left text field e =
    subst (λ t. option_map (λ n. Digits n) (long_number field) ≡ task_left (slice_split is_space t)) (sym e) (
    whole (codes "digits") field (all_ascii_digits field) refl (no_digits field))

-- ---- no other word is a task's

not_kind : (word kind field text : List ℕ) (b : Bool) → bytes_eq kind word ≡ b → kind ++ 32 ∷ field ≡ text → ((rest : List ℕ) → text ≢ word ++ 32 ∷ rest) → b ≡ false
not_kind word kind field text true e t h =
    absurd (h field (sym t ∙ ap (λ k. k ++ 32 ∷ field) ((bytes_eq-Decides kind word).0 e)))
not_kind word kind field text false e t h = refl

no_task : (text : List ℕ) (fields : List (List ℕ)) → join_with_byte 32 fields ≡ text → ((rest : List ℕ) → text ≢ codes "sum " ++ rest) → ((rest : List ℕ) → text ≢ codes "digits " ++ rest) → None ≡ task_left fields
no_task text [] e s d = refl
no_task text (kind ∷ []) e s d = refl
no_task text (kind ∷ field ∷ []) e s d =
    rw (not_kind (codes "sum") kind field text (bytes_eq kind (codes "sum")) refl e s, not_kind (codes "digits") kind field text (bytes_eq kind (codes "digits")) refl e d) refl
no_task text (kind ∷ field ∷ other ∷ more) e s d = refl

pub other_word : (text : List ℕ) → ((rest : List ℕ) → text ≢ codes "sum " ++ rest) → ((rest : List ℕ) → text ≢ codes "digits " ++ rest) → None ≡ task_left (slice_split is_space text)
other_word text s d = no_task text (slice_split is_space text) (join_with_byte-slice_split 32 text) s d
