-- Levels that are given workers one after another, in arrays with a place for each of eight.
use Rattle.std.specs.Prelude.{slice_index}
use Rattle.std.proofs.Common.{◌≡◌, ℕ, zero, suc, ◌+◌, ◌-◌, ◌*◌, ◌<◌, ◌≤◌, false, cond, ltb, min, List, [], ◌∷◌, ◌++◌, length, get_or, set, take, drop, refl, sym, ap, ◌∙◌, arith, inl, inr, add-one, append_assoc, drop-cons}
use Rattle.std.proofs.lemmas.Bool.{cases_eq, cases_lt, le-ltb}
use Rattle.std.proofs.lemmas.List.{get_or-set_same, get_or-set_other}
use Rattle.std.proofs.Math.ListN.{length-set}
use Rattle.std.proofs.Math.Seq.{take-suc-set}
use Rattle.market_types.specs.State.{State}
use Rattle.market_types.specs.Allotment.{assigned_to, demand}
use Rattle.journal_chart.specs.Shares.{AreFew, AreNoneAbove, all_asked, apart, asked_at}
use Rattle.journal_chart.proofs.Sharing.{all-asked, asked-demand}

-- of levels whose demands stand in one list, those before a place are given in the other what they are due, and the rest nothing yet
pub record Assigning (s : State) (workers : ℕ) (given asked : List ℕ) (left place : ℕ) : Type 0 where
  pub size_given : length given ≡ 8
  pub size_asked : length asked ≡ 8
  pub done : (j : ℕ) → j < place → slice_index asked j ≡ asked_at s j
  pub unasked : (j : ℕ) → place ≤ j → slice_index asked j ≡ 0
  pub ungiven : (j : ℕ) → place ≤ j → slice_index given j ≡ 0
  pub within : (j : ℕ) → slice_index given j ≤ slice_index asked j
  pub small : (j : ℕ) → slice_index asked j ≤ 1024 * 65535
  pub due : take place given ++ assigned_to (drop place (all_asked s)) left ≡ assigned_to (all_asked s) workers

-- of levels whose demands stand in one list, those before a place are given in the other what they are due, and the rest is as it was
pub record Renewing (s : State) (workers : ℕ) (was_given was_asked given asked : List ℕ) (left place : ℕ) : Type 0 where
  pub size_given : length given ≡ 8
  pub size_asked : length asked ≡ 8
  pub done : (j : ℕ) → j < place → slice_index asked j ≡ asked_at s j
  pub rest_given : (j : ℕ) → place ≤ j → slice_index given j ≡ slice_index was_given j
  pub rest_asked : (j : ℕ) → place ≤ j → slice_index asked j ≡ slice_index was_asked j
  pub within : (j : ℕ) → slice_index given j ≤ slice_index asked j
  pub small : (j : ℕ) → slice_index asked j ≤ 1024 * 65535
  pub due : take place given ++ assigned_to (drop place (all_asked s)) left ≡ assigned_to (all_asked s) workers

pub renewing-none : (s : State) (workers : ℕ) (given asked : List ℕ) → length given ≡ 8 → length asked ≡ 8 → AreFew given asked → Renewing s workers given asked given asked workers 0
renewing-none s workers given asked size_given size_asked few =
    record {
      size_given = size_given;
      size_asked = size_asked;
      done = λ j less. absurd (omega (arith, less));
      rest_given = λ j _. refl;
      rest_asked = λ j _. refl;
      within = few.within;
      small = few.small;
      due = refl;
    }

-- ---- one level more

due-more : (given ds : List ℕ) (i left k : ℕ) → i < length given → i < length ds → k ≡ min (get_or ds i 0) left
    → take (i + 1) (set given i k) ++ assigned_to (drop (i + 1) ds) (left - k) ≡ take i given ++ assigned_to (drop i ds) left
due-more given ds i left k p q e = rw (add-one, take-suc-set given i k p, drop-cons ds i 0 q, append_assoc, e) refl

pub renewing-more : (s : State) (workers : ℕ) (was_given was_asked given asked : List ℕ) (left place wanted share : ℕ) → Renewing s workers was_given was_asked given asked left place → place < 8 → place < s.levels
    → wanted ≡ demand s (1 + place) → wanted ≤ 1024 * 65535 → share ≡ min wanted left
    → Renewing s workers was_given was_asked (set given place share) (set asked place wanted) (left - share) (place + 1)
renewing-more s workers was_given was_asked given asked left place wanted share h few inside wanted_is small share_is =
    let given_in : place < length given = omega (arith, few, h.size_given) in
    let asked_in : place < length asked = omega (arith, few, h.size_asked) in
    let here : slice_index (set asked place wanted) place ≡ wanted = get_or-set_same asked place wanted 0 asked_in in
    let given_here : slice_index (set given place share) place ≡ share = get_or-set_same given place share 0 given_in in
    let at : wanted ≡ asked_at s place = wanted_is ∙ sym (asked-demand s place inside) in
    record {
      size_given = length-set given place share ∙ h.size_given;
      size_asked = length-set asked place wanted ∙ h.size_asked;
      done = λ j less. elim (cases_eq j place) [
        | inl same ↦ ap (slice_index (set asked place wanted)) same ∙ here ∙ at ∙ ap (asked_at s) (sym same)
        | inr other ↦ get_or-set_other asked place j wanted 0 other ∙ h.done j (omega (arith, less, other))
      ];
      rest_given = λ j past. get_or-set_other given place j share 0 (λ e. omega (arith, e, past)) ∙ h.rest_given j (omega (arith, past));
      rest_asked = λ j past. get_or-set_other asked place j wanted 0 (λ e. omega (arith, e, past)) ∙ h.rest_asked j (omega (arith, past));
      within = λ j. elim (cases_eq j place) [
        | inl same ↦
            let g : slice_index (set given place share) j ≡ share = ap (slice_index (set given place share)) same ∙ given_here in
            let a : slice_index (set asked place wanted) j ≡ wanted = ap (slice_index (set asked place wanted)) same ∙ here in
            omega (arith, g, a, share_is)
        | inr other ↦ omega (arith, get_or-set_other asked place j wanted 0 other, get_or-set_other given place j share 0 other, h.within j)
      ];
      small = λ j. elim (cases_eq j place) [
        | inl same ↦
            let a : slice_index (set asked place wanted) j ≡ wanted = ap (slice_index (set asked place wanted)) same ∙ here in
            omega (arith, a, small)
        | inr other ↦ omega (arith, get_or-set_other asked place j wanted 0 other, h.small j)
      ];
      due = due-more given (all_asked s) place left share given_in few (share_is ∙ ap (λ n. min n left) (at ∙ sym (all-asked s place few))) ∙ h.due;
    }

-- ---- how much what levels ask for differs

-- what is put behind so many levels does not count among them
apart-set : (n place v : ℕ) (xs ys : List ℕ) → n ≤ place → apart n xs (set ys place v) ≡ apart n xs ys
apart-set zero place v xs ys low = refl
apart-set (suc n) place v xs ys low =
    let here : slice_index (set ys place v) n ≡ slice_index ys n = get_or-set_other ys place n v 0 (λ e. omega (arith, e, low)) in
    let before = apart-set n place v xs ys (omega (arith, low)) in
    λ i. before i + (slice_index xs n - here i + (here i - slice_index xs n))

-- one level more
pub apart-more : (place wanted moved more : ℕ) (xs ys : List ℕ) → place < length ys → slice_index ys place ≡ slice_index xs place → moved ≡ apart place xs ys
    → more ≡ slice_index ys place - wanted + (wanted - slice_index ys place) → moved + more ≡ apart (place + 1) xs (set ys place wanted)
apart-more place wanted moved more xs ys inside was is differs =
    let next : suc place ≡ place + 1 = omega arith in
    let here : slice_index (set ys place wanted) place ≡ wanted = get_or-set_same ys place wanted 0 inside in
    let before : apart place xs (set ys place wanted) ≡ apart place xs ys = apart-set place place wanted xs ys (omega arith) in
    let sum : moved + more ≡ apart place xs (set ys place wanted) + (slice_index xs place - wanted + (wanted - slice_index xs place)) =
    (λ i. (is ∙ sym before) i + (differs ∙ (λ j. was j - wanted + (wanted - was j))) i) in
    sum
    ∙ (λ i. apart place xs (set ys place wanted) + (slice_index xs place - sym here i + (sym here i - slice_index xs place)))
    ∙ ap (λ n. apart n xs (set ys place wanted)) next

-- by what levels ask for now, where that is so for each of them
pub apart-same : (n : ℕ) (xs ys zs : List ℕ) → ((j : ℕ) → j < n → slice_index ys j ≡ slice_index zs j) → apart n xs ys ≡ apart n xs zs
apart-same zero xs ys zs same = refl
apart-same (suc n) xs ys zs same =
    let here = same n (omega arith) in
    let before = apart-same n xs ys zs (λ j less. same j (omega (arith, less))) in
    λ i. before i + (slice_index xs n - here i + (here i - slice_index xs n))

-- ---- what stood above the levels

-- from the levels on up to a place a list has nothing, and else what it had
pub record Cleared (levels : ℕ) (xs ys : List ℕ) (place : ℕ) : Type 0 where
  pub size : length ys ≡ length xs
  pub low : (j : ℕ) → j < levels → slice_index ys j ≡ slice_index xs j
  pub none : (j : ℕ) → levels ≤ j → j < place → slice_index ys j ≡ 0
  pub rest : (j : ℕ) → place ≤ j → slice_index ys j ≡ slice_index xs j

pub cleared-none : (levels : ℕ) (xs : List ℕ) → Cleared levels xs xs levels
cleared-none levels xs = record { size = refl; low = λ j _. refl; none = λ j past less. absurd (omega (arith, past, less)); rest = λ j _. refl }

pub cleared-more : (levels : ℕ) (xs ys : List ℕ) (place : ℕ) → Cleared levels xs ys place → levels ≤ place → place < length ys → Cleared levels xs (set ys place 0) (place + 1)
cleared-more levels xs ys place h past inside =
    record {
      size = length-set ys place 0 ∙ h.size;
      low = λ j less. get_or-set_other ys place j 0 0 (λ e. omega (arith, e, less, past)) ∙ h.low j less;
      none = λ j above less. elim (cases_eq j place) [
        | inl same ↦ ap (slice_index (set ys place 0)) same ∙ get_or-set_same ys place 0 0 inside
        | inr other ↦ get_or-set_other ys place j 0 0 other ∙ h.none j above (omega (arith, less, other))
      ];
      rest = λ j above. get_or-set_other ys place j 0 0 (λ e. omega (arith, e, above)) ∙ h.rest j (omega (arith, above));
    }

take-same : (xs ys : List ℕ) (i : ℕ) → length ys ≡ length xs → ((j : ℕ) → j < i → slice_index ys j ≡ slice_index xs j) → take i ys ≡ take i xs
take-same xs ys zero size same = refl
take-same [] [] (suc i) size same = refl
take-same [] (y ∷ ys) (suc i) size same = absurd (omega (arith, size))
take-same (x ∷ xs) [] (suc i) size same = absurd (omega (arith, size))
take-same (x ∷ xs) (y ∷ ys) (suc i) size same =
    let first : y ≡ x = same 0 (omega arith) in
    let rest = take-same xs ys i (omega (arith, size)) (λ j less. same (suc j) (omega (arith, less))) in
    λ k. first k ∷ rest k

-- once all levels are renewed, and nothing is left of others
pub assigning-all : (s : State) (workers old : ℕ) (was_given was_asked given asked given' asked' : List ℕ) (left place : ℕ) → Renewing s workers was_given was_asked given asked left s.levels
    → AreNoneAbove old was_given was_asked → Cleared s.levels given given' place → Cleared s.levels asked asked' place → old ≤ place → Assigning s workers given' asked' left s.levels
assigning-all s workers old was_given was_asked given asked given' asked' left place h above cleared_given cleared_asked past =
    let unasked : (j : ℕ) → s.levels ≤ j → slice_index asked' j ≡ 0 =
    λ j high. elim (cases_lt j place) [
      | inl less ↦ cleared_asked.none j high less
      | inr rest ↦ cleared_asked.rest j rest ∙ h.rest_asked j high ∙ above.none_asked j (omega (arith, past, rest))
    ] in
    let ungiven : (j : ℕ) → s.levels ≤ j → slice_index given' j ≡ 0 =
    λ j high. elim (cases_lt j place) [
      | inl less ↦ cleared_given.none j high less
      | inr rest ↦ cleared_given.rest j rest ∙ h.rest_given j high ∙ above.none_given j (omega (arith, past, rest))
    ] in
    record {
      size_given = cleared_given.size ∙ h.size_given;
      size_asked = cleared_asked.size ∙ h.size_asked;
      done = λ j less. cleared_asked.low j less ∙ h.done j less;
      unasked = unasked;
      ungiven = ungiven;
      within = λ j. elim (cases_lt j s.levels) [
        | inl less ↦ omega (arith, cleared_given.low j less, cleared_asked.low j less, h.within j)
        | inr high ↦ omega (arith, ungiven j high)
      ];
      small = λ j. elim (cases_lt j s.levels) [
        | inl less ↦ omega (arith, cleared_asked.low j less, h.small j)
        | inr high ↦ omega (arith, unasked j high)
      ];
      due = ap (λ xs. xs ++ assigned_to (drop s.levels (all_asked s)) left) (take-same given given' s.levels cleared_given.size cleared_given.low) ∙ h.due;
    }

-- ---- all levels

listed-same : (xs ys : List ℕ) → length xs ≡ length ys → ((j : ℕ) → j < length ys → slice_index xs j ≡ slice_index ys j) → xs ≡ ys
listed-same [] [] size same = refl
listed-same [] (y ∷ ys) size same = absurd (omega (arith, size))
listed-same (x ∷ xs) [] size same = absurd (omega (arith, size))
listed-same (x ∷ xs) (y ∷ ys) size same =
    let first : x ≡ y = same 0 (omega arith) in
    let rest = listed-same xs ys (omega (arith, size)) (λ j less. same (suc j) (omega (arith, less))) in
    λ i. first i ∷ rest i

none-given : (gs ds : List ℕ) (left : ℕ) → length gs ≡ length ds → ((j : ℕ) → slice_index gs j ≡ 0) → ((j : ℕ) → slice_index ds j ≡ 0) → gs ≡ assigned_to ds left
none-given [] [] left size g d = refl
none-given [] (x ∷ ds) left size g d = absurd (omega (arith, size))
none-given (x ∷ gs) [] left size g d = absurd (omega (arith, size))
none-given (x ∷ gs) (y ∷ ds) left size g d =
    let nobody : x ≡ 0 = g 0 in
    let none : y ≡ 0 = d 0 in
    let first : x ≡ min y left = omega (arith, nobody, none) in
    let rest = none-given gs ds (left - min y left) (omega (arith, size)) (λ j. g (suc j)) (λ j. d (suc j)) in
    λ i. first i ∷ rest i

-- where no more is asked for none is given
given-past : (gs ds : List ℕ) (i left : ℕ) → length gs ≡ length ds → ((j : ℕ) → i ≤ j → slice_index gs j ≡ 0) → ((j : ℕ) → i ≤ j → slice_index ds j ≡ 0)
    → gs ≡ take i gs ++ assigned_to (drop i ds) left
given-past gs ds zero left size g d = none-given gs ds left size (λ j. g j (omega arith)) (λ j. d j (omega arith))
given-past [] [] (suc i) left size g d = refl
given-past [] (x ∷ ds) (suc i) left size g d = absurd (omega (arith, size))
given-past (x ∷ gs) [] (suc i) left size g d = absurd (omega (arith, size))
given-past (x ∷ gs) (y ∷ ds) (suc i) left size g d =
    ap (λ xs. x ∷ xs) (given-past gs ds i left (omega (arith, size)) (λ j past. g (suc j) (omega (arith, past))) (λ j past. d (suc j) (omega (arith, past))))

above-none : (s : State) (place : ℕ) → s.levels ≤ place → asked_at s place ≡ 0
above-none s place past =
    let above : ltb place s.levels ≡ false = le-ltb place s.levels past in
    ap (λ b. cond b (demand s (place + 1)) 0) above

pub asked-all : (s : State) (workers : ℕ) (given asked : List ℕ) (left : ℕ) → Assigning s workers given asked left s.levels → asked ≡ all_asked s
asked-all s workers given asked left h =
    listed-same asked (all_asked s) h.size_asked
    (λ j less. elim (cases_lt j s.levels) [
      | inl inside ↦ h.done j inside ∙ sym (all-asked s j less)
      | inr past ↦ h.unasked j past ∙ sym (above-none s j past) ∙ sym (all-asked s j less)
    ])

pub given-all : (s : State) (workers : ℕ) (given asked : List ℕ) (left : ℕ) → Assigning s workers given asked left s.levels → given ≡ assigned_to (all_asked s) workers
given-all s workers given asked left h =
    let same = asked-all s workers given asked left h in
    given-past given (all_asked s) s.levels left h.size_given h.ungiven (λ j past. ap (λ ds. slice_index ds j) (sym same) ∙ h.unasked j past)
    ∙ h.due
