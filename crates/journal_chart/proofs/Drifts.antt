-- What is known of the place of an arena stays right through the entries that are about other arenas.
use Rattle.std.proofs.Common.{◌≡◌, ℕ, zero, suc, ◌+◌, ◌-◌, ◌*◌, ◌^◌, ◌<◌, ◌≤◌, min, Bool, true, false, true≢false, cond, eqb, nat_lt, List, replicate, slice_index, Option, None, Some, refl, sym, ap, ◌∙◌, subst, arith, inl, inr}
use Rattle.std.proofs.lemmas.Bool.{cases_Bool}
use Rattle.std.proofs.lemmas.Bool.Decides.{nat_tests}
use Rattle.market_types.specs.declared.command.Cmd.{Cmd}
use Rattle.market_types.specs.declared.command.Cmd.TheVariants.{Open, Close, Priority, Resize, Request, Control, Uncontrol, Join, Stay, Leave, Show, Lists, Limit}
use Rattle.market_types.specs.declared.reply.Reply.{Reply}
use Rattle.market_types.specs.declared.reply.Reply.TheVariants.{Recalled, Stays}
use Rattle.market_types.specs.State.{Arena, State}
use Rattle.market_types.specs.Allotment.{at_level, demand, is_just, need, recall, total_request}
use Rattle.market_types.specs.Step.{Outcome, arena_at, join_at, join_from, leave_from, place_of, stay_from, step, with_place}
use Rattle.market_core.specs.Ahead.{asked_ahead}
use Rattle.journal_chart.specs.declared.covered.Covered.{Covered}
use Rattle.journal_chart.specs.declared.row.Known.{Known}
use Rattle.journal_chart.specs.declared.spot.Spot.{Spot}
use Rattle.journal_chart.specs.Shares.{all_asked, apart, shared_at}
use Rattle.journal_chart.specs.Steps.{drifted, keeps_order, moves_seat, reordered, subject}
use Rattle.journal_chart.proofs.Ahead.{Within}
use Rattle.journal_chart.proofs.Kept.{Fine, ahead-within, apart-stands}
use Rattle.journal_chart.proofs.Sharing.{leveled, shared-asked}
use Rattle.journal_chart.proofs.Spots.{IsNear, IsPlaced, IsSpot, Spares}

-- ---- what levels ask for

-- a difference at one place of so many is among all
apart-within : (n : ℕ) (xs ys : List ℕ) (i : ℕ) → i < n
    → (slice_index xs i - slice_index ys i) + (slice_index ys i - slice_index xs i) ≤ apart n xs ys
apart-within zero xs ys i inside = absurd (omega (arith, inside))
apart-within (suc n) xs ys i inside =
    let between : ℕ → ℕ = λ j. (slice_index xs j - slice_index ys j) + (slice_index ys j - slice_index xs j) in
    elim (cases_Bool (eqb i n)) [
      | inl last ↦
          let is : i ≡ n = grind (arith, nat_tests) in
          let same : between i ≡ between n = ap between is in
          added-last (between i) (between n) (apart n xs ys) same
      | inr not ↦
          let before : i < n = grind (arith, nat_tests) in
          added-first (between i) (between n) (apart n xs ys) (apart-within n xs ys i before)
    ]
  where
    added-last : (p q r : ℕ) → p ≡ q → p ≤ r + q
    added-last p q r same = omega (arith, same)

    added-first : (p q r : ℕ) → p ≤ r → p ≤ r + q
    added-first p q r less = omega (arith, less)

-- a difference at one of eight places is among all
pub apart-place : (xs ys : List ℕ) (i : ℕ) → i < 8 → (slice_index xs i - slice_index ys i) + (slice_index ys i - slice_index xs i) ≤ apart 8 xs ys
apart-place xs ys i inside = apart-within 8 xs ys i inside

-- at each place of a list of zeros is 0
zeros : (n i : ℕ) → slice_index (replicate n 0) i ≡ 0
zeros zero i = refl
zeros (suc n) zero = refl
zeros (suc n) (suc i) = zeros n i

-- what one of eight places has is among what all differ from zeros by
apart-zeros : (xs : List ℕ) (i : ℕ) → i < 8 → slice_index xs i ≤ apart 8 (replicate 8 0) xs
apart-zeros xs i inside =
    from (slice_index (replicate 8 0) i) (slice_index xs i) (apart 8 (replicate 8 0) xs) (zeros 8 i) (apart-place (replicate 8 0) xs i inside)
  where
    from : (n m k : ℕ) → n ≡ 0 → (n - m) + (m - n) ≤ k → m ≤ k
    from n m k none less = omega (arith, none, less)

-- ---- how far they have drifted

-- a number that is held at a most, and is below it, is not held
below-most : (n most : ℕ) → min n most < most → (min n most ≡ n) × (n < most)
below-most n most small = (grind (arith, small), omega (arith, small))

-- what is counted twice where a test fails is no more than what it is within
twice-within : (b : Bool) (n m : ℕ) → n ≤ m → 2 * cond b 0 n ≤ cond b 0 (2 * m)
twice-within true n m less = omega arith
twice-within false n m less = omega (arith, less)

-- ---- spots

-- what is as near to an arena after what stands before it and what its level asks for have changed was so before, less what the levels have drifted
nearer : (o : Spot) (drift more slack b c d e p q : ℕ) → Within b c d e slack → (d - e) + (e - d) + 2 * slack ≤ more
    → IsNear o (drift + more) c e p q → IsNear o drift b d p q
nearer o drift more slack b c d e p q within enough near =
    record {
      up = omega (arith, within.more, enough, near.up);
      more = omega (arith, within.less, enough, near.more);
      down = omega (arith, within.less, enough, near.down);
      less = omega (arith, within.more, enough, near.less);
    }

-- what stands before an arena and what its level asks for change by so much: its spot is right once the levels have drifted by as much more
still-placed : (s t : State) (a drift more slack request : ℕ) (k : Covered) (o : Spot) (x : Arena) → IsPlaced s a drift k request o x
    → Within (asked_ahead a (at_level x.level s.arenas)) (asked_ahead a (at_level x.level t.arenas)) (demand s x.level) (demand t x.level) slack
    → (demand s x.level - demand t x.level) + (demand t x.level - demand s x.level) + 2 * slack ≤ more → IsPlaced t a (drift + more) k request o x
still-placed s t a drift more slack request k o x was within enough =
    record {
      low = was.low;
      few = was.few;
      spares = λ p q n near some is.
          was.spares p q n
          (nearer o drift more slack (asked_ahead a (at_level x.level s.arenas)) (asked_ahead a (at_level x.level t.arenas)) (demand s x.level) (demand t x.level) p q
          within enough near) some is;
    }

-- what a level asks for, and what stands for another order, changes by no more than how far all levels drift
drift-enough : (s t : State) (cmd : Cmd) (level : ℕ) → 1 ≤ level → level ≤ 8 → level ≤ s.levels → level ≤ t.levels
    → (demand s level - demand t level) + (demand t level - demand s level) + 2 * cond (keeps_order cmd) 0 (demand s level)
    ≤ apart t.levels (all_asked s) (all_asked t) + reordered cmd (all_asked s)
drift-enough s t cmd level low few was_high high =
    let inside : level - 1 < 8 = omega (arith, low, few) in
    let was : slice_index (all_asked s) (level - 1) ≡ demand s level = shared-asked s level low few was_high in
    let is : slice_index (all_asked t) (level - 1) ≡ demand t level = shared-asked t level low few high in
    let among : slice_index (all_asked s) (level - 1) ≤ apart 8 (replicate 8 0) (all_asked s) = apart-zeros (all_asked s) (level - 1) inside in
    together (slice_index (all_asked s) (level - 1)) (slice_index (all_asked t) (level - 1)) (demand s level) (demand t level)
    (apart t.levels (all_asked s) (all_asked t)) (cond (keeps_order cmd) 0 (demand s level))
    (reordered cmd (all_asked s)) was is (apart-within t.levels (all_asked s) (all_asked t) (level - 1) (omega (arith, low, high)))
    (twice-within (keeps_order cmd) (demand s level) (apart 8 (replicate 8 0) (all_asked s))
    (subst (λ n. n ≤ apart 8 (replicate 8 0) (all_asked s)) was among))
  where
    together : (n m d e k slack more : ℕ) → n ≡ d → m ≡ e → (n - m) + (m - n) ≤ k → 2 * slack ≤ more → (d - e) + (e - d) + 2 * slack ≤ k + more
    together n m d e k slack more was is among twice = omega (arith, was, is, among, twice)

-- a spot stays right through an entry that is about another arena
pub spot-step : (s t : State) (seat a d : ℕ) (cmd : Cmd) (reply : Reply) (k : Known) → step s seat cmd ≡ (reply, t)
    → is_just a (subject cmd reply) ≡ false → Fine s → Fine t → IsSpot s a d k → IsSpot t a (drifted cmd (shared_at s d) t.levels (all_asked t)) k
spot-step s t seat a d cmd reply k answered other was_fine fine spot some small x found =
    let more : ℕ = apart t.levels (all_asked s) (all_asked t) + reordered cmd (all_asked s) in
    let free = below-most (d + more) (2 ^ 32 - 1) small in
    let was_small : d < 2 ^ 32 - 1 = smaller d more (2 ^ 32 - 1) free.1 in
    let was_found : arena_at a s.arenas ≡ Some x = sym (apart-stands s t seat a cmd reply answered other).arena ∙ found in
    let was : IsPlaced s a d k.covered k.request k.spot x = spot some was_small x was_found in
    let within = ahead-within s t seat a cmd reply answered other was_fine.once x.level in
    let enough = drift-enough s t cmd x.level was.low was.few (leveled s a x was_fine was_found) (leveled t a x fine found) in
    subst (λ n. IsPlaced t a n k.covered k.request k.spot x) (sym free.0)
    (still-placed s t a d more (cond (keeps_order cmd) 0 (demand s x.level)) k.request k.covered k.spot x was within enough)
  where
    smaller : (n m most : ℕ) → n + m < most → n < most
    smaller n m most less = omega (arith, less)

-- ---- seats that come and go

-- a seat goes to an arena
arenas-join_at : (s : State) (seat : ℕ) (o : Option Arena) → (join_at s seat o).1.arenas ≡ s.arenas
arenas-join_at s seat None = refl
arenas-join_at s seat (Some x) = refl

-- the same, if it is free
arenas-join : (s : State) (seat : ℕ) (p : Option ℕ) → (join_from s seat p).1.arenas ≡ s.arenas
arenas-join s seat None = arenas-join_at s seat (need s)
arenas-join s seat (Some b) = refl

-- a seat goes away or stays
arenas-stay : (s : State) (seat : ℕ) (p : Option ℕ) → (stay_from s seat p).1.arenas ≡ s.arenas
arenas-stay s seat None = refl
arenas-stay s seat (Some b) = either (nat_lt 0 (recall s b)) (Recalled b, with_place s seat None) (Stays b, s) refl refl
  where
    either : (c : Bool) (x y : Outcome) → x.1.arenas ≡ s.arenas → y.1.arenas ≡ s.arenas → (cond {A = Outcome} c x y).1.arenas ≡ s.arenas
    either true x y h k = h
    either false x y h k = k

-- a seat goes away
arenas-leave : (s : State) (seat : ℕ) (p : Option ℕ) → (leave_from s seat p).1.arenas ≡ s.arenas
arenas-leave s seat None = refl
arenas-leave s seat (Some b) = refl

-- a command of a seat leaves the arenas as they were
seats-arenas : (s : State) (seat : ℕ) (cmd : Cmd) → moves_seat cmd ≡ true → (step s seat cmd).1.arenas ≡ s.arenas
seats-arenas s seat Join h = arenas-join s seat (place_of s seat)
seats-arenas s seat Stay h = arenas-stay s seat (place_of s seat)
seats-arenas s seat Leave h = arenas-leave s seat (place_of s seat)
seats-arenas s seat (Open slots reserved level) h = absurd (true≢false (sym h))
seats-arenas s seat (Close b) h = absurd (true≢false (sym h))
seats-arenas s seat (Priority b level) h = absurd (true≢false (sym h))
seats-arenas s seat (Resize b slots reserved) h = absurd (true≢false (sym h))
seats-arenas s seat (Request b workers mandatory) h = absurd (true≢false (sym h))
seats-arenas s seat (Control value) h = absurd (true≢false (sym h))
seats-arenas s seat (Uncontrol c) h = absurd (true≢false (sym h))
seats-arenas s seat (Show b) h = absurd (true≢false (sym h))
seats-arenas s seat Lists h = absurd (true≢false (sym h))
seats-arenas s seat Limit h = absurd (true≢false (sym h))

-- a command of a seat changes no arena
pub spot-seat : (s t : State) (seat a d : ℕ) (cmd : Cmd) (reply : Reply) (k : Known) → step s seat cmd ≡ (reply, t)
    → moves_seat cmd ≡ true → IsSpot s a d k → IsSpot t a d k
spot-seat s t seat a d cmd reply k answered moves spot some small x found =
    let same : t.arenas ≡ s.arenas = subst (λ (p : Outcome). p.1.arenas ≡ s.arenas) answered (seats-arenas s seat cmd moves) in
    let back : s.arenas ≡ t.arenas = sym same in
    let was : IsPlaced s a d k.covered k.request k.spot x = spot some small x (ap (arena_at a) back ∙ found) in
    record {
      low = was.low;
      few = was.few;
      spares =
          subst (λ (xs : List Arena).
          Spares k.covered k.request k.spot d (asked_ahead a (at_level x.level xs)) (total_request (at_level x.level xs))) back was.spares;
    }
