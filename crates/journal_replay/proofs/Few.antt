-- How many arenas a market has, and how large its numbers are.
use Rattle.std.specs.Prelude.{nat_lt, nat_le, ◌==◌, ◌||◌, ◌&&◌, not, min, slice_index, flat_map}
use Rattle.std.specs.List.{All, filter, list_any, count_by, range_with_len}
use Rattle.std.proofs.Common.{◌≡◌, ℕ, zero, suc, ◌+◌, ◌-◌, ◌*◌, ◌/◌, ◌%◌, ◌<◌, ◌≤◌, Bool, true, false, cond, List, [], ◌∷◌, length, map, Option, Some, None, Result, Ok, Err, refl, sym, ap, ◌∙◌, subst, arith, length-append, inl, inr}
use Rattle.std.specs.Prelude.{ℤ, pos, negsuc, ◌+ℤ◌}
use Rattle.std.proofs.lemmas.Bool.{cases_Bool, eq-eqb}
use Rattle.std.proofs.lemmas.Bool.Decides.{nat_tests}
use Rattle.std.proofs.lemmas.Option.{same_Some}
use Rattle.std.proofs.lemmas.List.{length-map}
use Rattle.std.proofs.lemmas.List.Elements.{All-head, All-tail, All-nil, All-cons, All-append, All-filter, All-map, All-weaker}
use Rattle.std.proofs.lemmas.List.Sums.{count_by-le-length, length-filter, sum_by-cons}
use Rattle.std.proofs.Math.Nat.{div-le_self, mod-le, mul-le-mul_left}
use Rattle.market_types.specs.declared.command.Cmd.{Cmd}
use Rattle.market_types.specs.declared.command.Cmd.TheVariants.{Open, Close, Priority, Resize, Request, Control, Uncontrol, Join, Stay, Leave, Show, Lists, Limit}
use Rattle.market_types.specs.declared.reply.Fault.{Fault}
use Rattle.market_types.specs.declared.reply.Fault.TheVariants.{WantedRange, MandatoryRange}
use Rattle.market_types.specs.Claims.{new_claim, with_slots, is_wanted, is_mandatory, natural, added_claim, cap_of, clamp_total, request_of}
use Rattle.market_types.specs.State.{Claim, Arena, Control as LivingControl, State}
use Rattle.market_types.specs.Allotment.{at_level, levels_of, in_order, share_of, carry_past, carried, count_at, all_to, mandatory_pick, allotment_of, assigned_to, assigned, demand, bound_of, limit_of, has_mandatory, active, recall, need, is_just}
use Rattle.market_types.specs.Step.{Outcome, if_arena, if_claim, arena_at, without, with_claim, open_step, close_step, priority_step, resize_step, request_step, control_step, uncontrol_step, place_of, join_from, stay_from, leave_from, step}

-- ---- the arenas of a market

abbrev pub IsBounded : Arena → Type 0
IsBounded a = (a.number ≤ 4294967294) × (a.claim.slots ≤ 65535)

pub record Few (arenas : List Arena) : Type 0 where
  pub few : length arenas ≤ 1024
  pub all : All IsBounded arenas

pub fewer : {A : Type 0} (p : A → Bool) (xs : List A) → length (filter p xs) ≤ length xs
fewer p xs = omega (arith, length-filter p xs, count_by-le-length p xs)

longer : (b : Bool) (a : Arena) (arenas : List Arena) → length (cond b (a ∷ arenas) arenas) ≤ length arenas + 1
longer true a arenas = omega arith
longer false a arenas = omega arith

-- an arena that was found is one of them
found : (n : ℕ) (arenas : List Arena) (arena : Arena) → arena_at n arenas ≡ Some arena → All IsBounded arenas → IsBounded arena × (length (without arena.number arenas) + 1 ≤ length arenas)
found n [] arena is all = absurd (cc)
found n (a ∷ arenas) arena is all = elim (cases_Bool (a.number == n)) [
  | inl t ↦
      let first : Some a ≡ Some arena = rw t at is in
      subst (λ (x : Arena). IsBounded x × (length (without x.number (a ∷ arenas)) + 1 ≤ length (a ∷ arenas))) (same_Some a arena first)
      (All-head IsBounded a arenas all, rw (eq-eqb a.number a.number refl) (omega (arith, fewer (λ (x : Arena). not (x.number == a.number)) arenas)))
  | inr f ↦
      let later : arena_at n arenas ≡ Some arena = rw f at is in
      let h = found n arenas arena later (All-tail IsBounded a arenas all) in
      (h.0, omega (arith, h.1, longer (not (a.number == arena.number)) a (without arena.number arenas)))
]

-- ---- what a step leaves of them

few-if : (b : Bool) (x y : Outcome) → Few x.1.arenas → (b ≡ false → Few y.1.arenas) → Few (cond b x y).1.arenas
few-if true x y h k = h
few-if false x y h k = k refl

few-arena : (s : State) (o : Option Arena) (f : Arena → Outcome) → Few s.arenas → ((a : Arena) → o ≡ Some a → Few (f a).1.arenas) → Few (if_arena s o f).1.arenas
few-arena s None f h k = h
few-arena s (Some a) f h k = k a refl

few-claim : (s : State) (r : Result Claim Fault) (f : Claim → Outcome) → Few s.arenas → ((c : Claim) → r ≡ Ok c → Few (f c).1.arenas) → Few (if_claim s r f).1.arenas
few-claim s (Err fault) f h k = h
few-claim s (Ok c) f h k = k c refl

-- the slots of a claim that may be
sized-by : (b d : Bool) (slots : ℕ) (c e : Claim) (f g : Fault) → (b ≡ false → slots ≤ 65535) → cond b (Err f) (cond d (Err g) (Ok c)) ≡ Ok e → (slots ≤ 65535) × (e ≡ c)
sized-by true d slots c e f g h is = absurd (cc)
sized-by false true slots c e f g h is = absurd (cc)
sized-by false false slots c e f g h is = (h refl, cc)

new-slots : (slots reserved : ℕ) (e : Claim) → new_claim slots reserved ≡ Ok e → (slots ≤ 65535) × (e.slots ≡ slots)
new-slots slots reserved e is =
    let h = sized-by (slots == 0 || nat_lt 65535 slots) (nat_lt slots reserved) slots _ e _ _ (λ no. grind (arith, nat_tests)) is in
    (h.0, ap (λ (c : Claim). c.slots) h.1)

added-by : (b d : Bool) (c x e : Claim) (f g : Fault) → x.slots ≡ c.slots → cond b (Err f) (cond d (Err g) (Ok x)) ≡ Ok e → e.slots ≡ c.slots
added-by true d c x e f g same is = absurd (cc)
added-by false true c x e f g same is = absurd (cc)
added-by false false c x e f g same is = (let it : x ≡ e = cc in sym (ap (λ (z : Claim). z.slots) it) ∙ same)

added-slots : (c : Claim) (workers mandatory : ℤ) (e : Claim) → added_claim c workers mandatory ≡ Ok e → e.slots ≡ c.slots
added-slots c workers mandatory e is =
    added-by (not (is_wanted (c.wanted +ℤ workers))) (not (is_mandatory (pos c.mandatory +ℤ mandatory))) c (record c { wanted = c.wanted +ℤ workers; mandatory = natural (pos c.mandatory +ℤ mandatory) }) e WantedRange MandatoryRange refl is

with-claim_by : (b : Bool) (claim : Claim) (a : Arena) → claim.slots ≤ 65535 → IsBounded a → IsBounded (cond b (record a { claim = claim }) a)
with-claim_by true claim a h k = (k.0, h)
with-claim_by false claim a h k = k

few-with : (n : ℕ) (claim : Claim) (arenas : List Arena) → claim.slots ≤ 65535 → Few arenas → Few (with_claim n claim arenas)
few-with n claim arenas small h = record {
  few = omega (arith, length-map arenas (λ (b : Arena). cond (b.number == n) (record b { claim = claim }) b), h.few);
  all = All-map IsBounded (λ (b : Arena). cond (b.number == n) (record b { claim = claim }) b) arenas
      (All-weaker IsBounded (λ b. IsBounded (cond (b.number == n) (record b { claim = claim }) b)) (λ b k. with-claim_by (b.number == n) claim b small k) arenas h.all);
}

few-open : (s : State) (slots reserved level : ℕ) → s.last ≤ 4294967294 → Few s.arenas → Few (open_step s slots reserved level).1.arenas
few-open s slots reserved level last h =
    few-claim s (new_claim slots reserved) _ h (λ claim is.
    few-if (nat_lt s.levels level) _ _ h (λ _.
    few-if (nat_le 1024 (length s.arenas)) _ _ h (λ room.
    few-if (nat_lt s.last s.next_arena || nat_lt s.last s.next_stamp) _ _ h (λ left.
    let slots_are = new-slots slots reserved claim is in
    let number : s.next_arena ≤ 4294967294 = grind (arith, nat_tests) in
    let fewer : length s.arenas < 1024 = grind (arith, nat_tests) in
    let small : claim.slots ≤ 65535 = omega (arith, slots_are.0, slots_are.1) in
    record { few = omega arith; all = All-cons IsBounded _ s.arenas (number, small) h.all }))))

few-close : (s : State) (a : ℕ) → Few s.arenas → Few (close_step s a).1.arenas
few-close s a h =
    few-arena s (arena_at a s.arenas) _ h (λ _ _.
    few-if (nat_lt 0 (active s a)) _ _ h (λ _.
    record { few = omega (arith, fewer (λ (x : Arena). not (x.number == a)) s.arenas, h.few); all = All-filter (λ (x : Arena). not (x.number == a)) IsBounded s.arenas h.all }))

few-priority : (s : State) (a level : ℕ) → Few s.arenas → Few (priority_step s a level).1.arenas
few-priority s a level h =
    few-if (nat_lt s.levels level) _ _ h (λ _.
    few-arena s (arena_at a s.arenas) _ h (λ arena is.
    few-if (nat_lt s.last s.next_stamp) _ _ h (λ _.
    let f = found a s.arenas arena is h.all in
    record { few = omega (arith, f.1, h.few); all = All-cons IsBounded _ _ f.0 (All-filter (λ (x : Arena). not (x.number == arena.number)) IsBounded s.arenas h.all) })))

few-resize : (s : State) (a slots reserved : ℕ) → Few s.arenas → Few (resize_step s a slots reserved).1.arenas
few-resize s a slots reserved h =
    few-claim s (new_claim slots reserved) _ h (λ claim is.
    few-arena s (arena_at a s.arenas) _ h (λ arena _. few-with a (with_slots arena.claim slots reserved) s.arenas (new-slots slots reserved claim is).0 h))

few-request : (s : State) (a : ℕ) (workers mandatory : ℤ) → Few s.arenas → Few (request_step s a workers mandatory).1.arenas
few-request s a workers mandatory h =
    few-arena s (arena_at a s.arenas) _ h (λ arena is.
    few-claim s (added_claim arena.claim workers mandatory) _ h (λ claim more.
    let f = found a s.arenas arena is h.all in
    let same = added-slots arena.claim workers mandatory claim more in
    let small : claim.slots ≤ 65535 = omega (arith, f.0.1, same) in
    few-with a claim s.arenas small h))

few-control : (s : State) (value : ℕ) → Few s.arenas → Few (control_step s value).1.arenas
few-control s value h =
    few-if (value == 0 || nat_lt 65536 value) _ _ h (λ _.
    few-if (nat_le 256 (length s.controls)) _ _ h (λ _.
    few-if (nat_lt s.last s.next_control) _ _ h (λ _. h)))

few-uncontrol : (s : State) (c : ℕ) → Few s.arenas → Few (uncontrol_step s c).1.arenas
few-uncontrol s c h = few-if (list_any (λ (d : LivingControl). d.number == c) s.controls) _ _ h (λ _. h)

few-join : (s : State) (seat : ℕ) (p : Option ℕ) (o : Option Arena) → Few s.arenas → need s ≡ o → Few (join_from s seat p).1.arenas
few-join s seat (Some a) o h is = h
few-join s seat None None h is = rw is h
few-join s seat None (Some arena) h is = rw is h

few-stay : (s : State) (seat : ℕ) (p : Option ℕ) → Few s.arenas → Few (stay_from s seat p).1.arenas
few-stay s seat None h = h
few-stay s seat (Some a) h = few-if (nat_lt 0 (recall s a)) _ _ h (λ _. h)

few-leave : (s : State) (seat : ℕ) (p : Option ℕ) → Few s.arenas → Few (leave_from s seat p).1.arenas
few-leave s seat None h = h
few-leave s seat (Some a) h = h

pub few-step : (s : State) (seat : ℕ) (cmd : Cmd) → s.last ≤ 4294967294 → Few s.arenas → Few (step s seat cmd).1.arenas
few-step s seat (Open slots reserved level) last h = few-open s slots reserved level last h
few-step s seat (Close a) last h = few-close s a h
few-step s seat (Priority a level) last h = few-priority s a level h
few-step s seat (Resize a slots reserved) last h = few-resize s a slots reserved h
few-step s seat (Request a workers mandatory) last h = few-request s a workers mandatory h
few-step s seat (Control value) last h = few-control s value h
few-step s seat (Uncontrol c) last h = few-uncontrol s c h
few-step s seat Join last h = few-join s seat (place_of s seat) (need s) h refl
few-step s seat Stay last h = few-stay s seat (place_of s seat) h
few-step s seat Leave last h = few-leave s seat (place_of s seat) h
few-step s seat (Show a) last h = few-arena s (arena_at a s.arenas) _ h (λ _ _. h)
few-step s seat Lists last h = h
few-step s seat Limit last h = h

-- ---- the arenas in order

-- those at a level, and those at later ones
level-by : (k : ℕ) (a : Arena) → cond (a.level == k) 1 0 + cond (nat_le (k + 1) a.level) 1 0 ≤ cond (nat_le k a.level) 1 0
level-by k a = grind (arith, nat_tests)

level-from : (k : ℕ) (arenas : List Arena) → count_by (λ (a : Arena). a.level == k) arenas + count_by (λ (a : Arena). nat_le (k + 1) a.level) arenas ≤ count_by (λ (a : Arena). nat_le k a.level) arenas
level-from k [] = omega arith
level-from k (a ∷ arenas) =
    omega (
      arith,
      level-by k a,
      level-from k arenas,
      sum_by-cons (λ (b : Arena). cond (b.level == k) 1 0) a arenas,
      sum_by-cons (λ (b : Arena). cond (nat_le (k + 1) b.level) 1 0) a arenas,
      sum_by-cons (λ (b : Arena). cond (nat_le k b.level) 1 0) a arenas,
    )

levels-few : (arenas : List Arena) (k m : ℕ) → length (flat_map (λ level. at_level level arenas) (range_with_len k m)) ≤ count_by (λ (a : Arena). nat_le k a.level) arenas
levels-few arenas k zero = omega arith
levels-few arenas k (suc m) =
    omega (
      arith,
      length-append (at_level k arenas) (flat_map (λ level. at_level level arenas) (range_with_len (k + 1) m)),
      length-filter (λ (a : Arena). a.level == k) arenas,
      levels-few arenas (k + 1) m,
      level-from k arenas,
    )

levels-bounded : (arenas : List Arena) (ls : List ℕ) → All IsBounded arenas → All IsBounded (flat_map (λ level. at_level level arenas) ls)
levels-bounded arenas [] h = All-nil IsBounded
levels-bounded arenas (l ∷ ls) h = All-append IsBounded (at_level l arenas) _ (All-filter (λ (a : Arena). a.level == l) IsBounded arenas h) (levels-bounded arenas ls h)

pub few-in_order : (s : State) → Few s.arenas → Few (in_order s)
few-in_order s h =
    record {
      few = omega (arith, levels-few s.arenas 1 s.levels, count_by-le-length (λ (a : Arena). nat_le 1 a.level) s.arenas, h.few);
      all = levels-bounded s.arenas (levels_of s) h.all;
    }

-- ---- how many workers an arena is allotted, at most

clamp-le : (z : ℤ) (cap : ℕ) → clamp_total z cap ≤ cap
clamp-le (pos n) cap = omega arith
clamp-le (negsuc n) cap = omega arith

cap-by : (b : Bool) (slots reserved : ℕ) → slots ≤ 65535 → cond b 1 (slots - reserved) ≤ 65535
cap-by true slots reserved h = omega arith
cap-by false slots reserved h = omega arith

request-small : (c : Claim) → c.slots ≤ 65535 → request_of c ≤ 65535
request-small c h = omega (arith, clamp-le c.wanted (cap_of c), cap-by (c.slots == 1 && c.reserved == 1 && nat_lt 0 c.mandatory) c.slots c.reserved h)

assigned-le : (ds : List ℕ) (m i : ℕ) → slice_index (assigned_to ds m) i ≤ m
assigned-le [] m i = omega arith
assigned-le (d ∷ ds) m zero = omega arith
assigned-le (d ∷ ds) m (suc i) = omega (arith, assigned-le ds (m - min d m) i)

effective-by : (b c : Bool) (limit : ℕ) → limit ≤ 65535 → cond b limit (cond c 1 0) ≤ 65535
effective-by true c limit h = h
effective-by false true limit h = omega arith
effective-by false false limit h = omega arith

bound-small : (s : State) → s.hard ≤ 65535 → bound_of s ≤ 65535
bound-small s h = omega (arith, effective-by (nat_lt 0 (limit_of s)) (has_mandatory s.arenas) (limit_of s) (omega arith))

share-by : (b : Bool) (q k c d : ℕ) → cond b 0 ((q * k + c) / d) ≤ q * k + c
share-by true q k c d = omega arith
share-by false q k c d = div-le_self (q * k + c) d

past-by : (b : Bool) (q k c d : ℕ) → cond b c ((q * k + c) % d) ≤ q * k + c
past-by true q k c d = omega arith
past-by false q k c d = mod-le (q * k + c) d

product-small : (q k : ℕ) → q ≤ 65535 → k ≤ 65535 → q * k ≤ 4294836225
product-small q k hq hk =
    let one : q * k ≤ q * 65535 = mul-le-mul_left q hk in
    omega arith

at-by : (b : Bool) (x y m : ℕ) → x ≤ m → y ≤ m → cond b x y ≤ m
at-by true x y m h k = h
at-by false x y m h k = k

count-small : (A D : ℕ → ℕ) (c n : ℕ) (arenas : List Arena) → ((l : ℕ) → A l ≤ 65535) → All IsBounded arenas → count_at n (carried A D c arenas) ≤ c + 4294836225 * length arenas
count-small A D c n [] small all = omega arith
count-small A D c n (a ∷ arenas) small all =
    let here = All-head IsBounded a arenas all in
    let q = request_of a.claim in
    let product = product-small q (A a.level) (request-small a.claim here.1) (small a.level) in
    let share = share-by (q == 0) q (A a.level) c (D a.level) in
    let past = past-by (q == 0) q (A a.level) c (D a.level) in
    let rest = count-small A D (carry_past A D c a) n arenas small (All-tail IsBounded a arenas all) in
    at-by (a.number == n) (share_of A D c a) (count_at n (carried A D (carry_past A D c a) arenas)) (c + 4294836225 * length (a ∷ arenas)) (omega arith) (omega arith)

all_to-small : (o : Option Arena) (workers n : ℕ) → workers ≤ 65535 → all_to o workers n ≤ 65535
all_to-small None workers n h = omega arith
all_to-small (Some a) workers n h = at-by (a.number == n) workers 0 65535 h (omega arith)

pub allotment-small : (s : State) (n : ℕ) → s.hard ≤ 65535 → Few s.arenas → allotment_of s n ≤ 4397912294400
allotment-small s n hard h =
    let o = few-in_order s h in
    let bound = bound-small s hard in
    let counted = count-small (assigned s) (demand s) 0 n (in_order s) (λ l. let a = assigned-le (map (demand s) (levels_of s)) (bound_of s) (l - 1) in omega arith) o.all in
    let few = o.few in
    at-by (nat_lt 0 (limit_of s)) (count_at n (carried (assigned s) (demand s) 0 (in_order s))) (all_to (mandatory_pick s) (bound_of s) n) 4397912294400 (omega arith)
    (let to = all_to-small (mandatory_pick s) (bound_of s) n bound in omega arith)

pub active-small : (s : State) (n : ℕ) → length s.seats ≤ 64 → active s n ≤ 64
active-small s n h = omega (arith, count_by-le-length (is_just n) s.seats)
