-- Members are seated, work, and are gathered again.
use Rattle.std.proofs.Common.{◌≡◌, ℕ, suc, ◌<◌, ◌≤◌, ◌+◌, Bool, true, List, [], ◌∷◌, ◌++◌, length, map, reverse, get_or, set, slice_get, Option, Some, None, All, Contains, IfSome, refl, ap, sym, ◌∙◌, subst, arith, inl, inr, append-nil, append_assoc}
use Rattle.std.specs.List.{AllZip, AllByRecursion}
use Rattle.std.specs.Option.{IsSomeAnd}
use Rattle.std.proofs.lemmas.Grind.{reverse_onto}
use Rattle.std.proofs.lemmas.Bool.{cases_lt}
use Rattle.std.proofs.lemmas.List.{get_or_default, get_or-set_same, get_or-set_other, map-append, reverse-append, reverse-reverse, length-map, get_or-map}
use Rattle.std.proofs.lemmas.List.Elements.{AllZip-push, All-map, recursion_from_All}
use Rattle.std.proofs.lemmas.Option.{same_Some}
use Rattle.market_types.specs.declared.reply.Entry.{Entry}
use Rattle.edit_history.specs.declared.terms.Terms.{Terms}
use Rattle.market_lock.specs.Seen.{OfPass, OfPlaced, OfOffice, Met, IsSamePass, fresh}
use Rattle.office_crew.specs.Callers.{who_is}
use Rattle.office_crew.specs.Members.{OfMember, tasks_of, HasPass, HasDone, AreSeated, free_in, free_of, working_in, working_of}
use Rattle.office_crew.specs.Works.{IsUnused, HasWorked, HaveWorked, HasFollowed}
use Rattle.office_crew.specs.declared.caller.Caller.{Caller}
use Rattle.office_crew.specs.declared.caller.Caller.TheVariants.{Free, Working}

-- ---- lists

reverse_cons : {A : Type 0} (x : A) (xs : List A) → reverse (x ∷ xs) ≡ reverse xs ++ x ∷ []
reverse_cons x xs = reverse_onto xs x []

reverse_push : {A : Type 0} (xs : List A) (x : A) → reverse (xs ++ x ∷ []) ≡ x ∷ reverse xs
reverse_push xs x = reverse-append xs (x ∷ [])

map_reverse : {A B : Type 0} (f : A → B) (xs : List A) → map f (reverse xs) ≡ reverse (map f xs)
map_reverse f [] = refl
map_reverse f (x ∷ xs) = ap (map f) (reverse_cons x xs) ∙ (map-append f (reverse xs) (x ∷ []) ∙ (ap (λ l. l ++ f x ∷ []) (map_reverse f xs) ∙ sym (reverse_cons (f x) (map f xs))))

pub zip_from : {A : Type 0} (R : A → A → Type 0) (xs ys : List A) → length xs ≡ length ys → ((k : ℕ) (d : A) → k < length xs → R (get_or xs k d) (get_or ys k d)) → AllZip R xs ys
zip_from R [] [] e f = tt
zip_from R [] (y ∷ ys) e f = absurd (omega arith)
zip_from R (x ∷ xs) [] e f = absurd (omega arith)
zip_from R (x ∷ xs) (y ∷ ys) e f = (f 0 x (omega arith), zip_from R xs ys (omega arith) (λ k d lt. f (suc k) d (omega arith)))

pub zip_reverse : {A : Type 0} (R : A → A → Type 0) (xs ys : List A) → AllZip R xs ys → AllZip R (reverse xs) (reverse ys)
zip_reverse R [] [] z = tt
zip_reverse R [] (y ∷ ys) z = absurd z
zip_reverse R (x ∷ xs) [] z = absurd z
zip_reverse R (x ∷ xs) (y ∷ ys) z =
    subst (λ l. AllZip R l (reverse (y ∷ ys))) (sym (reverse_cons x xs)) (subst (AllZip R (reverse xs ++ x ∷ [])) (sym (reverse_cons y ys)) (AllZip-push R (reverse xs) (reverse ys) x y (zip_reverse R xs ys z.1) z.0))

-- what was turned round, and is turned back
pub zip_turned : {A : Type 0} (R : A → A → Type 0) (xs zs ys ws : List A) → zs ≡ reverse xs → AllZip R zs ys → ws ≡ reverse ys → AllZip R xs ws
zip_turned R xs zs ys ws a z b =
    let back : reverse zs ≡ xs = ap reverse a ∙ reverse-reverse xs in
    subst (AllZip R xs) (sym b) (subst (λ l. AllZip R l (reverse ys)) back (zip_reverse R zs ys z))

-- the first so many of them are done, and one more
pub done_more : {A : Type 0} (R : A → A → Type 0) (xs ys : List A) (k : ℕ) (x y : A) → k < length ys → x ≡ get_or ys k x → R x y
    → ((j : ℕ) (d : A) → k ≤ j → get_or ys j d ≡ get_or xs j d) × ((j : ℕ) (d : A) → j < k → R (get_or xs j d) (get_or ys j d))
    → ((j : ℕ) (d : A) → k + 1 ≤ j → get_or (set ys k y) j d ≡ get_or xs j d) × ((j : ℕ) (d : A) → j < k + 1 → R (get_or xs j d) (get_or (set ys k y) j d))
done_more R xs ys k x y l read r i = (
  λ j d h. get_or-set_other ys k j y d (λ e. omega arith) ∙ i.0 j d (omega arith),
  λ j d h. elim (cases_lt j k) [
    | inl before ↦ subst (R (get_or xs j d)) (sym (get_or-set_other ys k j y d (λ e. omega arith))) (i.1 j d before)
    | inr here ↦
        let at : k ≡ j = omega arith in
        subst (λ n. R (get_or xs n d) (get_or (set ys k y) n d)) at
        (subst (R (get_or xs k d)) (sym (get_or-set_same ys k y d l)) (subst (λ v. R v y) (read ∙ (get_or_default ys k x d l ∙ i.0 k d (omega arith))) r))
  ],
)

-- ---- they are seated

pub seats_none : {T : Type 0} (passes : List OfPass) (tasks : List T) (ms : List (OfMember T)) → ms ≡ [] → AreSeated passes passes tasks tasks ms
seats_none passes tasks ms none = record {
  taken = [];
  passes_are = sym (append-nil passes);
  tasks_are = sym (ap (λ l. tasks ++ tasks_of (reverse l)) none ∙ append-nil tasks);
  paired = subst (λ l. AllZip HasPass [] (reverse l)) (sym none) tt;
}

pub seats_one : {T : Type 0} (passes left rest : List OfPass) (tasks waiting still : List T) (ms more : List (OfMember T)) (p : OfPass) (t : T) (m : OfMember T)
    → left ≡ rest ++ p ∷ [] → waiting ≡ still ++ t ∷ [] → more ≡ ms ++ m ∷ [] → m.caller ≡ Some (Free p) → m.task ≡ t → AreSeated passes left tasks waiting ms → AreSeated passes rest tasks still more
seats_one passes left rest tasks waiting still ms more p t m l w e c k s =
    let back : reverse more ≡ m ∷ reverse ms = ap reverse e ∙ reverse_push ms m in
    let others = tasks_of (reverse ms) in
    record {
      taken = p ∷ s.taken;
      passes_are = s.passes_are ∙ (ap (λ x. x ++ s.taken) l ∙ append_assoc rest (p ∷ []) s.taken);
      tasks_are = s.tasks_are ∙ (ap (λ x. x ++ others) w ∙ (append_assoc still (t ∷ []) others ∙ (ap (λ x. still ++ x ∷ others) (sym k) ∙ ap (λ x. still ++ tasks_of x) (sym back))));
      paired = subst (λ x. AllZip HasPass (p ∷ s.taken) x) (sym back) (c, s.paired);
    }

-- ---- they work

-- the passes of seats from this one on, all of them unused
abbrev pub AreUnused : Terms → ℕ → List OfPass → Type 0
AreUnused terms seat [] = Unit {0}
AreUnused terms seat (p ∷ ps) = IsUnused terms seat p × AreUnused terms (seat + 1) ps

unused_from : (o : OfOffice) (seat : ℕ) (ps : List OfPass) → ((k : ℕ) → k < length ps → slice_get ps k ≡ Some (fresh o (seat + k))) → AreUnused o.terms seat ps
unused_from o seat [] f = tt
unused_from o seat (p ∷ ps) f =
    let is : p ≡ fresh o (seat + 0) = same_Some p (fresh o (seat + 0)) (f 0 (omega arith)) in
    let at : seat + 0 ≡ seat = omega arith in (
      (ap (λ (q : OfPass). q.terms) is, ap (λ (q : OfPass). q.seat) is ∙ at, ap (λ (q : OfPass). q.seen) is, ap (λ (q : OfPass). q.mine) is),
      unused_from o (seat + 1) ps (λ k lt. f (suc k) (omega arith) ∙ ap (λ n. Some (fresh o n)) (let e : seat + suc k ≡ (seat + 1) + k = omega arith in e)),
    )

unused_split : (terms : Terms) (seat : ℕ) (ps qs : List OfPass) → AreUnused terms seat (ps ++ qs) → AreUnused terms seat ps × AreUnused terms (seat + length ps) qs
unused_split terms seat [] qs u = (tt, subst (λ n. AreUnused terms n qs) (let e : seat ≡ seat + 0 = omega arith in e) u)
unused_split terms seat (p ∷ ps) qs u =
    let r = unused_split terms (seat + 1) ps qs u.1 in
    ((u.0, r.0), subst (λ n. AreUnused terms n qs) (let e : (seat + 1) + length ps ≡ seat + suc (length ps) = omega arith in e) r.1)

both : {P Q : Caller OfPass OfPlaced → Type 0} (o : Option (Caller OfPass OfPlaced)) → IsSomeAnd o P → IfSome o Q → (d : Caller OfPass OfPlaced) × P d × Q d
both None p q = absurd p
both (Some d) p q = (d, p, q)

-- this is so of a member's caller, if it is there
abbrev pub IfCaller : {T : Type 0} → (OfPass → Type 0) → OfMember T → Type 0
IfCaller P m = IfSome m.caller (λ c. P (who_is c))

caller_first : (P : OfPass → Type 0) (o : Option (Caller OfPass OfPlaced)) (ps : List OfPass) (qs : List OfPlaced) → AllByRecursion P (free_in o ++ ps) → AllByRecursion (λ (q : OfPlaced). P q.who) (working_in o ++ qs)
    → IfSome o (λ c. P (who_is c)) × AllByRecursion P ps × AllByRecursion (λ (q : OfPlaced). P q.who) qs
caller_first P None ps qs f w = (tt, f, w)
caller_first P (Some (Free p)) ps qs f w = (f.0, f.1, w)
caller_first P (Some (Working q)) ps qs f w = (w.0, f, w.1)

callers_all : {T : Type 0} (P : OfPass → Type 0) (ms : List (OfMember T)) → AllByRecursion P (free_of ms) → AllByRecursion (λ (q : OfPlaced). P q.who) (working_of ms) → AllByRecursion (IfCaller P) ms
callers_all P [] f w = tt
callers_all P (m ∷ ms) f w = let s = caller_first P m.caller (free_of ms) (working_of ms) f w in (s.0, callers_all P ms s.1 s.2)

all_split : {A : Type 0} (P : A → Type 0) (xs ys : List A) → AllByRecursion P (xs ++ ys) → AllByRecursion P xs × AllByRecursion P ys
all_split P [] ys a = (tt, a)
all_split P (x ∷ xs) ys a = let s = all_split P xs ys a.1 in ((a.0, s.0), s.1)

all_reverse : {A : Type 0} (P : A → Type 0) (xs : List A) → AllByRecursion P (reverse xs) → AllByRecursion P xs
all_reverse P [] a = tt
all_reverse P (x ∷ xs) a = let s = all_split P (reverse xs) (x ∷ []) (subst (AllByRecursion P) (reverse_cons x xs) a) in (s.1.0, all_reverse P xs s.0)

-- what holds of all callers in the end holds of those of the members, who are gathered one kind after the other
pub callers_of_all : {O T : Type 0} (P : OfPass → Type 0) (none all some : List OfPass) (nobody others placed : List OfPlaced) (ms : List (OfMember T)) (os : List (OfMember O))
    → some ≡ none ++ free_of (reverse ms) → all ≡ some ++ free_of (reverse os) → others ≡ nobody ++ working_of (reverse ms) → placed ≡ others ++ working_of (reverse os)
    → All P all → All (λ (q : OfPlaced). P q.who) placed → AllByRecursion (IfCaller P) ms × AllByRecursion (IfCaller P) os
callers_of_all P none all some nobody others placed ms os a b c d f w =
    let Q : OfPlaced → Type 0 = λ q. P q.who in
    let fs = all_split P some (free_of (reverse os)) (subst (AllByRecursion P) b (recursion_from_All P all f)) in
    let ws = all_split Q others (working_of (reverse os)) (subst (AllByRecursion Q) d (recursion_from_All Q placed w)) in
    let ft = all_split P none (free_of (reverse ms)) (subst (AllByRecursion P) a fs.0) in
    let wt = all_split Q nobody (working_of (reverse ms)) (subst (AllByRecursion Q) c ws.0) in
    (all_reverse (IfCaller P) ms (callers_all P (reverse ms) ft.1 wt.1), all_reverse (IfCaller P) os (callers_all P (reverse os) fs.1 ws.1))

module _ {T : Type 0} (worked : T → OfPass → T → OfPass → Type 0) (terms : Terms) (history : List Entry) where
  one_worked : (seat : ℕ) (p : OfPass) (m n : OfMember T) → IsUnused terms seat p → HasPass p m → HasDone worked m n → IfCaller (Met history) n → HasWorked worked terms history seat m.task n.task
  one_worked seat p m n unused has done met =
      let b = both n.caller (subst (λ o. IsSomeAnd o (λ c. IsSomeAnd n.caller (λ d. worked m.task (who_is c) n.task (who_is d) × IsSamePass (who_is c) (who_is d)))) has done) met in
      (p, who_is b.0, unused, b.1.0, b.1.1, b.2)

  all_worked : (seat : ℕ) (ps : List OfPass) (ms ns : List (OfMember T)) → AreUnused terms seat ps → AllZip HasPass ps ms → AllZip (HasDone worked) ms ns → AllByRecursion (IfCaller (Met history)) ns → HaveWorked worked terms history seat (tasks_of ms) (tasks_of ns)
  all_worked seat [] [] [] u z d a = tt
  all_worked seat [] [] (n ∷ ns) u z d a = absurd d
  all_worked seat [] (m ∷ ms) ns u z d a = absurd z
  all_worked seat (p ∷ ps) [] ns u z d a = absurd z
  all_worked seat (p ∷ ps) (m ∷ ms) [] u z d a = absurd d
  all_worked seat (p ∷ ps) (m ∷ ms) (n ∷ ns) u z d a = (one_worked seat p m n u.0 z.0 d.0 a.0, all_worked (seat + 1) ps ms ns u.1 z.1 d.1 a.1)

-- ---- they are gathered

module _ {T : Type 0} (left rest : List (OfMember T)) (m : OfMember T) (is : left ≡ rest ++ m ∷ []) where
  turned : reverse left ≡ m ∷ reverse rest
  turned = ap reverse is ∙ reverse_push rest m

  -- a member's caller, where it is a pass
  pub gathers_pass : (passes more : List OfPass) (p : OfPass) → m.caller ≡ Some (Free p) → more ≡ passes ++ p ∷ [] → more ++ free_of (reverse rest) ≡ passes ++ free_of (reverse left)
  gathers_pass passes more p c e =
      ap (λ l. l ++ free_of (reverse rest)) e ∙ (append_assoc passes (p ∷ []) (free_of (reverse rest)) ∙ (ap (λ o. passes ++ (free_in o ++ free_of (reverse rest))) (sym c) ∙ ap (λ l. passes ++ free_of l) (sym turned)))

  pub gathers_no_pass : (passes : List OfPass) (q : OfPlaced) → m.caller ≡ Some (Working q) → passes ++ free_of (reverse rest) ≡ passes ++ free_of (reverse left)
  gathers_no_pass passes q c = ap (λ o. passes ++ (free_in o ++ free_of (reverse rest))) (sym c) ∙ ap (λ l. passes ++ free_of l) (sym turned)

  -- where it is placed
  pub gathers_placed : (placed more : List OfPlaced) (q : OfPlaced) → m.caller ≡ Some (Working q) → more ≡ placed ++ q ∷ [] → more ++ working_of (reverse rest) ≡ placed ++ working_of (reverse left)
  gathers_placed placed more q c e =
      ap (λ l. l ++ working_of (reverse rest)) e ∙ (append_assoc placed (q ∷ []) (working_of (reverse rest)) ∙ (ap (λ o. placed ++ (working_in o ++ working_of (reverse rest))) (sym c) ∙ ap (λ l. placed ++ working_of l) (sym turned)))

  pub gathers_no_placed : (placed : List OfPlaced) (p : OfPass) → m.caller ≡ Some (Free p) → placed ++ working_of (reverse rest) ≡ placed ++ working_of (reverse left)
  gathers_no_placed placed p c = ap (λ o. placed ++ (working_in o ++ working_of (reverse rest))) (sym c) ∙ ap (λ l. placed ++ working_of l) (sym turned)

  -- its task
  pub gathers_task : (tasks more : List T) (t : T) → more ≡ tasks ++ t ∷ [] → m.task ≡ t → more ++ tasks_of (reverse rest) ≡ tasks ++ tasks_of (reverse left)
  gathers_task tasks more t e k =
      let others = tasks_of (reverse rest) in
      ap (λ x. x ++ others) e ∙ (append_assoc tasks (t ∷ []) others ∙ (ap (λ x. tasks ++ x ∷ others) (sym k) ∙ ap (λ x. tasks ++ tasks_of x) (sym turned)))

tasks_back : {T : Type 0} (ns : List (OfMember T)) → reverse (tasks_of (reverse ns)) ≡ tasks_of ns
tasks_back {T} ns = ap reverse (map_reverse (λ (m : OfMember T). m.task) ns) ∙ reverse-reverse (tasks_of ns)

-- what comes back where the members that were seated, `ms`, stood the other way round, and became `ns`
pub back_again : {T : Type 0} (none back given : List T) (ns : List (OfMember T)) → none ≡ [] → given ≡ none ++ tasks_of (reverse ns) → back ≡ reverse given → back ≡ tasks_of ns
back_again none back given ns empty is turned = turned ∙ (ap reverse (is ∙ ap (λ l. l ++ tasks_of (reverse ns)) empty) ∙ tasks_back ns)

-- ---- a meeting

zip_len : {A B : Type 0} (R : A → B → Type 0) (xs : List A) (ys : List B) → AllZip R xs ys → length xs ≡ length ys
zip_len R [] [] z = refl
zip_len R [] (y ∷ ys) z = absurd z
zip_len R (x ∷ xs) [] z = absurd z
zip_len R (x ∷ xs) (y ∷ ys) z = ap suc (zip_len R xs ys z.1)

-- the tasks have the last passes, the openers those before, and no pass is left
pub seats_are : {O T : Type 0} (o : OfOffice) (passes left rest : List OfPass) (openers still : List O) (tasks waiting : List T) (first : List (OfMember O)) (others : List (OfMember T))
    → ((k : ℕ) → k < length passes → slice_get passes k ≡ Some (fresh o k)) → still ≡ [] → length rest ≡ 0 → (s : AreSeated passes left tasks waiting others) → (f : AreSeated left rest openers still first)
    → AreUnused o.terms 0 f.taken × AreUnused o.terms (length openers) s.taken
seats_are {O} o passes left rest openers still tasks waiting first others unused none gone s f =
    let nobody : rest ≡ [] = nothing rest gone in
    let all : passes ≡ f.taken ++ s.taken = s.passes_are ∙ ap (λ l. l ++ s.taken) (f.passes_are ∙ ap (λ l. l ++ f.taken) nobody) in
    let each = unused_from o 0 passes (λ k lt. unused k lt ∙ ap (λ n. Some (fresh o n)) (let e : k ≡ 0 + k = omega arith in e)) in
    let split = unused_split o.terms 0 f.taken s.taken (subst (AreUnused o.terms 0) all each) in
    let many : length f.taken ≡ length openers =
    zip_len HasPass f.taken (reverse first) f.paired
    ∙ (sym (length-map (reverse first) (λ (m : OfMember O). m.task)) ∙ sym (ap length (f.tasks_are ∙ ap (λ l. l ++ tasks_of (reverse first)) none))) in
    (split.0, subst (λ n. AreUnused o.terms n s.taken) (let e : 0 + length f.taken ≡ length openers = omega arith in e) split.1)
  where
    nothing : {A : Type 0} (xs : List A) → length xs ≡ 0 → xs ≡ []
    nothing [] e = refl
    nothing (x ∷ xs) e = absurd (omega arith)

-- members that were seated, stood the other way round, worked, and were gathered
pub seated_worked : {T : Type 0} (worked : T → OfPass → T → OfPass → Type 0) (terms : Terms) (history : List Entry) (seat : ℕ) (passes left : List OfPass) (given waiting back : List T) (ms stood ns : List (OfMember T))
    → (s : AreSeated passes left given waiting ms) → waiting ≡ [] → stood ≡ reverse ms → AreUnused terms seat s.taken → AllZip (HasDone worked) stood ns → AllByRecursion (IfCaller (Met history)) ns → back ≡ tasks_of ns → HaveWorked worked terms history seat given back
seated_worked worked terms history seat passes left given waiting back ms stood ns s none turned unused done met is =
    let mine : given ≡ tasks_of (reverse ms) = s.tasks_are ∙ ap (λ l. l ++ tasks_of (reverse ms)) none in
    let all = all_worked worked terms history seat s.taken (reverse ms) ns unused s.paired (subst (λ l. AllZip (HasDone worked) l ns) turned done) met in
    subst (λ l. HaveWorked worked terms history seat given l) (sym is) (subst (λ l. HaveWorked worked terms history seat l (tasks_of ns)) (sym mine) all)

-- members that were not let work
pub seated_waited : {T : Type 0} (passes left : List OfPass) (given waiting back : List T) (ms stood ns : List (OfMember T)) → (s : AreSeated passes left given waiting ms) → waiting ≡ [] → stood ≡ reverse ms → ns ≡ stood → back ≡ tasks_of ns → back ≡ given
seated_waited passes left given waiting back ms stood ns s none turned same is =
    is ∙ (ap tasks_of (same ∙ turned) ∙ sym (s.tasks_are ∙ ap (λ l. l ++ tasks_of (reverse ms)) none))

-- whether members let others work is whether their tasks do
pub followed : {O : Type 0} (lets : O → Bool → Type 0) (ms : List (OfMember O)) (os : List O) {W N V M : Type 0} → os ≡ tasks_of ms → (W → V) → (N → M) → HasFollowed (λ (m : OfMember O) (b : Bool). lets m.task b) ms W N → HasFollowed lets os V M
followed {O} lets ms os is work wait (inl h) =
    inl (subst (All (λ (o : O). lets o true)) (sym is) (All-map (λ (o : O). lets o true) (λ (m : OfMember O). m.task) ms h.0), work h.1)
followed {O} lets ms os is work wait (inr h) =
    let m = h.0.0 in
    let at = h.0.1 in
    let there : Contains (tasks_of ms) m.task = (
      at.0,
      (let lt = at.1 in let l = length-map ms (λ (x : OfMember O). x.task) in omega arith),
      get_or-map (λ (x : OfMember O). x.task) ms at.0 m m.task at.1 ∙ ap (λ (x : OfMember O). x.task) at.2,
    ) in
    inr ((m.task, subst (λ l. Contains l m.task) (sym is) there, h.0.2), wait h.1)
