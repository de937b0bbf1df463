-- A text is read as a plan exactly where its lines are the plan's sections; and which line is told where it is none.
use Rattle.std.proofs.Common.{◌≡◌, ◌≢◌, ◌⊎◌, inl, inr, ⊎_elim, ℕ, ◌+◌, ◌<◌, ◌≤◌, ◌==◌, nat_le, not, Bool, true, false, cond, List, [], ◌∷◌, ◌++◌, length, Option, Some, None, Ok, Err, refl, sym, ap, ◌∙◌, subst, arith, append_assoc, append-nil, length-append}
use Rattle.std.proofs.lemmas.Bool.Decides.{nat_tests}
use Rattle.std.specs.List.{count_by}
use Rattle.line_engine.specs.Lines.{Line, is_lf, lines_of}
use Rattle.line_engine.specs.Rule.{after}
use Rattle.line_engine.specs.declared.form.LineForm.{LineForm}
use Rattle.line_engine.specs.declared.form.LineForm.TheVariants.{Whole, WithoutLf, TooLong}
use Rattle.drive_plan.specs.declared.line.PlanLine.{PlanLine}
use Rattle.drive_plan.specs.declared.line.PlanLine.TheVariants.{Market, Arena, Control, Job}
use Rattle.drive_plan.specs.declared.plan.PlannedArena.{PlannedArena}
use Rattle.plan_jobs.specs.declared.task.PlannedJob.{PlannedJob}
use Rattle.drive_plan.specs.declared.reader.Progress.{Progress}
use Rattle.drive_plan.specs.declared.reader.Progress.TheVariants.{Unopened, Planned as PlannedSoFar, Bad}
use Rattle.drive_plan.specs.declared.reader.PlanFault.TheVariants.{BadPlan}
use Rattle.drive_plan.specs.Format.{Reached, is_passed_over, longest_line, opened, joined, planned_or_bad, by_form, after_text, after_line, plan_rule, told, plan_of}
use Rattle.drive_plan.specs.Plans.{Planned, with_arena, with_control, with_job}
use Rattle.drive_plan.specs.Reading.{line_of}
use Rattle.drive_plan.specs.Sections.{said, Says, SayArenas, SayControls, SayJobs, AreSections, IsTextOf, MayBegin, IsMisfit, EndsEarly}

-- ---- lists

nil-by : {A : Type 0} (xs : List A) → (length xs == 0) ≡ true → xs ≡ []
nil-by [] e = refl
nil-by (x ∷ xs) e = absurd (let none : length (x ∷ xs) ≡ 0 = grind (arith, nat_tests) in omega (arith, none))

some-by : {A : Type 0} (xs : List A) → (length xs == 0) ≡ false → xs ≡ [] → ⊥
some-by [] e is = absurd (let wrong : true ≡ false = e in cc)
some-by (x ∷ xs) e is = omega (arith, ap length is)

not-empty : {A : Type 0} (xs : List A) → (xs ≡ [] → ⊥) → (length xs == 0) ≡ false
not-empty [] some = absurd (some refl)
not-empty (x ∷ xs) some = grind (arith, nat_tests)

-- ---- one section's lines

arena-more : (levels n : ℕ) (lines : List Line) (arenas : List PlannedArena) (line : Line) (a : PlannedArena) → SayArenas levels n lines arenas → Says levels (n + length arenas) line (Arena a)
    → SayArenas levels n (lines ++ line ∷ []) (arenas ++ a ∷ [])
arena-more levels n [] [] line a say this = (subst (λ (k : ℕ). Says levels k line (Arena a)) (let same : n + length {A = PlannedArena} [] ≡ n = omega arith in same) this, tt)
arena-more levels n (l ∷ lines) (b ∷ arenas) line a say this =
    (say.0, arena-more levels (n + 1) lines arenas line a say.1 (subst (λ (k : ℕ). Says levels k line (Arena a)) (let same : n + length (b ∷ arenas) ≡ n + 1 + length arenas = omega arith in same) this))
arena-more levels n [] (b ∷ arenas) line a say this = absurd say
arena-more levels n (l ∷ lines) [] line a say this = absurd say

control-more : (levels n : ℕ) (lines : List Line) (values : List ℕ) (line : Line) (v : ℕ) → SayControls levels n lines values → Says levels n line (Control v) → SayControls levels n (lines ++ line ∷ []) (values ++ v ∷ [])
control-more levels n [] [] line v say this = (this, tt)
control-more levels n (l ∷ lines) (w ∷ values) line v say this = (say.0, control-more levels n lines values line v say.1 this)
control-more levels n [] (w ∷ values) line v say this = absurd say
control-more levels n (l ∷ lines) [] line v say this = absurd say

job-more : (levels n : ℕ) (lines : List Line) (jobs : List PlannedJob) (line : Line) (j : PlannedJob) → SayJobs levels n lines jobs → Says levels n line (Job j) → SayJobs levels n (lines ++ line ∷ []) (jobs ++ j ∷ [])
job-more levels n [] [] line j say this = (this, tt)
job-more levels n (l ∷ lines) (k ∷ jobs) line j say this = (say.0, job-more levels n lines jobs line j say.1 this)
job-more levels n [] (k ∷ jobs) line j say this = absurd say
job-more levels n (l ∷ lines) [] line j say this = absurd say

no-controls : (levels n : ℕ) (lines : List Line) (values : List ℕ) → SayControls levels n lines values → values ≡ [] → lines ≡ []
no-controls levels n [] values say is = refl
no-controls levels n (l ∷ lines) [] say is = absurd say
no-controls levels n (l ∷ lines) (v ∷ values) say is = absurd (omega (arith, ap length is))

no-jobs : (levels n : ℕ) (lines : List Line) (jobs : List PlannedJob) → SayJobs levels n lines jobs → jobs ≡ [] → lines ≡ []
no-jobs levels n [] jobs say is = refl
no-jobs levels n (l ∷ lines) [] say is = absurd say
no-jobs levels n (l ∷ lines) (j ∷ jobs) say is = absurd (omega (arith, ap length is))

-- ---- what the lines so far are

abbrev Holds : List Line → Progress → Type 0
Holds done Unopened = done ≡ []
Holds done (PlannedSoFar p) = AreSections done p
Holds done (Bad n) = Unit {0}

module _ (line : Line) (n : ℕ) (short : line.form ≢ TooLong) where
  first-line : (r : Option PlanLine) → line_of 3 0 line.bytes ≡ r → Holds (line ∷ []) (opened n r)
  first-line None reads = tt
  first-line (Some (Market base hard levels)) reads =
      record {
        market = line;
        arenas = [];
        controls = [];
        jobs = [];
        are = refl;
        market_says = (short, reads);
        arenas_say = tt;
        controls_say = tt;
        jobs_say = tt;
        arena_first = λ _. refl;
        few = (omega arith, omega arith, omega arith);
      }
  first-line (Some (Arena a)) reads = tt
  first-line (Some (Control v)) reads = tt
  first-line (Some (Job j)) reads = tt

  module _ (p : Planned) (done : List Line) (s : AreSections done p) where
    longer : done ++ line ∷ [] ≡ s.market ∷ ((s.arenas ++ (s.controls ++ s.jobs)) ++ line ∷ [])
    longer = ap (λ l. l ++ line ∷ []) s.are

    arena-line : (b c d : Bool) (a : PlannedArena) → (length p.controls == 0) ≡ b → (length p.jobs == 0) ≡ c → nat_le 64 (length p.arenas) ≡ d → line_of p.levels (length p.arenas) line.bytes ≡ Some (Arena a)
        → Holds (done ++ line ∷ []) (planned_or_bad n (cond (not b) None (cond (not c) None (cond d None (Some (record p { arenas = p.arenas ++ a ∷ [] }))))))
    arena-line false c d a e f g reads = tt
    arena-line true false d a e f g reads = tt
    arena-line true true true a e f g reads = tt
    arena-line true true false a e f g reads =
        let c_none : p.controls ≡ [] = nil-by p.controls e in
        let j_none : p.jobs ≡ [] = nil-by p.jobs f in
        let c_lines : s.controls ≡ [] = no-controls p.levels (length p.arenas) s.controls p.controls s.controls_say c_none in
        let j_lines : s.jobs ≡ [] = no-jobs p.levels (length p.arenas) s.jobs p.jobs s.jobs_say j_none in
        let rest : s.controls ++ s.jobs ≡ [] = λ i. c_lines i ++ j_lines i in
        let few : length p.arenas < 64 = grind (arith, nat_tests) in
        record {
          market = s.market;
          arenas = s.arenas ++ line ∷ [];
          controls = [];
          jobs = [];
          are = longer
              ∙ ap (λ (l : List Line). s.market ∷ (l ++ line ∷ [])) (ap (λ (l : List Line). s.arenas ++ l) rest ∙ append-nil s.arenas)
              ∙ ap (λ (l : List Line). s.market ∷ l) (sym (append-nil (s.arenas ++ line ∷ [])));
          market_says = s.market_says;
          arenas_say = arena-more p.levels 0 s.arenas p.arenas line a s.arenas_say (subst (λ (k : ℕ). Says p.levels k line (Arena a)) (let same : length p.arenas ≡ 0 + length p.arenas = omega arith in same) (short, reads));
          controls_say = subst (λ (vs : List ℕ). SayControls p.levels (length (p.arenas ++ a ∷ [])) [] vs) (sym c_none) tt;
          jobs_say = subst (λ (js : List PlannedJob). SayJobs p.levels (length (p.arenas ++ a ∷ [])) [] js) (sym j_none) tt;
          arena_first = λ _. c_none;
          few = (omega (arith, length-append p.arenas (a ∷ []), few), s.few.1, s.few.2);
        }

    control-line : (b c d : Bool) (v : ℕ) → (length p.arenas == 0) ≡ b → (length p.jobs == 0) ≡ c → nat_le 256 (length p.controls) ≡ d → line_of p.levels (length p.arenas) line.bytes ≡ Some (Control v)
        → Holds (done ++ line ∷ []) (planned_or_bad n (cond b None (cond (not c) None (cond d None (Some (record p { controls = p.controls ++ v ∷ [] }))))))
    control-line true c d v e f g reads = tt
    control-line false false d v e f g reads = tt
    control-line false true true v e f g reads = tt
    control-line false true false v e f g reads =
        let j_none : p.jobs ≡ [] = nil-by p.jobs f in
        let j_lines : s.jobs ≡ [] = no-jobs p.levels (length p.arenas) s.jobs p.jobs s.jobs_say j_none in
        let few : length p.controls < 256 = grind (arith, nat_tests) in
        record {
          market = s.market;
          arenas = s.arenas;
          controls = s.controls ++ line ∷ [];
          jobs = [];
          are = longer
              ∙ ap (λ (l : List Line). s.market ∷ ((s.arenas ++ l) ++ line ∷ [])) (ap (λ (l : List Line). s.controls ++ l) j_lines ∙ append-nil s.controls)
              ∙ ap (λ (l : List Line). s.market ∷ l) (append_assoc s.arenas s.controls (line ∷ []) ∙ ap (λ (l : List Line). s.arenas ++ l) (sym (append-nil (s.controls ++ line ∷ []))));
          market_says = s.market_says;
          arenas_say = s.arenas_say;
          controls_say = control-more p.levels (length p.arenas) s.controls p.controls line v s.controls_say (short, reads);
          jobs_say = subst (λ (js : List PlannedJob). SayJobs p.levels (length p.arenas) [] js) (sym j_none) tt;
          arena_first = λ none. absurd (some-by p.arenas e none);
          few = (s.few.0, omega (arith, length-append p.controls (v ∷ []), few), s.few.2);
        }

    job-line : (d : Bool) (j : PlannedJob) → nat_le 65536 (length p.jobs) ≡ d → line_of p.levels (length p.arenas) line.bytes ≡ Some (Job j)
        → Holds (done ++ line ∷ []) (planned_or_bad n (cond d None (Some (record p { jobs = p.jobs ++ j ∷ [] }))))
    job-line true j g reads = tt
    job-line false j g reads =
        let few : length p.jobs < 65536 = grind (arith, nat_tests) in
        record {
          market = s.market;
          arenas = s.arenas;
          controls = s.controls;
          jobs = s.jobs ++ line ∷ [];
          are = longer ∙ ap (λ (l : List Line). s.market ∷ l) (append_assoc s.arenas (s.controls ++ s.jobs) (line ∷ []) ∙ ap (λ (l : List Line). s.arenas ++ l) (append_assoc s.controls s.jobs (line ∷ [])));
          market_says = s.market_says;
          arenas_say = s.arenas_say;
          controls_say = s.controls_say;
          jobs_say = job-more p.levels (length p.arenas) s.jobs p.jobs line j s.jobs_say (short, reads);
          arena_first = s.arena_first;
          few = (s.few.0, s.few.1, omega (arith, length-append p.jobs (j ∷ []), few));
        }

    next-line : (r : Option PlanLine) → line_of p.levels (length p.arenas) line.bytes ≡ r → Holds (done ++ line ∷ []) (joined p n r)
    next-line None reads = tt
    next-line (Some (Market base hard levels)) reads = tt
    next-line (Some (Arena a)) reads = arena-line (length p.controls == 0) (length p.jobs == 0) (nat_le 64 (length p.arenas)) a refl refl refl reads
    next-line (Some (Control v)) reads = control-line (length p.arenas == 0) (length p.jobs == 0) (nat_le 256 (length p.controls)) v refl refl refl reads
    next-line (Some (Job j)) reads = job-line (nat_le 65536 (length p.jobs)) j refl reads

  any-line : (progress : Progress) (done : List Line) → Holds done progress → Holds (done ++ line ∷ []) (after_text progress line.bytes n)
  any-line Unopened done h = subst (λ (l : List Line). Holds (l ++ line ∷ []) (after_text Unopened line.bytes n)) (sym h) (first-line (line_of 3 0 line.bytes) refl)
  any-line (PlannedSoFar p) done h = next-line p done h (line_of p.levels (length p.arenas) line.bytes) refl
  any-line (Bad m) done h = tt

stopped-holds : (progress : Progress) (done : List Line) (bytes : List ℕ) (n : ℕ) → Holds done (by_form progress TooLong bytes n)
stopped-holds Unopened done bytes n = tt
stopped-holds (PlannedSoFar p) done bytes n = tt
stopped-holds (Bad m) done bytes n = tt

-- one line more that is not passed over
heard-line : (form : LineForm) (bytes : List ℕ) (progress : Progress) (done : List Line) (n : ℕ) → Holds done progress → Holds (done ++ record { bytes = bytes; form = form } ∷ []) (by_form progress form bytes n)
heard-line Whole bytes progress done n h = any-line (record { bytes = bytes; form = Whole }) n (λ e. cc) progress done h
heard-line WithoutLf bytes progress done n h = any-line (record { bytes = bytes; form = WithoutLf }) n (λ e. cc) progress done h
heard-line TooLong bytes progress done n h = stopped-holds progress (done ++ record { bytes = bytes; form = TooLong } ∷ []) bytes n

line-by : (b : Bool) (line : Line) (progress : Progress) (done : List Line) (n : ℕ) → Holds done progress
    → Holds (done ++ cond (not b) (line ∷ []) []) (cond b progress (by_form progress line.form line.bytes n))
line-by true line progress done n h = subst (λ (l : List Line). Holds l progress) (sym (append-nil done)) h
line-by false line progress done n h = heard-line line.form line.bytes progress done n h

said-more : (b : Bool) (line : Line) (more : List Line) → cond (not b) (line ∷ more) more ≡ cond (not b) (line ∷ []) [] ++ more
said-more true line more = refl
said-more false line more = refl

lines-hold : (lines done : List Line) (r : Reached) → Holds done r.progress → Holds (done ++ said lines) (after plan_rule r lines).progress
lines-hold [] done r h = subst (λ (l : List Line). Holds l r.progress) (sym (append-nil done)) h
lines-hold (line ∷ lines) done r h =
    let b : Bool = is_passed_over line.bytes in
    let one : List Line = cond (not b) (line ∷ []) [] in
    let next = line-by b line r.progress done (r.lines + 1) h in
    subst (λ (l : List Line). Holds l (after plan_rule (plan_rule.next r line) lines).progress)
    (append_assoc done one (said lines) ∙ ap (λ (l : List Line). done ++ l) (sym (said-more b line (said lines))))
    (lines-hold lines (done ++ one) (plan_rule.next r line) next)

abbrev start : Reached
start = record { lines = 0; progress = Unopened }

all-hold : (lines : List Line) → Holds (said lines) (after plan_rule start lines).progress
all-hold lines = lines-hold lines [] start refl

-- ---- a text that is read as a plan

planned-told : (b : Bool) (q p : Planned) (early : ℕ) (lines : List Line) → (length q.arenas == 0) ≡ b → AreSections lines q → cond b (Err (BadPlan early)) (Ok q) ≡ Ok p → AreSections lines p × (p.arenas ≢ [])
planned-told true q p early lines e s is = absurd (cc)
planned-told false q p early lines e s is =
    let same : q ≡ p = cc in
    subst (λ (x : Planned). AreSections lines x × (x.arenas ≢ [])) same (s, some-by q.arenas e)

told-plan : (progress : Progress) (lines : List Line) (early : ℕ) (p : Planned) → Holds lines progress → told progress early ≡ Ok p → AreSections lines p × (p.arenas ≢ [])
told-plan Unopened lines early p h is = absurd (cc)
told-plan (PlannedSoFar q) lines early p h is = planned-told (length q.arenas == 0) q p early lines refl h is
told-plan (Bad n) lines early p h is = absurd (cc)

pub found-plan : (text : List ℕ) (p : Planned) → plan_of text ≡ Ok p → IsTextOf text p
found-plan text p is =
    let lines = lines_of longest_line text in
    told-plan (after plan_rule start lines).progress (said lines) (count_by is_lf text + 1) p (all-hold lines) is

-- ---- what a plan's sections are read as

-- these lines lead from there to this plan
abbrev Leads : Progress → List Line → Planned → Type 0
Leads progress [] p = progress ≡ PlannedSoFar p
Leads progress (line ∷ lines) p = (next : Planned) × ((n : ℕ) → by_form progress line.form line.bytes n ≡ PlannedSoFar next) × Leads (PlannedSoFar next) lines p

read-line : (form : LineForm) (progress : Progress) (bytes : List ℕ) (n : ℕ) → form ≢ TooLong → by_form progress form bytes n ≡ after_text progress bytes n
read-line Whole progress bytes n short = refl
read-line WithoutLf progress bytes n short = refl
read-line TooLong progress bytes n short = absurd (short refl)

abbrev plan : ℕ → ℕ → ℕ → List PlannedArena → List ℕ → List PlannedJob → Planned
plan base hard levels arenas controls jobs = record { base = base; hard = hard; levels = levels; arenas = arenas; controls = controls; jobs = jobs }

module _ (base hard levels : ℕ) (p : Planned) where
  more-arenas : (done more : List PlannedArena) (lines rest : List Line) → SayArenas levels (length done) lines more → length done + length more ≤ 64
      → Leads (PlannedSoFar (plan base hard levels (done ++ more) [] [])) rest p → Leads (PlannedSoFar (plan base hard levels done [] [])) (lines ++ rest) p
  more-arenas done [] [] rest say few leads = subst (λ (xs : List PlannedArena). Leads (PlannedSoFar (plan base hard levels xs [] [])) rest p) (append-nil done) leads
  more-arenas done (a ∷ more) (line ∷ lines) rest say few leads =
      let q : Planned = plan base hard levels done [] [] in
      let room : nat_le 64 (length done) ≡ false = let small : length done < 64 = omega (arith, few) in grind (arith, nat_tests) in
      let placed : with_arena q a ≡ Some (plan base hard levels (done ++ a ∷ []) [] []) = rw room refl in
      let long : length done + 1 ≡ length (done ++ a ∷ []) = sym (length-append done (a ∷ [])) in (
        plan base hard levels (done ++ a ∷ []) [] [],
        (λ n. read-line line.form (PlannedSoFar q) line.bytes n say.0.0 ∙ (ap (joined q n) say.0.1 ∙ ap (planned_or_bad n) placed)),
        more-arenas (done ++ a ∷ []) more lines rest (subst (λ (k : ℕ). SayArenas levels k lines more) long say.1) (omega (arith, few, long))
            (subst (λ (xs : List PlannedArena). Leads (PlannedSoFar (plan base hard levels xs [] [])) rest p) (sym (append_assoc done (a ∷ []) more)) leads),
      )
  more-arenas done [] (line ∷ lines) rest say few leads = absurd say
  more-arenas done (a ∷ more) [] rest say few leads = absurd say

  module _ (arenas : List PlannedArena) where
    more-controls : (done more : List ℕ) (lines rest : List Line) → SayControls levels (length arenas) lines more → (arenas ≡ [] → done ++ more ≡ []) → length done + length more ≤ 256
        → Leads (PlannedSoFar (plan base hard levels arenas (done ++ more) [])) rest p → Leads (PlannedSoFar (plan base hard levels arenas done [])) (lines ++ rest) p
    more-controls done [] [] rest say first few leads = subst (λ (cs : List ℕ). Leads (PlannedSoFar (plan base hard levels arenas cs [])) rest p) (append-nil done) leads
    more-controls done (v ∷ more) (line ∷ lines) rest say first few leads =
        let q : Planned = plan base hard levels arenas done [] in
        let some : (length arenas == 0) ≡ false = not-empty arenas (λ none. omega (arith, ap length (first none), length-append done (v ∷ more))) in
        let room : nat_le 256 (length done) ≡ false = let small : length done < 256 = omega (arith, few) in grind (arith, nat_tests) in
        let placed : with_control q v ≡ Some (plan base hard levels arenas (done ++ v ∷ []) []) = rw (some, room) refl in
        let long : length done + 1 ≡ length (done ++ v ∷ []) = sym (length-append done (v ∷ [])) in
        let same : done ++ v ∷ more ≡ (done ++ v ∷ []) ++ more = sym (append_assoc done (v ∷ []) more) in (
          plan base hard levels arenas (done ++ v ∷ []) [],
          (λ n. read-line line.form (PlannedSoFar q) line.bytes n say.0.0 ∙ (ap (joined q n) say.0.1 ∙ ap (planned_or_bad n) placed)),
          more-controls (done ++ v ∷ []) more lines rest say.1 (λ none. sym same ∙ first none) (omega (arith, few, long))
              (subst (λ (cs : List ℕ). Leads (PlannedSoFar (plan base hard levels arenas cs [])) rest p) same leads),
        )
    more-controls done [] (line ∷ lines) rest say first few leads = absurd say
    more-controls done (v ∷ more) [] rest say first few leads = absurd say

    module _ (controls : List ℕ) where
      more-jobs : (done more : List PlannedJob) (lines : List Line) → SayJobs levels (length arenas) lines more → length done + length more ≤ 65536
          → plan base hard levels arenas controls (done ++ more) ≡ p → Leads (PlannedSoFar (plan base hard levels arenas controls done)) lines p
      more-jobs done [] [] say few is = ap (λ (js : List PlannedJob). PlannedSoFar (plan base hard levels arenas controls js)) (sym (append-nil done)) ∙ ap (λ (x : Planned). PlannedSoFar x) is
      more-jobs done (j ∷ more) (line ∷ lines) say few is =
          let q : Planned = plan base hard levels arenas controls done in
          let room : nat_le 65536 (length done) ≡ false = let small : length done < 65536 = omega (arith, few) in grind (arith, nat_tests) in
          let placed : with_job q j ≡ Some (plan base hard levels arenas controls (done ++ j ∷ [])) = rw room refl in
          let long : length done + 1 ≡ length (done ++ j ∷ []) = sym (length-append done (j ∷ [])) in (
            plan base hard levels arenas controls (done ++ j ∷ []),
            (λ n. read-line line.form (PlannedSoFar q) line.bytes n say.0.0 ∙ (ap (joined q n) say.0.1 ∙ ap (planned_or_bad n) placed)),
            more-jobs (done ++ j ∷ []) more lines say.1 (omega (arith, few, long)) (ap (plan base hard levels arenas controls) (append_assoc done (j ∷ []) more) ∙ is),
          )
      more-jobs done [] (line ∷ lines) say few is = absurd say
      more-jobs done (j ∷ more) [] say few is = absurd say

sections-lead : (lines : List Line) (p : Planned) → AreSections lines p → Leads Unopened lines p
sections-lead lines p s =
    let jobs = more-jobs p.base p.hard p.levels p p.arenas p.controls [] p.jobs s.jobs s.jobs_say (omega (arith, s.few.2)) refl in
    let controls = more-controls p.base p.hard p.levels p p.arenas [] p.controls s.controls s.jobs s.controls_say s.arena_first (omega (arith, s.few.1)) jobs in
    let arenas = more-arenas p.base p.hard p.levels p [] p.arenas s.arenas (s.controls ++ s.jobs) s.arenas_say (omega (arith, s.few.0)) controls in
    subst (λ (l : List Line). Leads Unopened l p) (sym s.are) (
      plan p.base p.hard p.levels [] [] [],
      (λ n. read-line s.market.form Unopened s.market.bytes n s.market_says.0 ∙ ap (opened n) s.market_says.1),
      arenas,
    )

-- lines that are passed over change nothing
lead-by : (b : Bool) (line : Line) (lines more : List Line) (progress : Progress) (n : ℕ) (p : Planned) → Leads progress (cond (not b) (line ∷ more) more) p
    → ((next : Progress) → Leads next more p → next ≡ cond b progress (by_form progress line.form line.bytes n) → (after plan_rule (record { lines = n; progress = next }) lines).progress ≡ PlannedSoFar p)
    → (after plan_rule (record { lines = n; progress = cond b progress (by_form progress line.form line.bytes n) }) lines).progress ≡ PlannedSoFar p
lead-by true line lines more progress n p leads then' = then' progress leads refl
lead-by false line lines more progress n p leads then' =
    subst (λ (x : Progress). (after plan_rule (record { lines = n; progress = x }) lines).progress ≡ PlannedSoFar p) (sym (leads.1 n)) (then' (PlannedSoFar leads.0) leads.2 (sym (leads.1 n)))

lead-on : (lines : List Line) (r : Reached) (p : Planned) → Leads r.progress (said lines) p → (after plan_rule r lines).progress ≡ PlannedSoFar p
lead-on [] r p leads = leads
lead-on (line ∷ lines) r p leads =
    lead-by (is_passed_over line.bytes) line lines (said lines) r.progress (r.lines + 1) p leads (λ next more is. lead-on lines (record { lines = r.lines + 1; progress = next }) p more)

sections-read : (lines : List Line) (p : Planned) → AreSections (said lines) p → (after plan_rule start lines).progress ≡ PlannedSoFar p
sections-read lines p s = lead-on lines start p (sections-lead (said lines) p s)

told-some : (b : Bool) (p : Planned) (early : ℕ) → (length p.arenas == 0) ≡ b → (p.arenas ≢ []) → cond b (Err (BadPlan early)) (Ok p) ≡ Ok p
told-some true p early e some = absurd (some (nil-by p.arenas e))
told-some false p early e some = refl

pub read-plan : (text : List ℕ) (p : Planned) → IsTextOf text p → plan_of text ≡ Ok p
read-plan text p is =
    let early : ℕ = count_by is_lf text + 1 in
    ap (λ (x : Progress). told x early) (sections-read (lines_of longest_line text) p is.0) ∙ told-some (length p.arenas == 0) p early refl is.1

-- ---- a text that is no plan

abbrev IsGood : Progress → Type 0
IsGood (Bad n) = ⊥
IsGood progress = Unit {0}

good-or-bad : (progress : Progress) → IsGood progress ⊎ ((n : ℕ) × (progress ≡ Bad n))
good-or-bad Unopened = inl tt
good-or-bad (PlannedSoFar p) = inl tt
good-or-bad (Bad n) = inr (n, refl)

may-begin : (progress : Progress) (lines : List Line) → IsGood progress → Holds (said lines) progress → MayBegin lines
may-begin Unopened lines good h = inl h
may-begin (PlannedSoFar p) lines good h = inr (p, h)
may-begin (Bad n) lines good h = absurd good

-- the line that is told is the one that does not fit
planned-bad : (o : Option Planned) (n m : ℕ) → planned_or_bad n o ≡ Bad m → m ≡ n
planned-bad None n m e = cc
planned-bad (Some p) n m e = absurd (cc)

joined-bad : (r : Option PlanLine) (p : Planned) (n m : ℕ) → joined p n r ≡ Bad m → m ≡ n
joined-bad None p n m e = cc
joined-bad (Some (Market base hard levels)) p n m e = cc
joined-bad (Some (Arena a)) p n m e = planned-bad (with_arena p a) n m e
joined-bad (Some (Control v)) p n m e = planned-bad (with_control p v) n m e
joined-bad (Some (Job j)) p n m e = planned-bad (with_job p j) n m e

opened-bad : (r : Option PlanLine) (n m : ℕ) → opened n r ≡ Bad m → m ≡ n
opened-bad None n m e = cc
opened-bad (Some (Market base hard levels)) n m e = absurd (cc)
opened-bad (Some (Arena a)) n m e = cc
opened-bad (Some (Control v)) n m e = cc
opened-bad (Some (Job j)) n m e = cc

text-bad : (progress : Progress) (bytes : List ℕ) (n m : ℕ) → IsGood progress → after_text progress bytes n ≡ Bad m → m ≡ n
text-bad Unopened bytes n m good e = opened-bad (line_of 3 0 bytes) n m e
text-bad (PlannedSoFar p) bytes n m good e = joined-bad (line_of p.levels (length p.arenas) bytes) p n m e
text-bad (Bad k) bytes n m good e = absurd good

stopped-bad : (progress : Progress) (bytes : List ℕ) (n m : ℕ) → IsGood progress → by_form progress TooLong bytes n ≡ Bad m → m ≡ n
stopped-bad Unopened bytes n m good e = cc
stopped-bad (PlannedSoFar p) bytes n m good e = cc
stopped-bad (Bad k) bytes n m good e = absurd good

form-bad : (form : LineForm) (progress : Progress) (bytes : List ℕ) (n m : ℕ) → IsGood progress → by_form progress form bytes n ≡ Bad m → m ≡ n
form-bad Whole progress bytes n m good e = text-bad progress bytes n m good e
form-bad WithoutLf progress bytes n m good e = text-bad progress bytes n m good e
form-bad TooLong progress bytes n m good e = stopped-bad progress bytes n m good e

not-good : (progress : Progress) (m : ℕ) → IsGood progress → progress ≡ Bad m → ⊥
not-good progress m good e = subst IsGood e good

line-bad : (b : Bool) (line : Line) (progress : Progress) (n m : ℕ) → IsGood progress → cond b progress (by_form progress line.form line.bytes n) ≡ Bad m → m ≡ n
line-bad true line progress n m good e = absurd (not-good progress m good e)
line-bad false line progress n m good e = form-bad line.form progress line.bytes n m good e

-- and it stays
bad-form : (form : LineForm) (m : ℕ) (bytes : List ℕ) (n : ℕ) → by_form (Bad m) form bytes n ≡ Bad m
bad-form Whole m bytes n = refl
bad-form WithoutLf m bytes n = refl
bad-form TooLong m bytes n = refl

bad-line : (b : Bool) (line : Line) (m n : ℕ) → cond b (Bad m) (by_form (Bad m) line.form line.bytes n) ≡ Bad m
bad-line true line m n = refl
bad-line false line m n = bad-form line.form m line.bytes n

bad-stays : (lines : List Line) (r : Reached) (m : ℕ) → r.progress ≡ Bad m → (after plan_rule r lines).progress ≡ Bad m
bad-stays [] r m e = e
bad-stays (line ∷ lines) r m e =
    bad-stays lines (plan_rule.next r line) m (ap (λ (x : Progress). after_line x line (r.lines + 1)) e ∙ bad-line (is_passed_over line.bytes) line m (r.lines + 1))

-- lines that are all passed over are no plan yet
quiet-by : (b : Bool) (line : Line) (more : List Line) (progress : Progress) (n : ℕ) → cond (not b) (line ∷ more) more ≡ [] → (more ≡ []) × (cond b progress (by_form progress line.form line.bytes n) ≡ progress)
quiet-by true line more progress n none = (none, refl)
quiet-by false line more progress n none = absurd (omega (arith, ap length none))

quiet : (lines : List Line) (r : Reached) → said lines ≡ [] → (after plan_rule r lines).progress ≡ r.progress
quiet [] r none = refl
quiet (line ∷ lines) r none =
    let q = quiet-by (is_passed_over line.bytes) line (said lines) r.progress (r.lines + 1) none in
    quiet lines (plan_rule.next r line) q.0 ∙ q.1

no-beginning : (lines : List Line) (m : ℕ) → (after plan_rule start lines).progress ≡ Bad m → MayBegin lines → ⊥
no-beginning lines m bad (inl none) = let wrong : Unopened ≡ Bad m = sym (quiet lines start none) ∙ bad in cc
no-beginning lines m bad (inr s) = let wrong : PlannedSoFar s.0 ≡ Bad m = sym (sections-read lines s.0 s.1) ∙ bad in cc

-- ---- the first of them
lines-counted : (lines : List Line) (r : Reached) → (after plan_rule r lines).lines ≡ r.lines + length lines
lines-counted [] r = omega arith
lines-counted (line ∷ lines) r = omega (arith, lines-counted lines (plan_rule.next r line))

after-more : (done : List Line) (line : Line) (r : Reached) → after plan_rule r (done ++ line ∷ []) ≡ plan_rule.next (after plan_rule r done) line
after-more [] line r = refl
after-more (x ∷ done) line r = after-more done line (plan_rule.next r x)

first-misfit : (lines done : List Line) (text : List ℕ) (number : ℕ) → lines_of longest_line text ≡ done ++ lines → IsGood (after plan_rule start done).progress
    → (after plan_rule (after plan_rule start done) lines).progress ≡ Bad number → IsMisfit text number
first-misfit [] done text number are good bad = absurd (not-good (after plan_rule start done).progress number good bad)
first-misfit (line ∷ lines) done text number are good bad =
    let r : Reached = after plan_rule start done in
    let next : Reached = plan_rule.next r line in
    let reached : after plan_rule start (done ++ line ∷ []) ≡ next = after-more done line start in
    ⊎_elim (λ (fine : IsGood next.progress).
    first-misfit lines (done ++ line ∷ []) text number (are ∙ sym (append_assoc done (line ∷ []) lines)) (subst (λ (x : Reached). IsGood x.progress) (sym reached) fine)
    (ap (λ (x : Reached). (after plan_rule x lines).progress) reached ∙ bad))
    (λ (wrong : (m : ℕ) × (next.progress ≡ Bad m)).
    let here : wrong.0 ≡ r.lines + 1 = line-bad (is_passed_over line.bytes) line r.progress (r.lines + 1) wrong.0 good wrong.1 in
    let told' : Bad wrong.0 ≡ Bad number = sym (bad-stays lines next wrong.0 wrong.1) ∙ bad in
    let same : wrong.0 ≡ number = cc in
    record {
      before = done;
      line = line;
      behind = lines;
      are = are;
      number_is = omega (arith, same, here, lines-counted done start);
      begins = may-begin r.progress done good (all-hold done);
      ends = no-beginning (done ++ line ∷ []) wrong.0 (ap (λ (x : Reached). x.progress) reached ∙ wrong.1);
    })
    (good-or-bad next.progress)

-- ---- or the text ends too early
early-plan : (b : Bool) (q : Planned) (text : List ℕ) (early number : ℕ) → early ≡ count_by is_lf text + 1 → (length q.arenas == 0) ≡ b → AreSections (said (lines_of longest_line text)) q
    → cond b (Err (BadPlan early)) (Ok q) ≡ Err (BadPlan number) → EndsEarly text number
early-plan false q text early number at e s is = absurd (cc)
early-plan true q text early number at e s is =
    let lines = lines_of longest_line text in
    let same : early ≡ number = cc in
    record {
      begins = inr (q, s);
      no_arena = λ p t. let one : PlannedSoFar q ≡ PlannedSoFar p = sym (sections-read lines q s) ∙ sections-read lines p t in
          let both : q ≡ p = cc in ap (λ (x : Planned). x.arenas) (sym both) ∙ nil-by q.arenas e;
      number_is = sym same ∙ at;
    }

told-fault : (progress : Progress) (text : List ℕ) (early number : ℕ) → early ≡ count_by is_lf text + 1 → (after plan_rule start (lines_of longest_line text)).progress ≡ progress
    → Holds (said (lines_of longest_line text)) progress → told progress early ≡ Err (BadPlan number) → IsMisfit text number ⊎ EndsEarly text number
told-fault Unopened text early number at reached h is =
    let same : early ≡ number = cc in
    inr (record {
      begins = inl h;
      no_arena = λ p t. absurd (let wrong : Unopened ≡ PlannedSoFar p = sym reached ∙ sections-read (lines_of longest_line text) p t in cc);
      number_is = sym same ∙ at;
    })
told-fault (PlannedSoFar q) text early number at reached h is = inr (early-plan (length q.arenas == 0) q text early number at refl h is)
told-fault (Bad m) text early number at reached h is =
    let same : m ≡ number = cc in
    inl (first-misfit (lines_of longest_line text) [] text number refl tt (reached ∙ ap (λ (n : ℕ). Bad n) same))

pub found-fault : (text : List ℕ) (number : ℕ) → plan_of text ≡ Err (BadPlan number) → IsMisfit text number ⊎ EndsEarly text number
found-fault text number is =
    let lines = lines_of longest_line text in
    told-fault (after plan_rule start lines).progress text (count_by is_lf text + 1) number refl refl (all-hold lines) is
