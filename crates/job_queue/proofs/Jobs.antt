-- The list of pops, or the queue, one longer.
use Rattle.std.proofs.Common.{◌≡◌, ℕ, ◌+◌, ◌<◌, ◌≤◌, ◌==◌, ◌≢◌, List, [], ◌∷◌, ◌++◌, length, cond, Bool, true, false, refl, ap, sym, ◌∙◌, arith, ne_eqb, eq-eqb, true≢false, subst, append-nil, append_assoc}
use Rattle.std.specs.List.{filter, AllByRecursion}
use Rattle.std.proofs.lemmas.List.{map-append}
use Rattle.std.proofs.lemmas.List.Elements.{filter-append}
use Rattle.job_queue.specs.declared.view.Fed.{Fed}
use Rattle.job_queue.specs.Jobs.{fed, fed_from, own, by, given, HavePlaces}

pub each_append : {A : Type 0} (P : A → Type 0) (xs ys : List A) → AllByRecursion P xs → AllByRecursion P ys → AllByRecursion P (xs ++ ys)
each_append P [] ys a b = b
each_append P (x ∷ xs) ys a b = (a.0, each_append P xs ys a.1 b)

pub each_weaker : {A : Type 0} (P Q : A → Type 0) → ((x : A) → P x → Q x) → (xs : List A) → AllByRecursion P xs → AllByRecursion Q xs
each_weaker P Q f [] a = tt
each_weaker P Q f (x ∷ xs) a = (f x a.0, each_weaker P Q f xs a.1)

pub each_left : {A : Type 0} (P : A → Type 0) (xs ys : List A) → AllByRecursion P (xs ++ ys) → AllByRecursion P xs
each_left P [] ys a = tt
each_left P (x ∷ xs) ys a = (a.0, each_left P xs ys a.1)

pub each_right : {A : Type 0} (P : A → Type 0) (xs ys : List A) → AllByRecursion P (xs ++ ys) → AllByRecursion P ys
each_right P [] ys a = a
each_right P (x ∷ xs) ys a = each_right P xs ys a.1

tested : {A : Type 0} (P : A → Type 0) (b : Bool) (x : A) (l : List A) → AllByRecursion P (cond b (x ∷ l) l) → (b ≡ true → P x) × AllByRecursion P l
tested P true x l h = ((λ _. h.0), h.1)
tested P false x l h = ((λ e. absurd (true≢false (sym e))), h)

-- what holds of those that pass a test
pub each_tested : {A : Type 0} (P : A → Type 0) (test : A → Bool) (xs : List A) → AllByRecursion P (filter test xs) → AllByRecursion (λ x. test x ≡ true → P x) xs
each_tested P test [] a = tt
each_tested P test (x ∷ xs) a = let h = tested P (test x) x (filter test xs) a in (h.0, each_tested P test xs h.1)

passing : {A : Type 0} (P : A → Type 0) (b : Bool) (x : A) (l : List A) → P x → AllByRecursion P l → AllByRecursion P (cond b (x ∷ l) l)
passing P true x l p h = (p, h)
passing P false x l p h = h

pub each_passing : {A : Type 0} (P : A → Type 0) (test : A → Bool) (xs : List A) → AllByRecursion P xs → AllByRecursion P (filter test xs)
each_passing P test [] a = tt
each_passing P test (x ∷ xs) a = passing P (test x) x (filter test xs) a.0 (each_passing P test xs a.1)

module _ {J : Type 0} where
  given-append : (xs ys : List (ℕ × Fed J)) → given (xs ++ ys) ≡ given xs ++ given ys
  given-append xs ys = map-append (λ (p : ℕ × Fed J). p.1) xs ys

  own-append : (n : ℕ) (xs ys : List (Fed J)) → own n (xs ++ ys) ≡ own n xs ++ own n ys
  own-append n xs ys = filter-append (λ (x : Fed J). x.feeder == n) xs ys

  by-append : (n : ℕ) (xs ys : List (ℕ × Fed J)) → by n (xs ++ ys) ≡ by n xs ++ by n ys
  by-append n xs ys = ap given (filter-append (λ (p : ℕ × Fed J). p.0 == n) xs ys) ∙ given-append (filter (λ (p : ℕ × Fed J). p.0 == n) xs) (filter (λ (p : ℕ × Fed J). p.0 == n) ys)

  pub own_first : (n : ℕ) (x : Fed J) (xs : List (Fed J)) → x.feeder ≡ n → own n (x ∷ xs) ≡ x ∷ own n xs
  own_first n x xs e = ap (λ b. cond b (x ∷ own n xs) (own n xs)) (eq-eqb x.feeder n e)

  pub own-more : (n : ℕ) (x : Fed J) (xs : List (Fed J)) → x.feeder ≡ n → own n (xs ++ x ∷ []) ≡ own n xs ++ x ∷ []
  own-more n x xs e = own-append n xs (x ∷ []) ∙ ap (λ l. own n xs ++ l) (own_first n x [] e)

  pub own-other : (n : ℕ) (x : Fed J) (xs : List (Fed J)) → x.feeder ≢ n → own n (xs ++ x ∷ []) ≡ own n xs
  own-other n x xs ne = own-append n xs (x ∷ []) ∙ (ap (λ b. own n xs ++ cond b (x ∷ []) []) (ne_eqb x.feeder n ne) ∙ append-nil (own n xs))

  pub by-more : (n : ℕ) (x : Fed J) (xs : List (ℕ × Fed J)) → by n (xs ++ (n, x) ∷ []) ≡ by n xs ++ x ∷ []
  by-more n x xs = by-append n xs ((n, x) ∷ []) ∙ ap (λ b. by n xs ++ given (cond b ((n, x) ∷ []) [])) (eq-eqb n n refl)

  pub by-other : (n t : ℕ) (x : Fed J) (xs : List (ℕ × Fed J)) → t ≢ n → by n (xs ++ (t, x) ∷ []) ≡ by n xs
  by-other n t x xs ne = by-append n xs ((t, x) ∷ []) ∙ (ap (λ b. by n xs ++ given (cond b ((t, x) ∷ []) [])) (ne_eqb t n ne) ∙ append-nil (by n xs))

  -- a job goes from the queue to the pops
  pub moves : (t : ℕ) (x : Fed J) (out : List (ℕ × Fed J)) (items : List (Fed J)) → given (out ++ (t, x) ∷ []) ++ items ≡ given out ++ x ∷ items
  moves t x out items = ap (λ l. l ++ items) (given-append out ((t, x) ∷ [])) ∙ append_assoc (given out) (x ∷ []) items

  pub own_none : (n m : ℕ) (xs : List (Fed J)) → m ≤ n → AllByRecursion (λ (x : Fed J). x.feeder < m) xs → own n xs ≡ []
  own_none n m [] le a = refl
  own_none n m (x ∷ xs) le a = ap (λ b. cond b (x ∷ own n xs) (own n xs)) (ne_eqb x.feeder n (λ e. let h = a.0 in omega arith)) ∙ own_none n m xs le a.1

  pub by_none : (n m : ℕ) (xs : List (ℕ × Fed J)) → m ≤ n → AllByRecursion (λ (h : ℕ × Fed J). h.0 < m) xs → by n xs ≡ []
  by_none n m [] le a = refl
  by_none n m (x ∷ xs) le a =
      ap (λ b. given (cond b (x ∷ filter (λ (p : ℕ × Fed J). p.0 == n) xs) (filter (λ (p : ℕ × Fed J). p.0 == n) xs))) (ne_eqb x.0 n (λ e. let h = a.0 in omega arith)) ∙ by_none n m xs le a.1

  -- ---- places
  fed_more : (n p : ℕ) (jobs : List J) (job : J) → fed_from n p (jobs ++ job ∷ []) ≡ fed_from n p jobs ++ fed n (p + length jobs) job ∷ []
  fed_more n p [] job = ap (λ q. fed n q job ∷ []) (let e : p ≡ p + 0 = omega arith in e)
  fed_more n p (j ∷ jobs) job = ap (λ l. fed n p j ∷ l) (fed_more n (p + 1) jobs job ∙ ap (λ q. fed_from n (p + 1) jobs ++ fed n q job ∷ []) (let e : p + 1 + length jobs ≡ p + length (j ∷ jobs) = omega arith in e))

  pub length-fed_from : (n p : ℕ) (jobs : List J) → length (fed_from n p jobs) ≡ length jobs
  length-fed_from n p [] = refl
  length-fed_from n p (j ∷ jobs) = let h = length-fed_from n (p + 1) jobs in omega arith

  pub places_more : (p : ℕ) (xs : List (Fed J)) (x : Fed J) → HavePlaces p xs → x.place ≡ p + length xs → HavePlaces p (xs ++ x ∷ [])
  places_more p [] x h e = ((let s : x.place ≡ p = omega arith in s), tt)
  places_more p (y ∷ xs) x h e = (h.0, places_more (p + 1) xs x h.1 (omega arith))

  -- those before x have lesser places
  places_before : (p : ℕ) (xs : List (Fed J)) (x : Fed J) (ys : List (Fed J)) → HavePlaces p (xs ++ x ∷ ys) → (p ≤ x.place) × AllByRecursion (λ (y : Fed J). y.place < x.place) xs
  places_before p [] x ys h = ((let e = h.0 in omega arith), tt)
  places_before p (y ∷ xs) x ys h = let more = places_before (p + 1) xs x ys h.1 in let e = h.0 in let le = more.0 in (omega arith, (omega arith, more.1))

  pub given_each : (Q : Fed J → Type 0) (ps : List (ℕ × Fed J)) → AllByRecursion (λ (p : ℕ × Fed J). Q p.1) ps → AllByRecursion Q (given ps)
  given_each Q [] a = tt
  given_each Q (p ∷ ps) a = (a.0, given_each Q ps a.1)

  pub each_given : (Q : Fed J → Type 0) (ps : List (ℕ × Fed J)) → AllByRecursion Q (given ps) → AllByRecursion (λ (p : ℕ × Fed J). Q p.1) ps
  each_given Q [] a = tt
  each_given Q (p ∷ ps) a = (a.0, each_given Q ps a.1)

  -- what was popped of the feeder of the job at the front has lesser places, whoever popped it
  pub popped_before : (t : ℕ) (out : List (ℕ × Fed J)) (x : Fed J) (items : List (Fed J)) → HavePlaces 0 (own x.feeder (given out ++ x ∷ items))
      → AllByRecursion (λ (y : Fed J). y.feeder ≡ x.feeder → y.place < x.place) (by t out)
  popped_before t out x items h =
      let n = x.feeder in
      let split : own n (given out ++ x ∷ items) ≡ own n (given out) ++ x ∷ own n items = own-append n (given out) (x ∷ items) ∙ ap (λ l. own n (given out) ++ l) (own_first n x items refl) in
      let before = (places_before 0 (own n (given out)) x (own n items) (subst (HavePlaces 0) split h)).1 in
      let P : Fed J → Type 0 = λ y. y.place < x.place in
      let tested = each_tested P (λ (y : Fed J). y.feeder == n) (given out) before in
      let Q : Fed J → Type 0 = λ y. y.feeder ≡ n → P y in
      let all : AllByRecursion Q (given out) = each_weaker (λ (y : Fed J). (y.feeder == n) ≡ true → P y) Q (λ y f e. f (eq-eqb y.feeder n e)) (given out) tested in
      given_each Q (filter (λ (p : ℕ × Fed J). p.0 == t) out) (each_passing (λ (p : ℕ × Fed J). Q p.1) (λ (p : ℕ × Fed J). p.0 == t) out (each_given Q out all))

  pub fed_last : (n : ℕ) (jobs : List J) (job : J) → fed_from n 0 (jobs ++ job ∷ []) ≡ fed_from n 0 jobs ++ fed n (length jobs) job ∷ []
  fed_last n jobs job = fed_more n 0 jobs job ∙ ap (λ q. fed_from n 0 jobs ++ fed n q job ∷ []) (let e : 0 + length jobs ≡ length jobs = omega arith in e)
