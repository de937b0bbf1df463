-- Lists of passes, one shorter, while one pass takes over what the others stand for.
use Rattle.std.proofs.Common.{◌≡◌, ◌+◌, ◌<◌, ◌≤◌, length-append, List, [], ◌∷◌, ◌++◌, length, map, refl, ap, sym, ◌∙◌, arith, All}
use Rattle.atomic_table.specs.Seated.{TableId}
use Rattle.std.proofs.lemmas.List.{map-append}
use Rattle.std.proofs.lemmas.List.Elements.{All-head}
use Rattle.job_queue.specs.declared.view.Fed.{Fed}
use Rattle.job_queue.specs.declared.view.Known.{Known}
use Rattle.job_queue.specs.declared.view.View.{View}
use Rattle.job_queue.specs.declared.view.View.TheVariants.{Records}
use Rattle.job_queue.specs.Views.{known, records_of, one, head}
use Rattle.job_queue.specs.Seen.{QueueId, OfFeeder, OfTaker, feeder_of, taker_of}
use Rattle.job_queue.specs.Records.{feeder_known, taker_known, all_known}

map_last : {A B : Type 0} (f : A → B) (xs : List A) (x : A) (ys : List B) → map f (xs ++ x ∷ []) ++ ys ≡ map f xs ++ (f x ∷ ys)
map_last f [] x ys = refl
map_last f (z ∷ xs) x ys = ap (λ l. f z ∷ l) (map_last f xs x ys)

length_map : {A B : Type 0} (f : A → B) (xs : List A) → length (map f xs) ≡ length xs
length_map f [] = refl
length_map f (x ∷ xs) = let h = length_map f xs in omega arith

module _ {J : Type 0} where
  pub is_records : (v : View J) (l : List (Known J)) → v ≡ Records l → v ≡ Records (records_of v)
  is_records v l e = e ∙ ap (λ (u : View J). Records (records_of u)) (sym e)

  -- a feeder took nothing, and a taker stored nothing
  pub is_feeder : (t : TableId) (k : Known J) → k.taken ≡ [] → k.empties ≡ 0 → feeder_known (feeder_of t k) ≡ k
  is_feeder t k a b i = known k.feeders k.takers k.number k.stored (sym a i) (sym b i)

  pub is_taker : (t : TableId) (k : Known J) → k.stored ≡ [] → taker_known (taker_of t k) ≡ k
  is_taker t k a i = known k.feeders k.takers k.number (sym a i) k.taken k.empties

  -- p is the last of ys, and is taken in
  pub gathered : {P : Type 0} (known_for : P → Known J) (xs ys : List P) (p : P) (k : Known J) (theirs old new : View J) (all : List (Known J))
      → ys ≡ xs ++ p ∷ [] → known_for p ≡ k → theirs ≡ one k → new ≡ Records (records_of theirs ++ records_of old) → map known_for ys ++ records_of old ≡ all → map known_for xs ++ records_of new ≡ all
  gathered {P} known_for xs ys p k theirs old new all is same view now before =
      ap (λ (v : View J). map known_for xs ++ records_of v) (now ∙ ap (λ (v : View J). Records (records_of v ++ records_of old)) view)
      ∙ (ap (λ (x : Known J). map known_for xs ++ (x ∷ records_of old)) (sym same) ∙ (sym (map_last known_for xs p (records_of old)) ∙ (ap (λ (l : List P). map known_for l ++ records_of old) (sym is) ∙ before)))

  -- p is the last of the feeders, and takes the others in, and then the takers
  pub all_in : (fs rest : List (OfFeeder J)) (ts : List (OfTaker J)) (p : OfFeeder J) (k : Known J) (last mid fin : View J)
      → fs ≡ rest ++ p ∷ [] → feeder_known p ≡ k → last ≡ one k → mid ≡ Records (map feeder_known rest ++ records_of last) → fin ≡ Records (map taker_known ts ++ records_of mid)
      → fin ≡ Records (all_known fs ts)
  all_in fs rest ts p k last mid fin is same lone e f =
      let stood : records_of mid ≡ map feeder_known fs =
      ap records_of e ∙ (ap (λ (v : View J). map feeder_known rest ++ records_of v) lone ∙ (ap (λ (x : Known J). map feeder_known rest ++ x ∷ []) (sym same) ∙ (sym (map-append feeder_known rest (p ∷ [])) ∙ ap (map feeder_known) (sym is)))) in
      f ∙ ap (λ l. Records (map taker_known ts ++ l)) stood

  pub long : (fs : List (OfFeeder J)) (ts : List (OfTaker J)) → length (all_known fs ts) ≡ length fs + length ts
  long fs ts = let a = length_map feeder_known fs in let b = length_map taker_known ts in let c = length-append (map taker_known ts) (map feeder_known fs) in omega arith

  -- what the first of all passes says, which is a taker
  pub first_says : (id : QueueId) (fs : List (OfFeeder J)) (ts : List (OfTaker J)) → 0 < length ts → All (λ (t : OfTaker J). t.queue ≡ id) ts → All (λ (t : OfTaker J). t.queue.feeders ≤ t.number) ts
      → let k = head (all_known fs ts) in (k.feeders ≡ id.feeders) × (k.takers ≡ id.takers) × (k.feeders ≤ k.number)
  first_says id fs [] some own numbers = absurd (omega arith)
  first_says id fs (t ∷ ts) some own numbers =
      let e = All-head (λ (t : OfTaker J). t.queue ≡ id) t ts own in
      (ap (λ (q : QueueId). q.feeders) e, ap (λ (q : QueueId). q.takers) e, All-head (λ (t : OfTaker J). t.queue.feeders ≤ t.number) t ts numbers)

  pub nothing : (xs : List (Fed J)) → length xs ≡ 0 → xs ≡ []
  nothing [] e = refl
  nothing (x ∷ xs) e = absurd (omega arith)
