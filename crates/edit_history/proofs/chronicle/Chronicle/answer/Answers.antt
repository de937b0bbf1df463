use Rattle.std.specs.Prelude.{vec_capacity, vec_len}
use Rattle.std.proofs.Common.{◌≡◌, ℕ, ◌+◌, ◌<◌, ◌≤◌, ◌++◌, ◌∷◌, [], List, length, length-append, true, false, refl, ap, sym, ◌∙◌, subst, arith}
use Rattle.market_types.specs.declared.reply.Entry.{Entry}
use Rattle.market_types.specs.declared.reply.Reply.{Reply}
use Rattle.market_types.specs.State.{State}
use Rattle.market_types.specs.Step.{Outcome, place_of, step}
use Rattle.market_types.specs.Replies.{is_listed}
use Rattle.edit_history.specs.Chronicled.{Chronicled, entry, market_of, most_forgotten}
use Rattle.edit_history.specs.Kept.{IsKept}
use Rattle.edit_history.specs.Places.{takes, taken, placed, LacksPlaces}
use Rattle.market_core.proofs.Moved.{steps}
use Rattle.edit_history.proofs.Answering.{takes-none, lists-none, log-longer, log-forgot, takes-is, seen, lacks, lacks-none, at-full, at-memory, at-reply}
use Rattle.edit_history.proofs.KeptAfter.{kept-seats, kept-some, kept-room, kept-same, kept-more, kept-none, kept-forget}
use Rattle.edit_history.proofs.chronicle.Chronicle.answer.Goals.{After-placed-placed, After-reserve, In-Ok-apply}
use Rattle.edit_history.proofs.chronicle.Chronicle.answer.Goals as goal

-- ---- what several goals share

-- the market has the seat
seated : (c : After-placed-placed) → c.args.seat < length c.self.inside.market.seats
seated c =
    let small : c.args.seat < length c.self.inside.opened.value.seats = subst (λ (d : Chronicled). c.args.seat < length d.start.seats) (sym c.self.view_is) c.requires.seat in
    let long = kept-seats _ _ _ _ _ _ _ c.self.invariant in
    omega arith

-- a chronicle asked to keep nothing has kept nothing
forgot-all : (c : After-placed-placed) → c.args.keeps ≡ false → c.self.inside.from ≡ length (c.self.inside.past ++ c.self.inside.recent.items)
forgot-all c keeps = subst (λ (d : Chronicled). d.from ≡ length d.log) (sym c.self.view_is) (c.requires.none keeps)

-- what contracts saw of the chronicle
abbrev was : After-reserve → Chronicled
was c = record { start = c.self.inside.opened.value; market = c.self.inside.market; log = c.self.inside.past ++ c.self.inside.recent.items; places = c.self.inside.places; from = c.self.inside.from; keeping = c.self.inside.keeping }

-- the places that the call takes were free
places-free : (c : After-reserve) → c.free.result + taken (was c) ≡ c.self.inside.places
places-free c = subst (λ (d : Chronicled). c.free.result + taken d ≡ d.places) (sym c.self.view_is) c.free.ensures.exact

enough : (c : After-reserve) → LacksPlaces (was c) c.args.seat c.args.cmd → ⊥
enough c = lacks-none (was c) _ _ _ _ (places-free c) (takes-is _ _ c.args.seat c.args.cmd _ _ c.self.invariant.market_is c.arena_of.ensures.exact c.takes_of-takes.ensures.exact) c.if-free-takes.false

fits : (c : After-reserve) → length c.self.inside.recent.items + placed c.self.inside.market + takes (place_of c.self.inside.market c.args.seat) c.args.cmd ≤ c.self.inside.places
fits c =
    let needed : c.takes_of-takes.result ≡ takes (place_of c.self.inside.market c.args.seat) c.args.cmd = takes-is c.self.inside.market _ _ _ _ _ refl c.arena_of.ensures.exact c.takes_of-takes.ensures.exact in
    kept-room _ _ _ _ _ _ _ c.self.invariant c.free.result _ (places-free c) (let few = c.if-free-takes.false in omega arith)

-- what the chronicle keeps with the entry of the call
kept : (c : In-Ok-apply) (r : Reply) (recent : List Entry) (capacity : ℕ) → r ≡ (step c.self.inside.market c.args.seat c.args.cmd).0 → recent ≡ c.self.inside.recent.items ++ entry c.args.seat c.args.cmd r ∷ []
    → capacity ≡ vec_capacity c.reserve.new.self → c.args.seat < length c.self.inside.market.seats
    → length c.self.inside.recent.items + placed c.self.inside.market + takes (place_of c.self.inside.market c.args.seat) c.args.cmd ≤ c.self.inside.places
    → IsKept c.self.inside.opened.value c.apply.new.self c.self.inside.past recent c.self.inside.from c.self.inside.places capacity
kept c r recent capacity is more same small room =
    let needed : c.takes_of-takes.result ≡ takes (place_of c.self.inside.market c.args.seat) c.args.cmd = takes-is c.self.inside.market _ _ _ _ _ refl c.arena_of.ensures.exact c.takes_of-takes.ensures.exact in
    let were : c.placed-placed.result ≡ placed c.self.inside.market = c.placed-placed.ensures.exact in
    let before : vec_len c.self.inside.recent ≡ length c.self.inside.recent.items = c.self.inside.recent.ok.0 in
    let ok = c.in-Ok.ensures.ok in
    let len = c.in-Ok.ensures.len in
    kept-more _ _ _ _ _ _ _ c.self.invariant c.args.seat c.args.cmd r recent c.apply.new.self capacity small is c.in-Ok-apply.ensures.next more room (omega arith) c.command_holds_its_numbers.ensures

-- ---- the answers

pub arena_of-requires : goal.arena_of-requires
arena_of-requires c = record { seat = seated (goal.at.arena_of-requires c).After-placed-placed }

pub returns-then-free-takes-clause-answered : goal.returns-then-free-takes-clause-answered
returns-then-free-takes-clause-answered c =
    at-full _ _ _ (lacks c.args.self.now _ _ _ _ c.free.ensures.exact (takes-is _ _ c.args.seat c.args.cmd _ _ (c.self.invariant.market_is ∙ ap market_of c.self.view_is) c.arena_of.ensures.exact c.takes_of-takes.ensures.exact) c.if-free-takes.true)

pub returns-then-free-takes-clause-kept : goal.returns-then-free-takes-clause-kept
returns-then-free-takes-clause-kept c = λ _. refl

pub returns-then-free-takes-clause-forgotten : goal.returns-then-free-takes-clause-forgotten
returns-then-free-takes-clause-forgotten c = c.requires.none

pub invariant_of-self : goal.invariant_of-self
invariant_of-self c = kept-same _ _ _ _ _ _ _ c.self.invariant _ _ _ refl c.in_default.ensures.items c.in_default.ensures.capacity

pub returns-in_default-clause-answered : goal.returns-in_default-clause-answered
returns-in_default-clause-answered c =
    let at = (goal.at.returns-in_default-clause-answered c).After-reserve in
    seen _ _ _ _ _ _ c.self.view_is (at-memory _ _ _ _ _ (ap (λ (l : List Entry). c.self.inside.past ++ l) c.in_default.ensures.items) refl (enough at) (λ none.
    let needed : c.takes_of-takes.result ≡ takes (place_of (market_of (was at)) c.args.seat) c.args.cmd = takes-is _ _ c.args.seat c.args.cmd _ _ c.self.invariant.market_is c.arena_of.ensures.exact c.takes_of-takes.ensures.exact in
    let were = c.placed-placed.ensures.exact in
    let before = c.self.inside.recent.ok.0 in
    omega (arith, c.in_default.ensures.full)))

pub returns-in_default-clause-kept : goal.returns-in_default-clause-kept
returns-in_default-clause-kept c = λ _. ap (λ (d : Chronicled). d.from) c.self.view_is

pub returns-in_default-clause-forgotten : goal.returns-in_default-clause-forgotten
returns-in_default-clause-forgotten c =
    λ keeps. forgot-all (goal.at.returns-in_default-clause-forgotten c).After-placed-placed keeps ∙ ap (λ (l : List Entry). length (c.self.inside.past ++ l)) (sym c.in_default.ensures.items)

pub apply-requires : goal.apply-requires
apply-requires c = record { seat = seated (goal.at.apply-requires c).After-placed-placed }

pub invariant_of-self-in_default-apply : goal.invariant_of-self-in_default-apply
invariant_of-self-in_default-apply c =
    kept-same _ _ _ _ _ _ _ c.self.invariant _ _ _ c.in_default-apply.ensures.unchanged c.in-Ok.ensures.items c.in-Ok.ensures.capacity

pub returns-in_default-apply-clause-answered : goal.returns-in_default-apply-clause-answered
returns-in_default-apply-clause-answered c =
    let at = (goal.at.returns-in_default-apply-clause-answered c).After-reserve in
    seen _ _ _ _ _ _ c.self.view_is (at-memory _ _ _ _ _ (ap (λ (l : List Entry). c.self.inside.past ++ l) c.in-Ok.ensures.items) c.in_default-apply.ensures.unchanged (enough at) (λ none.
    let failed : false ≡ true = c.in_default-apply.ensures.no_memory (takes-none _ _ none) in cc))

pub returns-in_default-apply-clause-kept : goal.returns-in_default-apply-clause-kept
returns-in_default-apply-clause-kept c = λ _. ap (λ (d : Chronicled). d.from) c.self.view_is

pub returns-in_default-apply-clause-forgotten : goal.returns-in_default-apply-clause-forgotten
returns-in_default-apply-clause-forgotten c =
    λ keeps. forgot-all (goal.at.returns-in_default-apply-clause-forgotten c).After-placed-placed keeps ∙ ap (λ (l : List Entry). length (c.self.inside.past ++ l)) (sym c.in-Ok.ensures.items)

pub invariant_of-self-then-not-keeps : goal.invariant_of-self-then-not-keeps
invariant_of-self-then-not-keeps c =
    let at = goal.at.invariant_of-self-then-not-keeps c in
    let past : List Entry = c.self.inside.past in
    let recent : List Entry = c.self.inside.recent.items in
    let from : ℕ = c.self.inside.from in
    let e : Entry = entry c.args.seat c.args.cmd c.in-Ok-apply.reply in
    let more = kept at.In-Ok-apply _ (recent ++ e ∷ []) (vec_capacity c.reserve.new.self) c.in-Ok-apply.ensures.reply refl refl (seated at.After-placed-placed) (fits at.After-reserve) in
    let none : recent ≡ [] = kept-none _ _ _ _ _ _ _ c.self.invariant (forgot-all at.After-placed-placed c.if-not-keeps.true) in
    let few : from < most_forgotten = subst (λ (d : Chronicled). d.from < most_forgotten) (sym c.self.view_is) (c.requires.countable c.if-not-keeps.true) in
    let pushed : c.push.new.self ≡ past ++ e ∷ [] = c.push.ensures in
    let is : c.push.new.self ≡ past ++ (recent ++ e ∷ []) = pushed ∙ ap (λ (l : List Entry). past ++ (l ++ e ∷ [])) (sym none) in
    let one : from + 1 ≡ from + length (recent ++ e ∷ []) = ap (λ (l : List Entry). from + length (l ++ e ∷ [])) (sym none) in
    kept-forget _ _ _ _ _ _ _ more _ _ _ _ is (c.in-Ok.ensures.items ∙ none) one (omega (arith, few, c.self.invariant.few)) (omega (arith, more.memory))

pub returns-then-not-keeps-clause-answered : goal.returns-then-not-keeps-clause-answered
returns-then-not-keeps-clause-answered c =
    let at = goal.at.returns-then-not-keeps-clause-answered c in
    let none : c.self.inside.recent.items ≡ [] = kept-none _ _ _ _ _ _ _ c.self.invariant (forgot-all at.After-placed-placed c.if-not-keeps.true) in
    seen _ _ _ _ _ _ c.self.view_is (at-reply _ _ _ _ _ _ _ (c.in-Ok-apply.ensures.reply ∙ ap (λ (s : State). (step s c.args.seat c.args.cmd).0) c.self.invariant.market_is) c.in-Ok-apply.ensures.next (log-forgot _ _ _ _ _ none c.push.ensures c.in-Ok.ensures.items) (enough at.After-reserve))

pub returns-then-not-keeps-clause-kept : goal.returns-then-not-keeps-clause-kept
returns-then-not-keeps-clause-kept c = λ keeps. absurd (let other : true ≡ false = sym keeps ∙ c.if-not-keeps.true in cc)

pub returns-then-not-keeps-clause-forgotten : goal.returns-then-not-keeps-clause-forgotten
returns-then-not-keeps-clause-forgotten c =
    let at = goal.at.returns-then-not-keeps-clause-forgotten c in
    let all = forgot-all at.After-placed-placed c.if-not-keeps.true in
    let none : c.self.inside.recent.items ≡ [] = kept-none _ _ _ _ _ _ _ c.self.invariant all in
    λ _. let log = log-forgot _ _ _ _ _ none c.push.ensures c.in-Ok.ensures.items in
    ap (λ (n : ℕ). n + 1) all ∙ sym (ap length log ∙ length-append (c.self.inside.past ++ c.self.inside.recent.items) _)

pub invariant_of-self-in_default-copied : goal.invariant_of-self-in_default-copied
invariant_of-self-in_default-copied c =
    let market : State = c.self.inside.market in
    let listed : is_listed (step market c.args.seat c.args.cmd).0 ≡ true = ap is_listed (sym c.in-Ok-apply.ensures.reply) ∙ c.in_default-copied.ensures.lists_alone in
    let same : c.apply.new.self ≡ market = c.in-Ok-apply.ensures.next ∙ ap (λ (o : Outcome). o.1) ((steps market c.args.seat c.args.cmd).listed listed) in
    kept-same _ _ _ _ _ _ _ c.self.invariant c.apply.new.self c.reserve.new.self.items (vec_capacity c.reserve.new.self) same c.in-Ok.ensures.items c.in-Ok.ensures.capacity

pub returns-in_default-copied-clause-answered : goal.returns-in_default-copied-clause-answered
returns-in_default-copied-clause-answered c =
    let at = (goal.at.returns-in_default-copied-clause-answered c).After-reserve in
    let market : State = c.self.inside.market in
    let listed : is_listed (step market c.args.seat c.args.cmd).0 ≡ true = ap is_listed (sym c.in-Ok-apply.ensures.reply) ∙ c.in_default-copied.ensures.lists_alone in
    let same : c.apply.new.self ≡ market = c.in-Ok-apply.ensures.next ∙ ap (λ (o : Outcome). o.1) ((steps market c.args.seat c.args.cmd).listed listed) in
    let due : c.in-Ok-apply.reply ≡ (step (market_of (was at)) c.args.seat c.args.cmd).0 = c.in-Ok-apply.ensures.reply ∙ ap (λ (s : State). (step s c.args.seat c.args.cmd).0) c.self.invariant.market_is in
    seen _ _ _ _ _ _ c.self.view_is (at-memory _ _ _ _ _ (ap (λ (l : List Entry). c.self.inside.past ++ l) c.in-Ok.ensures.items) same (enough at) (λ none.
    lists-none _ c.args.cmd _ none (steps (market_of (was at)) c.args.seat c.args.cmd).answers (ap is_listed (sym due) ∙ c.in_default-copied.ensures.lists_alone)))

pub returns-in_default-copied-clause-kept : goal.returns-in_default-copied-clause-kept
returns-in_default-copied-clause-kept c = λ _. ap (λ (d : Chronicled). d.from) c.self.view_is

pub returns-in_default-copied-clause-forgotten : goal.returns-in_default-copied-clause-forgotten
returns-in_default-copied-clause-forgotten c =
    λ keeps. forgot-all (goal.at.returns-in_default-copied-clause-forgotten c).After-placed-placed keeps ∙ ap (λ (l : List Entry). length (c.self.inside.past ++ l)) (sym c.in-Ok.ensures.items)

pub push_reserved-requires : goal.push_reserved-requires
push_reserved-requires c =
    let some = kept-some _ _ _ _ _ _ _ c.self.invariant c.args.seat c.args.cmd in
    let needed : c.takes_of-takes.result ≡ takes (place_of c.self.inside.market c.args.seat) c.args.cmd = takes-is c.self.inside.market _ _ _ _ _ refl c.arena_of.ensures.exact c.takes_of-takes.ensures.exact in
    let were = c.placed-placed.ensures.exact in
    let ok = c.in-Ok.ensures.ok in
    let len = c.in-Ok.ensures.len in
    omega arith

pub invariant_of-self-2 : goal.invariant_of-self-2
invariant_of-self-2 c =
    let at = goal.at.invariant_of-self-2 c in
    let its : c.in-Ok-copied.kept ≡ (step c.self.inside.market c.args.seat c.args.cmd).0 = c.in-Ok-copied.ensures.exact ∙ c.in-Ok-apply.ensures.reply in
    let items = c.push_reserved.ensures.items ∙ ap (λ (l : List Entry). l ++ entry c.args.seat c.args.cmd c.in-Ok-copied.kept ∷ []) c.in-Ok.ensures.items in
    kept at.In-Ok-apply c.in-Ok-copied.kept c.push_reserved.new.self.items (vec_capacity c.push_reserved.new.self) its items c.push_reserved.ensures.capacity (seated at.After-placed-placed) (fits at.After-reserve)

pub returns-clause-answered : goal.returns-clause-answered
returns-clause-answered c =
    let at = (goal.at.returns-clause-answered c).After-reserve in
    let items = c.push_reserved.ensures.items ∙ ap (λ (l : List Entry). l ++ entry c.args.seat c.args.cmd c.in-Ok-copied.kept ∷ []) c.in-Ok.ensures.items in
    let log = log-longer c.self.inside.past c.self.inside.recent.items _ _ items ∙ ap (λ (r : Reply). (c.self.inside.past ++ c.self.inside.recent.items) ++ entry c.args.seat c.args.cmd r ∷ []) c.in-Ok-copied.ensures.exact in
    seen _ _ _ _ _ _ c.self.view_is (at-reply _ _ _ _ _ _ _ (c.in-Ok-apply.ensures.reply ∙ ap (λ (s : State). (step s c.args.seat c.args.cmd).0) c.self.invariant.market_is) c.in-Ok-apply.ensures.next log (enough at))

pub returns-clause-kept : goal.returns-clause-kept
returns-clause-kept c = λ _. ap (λ (d : Chronicled). d.from) c.self.view_is

pub returns-clause-forgotten : goal.returns-clause-forgotten
returns-clause-forgotten c = λ forgets. absurd (let other : true ≡ false = sym c.if-not-keeps.false ∙ forgets in cc)
