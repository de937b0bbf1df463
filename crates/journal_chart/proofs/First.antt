-- The first moment of a column after one that was taken: what is told of an arena that the entry is not about needs no look at the market, and
-- nothing is told of one that does not live.
use Rattle.std.specs.Option.{option_map}
use Rattle.std.proofs.Common.{◌≡◌, ℕ, ◌-◌, false, List, Option, None, Some, refl, sym, ap, ◌∙◌, subst, inl, inr}
use Rattle.std.proofs.lemmas.Bool.{cases_Bool}
use Rattle.market_types.specs.declared.command.Cmd.{Cmd}
use Rattle.market_types.specs.declared.reply.ArenaView.{ArenaView}
use Rattle.market_types.specs.declared.reply.Reply.{Reply}
use Rattle.market_types.specs.Claims.{request_of}
use Rattle.market_types.specs.State.{Arena, State}
use Rattle.market_types.specs.Allotment.{active, allotment_of, is_just}
use Rattle.market_types.specs.Step.{arena_at, step, view_of}
use Rattle.journal_chart.specs.declared.row.Known.{Known}
use Rattle.journal_chart.specs.Rows.{Row}
use Rattle.journal_chart.specs.declared.span.Span.{Span}
use Rattle.journal_chart.specs.declared.spot.Spot.{Spot}
use Rattle.journal_chart.specs.Lines.{added}
use Rattle.journal_chart.specs.Numbers.{level_at, view_at}
use Rattle.journal_chart.specs.Shares.{shared_of}
use Rattle.journal_chart.specs.Steps.{first_row, known_in, known_of, nothing_known, seen_row, settled_at, settled_row, share_of, shared_row, stands_after, subject, taken_row, told_row}
use Rattle.journal_chart.proofs.Bounds.{Whole}
use Rattle.journal_chart.proofs.Kept.{Fine, Stands, apart-stands, found-number}
use Rattle.journal_chart.proofs.Near.{share-is}
use Rattle.journal_chart.proofs.Spared.{spot-none}
use Rattle.journal_chart.proofs.Spots.{IsSpot, bare, bared, known-bare, known-unspotted}
use Rattle.journal_chart.proofs.Thinned.{added-none}

module _ (whole : Whole) (place : ℕ) (s t : State) (seat : ℕ) (cmd : Cmd) (reply : Reply) (answered : step s seat cmd ≡ (reply, t)) (fine' : Fine t) (a : ℕ)
    (stood : stands_after a (level_at a s) cmd reply ≡ level_at a t) (r : Row) (arena_is : r.arena ≡ a) (stands_is : r.stands ≡ level_at a s) where
  -- of an arena that stands where it stood this is known
  record Tells (k : Known) : Type 0 where
    tells : (y : Arena) → arena_at a t.arenas ≡ Some y → (request_of y.claim ≡ k.request) × (active t y.number ≡ k.active)
    nowhere : arena_at a t.arenas ≡ None → bare k ≡ nothing_known
    level : level_at a t ≡ level_at a s

  -- its allotment is told
  told-first : (k : Known) (y : Arena) (v : ℕ) → Tells k → arena_at a t.arenas ≡ Some y → allotment_of t y.number ≡ v
      → bared (told_row place t cmd reply k r (Some v)) ≡ seen_row place t cmd reply r
  told-first k y v h found is =
      let n = h.tells y found in
      let stands : r.stands ≡ stands_after r.arena r.stands cmd reply =
      stands_is ∙ sym h.level ∙ sym stood ∙ (λ i. stands_after (sym arena_is i) (sym stands_is i) cmd reply) in
      let view : Some (view_of t y) ≡ view_at r.arena t = sym (ap (λ o. option_map (view_of t) o) (ap (λ m. arena_at m t.arenas) arena_is ∙ found)) in
      let request = (λ i. Some (sym n.0 i)) ∙ ap (λ o. option_map (λ (w : ArenaView). w.request) o) view in
      let allot = (λ i. Some (sym is i)) ∙ ap (λ o. option_map (λ (w : ArenaView). w.allot) o) view in
      let active_ = (λ i. Some (sym n.1 i)) ∙ ap (λ o. option_map (λ (w : ArenaView). w.active) o) view in
      let recall = (λ i. Some (sym n.1 i - sym is i)) ∙ ap (λ o. option_map (λ (w : ArenaView). w.recall) o) view in
      let hire = (λ i. Some (sym is i - sym n.1 i)) ∙ ap (λ o. option_map (λ (w : ArenaView). w.hire) o) view in
      let same : shared_row place k v r ≡ taken_row place t cmd reply r =
      λ i. record {
        arena = r.arena;
        stands = stands i;
        level = added place (stands i) r.level;
        request = added place (request i) r.request;
        allot = added place (allot i) r.allot;
        active = added place (active_ i) r.active;
        recall = added place (recall i) r.recall;
        hire = added place (hire i) r.hire;
      } in
      (λ i. (same i, known_in place (sym n.0 i) (sym n.1 i) (same i))) ∙ (λ i. (taken_row place t cmd reply r, known_of place (view i) (taken_row place t cmd reply r)))

  -- nothing is told of one that does not live
  untold-first : (k : Known) → Tells k → arena_at a t.arenas ≡ None → bared (r, k) ≡ seen_row place t cmd reply r
  untold-first k h none =
      let view : None ≡ view_at r.arena t = sym (ap (λ o. option_map (view_of t) o) (ap (λ m. arena_at m t.arenas) arena_is ∙ none)) in
      let nowhere : level_at a t ≡ None = ap (λ o. option_map (λ (b : Arena). b.level) o) none in
      let was : r.stands ≡ None = stands_is ∙ sym h.level ∙ nowhere in
      let now : None ≡ stands_after r.arena r.stands cmd reply =
      sym nowhere ∙ sym stood ∙ (λ i. stands_after (sym arena_is i) (sym stands_is i) cmd reply) in
      let line : (number : ArenaView → ℕ) (columns : List (Option Span)) → columns ≡ added place (option_map number (view_at r.arena t)) columns =
      λ number columns. sym (added-none place columns) ∙ ap (λ o. added place (option_map number o) columns) view in
      let level : r.level ≡ added place (stands_after r.arena r.stands cmd reply) r.level = sym (added-none place r.level) ∙ ap (λ o. added place o r.level) now in
      let same : r ≡ taken_row place t cmd reply r =
      λ i. record {
        arena = r.arena;
        stands = (was ∙ now) i;
        level = level i;
        request = line (λ (w : ArenaView). w.request) r.request i;
        allot = line (λ (w : ArenaView). w.allot) r.allot i;
        active = line (λ (w : ArenaView). w.active) r.active i;
        recall = line (λ (w : ArenaView). w.recall) r.recall i;
        hire = line (λ (w : ArenaView). w.hire) r.hire i;
      } in
      let known : bare k ≡ known_of place (view_at r.arena t) (taken_row place t cmd reply r) =
      h.nowhere none ∙ ap (λ o. known_of place o (taken_row place t cmd reply r)) view in
      λ i. (same i, known i)

  settled-first : (k : Known) → Tells k → bared (settled_row place t cmd reply (shared_of t) k r) ≡ seen_row place t cmd reply r
  settled-first k h =
      (λ i. bared (settled_at place t cmd reply (shared_of t) k r ((stands_is ∙ sym h.level) i))) ∙ at_arena (arena_at a t.arenas) refl
    where
      at_arena : (o : Option Arena) → arena_at a t.arenas ≡ o
          → bared (settled_at place t cmd reply (shared_of t) k r (option_map (λ (b : Arena). b.level) o)) ≡ seen_row place t cmd reply r
      at_arena None none = untold-first k h none
      at_arena (Some y) found =
          told-first k y (share_of t (shared_of t) k r.arena y.level) h found
          (share-is whole t a y k fine' found (h.tells y found).0 ∙ ap (λ m. share_of t (shared_of t) k m y.level) (sym arena_is))

  -- whatever was the column of the moment before
  module _ (p : ℕ) (before : Row) (o : Spot) where
    abbrev was : Known
    was = record (known_of p (view_at a s) before) { spot = o }

    pub first-row : bared (first_row place t cmd reply (shared_of t) r was) ≡ seen_row place t cmd reply r
    first-row =
        elim (cases_Bool (is_just r.arena (subject cmd reply))) [
          | inl about ↦ rw about (λ i. (taken_row place t cmd reply r, known-bare place (view_at r.arena t) (taken_row place t cmd reply r) i))
          | inr apart ↦
              let apart_ : is_just a (subject cmd reply) ≡ false = ap (λ n. is_just n (subject cmd reply)) (sym arena_is) ∙ apart in
              let stands : Stands s t a = apart-stands s t seat a cmd reply answered apart_ in
              let tells : Tells was =
              record {
                tells = λ y found.
                    let is : arena_at a s.arenas ≡ Some y = sym stands.arena ∙ found in
                    let known : known_of p (Some (view_of s y)) before ≡ known_of p (view_at a s) before = ap (λ b. known_of p (option_map (view_of s) b) before) (sym is) in
                    let number : y.number ≡ a = found-number a s.arenas y is in (
                      ap (λ (k : Known). k.request) known,
                      ap (active t) number ∙ stands.active ∙ ap (active s) (sym number) ∙ ap (λ (k : Known). k.active) known,
                    );
                nowhere = λ none. known-bare p (view_at a s) before ∙ ap (λ b. known_of p (option_map (view_of s) b) before) (sym stands.arena ∙ none);
                level = ap (λ b. option_map (λ (c : Arena). c.level) b) stands.arena;
              } in
              rw apart (settled-first was tells)
        ]

    -- no spot is known then, but of an arena that does not live
    settled-spot : Stands s t a → (b : Option Arena) → arena_at a s.arenas ≡ b → IsSpot t a 0 (settled_at place t cmd reply (shared_of t) was r (option_map (λ (c : Arena). c.level) b)).1
    settled-spot stands None is = λ told little x found. let bad : None ≡ Some x = sym (stands.arena ∙ is) ∙ found in absurd (cc)
    settled-spot stands (Some x) is = spot-none t a 0 (settled_at place t cmd reply (shared_of t) was r (Some x.level)).1 refl

    pub first-spot : IsSpot t a 0 (first_row place t cmd reply (shared_of t) r was).1
    first-spot =
        elim (cases_Bool (is_just r.arena (subject cmd reply))) [
          | inl about ↦ rw about (spot-none t a 0 (known_of place (view_at r.arena t) (taken_row place t cmd reply r)) (known-unspotted place (view_at r.arena t) (taken_row place t cmd reply r)))
          | inr apart ↦
              let apart_ : is_just a (subject cmd reply) ≡ false = ap (λ n. is_just n (subject cmd reply)) (sym arena_is) ∙ apart in
              let stands : Stands s t a = apart-stands s t seat a cmd reply answered apart_ in
              rw apart
              (subst (λ l. IsSpot t a 0 (settled_at place t cmd reply (shared_of t) was r l).1) (sym stands_is) (settled-spot stands (arena_at a s.arenas) refl))
        ]
