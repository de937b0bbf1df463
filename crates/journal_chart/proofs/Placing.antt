-- The spot of an arena after an entry whose moment goes into the column of the last.
use Rattle.std.specs.Prelude.{nat_le, slice_index}
use Rattle.std.specs.Option.{option_map}
use Rattle.std.proofs.Common.{◌≡◌, ℕ, ◌-◌, ◌*◌, Bool, true, false, cond, List, Option, None, Some, refl, ◌∙◌, subst, inl, inr}
use Rattle.std.proofs.lemmas.Bool.{cases_Bool}
use Rattle.market_types.specs.declared.command.Cmd.{Cmd}
use Rattle.market_types.specs.declared.reply.Reply.{Reply}
use Rattle.market_types.specs.State.{Arena, State}
use Rattle.market_types.specs.Allotment.{at_level, is_just}
use Rattle.market_types.specs.Step.{arena_at, step}
use Rattle.market_core.specs.Ahead.{asked_ahead}
use Rattle.journal_chart.specs.declared.row.Known.{Known}
use Rattle.journal_chart.specs.Covering.{exactly}
use Rattle.journal_chart.specs.Rows.{Row}
use Rattle.journal_chart.specs.Numbers.{level_at}
use Rattle.journal_chart.specs.Shares.{shared_at, shared_of}
use Rattle.journal_chart.specs.Spots.{no_spot, place_told, spot_told}
use Rattle.journal_chart.specs.Steps.{closed_row, has_share, is_covered_at, is_divided, is_spared_at, near_row, own_row, place_of, respotted, retold, seat_row, seated, share_of, spot_of, spotted, stands_kept, subject}
use Rattle.journal_chart.proofs.Kept.{Fine, Stands, apart-stands}
use Rattle.journal_chart.proofs.Sharing.{divides, leveled, shared-asked}
use Rattle.journal_chart.proofs.Spared.{spot-new, spot-none}
use Rattle.journal_chart.proofs.Spots.{IsSpot}

-- a place that is told is where the arena stands
told-before : (share : Option ℕ) (before given asked n : ℕ) → place_told share before given asked ≡ Some n → n ≡ before
told-before (Some v) before given asked n is = absurd (cc)
told-before None before given asked n is = go (nat_le (64 * given) asked) is
  where
    go : (small : Bool) → cond small (Some before) None ≡ Some n → n ≡ before
    go true told = cc
    go false told = absurd (cc)

-- what an arena of a level asks for is known as it was, whatever it is allotted
closed-request : (place : ℕ) (s : State) (cmd : Cmd) (reply : Reply) (k : Known) (r other : Row) (allot : ℕ)
    → (closed_row place s cmd reply k r other (Some allot)).1.request ≡ k.request
closed-request place s cmd reply k r other allot =
    elim (cases_Bool (has_share k allot)) [
      | inl had ↦ rw had refl
      | inr lacks ↦ rw lacks refl
    ]

module _ (s t : State) (seat : ℕ) (cmd : Cmd) (reply : Reply) (answered : step s seat cmd ≡ (reply, t)) (fine : Fine t) (place a e : ℕ) (k : Known) (r : Row) where
  -- the row of an arena that stood there
  abbrev row : Row
  row = record r { arena = a; stands = level_at a s }

  -- where the market was asked of it
  asked-spot : Stands s t a → (b : Option Arena) → arena_at a s.arenas ≡ b
      → IsSpot t a e
      (respotted (spot_of t (shared_at t e) k a (option_map (λ (c : Arena). c.level) b))
      (closed_row place t cmd reply k row row (option_map (share_of t (shared_at t e) k a) (option_map (λ (c : Arena). c.level) b)))).1
  asked-spot stands None is = spot-none t a e (respotted (spot_of t (shared_at t e) k a None) (closed_row place t cmd reply k row row None)).1 refl
  asked-spot stands (Some x) is =
      let found : arena_at a t.arenas ≡ Some x = stands.arena ∙ is in
      let p = closed_row place t cmd reply k row row (Some (share_of t (shared_at t e) k a x.level)) in
      let same : p.1.request ≡ k.request = closed-request place t cmd reply k row row (share_of t (shared_at t e) k a x.level) in
      subst (λ n. IsSpot t a e (record p.1 { spot = spot_told (place_of t (shared_at t e) k a x.level) p.1.covered n given asked e })) same
      (go found p.1 (is_divided (shared_at t e) x.level) refl)
    where
      given : ℕ
      given = slice_index (shared_of t).given (x.level - 1)

      asked : ℕ
      asked = slice_index (shared_of t).asked (x.level - 1)

      told : Option ℕ
      told = place_told (exactly k.request given asked) (asked_ahead a (at_level x.level t.arenas)) given asked

      go : arena_at a t.arenas ≡ Some x → (l : Known) (divided : Bool) → is_divided (shared_at t e) x.level ≡ divided
          → IsSpot t a e (record l { spot = spot_told (cond divided told None) l.covered l.request given asked e })
      go found l true some =
          let d = divides t x.level some in
          spot-new t a e given asked x l told found d.low d.few (shared-asked t x.level d.low d.few (leveled t a x fine found))
          (λ before is_. told-before (exactly k.request given asked) (asked_ahead a (at_level x.level t.arenas)) given asked before is_)
      go found l false off = spot-none t a e (record l { spot = no_spot }) refl

  -- after an entry that is none of a seat
  pub near-spot : (kept : List Bool) → (is_just a (subject cmd reply) ≡ false → IsSpot t a e k) → IsSpot t a e (near_row place t cmd reply (shared_at t e) kept row k).1
  near-spot kept right =
      elim (cases_Bool (is_just a (subject cmd reply))) [
        | inl about ↦ rw about (spot-none t a e (spotted no_spot (own_row place t cmd reply (shared_at t e) k row (retold cmd reply k))).1 refl)
        | inr apart ↦
            rw apart
            (elim (cases_Bool (stands_kept kept (level_at a s))) [
              | inl held ↦ rw held (right apart)
              | inr not ↦
                  rw not
                  (elim (cases_Bool (is_covered_at (shared_at t e) k (level_at a s))) [
                    | inl cover ↦ rw cover (right apart)
                    | inr more ↦
                        rw more
                        (elim (cases_Bool (is_spared_at (shared_at t e) k (level_at a s))) [
                          | inl spared ↦ rw spared (right apart)
                          | inr asked ↦ rw asked (asked-spot (apart-stands s t seat a cmd reply answered apart) (arena_at a s.arenas) refl)
                        ])
                  ])
            ])
      ]

  -- after an entry of a seat
  pub seat-spot : (more : Bool) → IsSpot t a e k → IsSpot t a e (seat_row place t cmd reply more (shared_at t e) row k).1
  seat-spot more right =
      elim (cases_Bool (is_just a (subject cmd reply))) [
        | inl about ↦ rw about (spot-none t a e (spotted no_spot (own_row place t cmd reply (shared_at t e) k row (seated place more reply k row))).1 refl)
        | inr apart ↦ rw apart right
      ]
