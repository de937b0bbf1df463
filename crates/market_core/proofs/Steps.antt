-- What a command's step gives, by what is found on the way, and what a market keeps through it.
use Rattle.std.proofs.Common.{◌≡◌, ℕ, ◌+◌, ◌<◌, ◌≤◌, cond, eqb, not, List, ◌∷◌, Option, Some, None, Result, Ok, Err, arith}
use Rattle.std.specs.Prelude.{IsSome, IfOk, OnErr}
use Rattle.std.specs.List.{All}
use Rattle.std.proofs.lemmas.Bool.{cond_both}
use Rattle.std.proofs.lemmas.List.Elements.{All-cons, All-weaker, All-filter, All-map}
use Rattle.market_types.specs.State.{Claim, Arena, State}
use Rattle.market_types.specs.Step.{arena_at, with_claim, without, moved}
use Rattle.market_types.specs.declared.reply.Fault.{Fault}
use Rattle.market_core.specs.Sound.{IsSound}
use Rattle.market_core.proofs.Numbers.{All-found}

-- ---- what holds of each arena

pub All-with_claim : (P : Arena → Type 0) (n : ℕ) (c : Claim) (xs : List Arena) → ((b : Arena) → P b → P (record b { claim = c })) → All P xs → All P (with_claim n c xs)
All-with_claim P n c xs keep h =
    let f : Arena → Arena = λ (b : Arena). cond (eqb b.number n) (record b { claim = c }) b in
    All-map P f xs (All-weaker P (λ (b : Arena). P (f b)) (λ b k. cond_both (eqb b.number n) (record b { claim = c }) b P (λ _. keep b k) (λ _. k)) xs h)

pub All-without : (P : Arena → Type 0) (n : ℕ) (xs : List Arena) → All P xs → All P (without n xs)
All-without P n xs h = All-filter (λ (b : Arena). not (eqb b.number n)) P xs h

-- ---- what a market keeps

pub sound-claimed : (s : State) (n : ℕ) (c : Claim) → IsSound s → IsSound (record s { arenas = with_claim n c s.arenas })
sound-claimed s n c h =
    record {
      base = h.base;
      hard = h.hard;
      seats = h.seats;
      levels = h.levels;
      numbered = All-with_claim (λ (a : Arena). a.number < s.next_arena) n c s.arenas (λ b k. k) h.numbered;
      stamped = All-with_claim (λ (a : Arena). a.stamp < s.next_stamp) n c s.arenas (λ b k. k) h.stamped;
      leveled = All-with_claim (λ (a : Arena). (1 ≤ a.level) × (a.level ≤ s.levels)) n c s.arenas (λ b k. k) h.leveled;
    }

-- whether the change was made or refused
pub sound-changed : (s : State) (n : ℕ) (arenas : List Arena) (r : Result Claim Fault) → IsSound s
    → IfOk r (λ claim. arenas ≡ with_claim n claim s.arenas) → OnErr r (arenas ≡ s.arenas) → IsSound (record s { arenas = arenas })
sound-changed s n arenas (Ok claim) h next same = rw next (sound-claimed s n claim h)
sound-changed s n arenas (Err fault) h next same = rw same h

pub sound-removed : (s : State) (n : ℕ) → IsSound s → IsSound (record s { arenas = without n s.arenas })
sound-removed s n h =
    record {
      base = h.base;
      hard = h.hard;
      seats = h.seats;
      levels = h.levels;
      numbered = All-without (λ (a : Arena). a.number < s.next_arena) n s.arenas h.numbered;
      stamped = All-without (λ (a : Arena). a.stamp < s.next_stamp) n s.arenas h.stamped;
      leveled = All-without (λ (a : Arena). (1 ≤ a.level) × (a.level ≤ s.levels)) n s.arenas h.leveled;
    }

pub sound-moved : (s : State) (row : Arena) (level : ℕ) → IsSound s → row.number < s.next_arena → (1 ≤ level) × (level ≤ s.levels)
    → IsSound (record s { arenas = record row { stamp = s.next_stamp; level = level } ∷ without row.number s.arenas; next_stamp = s.next_stamp + 1 })
sound-moved s row level h number in_levels =
    let a : Arena = record row { stamp = s.next_stamp; level = level } in
    let rest = without row.number s.arenas in
    record {
      base = h.base;
      hard = h.hard;
      seats = h.seats;
      levels = h.levels;
      numbered = All-cons (λ (b : Arena). b.number < s.next_arena) a rest number (All-without (λ (b : Arena). b.number < s.next_arena) row.number s.arenas h.numbered);
      stamped = All-cons (λ (b : Arena). b.stamp < s.next_stamp + 1) a rest (omega arith)
          (All-weaker (λ (b : Arena). b.stamp < s.next_stamp) (λ (b : Arena). b.stamp < s.next_stamp + 1) (λ b k. omega arith) rest (All-without (λ (b : Arena). b.stamp < s.next_stamp) row.number s.arenas h.stamped));
      leveled = All-cons (λ (b : Arena). (1 ≤ b.level) × (b.level ≤ s.levels)) a rest in_levels (All-without (λ (b : Arena). (1 ≤ b.level) × (b.level ≤ s.levels)) row.number s.arenas h.leveled);
    }

pub sound-promoted : (s : State) (n level : ℕ) (arenas : List Arena) (o : Option Arena) → IsSound s → arena_at n s.arenas ≡ o → IsSome o → (1 ≤ level) × (level ≤ s.levels)
    → ((row : Arena) → arena_at n s.arenas ≡ Some row → arenas ≡ record row { stamp = s.next_stamp; level = level } ∷ without row.number s.arenas)
    → IsSound (record s { arenas = arenas; next_stamp = s.next_stamp + 1 })
sound-promoted s n level arenas None h found there in_levels moved = cc
sound-promoted s n level arenas (Some row) h found there in_levels moved =
    rw (moved row found) (sound-moved s row level h (All-found (λ (a : Arena). a.number < s.next_arena) n s.arenas row found h.numbered) in_levels)
