-- Rows at the end of a chart whose arenas do not live are left as they are by a moment that is about none of them.
use Rattle.std.specs.List.{All}
use Rattle.std.proofs.Common.{◌≡◌, ℕ, zero, suc, ◌+◌, ◌<◌, ◌≤◌, Bool, List, length, drop, get_or, refl, sym, ap, ◌∙◌, subst, arith}
use Rattle.std.proofs.lemmas.List.{get_or-drop, length-drop}
use Rattle.market_types.specs.State.{State}
use Rattle.market_types.specs.declared.command.Cmd.{Cmd}
use Rattle.market_types.specs.declared.reply.Reply.{Reply}
use Rattle.journal_chart.specs.Rows.{Row}
use Rattle.journal_chart.specs.declared.row.Known.{Known}
use Rattle.journal_chart.specs.declared.resting.Resting.{Resting}
use Rattle.journal_chart.specs.Resting.{AreLeft, AreResting, IsLeft, IsResting}
use Rattle.journal_chart.specs.Shares.{Shared}
use Rattle.journal_chart.specs.Steps.{first_row, near_row, pairwise, seat_row, subject}
use Rattle.journal_chart.proofs.Pairs.{Paired, get-any, paired-part}

near-left : (place : ℕ) (s : State) (cmd : Cmd) (reply : Reply) (now : Shared) (kept : List Bool) (r : Row) → IsLeft (subject cmd reply) r
    → (k : Known) → near_row place s cmd reply now kept r k ≡ (r, k)
near-left place s cmd reply now kept r h k = rw (h.other, h.nowhere) refl

seat-left : (place : ℕ) (s : State) (cmd : Cmd) (reply : Reply) (more : Bool) (now : Shared) (r : Row) → IsLeft (subject cmd reply) r
    → (k : Known) → seat_row place s cmd reply more now r k ≡ (r, k)
seat-left place s cmd reply more now r h k = rw h.other refl

pub near-rest : (place : ℕ) (s : State) (cmd : Cmd) (reply : Reply) (now : Shared) (kept : List Bool) (rows : List Row) → All (IsLeft (subject cmd reply)) rows
    → All (λ (r : Row). (k : Known) → near_row place s cmd reply now kept r k ≡ (r, k)) rows
near-rest place s cmd reply now kept rows h i d inside = near-left place s cmd reply now kept (get_or rows i d) (h i d inside)

pub seat-rest : (place : ℕ) (s : State) (cmd : Cmd) (reply : Reply) (more : Bool) (now : Shared) (rows : List Row) → All (IsLeft (subject cmd reply)) rows
    → All (λ (r : Row). (k : Known) → seat_row place s cmd reply more now r k ≡ (r, k)) rows
seat-rest place s cmd reply more now rows h i d inside = seat-left place s cmd reply more now (get_or rows i d) (h i d inside)

first-left : (place : ℕ) (s : State) (cmd : Cmd) (reply : Reply) (now : Shared) (r : Row) → IsLeft (subject cmd reply) r
    → (k : Known) → first_row place s cmd reply now r k ≡ (r, k)
first-left place s cmd reply now r h k = rw (h.other, h.nowhere) refl

first-rest : (place : ℕ) (s : State) (cmd : Cmd) (reply : Reply) (now : Shared) (rows : List Row) → All (IsLeft (subject cmd reply)) rows
    → All (λ (r : Row). (k : Known) → first_row place s cmd reply now r k ≡ (r, k)) rows
first-rest place s cmd reply now rows h i d inside = first-left place s cmd reply now (get_or rows i d) (h i d inside)

-- what becomes of all rows, of which those from one on are left
pub first-made : (place : ℕ) (s : State) (cmd : Cmd) (reply : Reply) (now : Shared) (rows0 : List Row) (ks0 : List Known) (rows : List Row) (ks : List Known) (i count : ℕ)
    → Paired (first_row place s cmd reply now) rows0 ks0 rows ks i → count ≡ i → AreLeft count (subject cmd reply) rows0
    → (rows ≡ (pairwise (first_row place s cmd reply now) rows0 ks0).0) × (ks ≡ (pairwise (first_row place s cmd reply now) rows0 ks0).1)
first-made place s cmd reply now rows0 ks0 rows ks i count h all left =
    paired-part (first_row place s cmd reply now) rows0 ks0 rows ks i h
    (first-rest place s cmd reply now (drop i rows0) (subst (λ n. AreLeft n (subject cmd reply) rows0) all left))

pub near-made : (place : ℕ) (s : State) (cmd : Cmd) (reply : Reply) (now : Shared) (kept : List Bool) (rows0 : List Row) (ks0 : List Known) (rows : List Row) (ks : List Known) (i count : ℕ)
    → Paired (near_row place s cmd reply now kept) rows0 ks0 rows ks i → count ≡ i → AreLeft count (subject cmd reply) rows0
    → (rows ≡ (pairwise (near_row place s cmd reply now kept) rows0 ks0).0) × (ks ≡ (pairwise (near_row place s cmd reply now kept) rows0 ks0).1)
near-made place s cmd reply now kept rows0 ks0 rows ks i count h all left =
    paired-part (near_row place s cmd reply now kept) rows0 ks0 rows ks i h
    (near-rest place s cmd reply now kept (drop i rows0) (subst (λ n. AreLeft n (subject cmd reply) rows0) all left))

widened : (was now : Resting) (r : Row) → now.least ≤ was.least → was.most ≤ now.most → IsResting was r → IsResting now r
widened was now r least most h = record { nowhere = h.nowhere; least = omega (arith, least, h.least); most = omega (arith, most, h.most) }

-- one row more rests
pub one-more : (was now : Resting) (rows : List Row) (x : Row) → AreResting was rows → was.before ≡ now.before + 1 → was.before ≤ length rows
    → now.least ≤ was.least → was.most ≤ now.most → IsResting now (get_or rows now.before x) → AreResting now rows
one-more was now rows x h next within least most here zero d inside =
    let at : now.before + 0 ≡ now.before = omega arith in
    let is : get_or (drop now.before rows) 0 d ≡ get_or rows now.before x =
    get_or-drop now.before rows 0 d ∙ ap (λ n. get_or rows n d) at ∙ get-any rows now.before d x (omega (arith, next, within)) in
    subst (IsResting now) (sym is) here
one-more was now rows x h next within least most here (suc i) d inside =
    let at : now.before + suc i ≡ was.before + i = omega (arith, next) in
    let is : get_or (drop now.before rows) (suc i) d ≡ get_or (drop was.before rows) i d =
    get_or-drop now.before rows (suc i) d ∙ ap (λ n. get_or rows n d) at ∙ sym (get_or-drop was.before rows i d) in
    let behind : i < length (drop was.before rows) = omega (arith, inside, next, within, length-drop now.before rows, length-drop was.before rows) in
    subst (IsResting now) (sym is) (widened was now (get_or (drop was.before rows) i d) least most (h i d behind))

-- those that rested do where they stayed as they were
pub still-at-rest : (resting : Resting) (old now written : List Row) (count : ℕ) → count ≤ resting.before → resting.before ≤ count → AreResting resting old
    → drop count written ≡ drop count old → now ≡ written → AreResting resting now
still-at-rest resting old now written count low high h rest is =
    let same : count ≡ resting.before = omega (arith, low, high) in
    let behind : drop resting.before now ≡ drop resting.before old = ap (drop resting.before) is ∙ subst (λ n. drop n written ≡ drop n old) same rest in
    subst (All (IsResting resting)) (sym behind) h
