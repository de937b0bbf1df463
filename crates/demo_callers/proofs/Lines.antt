-- The lines of one entry more.
use Rattle.std.specs.Prelude.{slice_get}
use Rattle.std.proofs.Common.{◌≡◌, ℕ, zero, suc, ◌+◌, List, [], ◌∷◌, ◌++◌, take, append-nil, Some, ap, ◌∙◌, arith}
use Rattle.std.proofs.lemmas.Grind.{flat_map-append}
use Rattle.std.proofs.lemmas.Option.{same_Some}
use Rattle.market_types.specs.declared.reply.Entry.{Entry}
use Rattle.demo_callers.specs.Notes.{note_of, notes_of}

take-one-more : (log : List Entry) (i : ℕ) (e : Entry) → slice_get log i ≡ Some e → take (suc i) log ≡ take i log ++ e ∷ []
take-one-more [] i e found = cc
take-one-more (x ∷ xs) zero e found = ap (λ y. y ∷ []) (same_Some x e found)
take-one-more (x ∷ xs) (suc i) e found = ap (λ ys. x ∷ ys) (take-one-more xs i e found)

pub notes-more : (seat i : ℕ) (log : List Entry) (e : Entry) → slice_get log i ≡ Some e → notes_of seat (take (i + 1) log) ≡ notes_of seat (take i log) ++ note_of seat e
notes-more seat i log e found =
    ap (λ n. notes_of seat (take n log)) (let next : i + 1 ≡ suc i = omega arith in next)
    ∙ ap (notes_of seat) (take-one-more log i e found)
    ∙ flat_map-append (note_of seat) (take i log) (e ∷ [])
    ∙ ap (λ xs. notes_of seat (take i log) ++ xs) (append-nil (note_of seat e))
