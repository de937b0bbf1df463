-- One write after another.
use Rattle.std.proofs.Common.{◌≡◌, ℕ, ◌+◌, ◌-◌, List, [], length, take, drop, Option, Bool, true, false, eqb, ◌||◌, ◌&&◌, refl, sym, ◌∙◌, subst, arith, append-nil, take-append-drop}
use Rattle.std.proofs.lemmas.Bool.Decides.{nat_tests}
use Rattle.std.proofs.lemmas.List.{take_rest}
use Rattle.std.proofs.Math.Seq.{take-add}
use Rattle.std.proofs.KnownBytes.{Appends-trans}
use Rattle.std.specs.Io.KnownBytes.{Appends}
use Rattle.byte_devices.specs.Devices.{WritesFront}

-- the first n bytes of a text are a prefix of it
pub WritesFront-take : (before after : Option (List ℕ)) (text : List ℕ) (n : ℕ) → Appends before after (take n text) → WritesFront before after text
WritesFront-take before after text n h = record { out = take n text; wrote = h; front = (drop n text, sym (take-append-drop n text)) }

-- the first bytes of a text, and then the first of its rest
pub Appends-more : (a b c : Option (List ℕ)) (text : List ℕ) (at n : ℕ) → Appends a b (take at text) → Appends b c (take n (take (length text - at) (drop at text))) → Appends a c (take (at + n) text)
Appends-more a b c text at n h k =
    let rest : Appends b c (take n (drop at text)) = rw take_rest at k in
    subst (λ ys. Appends a c ys) (sym (take-add at n text)) (Appends-trans a b c (take at text) (take n (drop at text)) h rest)

-- a write of nothing changes nothing
pub Appends-then_none : (a b c : Option (List ℕ)) (xs : List ℕ) → Appends a b xs → Appends b c [] → Appends a c xs
Appends-then_none a b c xs h k = subst (λ ys. Appends a c ys) (append-nil xs) (Appends-trans a b c xs [] h k)

or_false : (b : Bool) → b || false ≡ b
or_false true = refl
or_false false = refl

-- a write of some bytes does not fail the sink
pub still_working : (n : ℕ) (a b t : Bool) → (n ≡ 0 → ⊥) → a ≡ (b || ((eqb n 0) && t)) → a ≡ b
still_working n a b t h e = let z : eqb n 0 ≡ false = grind (arith, nat_tests) in (rw z at e) ∙ or_false b
