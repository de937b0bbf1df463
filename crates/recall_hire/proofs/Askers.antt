-- A search through rows whose level gets all that it asks for.
use Rattle.std.proofs.Common.{◌≡◌, ℕ, ◌+◌, ◌*◌, ◌/◌, ◌%◌, ◌<◌, ◌≤◌, eqb, cond, List, ◌++◌, length, refl, ap, arith, inl, inr}
use Rattle.std.proofs.Math.Arith.{digits_div, digits_mod}
use Rattle.std.proofs.Math.Nat.{mul-le-mul_left}
use Rattle.std.proofs.lemmas.Bool.{cases_eq, eq-eqb, ne_eqb}
use Rattle.market_types.specs.declared.row.Row.{Row}
use Rattle.market_types.specs.Rows.{requests}
use Rattle.market_types.specs.Bits.{bits}
use Rattle.wide_rows.specs.Passed.{IsPassed, IsDue, IsCounted}
use Rattle.recall_hire.proofs.Searches.{IsNext}

-- each is allotted what it asks for
pub served-share : (q d : ℕ) → 0 < d → cond (eqb q 0) 0 ((q * d + 0) / d) ≡ q
served-share q d some =
    elim (cases_eq q 0) [
      | inl z ↦ rw (eq-eqb q 0 z) (let e : 0 ≡ q = omega arith in e)
      | inr n ↦ rw (ne_eqb q 0 n) (digits_div q some)
    ]

-- and nothing is carried on
pub served-carry : (q d : ℕ) → 0 < d → cond (eqb q 0) 0 ((q * d + 0) % d) ≡ 0
served-carry q d some =
    elim (cases_eq q 0) [
      | inl z ↦ rw (eq-eqb q 0 z) refl
      | inr n ↦ rw (ne_eqb q 0 n) (digits_mod q some)
    ]

-- those that are passed over, since nobody among them asks for one of one, ask for nobody at any demand
pub asks-none : (d : ℕ) (rows rest : List Row) (c e : ℕ) → 0 < d → c ≡ 0 → IsPassed 1 1 rows rest c e → (e ≡ 0) × IsPassed d d rows rest 0 0
asks-none d rows rest c e some z p =
    let low : e < 1 = p.below (omega (arith, z)) in
    let none : requests p.passed ≡ 0 = omega (arith, p.carried, low) in (
      omega (arith, low),
      record {
        passed = p.passed;
        rows_are = p.rows_are;
        carried = omega (arith, ap (λ n. d * n) none);
        below = λ l. l;
        none = λ l. absurd (omega (arith, l, some));
      },
    )

-- and those that come next ask for somebody
pub asks-next : (d : ℕ) (rows next rest : List Row) (h c e v u : ℕ) → 0 < d → c ≡ 0 → IsDue 1 1 rows next rest c e → IsCounted rows next rest v u → 2 * bits (length rows) ≤ h → IsNext d d rows next rest h 0 0 v u
asks-next d rows next rest h c e v u some z p counted high =
    let passed = asks-none d rows (next ++ rest) c e some z p.passed in
    record {
      low = some;
      passed = passed.1;
      due = omega (arith, mul-le-mul_left d (let one : 1 ≤ requests next = omega (arith, p.due, passed.0) in one));
      counted = counted;
      high = high;
    }
