-- A table of how many binary digits small numbers have.
use Rattle.std.proofs.Common.{◌≡◌, ℕ, zero, suc, ◌≤◌, [], ◌∷◌, get_or, refl, arith}
use Rattle.market_types.specs.Bits.{bits}

pub digits-few : (n : ℕ) → n ≤ 16 → get_or (0 ∷ 1 ∷ 2 ∷ 2 ∷ 3 ∷ 3 ∷ 3 ∷ 3 ∷ 4 ∷ 4 ∷ 4 ∷ 4 ∷ 4 ∷ 4 ∷ 4 ∷ 4 ∷ 5 ∷ []) n 0 ≡ bits n
digits-few zero l = refl
digits-few (suc zero) l = refl
digits-few (suc (suc zero)) l = refl
digits-few (suc (suc (suc zero))) l = refl
digits-few (suc (suc (suc (suc zero)))) l = refl
digits-few (suc (suc (suc (suc (suc zero))))) l = refl
digits-few (suc (suc (suc (suc (suc (suc zero)))))) l = refl
digits-few (suc (suc (suc (suc (suc (suc (suc zero))))))) l = refl
digits-few (suc (suc (suc (suc (suc (suc (suc (suc zero)))))))) l = refl
digits-few (suc (suc (suc (suc (suc (suc (suc (suc (suc zero))))))))) l = refl
digits-few (suc (suc (suc (suc (suc (suc (suc (suc (suc (suc zero)))))))))) l = refl
digits-few (suc (suc (suc (suc (suc (suc (suc (suc (suc (suc (suc zero))))))))))) l = refl
digits-few (suc (suc (suc (suc (suc (suc (suc (suc (suc (suc (suc (suc zero)))))))))))) l = refl
digits-few (suc (suc (suc (suc (suc (suc (suc (suc (suc (suc (suc (suc (suc zero))))))))))))) l = refl
digits-few (suc (suc (suc (suc (suc (suc (suc (suc (suc (suc (suc (suc (suc (suc zero)))))))))))))) l = refl
digits-few (suc (suc (suc (suc (suc (suc (suc (suc (suc (suc (suc (suc (suc (suc (suc zero))))))))))))))) l = refl
digits-few (suc (suc (suc (suc (suc (suc (suc (suc (suc (suc (suc (suc (suc (suc (suc (suc zero)))))))))))))))) l = refl
digits-few (suc (suc (suc (suc (suc (suc (suc (suc (suc (suc (suc (suc (suc (suc (suc (suc (suc n))))))))))))))))) l = absurd (omega arith)
