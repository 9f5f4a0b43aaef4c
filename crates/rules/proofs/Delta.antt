-- Commit's delta, a signed difference, in natural numbers: it is above remaining exactly when actual is above remaining plus the reserved
-- amount, and else remaining less delta is what that sum leaves over actual. Both by whether actual is below what was reserved.
use mathlib.Core.Path.{◌≡◌, refl, sym, ap}
use Prim.Native.Nat.{ℕ, zero, suc, ◌+◌, ◌-◌, ◌≤◌, ◌<◌}
use native.Mathlib.Omega.{arith}
use borrow.Author.Tests.{ltb-true, ltb-false, lt-ltb, le-ltb}
use lib.Dec.{ltb}
use lib.IntN.{pos, ◌-ℤ◌, sub_ℕ}
use lib.Signed.{lt_z}
use Rattle.rules.specs.AccountRules.{natural}
use Rattle.rules.proofs.Tests.{by-test, by_bool}

pub difference : (a b : ℕ) → pos a -ℤ pos b ≡ sub_ℕ a b
difference a zero = rw (le-ltb a 0 (omega arith)) (ap pos (omega arith))
difference a (suc b) = refl

-- two tests that mean the same
same_test : (a b c d : ℕ) → (a < b → c < d) → (b ≤ a → d ≤ c) → ltb a b ≡ ltb c d
same_test a b c d f g = by_bool (λ t. ltb a b ≡ t → t ≡ ltb c d) (ltb a b) (λ _ e. sym (lt-ltb c d (f (ltb-true a b e)))) (λ _ e. sym (le-ltb c d (g (ltb-false a b e)))) refl

module _ (remaining reserved actual : ℕ) where
  pub delta-exceeds : lt_z (pos remaining) (pos actual -ℤ pos reserved) ≡ ltb (remaining + reserved) actual
  delta-exceeds = rw (difference actual reserved)
      (by-test (λ d. lt_z (pos remaining) d ≡ ltb (remaining + reserved) actual) (ltb actual reserved)
      (λ e. sym (le-ltb (remaining + reserved) actual (omega (arith, ltb-true actual reserved e))))
      (λ e. let l = ltb-false actual reserved e in same_test remaining (actual - reserved) (remaining + reserved) actual (λ h. omega arith) (λ h. omega arith)))

  pub remaining-falls : actual ≤ remaining + reserved → natural (pos remaining -ℤ (pos actual -ℤ pos reserved)) ≡ remaining + reserved - actual
  remaining-falls h = rw (difference actual reserved)
      (by-test (λ d. natural (pos remaining -ℤ d) ≡ remaining + reserved - actual) (ltb actual reserved)
      (λ e. omega (arith, ltb-true actual reserved e))
      (λ e. let l = ltb-false actual reserved e in rw (difference remaining (actual - reserved), le-ltb remaining (actual - reserved) (omega arith)) (omega arith)))
