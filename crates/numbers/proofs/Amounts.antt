-- Laws of sums, signs and commit's delta: what an answer says of the numbers asked about, and signed numbers as code holds them.
use mathlib.Core.Path.{◌≡◌, refl, ap}
use mathlib.Core.Bool.{true, false}
use Prim.Native.Nat.{ℕ, zero, suc, ◌+◌, ◌-◌, ◌^◌, ◌≤◌, ◌<◌}
use native.Mathlib.Omega.{arith}
use borrow.Author.Tests.{ltb-true, ltb-false, lt-ltb, le-ltb, le-leb}
use lib.Dec.{ltb}
use lib.IntN.{ℤ, pos, negsuc, ◌-ℤ◌}
use lib.Signed.{lt_z, mag}
use mir.Syntax.{w64}
use mir.Val.{to_z, of_z}
use mir.Facts.{to_z-of_z}
use Rattle.std.specs.Prelude.{Some, None}
use Rattle.rules.specs.RoomAndSoundLedger.{M}
use Rattle.rules.specs.AccountRules.{natural}
use Rattle.rules.specs.Domain.{IsAmount}
use Rattle.rules.proofs.Tests.{by-test}
use Rattle.rules.proofs.Delta.{difference}
use Rattle.numbers.specs.Amounts.{sum_of, natural_of, positive_of, remainder_of}

-- ── sums ───────────────────────────────────────────────────────────────────────────────────────

module _ (a b : ℕ) where
  pub sum-above : M < a + b → sum_of a b ≡ None
  sum-above h = rw (lt-ltb M (a + b) h)

  pub sum_fits : a + b ≤ M → sum_of a b ≡ Some (a + b)
  sum_fits h = rw (le-ltb M (a + b) h)

  pub above-sum : sum_of a b ≡ None → M < a + b
  above-sum = by-test (λ s. s ≡ None → M < a + b) (ltb M (a + b)) (λ t e. ltb-true M (a + b) t) (λ t e. cc)

  pub fits_sum : (s : ℕ) → sum_of a b ≡ Some s → (s ≡ a + b) × (a + b ≤ M)
  fits_sum s = by-test (λ r. r ≡ Some s → (s ≡ a + b) × (a + b ≤ M)) (ltb M (a + b)) (λ t e. cc) (λ t e. (cc, ltb-false M (a + b) t))

-- ── signs ──────────────────────────────────────────────────────────────────────────────────────

pub negative-is : (z : ℤ) → lt_z z (pos 0) ≡ true → z ≡ negsuc (mag z)
negative-is (pos n) e = absurd (omega (arith, ltb-true n 0 e))
negative-is (negsuc n) e = refl

pub natural-is : (z : ℤ) → lt_z z (pos 0) ≡ false → z ≡ pos (mag z)
natural-is (pos n) e = refl
natural-is (negsuc n) e = cc

pub natural-none : (z : ℤ) → natural_of z ≡ None → z ≡ negsuc (mag z)
natural-none (pos n) e = cc
natural-none (negsuc n) e = refl

pub natural-some : (z : ℤ) (n : ℕ) → natural_of z ≡ Some n → z ≡ pos n
natural-some (pos m) n e = cc
natural-some (negsuc m) n e = cc

-- by its sign, and whether it is 0
pub positive-negative : (z : ℤ) → natural_of z ≡ None → None ≡ positive_of z
positive-negative z e = rw (natural-none z e)

module _ (z : ℤ) (n : ℕ) (natural : natural_of z ≡ Some n) where
  pub positive-zero : n ≡ 0 → None ≡ positive_of z
  positive-zero e = rw (natural-some z n natural, e)

  pub positive-amount : (n ≡ 0 → ⊥) → Some n ≡ positive_of z
  positive-amount h = above n (natural-some z n natural) h
    where
      above : (m : ℕ) → z ≡ pos m → (m ≡ 0 → ⊥) → Some m ≡ positive_of z
      above zero e h = absurd (h refl)
      above (suc m) e h = rw e

pub positive-is : (z : ℤ) (n : ℕ) → positive_of z ≡ Some n → (z ≡ pos n) × (n ≡ 0 → ⊥)
positive-is (pos zero) n e = cc
positive-is (pos (suc m)) n e = let q : suc m ≡ n = cc in (ap pos q, λ h. omega arith)
positive-is (negsuc m) n e = cc

-- a signed 64-bit number is an amount
pub amount-fits : (z : ℤ) → mag z < 2 ^ 63 → IsAmount z
unfolding M
amount-fits (pos n) h = le-leb n M (omega arith)
amount-fits (negsuc n) h = le-leb n M (omega arith)

-- ── what code holds: the bits of a signed number, read back ────────────────────────────────────

abbrev pub held : ℤ → ℤ
held z = to_z w64 (of_z w64 z)

pub held-is : (z : ℤ) → mag z < 2 ^ 63 → held z ≡ z
held-is z h = to_z-of_z {w = w64} (record { sfits = h })

-- a signed difference of two amounts fits
pub difference-fits : (a b bound : ℕ) → a < bound → b < bound → mag (pos a -ℤ pos b) < bound
difference-fits a b bound h k = rw (difference a b) (by-test (λ d. mag d < bound) (ltb a b) (λ t. omega arith) (λ t. omega arith))

-- ── commit's delta ─────────────────────────────────────────────────────────────────────────────

module _ (remaining : ℕ) where
  pub delta-overruns : (n : ℕ) → remaining < n → remainder_of remaining (pos n) ≡ None
  delta-overruns n h = rw (lt-ltb remaining n h)

  pub delta-taken : (n : ℕ) → n ≤ remaining → remainder_of remaining (pos n) ≡ Some (remaining - n)
  delta-taken n h = rw (le-ltb remaining n h, difference remaining n, le-ltb remaining n h)

  pub delta-returned : (n : ℕ) → remainder_of remaining (negsuc n) ≡ Some (remaining + suc n)
  delta-returned n = refl

  -- what an answer says of a delta
  pub overrun-exceeds : (delta : ℤ) → remainder_of remaining delta ≡ None → lt_z (pos remaining) delta ≡ true
  overrun-exceeds delta = by-test (λ r. r ≡ None → lt_z (pos remaining) delta ≡ true) (lt_z (pos remaining) delta) (λ t e. t) (λ t e. cc)

  pub left_is : (delta : ℤ) (n : ℕ) → remainder_of remaining delta ≡ Some n → (lt_z (pos remaining) delta ≡ false) × (n ≡ natural (pos remaining -ℤ delta))
  left_is delta n = by-test (λ r. r ≡ Some n → (lt_z (pos remaining) delta ≡ false) × (n ≡ natural (pos remaining -ℤ delta))) (lt_z (pos remaining) delta)
      (λ t e. cc) (λ t e. (t, cc))

-- what `less_delta` asks holds of an account that adds up: remaining and reserved together are at most its initial
pub remaining-stays : (remaining actual reserved : ℕ) → remaining + reserved ≤ M → natural (pos remaining -ℤ (pos actual -ℤ pos reserved)) ≤ M
remaining-stays remaining actual reserved h = rw (difference actual reserved)
    (by-test (λ d. natural (pos remaining -ℤ d) ≤ M) (ltb actual reserved)
    (λ t. omega (arith, ltb-true actual reserved t))
    (λ t. rw (difference remaining (actual - reserved)) (by-test (λ d. natural d ≤ M) (ltb remaining (actual - reserved)) (λ t. omega arith) (λ t. omega arith))))
