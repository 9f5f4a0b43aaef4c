-- Amounts in two's complement, by the sign, where ℤ computes to a natural number that `omega` sees.
use mathlib.Core.Path.{◌≡◌, refl}
use mathlib.Core.Bool.{true}
use Prim.Native.Nat.{ℕ, suc, ◌-◌, ◌^◌, ◌≤◌, ◌<◌}
use borrow.Author.Tests.{le-ltb}
use lib.IntN.{ℤ, pos, negsuc}
use lib.Signed.{le_z, mag}
use Rattle.rules.specs.SnapshotsMigrationCertificates.{signed}
use Rattle.rules.proofs.Tests.{true-false}

-- ── a number by its sign ───────────────────────────────────────────────────────────────────────

pub not_negative : (z : ℤ) → le_z (pos 0) z ≡ true → z ≡ pos (mag z)
not_negative (pos n) e = refl
not_negative (negsuc n) e = true-false e refl

-- ── a word from 2^63 on is a negative number ───────────────────────────────────────────────────

module _ (word : ℕ) (high : 2 ^ 63 ≤ word) (small : word < 2 ^ 64) where
  pub signed_high : signed word ≡ negsuc (2 ^ 64 - suc word)
  signed_high = rw (le-ltb word (2 ^ 63) high)
