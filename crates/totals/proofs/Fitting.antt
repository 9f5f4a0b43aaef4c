-- A total is an amount of 64 bits exactly where its high word only repeats the sign of its low word; and what `fitted` says of a number.
use mathlib.Core.Path.{◌≡◌, refl, sym, ◌∙◌, ap}
use mathlib.Core.Logic.{◌≢◌}
use mathlib.Core.Bool.{true, false}
use Prim.Native.Nat.{ℕ, zero, suc, ◌+◌, ◌-◌, ◌*◌, ◌^◌, ◌≤◌, ◌<◌}
use native.Mathlib.Omega.{arith}
use borrow.Author.Tests.{lt-ltb, le-leb, lt-leb}
use lib.IntN.{ℤ, pos, negsuc, neg_ℤ, ◌+ℤ◌, +ℤ_idl}
use Rattle.std.specs.Prelude.{Some, None}
use Rattle.rules.specs.RoomAndSoundLedger.{M}
use Rattle.rules.specs.SnapshotsMigrationCertificates.{signed, fits64}
use Rattle.rules.proofs.Tests.{by-test}
use Rattle.rules.proofs.Numbers.{signed-fits}
use Rattle.numbers.specs.declared.Microcents.{Microcents}
use Rattle.big_endian.proofs.TwosComplement.{signed_high}
use Rattle.totals.specs.Totals.{value_of, fitted}
use Rattle.totals.proofs.Carrying.{words}

-- ── what `fitted` says of a number ─────────────────────────────────────────────────────────────

module _ (z : ℤ) where
  pub fits : fits64 z ≡ true → fitted z ≡ Some (record { 0 = z })
  fits e = rw e

  pub outside : fits64 z ≡ false → fitted z ≡ None
  outside e = rw e

  pub fits-is : (m : Microcents) → fitted z ≡ Some m → (m.0 ≡ z) × (fits64 z ≡ true)
  fits-is m = by-test (λ r. r ≡ Some m → (m.0 ≡ z) × (fits64 z ≡ true)) (fits64 z) (λ t e. (cc, t)) (λ t e. cc)

  pub outside-is : fitted z ≡ None → fits64 z ≡ false
  outside-is = by-test (λ r. r ≡ None → fits64 z ≡ false) (fits64 z) (λ t e. cc) (λ t e. t)

-- a low word on a negative high word
below-zero : (size low : ℕ) → low < size → neg_ℤ (pos size) +ℤ pos low ≡ negsuc (size - suc low)
below-zero zero low h = absurd (omega arith)
below-zero (suc size) low h = rw (lt-ltb low (suc size) h)

-- ── the high word 0 or -1, which repeats a sign ────────────────────────────────────────────────

module _ (low : ℕ) where
  pub natural-fits : low < 2 ^ 63 → fitted (value_of (words (pos 0) low)) ≡ Some (record { 0 = pos low })
  unfolding M
  natural-fits h = ap fitted (+ℤ_idl (pos low)) ∙ fits (pos low) (le-leb low M (omega arith))

  pub natural-outside : 2 ^ 63 ≤ low → fitted (value_of (words (pos 0) low)) ≡ None
  unfolding M
  natural-outside h = ap fitted (+ℤ_idl (pos low)) ∙ outside (pos low) (lt-leb low M (omega arith))

  negative-value : low < 2 ^ 64 → value_of (words (negsuc 0) low) ≡ negsuc (2 ^ 64 - suc low)
  negative-value h = below-zero (2 ^ 64) low h

  pub negative-outside : low < 2 ^ 63 → fitted (value_of (words (negsuc 0) low)) ≡ None
  unfolding M
  negative-outside h = ap fitted (negative-value (omega arith)) ∙ outside (negsuc (2 ^ 64 - suc low)) (lt-leb (2 ^ 64 - suc low) M (omega arith))

  pub negative_fits : 2 ^ 63 ≤ low → low < 2 ^ 64 → fitted (value_of (words (negsuc 0) low)) ≡ Some (record { 0 = signed low })
  negative_fits h w =
      let value : value_of (words (negsuc 0) low) ≡ signed low = negative-value w ∙ sym (signed_high low h w) in
      ap fitted value ∙ fits (signed low) (signed-fits low w)

-- ── any other high word ────────────────────────────────────────────────────────────────────────

far-above : (n low : ℕ) → fits64 (value_of (words (pos (suc n)) low)) ≡ false
unfolding M
far-above n low = lt-leb (suc n * 2 ^ 64 + low) M (omega arith)

far-below : (n low : ℕ) → low < 2 ^ 64 → fits64 (value_of (words (negsuc (suc n)) low)) ≡ false
unfolding M
far-below n low h =
    let size : ℕ = suc (suc n) * 2 ^ 64 in
    ap fits64 (below-zero size low (omega arith)) ∙ lt-leb (size - suc low) M (omega arith)

pub far-outside : (high : ℤ) (low : ℕ) → low < 2 ^ 64 → high ≢ pos 0 → high ≢ negsuc 0 → fitted (value_of (words high low)) ≡ None
far-outside (pos zero) low w not-0 not-1 = absurd (not-0 refl)
far-outside (pos (suc n)) low w not-0 not-1 = outside (value_of (words (pos (suc n)) low)) (far-above n low)
far-outside (negsuc zero) low w not-0 not-1 = absurd (not-1 refl)
far-outside (negsuc (suc n)) low w not-0 not-1 = outside (value_of (words (negsuc (suc n)) low)) (far-below n low w)
