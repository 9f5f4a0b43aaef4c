-- Laws of a total's two words over ℤ: an amount's word is added to the low one, and the high one moves by a carry or a borrow.
use mathlib.Core.Path.{◌≡◌, sym, ◌∙◌, ap}
use Prim.Native.Nat.{ℕ, zero, suc, ◌+◌, ◌^◌, ◌≤◌, ◌<◌}
use native.Mathlib.Omega.{arith}
use borrow.Author.Tests.{le-ltb}
use lib.IntN.{ℤ, pos, negsuc, ◌+ℤ◌, ◌-ℤ◌, ◌*ℤ◌, neg_ℤ, suc_ℤ, pred_ℤ, +ℤ_assoc, +ℤ_one, -ℤ_one, suc_ℤ-*ℤ, +ℤ-neg_ℤ_cancel, -ℤ-+ℤ_cancel}
use lib.Signed.{mag}
use mir.Syntax.{w64}
use mir.Val.{of_z}
use Rattle.rules.specs.SnapshotsMigrationCertificates.{twos_complement}
use Rattle.totals.specs.declared.Total.{Total}
use Rattle.totals.specs.Totals.{value_of, Moved}

abbrev pub words : ℤ → ℕ → Total
words high low = record { high = high; low = low }

-- ── an amount not below 0: its word is the amount ──────────────────────────────────────────────

pub added : (high : ℤ) (low word : ℕ) → value_of (words high (low + word)) ≡ value_of (words high low) +ℤ pos word
added high low word = sym (+ℤ_assoc (high *ℤ pos (2 ^ 64)) (pos low) (pos word))

pub carried : (high : ℤ) (low word rest : ℕ) → 2 ^ 64 + rest ≡ low + word → value_of (words (high +ℤ pos 1) rest) ≡ value_of (words high low) +ℤ pos word
carried high low word rest e =
    ap (λ z. z *ℤ pos (2 ^ 64) +ℤ pos rest) (+ℤ_one high)
    ∙ ap (λ z. z +ℤ pos rest) (suc_ℤ-*ℤ high (pos (2 ^ 64)))
    ∙ +ℤ_assoc (high *ℤ pos (2 ^ 64)) (pos (2 ^ 64)) (pos rest)
    ∙ ap (λ n. high *ℤ pos (2 ^ 64) +ℤ pos n) e
    ∙ added high low word

-- ── an amount below 0: its word is the amount and 2^64 ─────────────────────────────────────────

cancel : (a b k : ℤ) → a +ℤ k ≡ b +ℤ k → a ≡ b
cancel a b k e = sym (+ℤ-neg_ℤ_cancel a k) ∙ ap (λ z. z -ℤ k) e ∙ +ℤ-neg_ℤ_cancel b k

pub lifted-word : (n : ℕ) → n < 2 ^ 63 → negsuc n +ℤ pos (2 ^ 64) ≡ pos (twos_complement (negsuc n))
lifted-word n small = rw (le-ltb (2 ^ 64) (suc n) (omega arith))

module _ (high : ℤ) (low : ℕ) (amount : ℤ) (word : ℕ) (lifted : amount +ℤ pos (2 ^ 64) ≡ pos word) where
  with-word : value_of (words high low) +ℤ amount +ℤ pos (2 ^ 64) ≡ value_of (words high low) +ℤ pos word
  with-word = +ℤ_assoc (value_of (words high low)) amount (pos (2 ^ 64)) ∙ ap (λ z. value_of (words high low) +ℤ z) lifted

  pub lowered : (rest : ℕ) → rest + 2 ^ 64 ≡ low + word → value_of (words high rest) ≡ value_of (words high low) +ℤ amount
  lowered rest e =
      cancel (value_of (words high rest)) (value_of (words high low) +ℤ amount) (pos (2 ^ 64))
      (sym (added high rest (2 ^ 64)) ∙ ap (λ n. value_of (words high n)) e ∙ added high low word ∙ sym with-word)

  pub borrowed : value_of (words (high -ℤ pos 1) (low + word)) ≡ value_of (words high low) +ℤ amount
  borrowed =
      let sum : ℕ = low + word in
      cancel (value_of (words (high -ℤ pos 1) sum)) (value_of (words high low) +ℤ amount) (pos (2 ^ 64))
      (sym (carried (high -ℤ pos 1) sum (2 ^ 64) sum (omega arith)) ∙ ap (λ z. value_of (words z sum)) (-ℤ-+ℤ_cancel high (pos 1)) ∙ added high low word ∙ sym with-word)

-- ── how far the high word moves ────────────────────────────────────────────────────────────────

up_one : (z : ℤ) → mag (suc_ℤ z) ≤ mag z + 1
up_one (pos n) = omega arith
up_one (negsuc zero) = omega arith
up_one (negsuc (suc n)) = omega arith

down-one : (z : ℤ) → mag (pred_ℤ z) ≤ mag z + 1
down-one (pos zero) = omega arith
down-one (pos (suc n)) = omega arith
down-one (negsuc n) = omega arith

pub moved_up : (z : ℤ) → mag (z +ℤ pos 1) ≤ mag z + 1
moved_up z = rw (+ℤ_one z) (up_one z)

pub moved_down : (z : ℤ) → mag (z -ℤ pos 1) ≤ mag z + 1
moved_down z = rw (-ℤ_one z) (down-one z)

-- what `plus` and `minus` ask of a total of few amounts
pub moved-little : (total : Total) (n : ℕ) → n ≤ 1024 → Moved n total → (mag total.high < 2 ^ 61) × (mag total.high < 2 ^ 62)
moved-little total n h moved = (omega arith, omega arith)

-- ── the negative of an amount ──────────────────────────────────────────────────────────────────

-- all but the least, told by its bits, have one
pub negated_fits : (z : ℤ) → mag z < 2 ^ 63 → (of_z w64 z ≡ 2 ^ 63 → ⊥) → mag (neg_ℤ z) < 2 ^ 63
negated_fits (pos zero) h least = omega arith
negated_fits (pos (suc n)) h least = omega arith
negated_fits (negsuc n) h least = omega arith
