-- Bytes that are zero from one of them on: exactly those whose little-endian number is that small.
use mathlib.Core.Path.{◌≡◌, refl, sym, ap, ◌∙◌}
use mathlib.Core.Logic.{⊎_elim}
use mathlib.Core.List.{List, [], ◌∷◌}
use Prim.Native.Nat.{ℕ, zero, suc, ◌+◌, ◌-◌, ◌*◌, ◌^◌, ◌≤◌, ◌<◌, zero-le, suc-le-suc}
use native.Mathlib.Nat.{mul-suc, le_of_suc-le-suc, not-suc-le-zero}
use native.Mathlib.Omega.{arith}
use lib.ListN.{get_or, take, drop, length-take, get_or-eq_default}
use lib.Pow.{pow_pos, pow-add}
use lib.Seq.{get_or-take, get_or-drop}
use Rattle.rules.specs.Lists.{All}
use Rattle.rules.specs.RoomAndSoundLedger.{IsByte}
use Rattle.rules.proofs.Tests.{less-or-not}
use Rattle.names.proofs.Words.{ClearFrom}
use Rattle.numbers.specs.LittleEndian.{little_number}
use Rattle.names.specs.Names.{IsStored}
use Rattle.names.specs.declared.Name.{Name}
use Rattle.records.specs.Rows.{row}
use Rattle.records.proofs.Fields.{row-bytes}

byte_more : (n : ℕ) → 2 ^ (8 * suc n) ≡ 2 ^ (8 * n) * 256
byte_more n = ap (λ m. 2 ^ m) (mul-suc 8 n) ∙ pow-add 2 (8 * n) 8

pub small-clear : (n : ℕ) (w : List ℕ) → little_number w < 2 ^ (8 * n) → ClearFrom n w
unfolding little_number
small-clear n [] h i from = refl
small-clear zero (b ∷ w) h zero from = omega arith
small-clear zero (b ∷ w) h (suc i) from = small-clear zero w (omega arith) i zero-le
small-clear (suc n) (b ∷ w) h zero from = absurd (not-suc-le-zero from)
small-clear (suc n) (b ∷ w) h (suc i) from = small-clear n w (omega (arith, byte_more n)) i (le_of_suc-le-suc from)

pub clear-small : (n : ℕ) (w : List ℕ) → All IsByte w → ClearFrom n w → little_number w < 2 ^ (8 * n)
unfolding little_number
clear-small n [] bytes h = pow_pos (8 * n)
clear-small zero (b ∷ w) (x, bytes) h =
    let l = clear-small zero w bytes (λ i from. h (suc i) zero-le) in
    let e : b ≡ 0 = h 0 zero-le in
    omega arith
clear-small (suc n) (b ∷ w) (x, bytes) h =
    let l = clear-small n w bytes (λ i from. h (suc i) (suc-le-suc from)) in
    omega (arith, byte_more n)

-- a part of the bytes
module _ (k m n : ℕ) (xs : List ℕ) where
  part_at : (i : ℕ) → i < k → get_or (take k (drop m xs)) i 0 ≡ get_or xs (m + i) 0
  part_at i h = get_or-take k (drop m xs) i 0 h ∙ get_or-drop m xs i 0

  pub part-clear : ClearFrom n xs → ClearFrom (n - m) (take k (drop m xs))
  part-clear h i from = ⊎_elim (λ l. part_at i l ∙ h (m + i) (omega arith))
      (λ past. get_or-eq_default (take k (drop m xs)) 0 (omega (arith, length-take k (drop m xs)))) (less-or-not i k)

  pub clear-part : ClearFrom (n - m) (take k (drop m xs)) → (i : ℕ) → m ≤ i → i < m + k → n ≤ i → get_or xs i 0 ≡ 0
  clear-part h i low high from =
      let e : m + (i - m) ≡ i = omega arith in
      ap (λ j. get_or xs j 0) (sym e) ∙ sym (part_at (i - m) (omega arith)) ∙ h (i - m) (omega arith)

-- ── a part of a name ───────────────────────────────────────────────────────────────────────────

-- what is asked of the number read of a part, from the name's length on
module _ (n : Name) (bytes : All IsByte n.bytes) (p len word from : ℕ) (same : len ≡ n.length) (read : word ≡ little_number (row 8 (8 * p) n.bytes)) (rest : from ≡ len - 8 * p) where
  part-bytes : All IsByte (row 8 (8 * p) n.bytes)
  part-bytes = row-bytes 8 (8 * p) n.bytes bytes

  clear-from : ClearFrom (len - 8 * p) (row 8 (8 * p) n.bytes) → word < 2 ^ (8 * from)
  clear-from h = rw (read, rest) (clear-small (len - 8 * p) (row 8 (8 * p) n.bytes) part-bytes h)

  pub stored-small : IsStored n → word < 2 ^ (8 * from)
  stored-small stored = clear-from (part-clear 8 (8 * p) len n.bytes (λ i h. stored.clear i (omega arith)))

  pub small-zeros : word < 2 ^ (8 * from) → (k : ℕ) → 8 * p ≤ k → k < 8 * p + 8 → len ≤ k → get_or n.bytes k 0 ≡ 0
  small-zeros small = clear-part 8 (8 * p) len n.bytes (small-clear (len - 8 * p) (row 8 (8 * p) n.bytes) (rw (read, rest) at small))
