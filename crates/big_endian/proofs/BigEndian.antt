-- Laws of big-endian numbers. As code reads them that joins their bytes: the little-endian number of the bytes backwards. As std writes and reads them: from the
-- highest byte on, and back to the number that is written as the bytes.
use mathlib.Core.Path.{◌≡◌, refl, ◌∙◌, ap, sym}
use mathlib.Core.List.{List, [], ◌∷◌}
use Prim.Native.Nat.{ℕ, zero, suc, ◌+◌, ◌*◌, ◌/◌, ◌%◌, ◌^◌, ◌≤◌, ◌<◌}
use native.Mathlib.Nat.{pow-suc, div-one, div-div-eq-div-mul, mul_comm}
use native.Mathlib.Omega.{arith}
use lib.ListN.{length, get_or, take}
use lib.Seq.{take-suc, take_all}
use mir.Syntax.{w8}
use mir.Val.{Fits}
use Rattle.std.specs.Int.{bytes_high_first}
use Rattle.rules.specs.Lists.{All}
use Rattle.rules.specs.RoomAndSoundLedger.{IsByte}
use Rattle.rules.specs.SnapshotsMigrationCertificates.{bytes_of, number_of}
use Rattle.rules.proofs.Numbers.{number-of-bytes}
use Rattle.numbers.specs.LittleEndian.{little_number}
use Rattle.numbers.proofs.LittleEndian.{little-small, byte-is}

-- ── as code reads ──────────────────────────────────────────────────────────────────────────────

-- the first elements, the last of them first: at numerals this computes to what code that reads each of them has
abbrev pub backwards : (size : ℕ) → List ℕ → List ℕ
backwards zero w = []
backwards (suc size) w = get_or w size 0 ∷ backwards size w

pub backwards-length : (size : ℕ) (w : List ℕ) → length (backwards size w) ≡ size
backwards-length zero w = refl
backwards-length (suc size) w = ap suc (backwards-length size w)

module _ (w : List ℕ) (known : (i : ℕ) → Fits w8 (get_or w i 0)) where
  pub backwards-fit : (size : ℕ) → All IsByte (backwards size w)
  backwards-fit zero = tt
  backwards-fit (suc size) = ((known size).fits, backwards-fit size)

  backwards-bytes : (size : ℕ) → size ≤ length w → bytes_of size (little_number (backwards size w)) ≡ take size w
  unfolding bytes_of little_number
  backwards-bytes zero h = refl
  backwards-bytes (suc size) h =
      let b = get_or w size 0 in
      let rest = little_number (backwards size w) in
      let m : (b + 256 * rest) % 256 ≡ b = omega (arith, (known size).fits) in
      let d : (b + 256 * rest) / 256 ≡ rest = omega (arith, (known size).fits) in
      rw (m, d, backwards-bytes size (omega arith), take-suc w size 0 h)

  pub backwards-number : (size : ℕ) → length w ≡ size → little_number (backwards size w) ≡ number_of w
  backwards-number size l =
      let n = little_number (backwards size w) in
      let small : n < 256 ^ size = rw (backwards-length size w) at (little-small (backwards size w) (backwards-fit size)) in
      sym (number-of-bytes size n small) ∙ ap number_of (backwards-bytes size (omega arith) ∙ take_all size w (omega arith))

-- ── as std writes, and as it reads ────────────────────────────────────────────────────────────────

bytes-first : (size n : ℕ) → bytes_of (suc size) n ≡ n / 256 ^ size % 256 ∷ bytes_of size n
unfolding bytes_of
bytes-first zero n = rw div-one
bytes-first (suc size) n =
    let e : n / 256 / 256 ^ size ≡ n / 256 ^ suc size = rw (pow-suc, div-div-eq-div-mul, mul_comm 256 (256 ^ size)) in
    rw (bytes-first size (n / 256), e)

pub written : (size n : ℕ) → bytes_high_first size n ≡ bytes_of size n
written zero n = unfold bytes_of in refl
written (suc size) n = rw (byte-is size n, written size n) (sym (bytes-first size n))

pub read : (size n : ℕ) (bs : List ℕ) → n < 256 ^ size → bytes_high_first size n ≡ bs → n ≡ number_of bs
read size n bs h e = sym (number-of-bytes size n h) ∙ ap number_of (sym (written size n) ∙ e)
