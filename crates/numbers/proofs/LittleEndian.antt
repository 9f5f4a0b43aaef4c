-- Laws of little-endian numbers: there and back over any size, as code reads them that joins their bytes, and as std writes and reads them.
use mathlib.Core.Path.{◌≡◌, refl, ◌∙◌, ap, sym}
use mathlib.Core.List.{List, [], ◌∷◌}
use Prim.Native.Nat.{ℕ, zero, suc, ◌+◌, ◌*◌, ◌/◌, ◌%◌, ◌^◌, ◌≤◌, ◌<◌}
use native.Mathlib.Nat.{add_comm, mul_comm, mul_assoc, mul_left_comm, mul-add, pow-suc, mod-lt, mod-eq_of_lt, div-one, div-lt_iff_lt-mul, div-div-eq-div-mul}
use native.Mathlib.Omega.{arith}
use lib.Arith.{digits_lt}
use lib.Bits.{bit_or, or_shifted_r}
use lib.Pow.{pow-add, pow_mono}
use lib.ListN.{length, get_or}
use Rattle.std.specs.Int.{byte_at, bytes_low_first}
use Rattle.rules.specs.Lists.{All}
use Rattle.rules.specs.RoomAndSoundLedger.{IsByte}
use Rattle.numbers.specs.LittleEndian.{little_number, little_bytes}
use Rattle.numbers.proofs.Bytes.{elements, elements-are}

-- ── there and back ─────────────────────────────────────────────────────────────────────────────

pub little-length : (size n : ℕ) → length (little_bytes size n) ≡ size
unfolding little_bytes
little-length zero n = refl
little-length (suc size) n = ap suc (little-length size (n / 256))

pub little-fit : (size n : ℕ) → All IsByte (little_bytes size n)
unfolding little_bytes
little-fit zero n = tt
little-fit (suc size) n = (mod-lt n (omega arith), little-fit size (n / 256))

pub little-small : (bs : List ℕ) → All IsByte bs → little_number bs < 256 ^ length bs
unfolding little_number
little-small [] h = omega arith
little-small (b ∷ bs) (h, k) = let l = little-small bs k in rw pow-suc (omega arith)

pub little-number : (size n : ℕ) → n < 256 ^ size → little_number (little_bytes size n) ≡ n
unfolding little_number little_bytes
little-number zero n h = omega arith
little-number (suc size) n h =
    let q : n / 256 < 256 ^ size = (div-lt_iff_lt-mul {k = 256} {x = n} {y = 256 ^ size} (omega arith)).1 (rw pow-suc at h) in
    rw (little-number size (n / 256) q) (omega arith)

pub little-bytes : (bs : List ℕ) → All IsByte bs → little_bytes (length bs) (little_number bs) ≡ bs
unfolding little_number little_bytes
little-bytes [] h = refl
little-bytes (b ∷ bs) (h, k) =
    let m : (b + 256 * little_number bs) % 256 ≡ b = omega arith in
    let d : (b + 256 * little_number bs) / 256 ≡ little_number bs = omega arith in
    rw (m, d, little-bytes bs k)

-- ── as code reads: each further byte is shifted and joined ─────────────────────────────────────

abbrev joined : (shift low : ℕ) → List ℕ → ℕ
joined shift low [] = low
joined shift low (b ∷ bs) = joined (shift + 8) (bit_or low (b * 2 ^ shift % 2 ^ 64)) bs

regroup : (p q b low rest : ℕ) → q ≡ 2 ^ 8 * p → b * p + low + q * rest ≡ low + p * (b + 256 * rest)
regroup p q b low rest e = rw (e, mul-add, mul_comm b p, mul_assoc) (omega (arith, mul_left_comm p 256 rest))

joined_is : (shift low : ℕ) (bs : List ℕ) → All IsByte bs → low < 2 ^ shift → shift + 8 * length bs ≤ 64 → joined shift low bs ≡ low + 2 ^ shift * little_number bs
unfolding little_number
joined_is shift low [] h l w = omega arith
joined_is shift low (b ∷ bs) (h, k) l w =
    let p : 2 ^ (shift + 8) ≡ 2 ^ 8 * 2 ^ shift = ap (λ e. 2 ^ e) (add_comm shift 8) ∙ pow-add 2 8 shift in
    let below : b * 2 ^ shift + low < 2 ^ (shift + 8) = rw p (digits_lt h l) in
    let end : shift + 8 ≤ 64 = omega arith in
    let room : 2 ^ (shift + 8) ≤ 2 ^ 64 = pow_mono end in
    let step : bit_or low (b * 2 ^ shift % 2 ^ 64) ≡ b * 2 ^ shift + low =
    ap (λ x. bit_or low x) (mod-eq_of_lt (omega arith)) ∙ or_shifted_r b shift low l in
    ap (λ x. joined (shift + 8) x bs) step
    ∙ joined_is (shift + 8) (b * 2 ^ shift + low) bs k below (omega arith)
    ∙ regroup (2 ^ shift) (2 ^ (shift + 8)) b low (little_number bs) p

pub read_number : (size : ℕ) (w : List ℕ) → All IsByte w → length w ≡ suc size → size < 8 → joined 8 (get_or w 0 0) (elements 1 size w) ≡ little_number w
unfolding little_number
read_number size [] h l k = absurd (omega arith)
read_number size (b ∷ bs) (h, h') l k =
    ap (joined 8 b) (elements-are 1 size (b ∷ bs) (omega arith)) ∙ joined_is 8 b bs h' h (omega arith)

-- ── as std writes: each byte by a division of its own ──────────────────────────────────────────

pub byte-is : (i n : ℕ) → byte_at i n ≡ n / 256 ^ i % 256
byte-is zero n = rw div-one
byte-is (suc i) n = refl

low_bytes : (i size n : ℕ) → bytes_low_first i size n ≡ little_bytes size (n / 256 ^ i)
unfolding little_bytes
low_bytes i zero n = refl
low_bytes i (suc size) n =
    let e : n / 256 ^ suc i ≡ n / 256 ^ i / 256 = rw (pow-suc, div-div-eq-div-mul) in
    rw (byte-is i n, low_bytes (suc i) size n, e)

pub written : (size n : ℕ) → bytes_low_first 0 size n ≡ little_bytes size n
written size n = low_bytes 0 size n ∙ rw div-one

-- ── as std reads: what it reads is written back as the bytes ───────────────────────────────────

pub read : (size n : ℕ) (bs : List ℕ) → n < 256 ^ size → bytes_low_first 0 size n ≡ bs → n ≡ little_number bs
read size n bs h e = sym (little-number size n h) ∙ ap little_number (sym (written size n) ∙ e)
