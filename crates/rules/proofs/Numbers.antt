-- Laws of the numbers in bytes, there and back: big-endian by induction over the bytes, a division by 256 at a time; two's complement by the
-- sign of the number or the high bit of the word.
use mathlib.Core.Path.{◌≡◌, refl, ◌∙◌}
use mathlib.Core.List.{List, [], ◌∷◌, ◌++◌, append_assoc, append-nil}
use Prim.Native.Nat.{ℕ, zero, suc, ◌+◌, ◌-◌, ◌*◌, ◌/◌, ◌%◌, ◌^◌, ◌≤◌, ◌<◌}
use native.Mathlib.Nat.{add-zero, pow-suc, mod-lt, div-lt_iff_lt-mul, div-add-mod'}
use native.Mathlib.Omega.{arith}
use borrow.Author.Tests.{ltb-true, ltb-false, lt-ltb, le-ltb, leb-true, le-leb}
use lib.Arith.{digits_lt, digits_div, digits_mod}
use lib.Dec.{ltb}
use lib.IntN.{ℤ, pos, negsuc}
use lib.ListN.{length, length-append}
use Rattle.rules.specs.Lists.{All}
use Rattle.rules.specs.RoomAndSoundLedger.{M, IsByte}
use Rattle.rules.specs.SnapshotsMigrationCertificates.{bytes_of, number_from, number_of, twos_complement, signed}
use Rattle.rules.specs.Domain.{IsAmount, IsWord}
use Rattle.rules.proofs.Tests.{by-test}
use Rattle.rules.proofs.Lists.{all_more}

-- ── big-endian ─────────────────────────────────────────────────────────────────────────────────

pub bytes-length : (size n : ℕ) → length (bytes_of size n) ≡ size
unfolding bytes_of
bytes-length zero n = refl
bytes-length (suc size) n = rw (length-append, bytes-length size (n / 256)) (omega arith)

pub bytes_fit : (size n : ℕ) → All IsByte (bytes_of size n)
unfolding bytes_of
bytes_fit zero n = tt
bytes_fit (suc size) n = all_more IsByte (bytes_of size (n / 256)) (n % 256) (bytes_fit size (n / 256)) (mod-lt n (omega arith))

number_more : (so_far : ℕ) (bs : List ℕ) (b : ℕ) → number_from so_far (bs ++ b ∷ []) ≡ number_from so_far bs * 256 + b
unfolding number_from
number_more so_far [] b = refl
number_more so_far (c ∷ bs) b = number_more (so_far * 256 + c) bs b

pub number-of-bytes : (size n : ℕ) → n < 256 ^ size → number_of (bytes_of size n) ≡ n
unfolding bytes_of
number-of-bytes zero n h = unfold number_from in omega arith
number-of-bytes (suc size) n h =
    let q : n / 256 < 256 ^ size = (div-lt_iff_lt-mul {k = 256} {x = n} {y = 256 ^ size} (omega arith)).1 (rw pow-suc at h) in
    number_more 0 (bytes_of size (n / 256)) (n % 256) ∙ rw (number-of-bytes size (n / 256) q) (div-add-mod' n 256)

-- further bytes make a number that much longer
number-from-small : (size so_far : ℕ) (bs : List ℕ) → All IsByte bs → so_far < 256 ^ size → number_from so_far bs < 256 ^ (size + length bs)
unfolding number_from
number-from-small size so_far [] h l = rw add-zero l
number-from-small size so_far (b ∷ bs) (h, k) l =
    let e : size + suc (length bs) ≡ suc size + length bs = omega arith in
    rw e (number-from-small (suc size) (so_far * 256 + b) bs k (rw pow-suc (digits_lt l h)))

pub number_small : (bs : List ℕ) → All IsByte bs → number_of bs < 256 ^ length bs
number_small bs h =
    let e : 0 + length bs ≡ length bs = omega arith in
    rw e at (number-from-small 0 0 bs h (omega arith))

-- the bytes of a longer number end in the further bytes
bytes-of-number-from : (size so_far : ℕ) (bs : List ℕ) → All IsByte bs → bytes_of (size + length bs) (number_from so_far bs) ≡ bytes_of size so_far ++ bs
unfolding number_from
bytes-of-number-from size so_far [] h = rw (add-zero, append-nil)
bytes-of-number-from size so_far (b ∷ bs) (h, k) =
    let e : size + suc (length bs) ≡ suc size + length bs = omega arith in
    let q : bytes_of (suc size) (so_far * 256 + b) ≡ bytes_of size so_far ++ (b ∷ []) = unfold bytes_of in rw (digits_div so_far h, digits_mod so_far h) in
    rw (e, bytes-of-number-from (suc size) (so_far * 256 + b) bs k, q, append_assoc)

pub bytes-of-number : (bs : List ℕ) → All IsByte bs → bytes_of (length bs) (number_of bs) ≡ bs
unfolding bytes_of
bytes-of-number bs h =
    let e : 0 + length bs ≡ length bs = omega arith in
    rw e at (bytes-of-number-from 0 0 bs h)

-- ── two's complement ───────────────────────────────────────────────────────────────────────────

pub signed-of-word : (z : ℤ) → IsAmount z → signed (twos_complement z) ≡ z
unfolding M
signed-of-word (pos n) h = rw (lt-ltb n (2 ^ 63) (omega (arith, leb-true n M h)))
signed-of-word (negsuc n) h =
    let l : n ≤ M = leb-true n M h in
    let e : 2 ^ 64 - suc (2 ^ 64 - suc n) ≡ n = omega arith in
    rw (le-ltb (2 ^ 64 - suc n) (2 ^ 63) (omega arith), e)

pub word_small : (z : ℤ) → IsAmount z → IsWord (twos_complement z)
unfolding M
word_small (pos n) h = omega (arith, leb-true n M h)
word_small (negsuc n) h = omega arith

pub signed-fits : (w : ℕ) → IsWord w → IsAmount (signed w)
unfolding M
signed-fits w h = by-test IsAmount (ltb w (2 ^ 63))
    (λ e. le-leb w M (omega (arith, ltb-true w (2 ^ 63) e)))
    (λ e. le-leb (2 ^ 64 - suc w) M (omega (arith, ltb-false w (2 ^ 63) e)))

pub word-of-signed : (w : ℕ) → IsWord w → twos_complement (signed w) ≡ w
word-of-signed w h = by-test (λ z. twos_complement z ≡ w) (ltb w (2 ^ 63)) (λ e. refl) (λ e. omega arith)
