-- Numbers in bytes, the lowest byte first. The room's own layout: frames and snapshots are big-endian.
use Rattle.std.specs.Prelude.{ℕ, zero, suc, ◌+◌, ◌*◌, ◌/◌, ◌%◌, List, [], ◌∷◌}

unfoldable pub little_number : List ℕ → ℕ
little_number [] = 0
little_number (b ∷ bs) = b + 256 * little_number bs

unfoldable pub little_bytes : (size n : ℕ) → List ℕ
little_bytes zero n = []
little_bytes (suc size) n = n % 256 ∷ little_bytes size (n / 256)
