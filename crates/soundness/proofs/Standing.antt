-- The bytes of a place's name where they stand in the room: a row of the place's row is a row of the room.
use mathlib.Core.Path.{◌≡◌, sym, ap, ◌∙◌}
use mathlib.Core.List.{List}
use Prim.Native.Nat.{ℕ, ◌+◌, ◌*◌, ◌≤◌, ◌<◌}
use native.Mathlib.Omega.{arith}
use lib.ListN.{length}
use Rattle.rules.specs.RoomAndSoundLedger.{longest_name}
use Rattle.records.specs.Layout.{place_start, name_bytes_start, place_size, name_bytes_offset}
use Rattle.records.specs.Rows.{row}
use Rattle.records.proofs.Rows.{row_within, row-length}
use Rattle.soundness.specs.Steps.{place_at}

module _ (i : ℕ) (xs : List ℕ) where
  abbrev name_bytes : List ℕ
  name_bytes = (place_at i xs).name.bytes

  bytes-stand : name_bytes ≡ row longest_name (name_bytes_start i) xs
  bytes-stand = let e : place_start i + name_bytes_offset ≡ name_bytes_start i = omega arith in row_within longest_name name_bytes_offset place_size (place_start i) xs (omega arith) ∙ ap (λ m. row longest_name m xs) e

  pub bytes-width : place_start i + place_size ≤ length xs → length name_bytes ≡ longest_name
  bytes-width h = ap length bytes-stand ∙ row-length longest_name (name_bytes_start i) xs (omega arith)

  -- eight of its bytes
  pub part-stands : (p : ℕ) → p < 3 → row 8 (name_bytes_start i + 8 * p) xs ≡ row 8 (8 * p) name_bytes
  part-stands p h = sym (ap (row 8 (8 * p)) bytes-stand ∙ row_within 8 (8 * p) longest_name (name_bytes_start i) xs (omega arith))
