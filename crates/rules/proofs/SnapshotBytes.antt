-- A snapshot's bytes are read back as the snapshot, are the only ones read so, and with all rows are no longer than an answer line has room for:
-- the first two by the laws of readers, field by field, the last by adding up the rows.
use mathlib.Core.Path.{◌≡◌, refl, sym, ap}
use mathlib.Core.Bool.{false}
use mathlib.Core.List.{List, [], ◌∷◌, ◌++◌, flat_map, append_assoc}
use mathlib.Core.Option.{some}
use Prim.Native.Nat.{ℕ, zero, suc, ◌+◌, ◌*◌, ◌≤◌}
use native.Mathlib.Omega.{arith}
use borrow.Author.Tests.{ltb-false, le-ltb}
use lib.Dec.{ltb}
use lib.IntN.{ℤ}
use lib.ListN.{length, length-append}
use Rattle.rules.specs.Lists.{sum, All}
use Rattle.rules.specs.RoomAndSoundLedger.{longest_name, IsByte}
use Rattle.rules.specs.AccountRules.{is_too_long}
use Rattle.rules.specs.SnapshotsMigrationCertificates.{Row, Snapshot, most_rows, bytes_of, twos_complement, amount_bytes, name_bytes, row_bytes, snapshot_bytes, read_row, read_rows, read_count, read_snapshot, snapshot_of_bytes, has_long_name, too_short_for}
use Rattle.rules.specs.Frames.{longest_snapshot}
use Rattle.rules.specs.Domain.{RowFits, SnapshotFits}
use Rattle.rules.proofs.Tests.{by-test, none-some}
use Rattle.rules.proofs.Lists.{none_any, all_join, all-flat}
use Rattle.rules.proofs.Numbers.{bytes-length, bytes_fit}
use Rattle.rules.proofs.Reading.{ReadsBack, whole_back, Read, WrittenBy, ReadsOnly, only-reads, whole-only, number-back, number-only, amount-back, amount-only, name_back, name-only, only_then}

-- ── what was written is read back ──────────────────────────────────────────────────────────────

row_back : (r : Row) → RowFits r → ReadsBack read_row (row_bytes r) r
unfolding read_row row_bytes
row_back r h rest =
    let name = name_back r.name (h.bytes, h.size) in
    let initial = amount-back r.initial h.initial in
    let remaining = amount-back r.remaining h.remaining in
    let reserved = amount-back r.reserved h.reserved in
    let committed = amount-back r.committed h.committed in
    simp (append_assoc, name, initial, remaining, reserved, committed)

rows_back : (rs : List Row) → All RowFits rs → ReadsBack (read_rows (length rs)) (flat_map row_bytes rs) rs
unfolding read_rows flat_map
rows_back [] h rest = refl
rows_back (r ∷ rs) (h, k) rest = rw (append_assoc, row_back r h, rows_back rs k)

count-back : (n : ℕ) → n ≤ most_rows → ReadsBack read_count (bytes_of 2 n) n
unfolding read_count
count-back n h rest = rw (number-back 2 n (omega arith) rest, le-ltb most_rows n h)

pub read_snapshot-back : (s : Snapshot) → SnapshotFits s → ReadsBack read_snapshot (snapshot_bytes s) s
unfolding read_snapshot snapshot_bytes
read_snapshot-back s h rest =
    let version = number-back 8 s.version h.version in
    let active = number-back 8 s.active h.active in
    let count = count-back (length s.rows) h.count in
    let rows = rows_back s.rows h.rows in
    simp (append_assoc, version, active, count, rows)

pub snapshot-reads-back : (s : Snapshot) → SnapshotFits s → snapshot_of_bytes (snapshot_bytes s) ≡ some s
unfolding snapshot_of_bytes
snapshot-reads-back s h = whole_back read_snapshot (snapshot_bytes s) s (read_snapshot-back s h)

-- ── the bytes accepted for a snapshot are the only ones ────────────────────────────────────────

-- what each reader took stands before what the next one takes, just as `row_bytes` writes it
row-only : ReadsOnly read_row row_bytes RowFits
unfolding read_row row_bytes
row-only =
    only_then name-only λ a (bytes, size).
    only_then amount-only λ i initial.
    only_then amount-only λ m remaining.
    only_then amount-only λ v reserved.
    only_then amount-only λ c committed.
    only-reads (refl, record { bytes = bytes; size = size; initial = initial; remaining = remaining; reserved = reserved; committed = committed })

abbrev RowsFit : ℕ → List Row → Type 0
RowsFit count rs = (length rs ≡ count) × All RowFits rs

rows-only : (count : ℕ) → ReadsOnly (read_rows count) (flat_map row_bytes) (RowsFit count)
unfolding read_rows flat_map
rows-only zero = only-reads (refl, (refl, tt))
rows-only (suc count) =
    only_then row-only λ r h.
    only_then (rows-only count) λ rs (l, k).
    only-reads (refl, (ap suc l, (h, k)))

count-only : ReadsOnly read_count (bytes_of 2) (λ n. n ≤ most_rows)
unfolding read_count
count-only = only_then (number-only 2) λ n h. record {
  read = λ bs bytes r. by-test (λ o. o ≡ some r → Read (WrittenBy (bytes_of 2) (λ n. n ≤ most_rows)) (bytes_of 2 n ++ bs) r) (ltb most_rows n)
      (λ t q. none-some q)
      (λ t q. (only-reads (refl, ltb-false most_rows n t)).read bs bytes r q);
}

pub read_snapshot-only : ReadsOnly read_snapshot snapshot_bytes SnapshotFits
unfolding read_snapshot snapshot_bytes
read_snapshot-only =
    only_then (number-only 8) λ v version.
    only_then (number-only 8) λ a active.
    only_then count-only λ n count.
    only_then (rows-only n) λ rs (l, rows).
    only-reads (rw l, record { version = version; active = active; count = rw l count; rows = rows })

pub snapshot-only : (bs : List ℕ) → All IsByte bs → (s : Snapshot) → snapshot_of_bytes bs ≡ some s → (snapshot_bytes s ≡ bs) × SnapshotFits s
unfolding snapshot_of_bytes
snapshot-only bs bytes s e = let (is, fits) = whole-only read_snapshot-only bs bytes s e in (sym is, fits)

-- ── they are bytes ─────────────────────────────────────────────────────────────────────────────

-- amounts behind bytes
with-amount : (xs : List ℕ) → All IsByte xs → (z : ℤ) → All IsByte (xs ++ amount_bytes z)
with-amount xs k z = all_join IsByte xs (amount_bytes z) k (bytes_fit 8 (twos_complement z))

row-is-bytes : (r : Row) → RowFits r → All IsByte (row_bytes r)
unfolding row_bytes
row-is-bytes r h =
    let first = name_bytes r.name ++ amount_bytes r.initial in
    let second = first ++ amount_bytes r.remaining in
    let third = second ++ amount_bytes r.reserved in
    with-amount third (with-amount second (with-amount first (with-amount (name_bytes r.name) (h.size, h.bytes) r.initial) r.remaining) r.reserved) r.committed

pub snapshot-is-bytes : (s : Snapshot) → SnapshotFits s → All IsByte (snapshot_bytes s)
unfolding snapshot_bytes
snapshot-is-bytes s h =
    let counts = bytes_of 8 s.version ++ bytes_of 8 s.active in
    all_join IsByte (counts ++ bytes_of 2 (length s.rows)) (flat_map row_bytes s.rows)
    (all_join IsByte counts (bytes_of 2 (length s.rows)) (all_join IsByte (bytes_of 8 s.version) (bytes_of 8 s.active) (bytes_fit 8 s.version) (bytes_fit 8 s.active)) (bytes_fit 2 (length s.rows)))
    (all-flat IsByte RowFits row_bytes row-is-bytes s.rows h.rows)

-- ── how long they are ──────────────────────────────────────────────────────────────────────────

abbrev pub row_length : Row → ℕ
row_length r = 33 + length r.name

row-length : (r : Row) → length (row_bytes r) ≡ row_length r
unfolding row_bytes
row-length r = simp (length-append, bytes-length) (omega arith)

rows-length : (rs : List Row) → length (flat_map row_bytes rs) ≡ sum row_length rs
unfolding flat_map sum
rows-length [] = refl
rows-length (r ∷ rs) = rw (length-append, row-length r, rows-length rs)

pub snapshot-length : (s : Snapshot) → length (snapshot_bytes s) ≡ 18 + sum (λ r. 33 + length r.name) s.rows
unfolding snapshot_bytes
snapshot-length s = simp (length-append, bytes-length, rows-length) (omega arith)

rows-longest : (rs : List Row) → All (λ r. is_too_long r.name ≡ false) rs → sum row_length rs ≤ length rs * 57
unfolding sum
rows-longest [] h = omega arith
rows-longest (r ∷ rs) (h, k) = omega (arith, ltb-false longest_name (length r.name) h, rows-longest rs k)

pub longest : (s : Snapshot) → length s.rows ≤ most_rows → has_long_name s.rows ≡ false → length (snapshot_bytes s) ≤ longest_snapshot
unfolding has_long_name
longest s l h = omega (arith, snapshot-length s, rows-longest s.rows (none_any _ s.rows h))

-- so that no frame meets 22
pub never-too-short : (s : Snapshot) → length s.rows ≤ most_rows → has_long_name s.rows ≡ false → too_short_for longest_snapshot s ≡ false
never-too-short s l h = le-ltb longest_snapshot (length (snapshot_bytes s)) (longest s l h)
