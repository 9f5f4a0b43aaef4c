-- The bytes of a migrated snapshot: the version stands in the first eight, and all others are those supplied, since bytes read as a snapshot are the only
-- ones that spell it.
use mathlib.Core.Path.{◌≡◌, sym, ap, ◌∙◌}
use mathlib.Core.List.{List, ◌++◌}
use mathlib.Core.Option.{some}
use Prim.Native.Nat.{ℕ}
use lib.ListN.{length, take, drop}
use lib.Seq.{take_at}
use Rattle.rules.specs.Lists.{All}
use Rattle.rules.specs.RoomAndSoundLedger.{IsByte}
use Rattle.rules.specs.SnapshotsMigrationCertificates.{Snapshot, bytes_of, snapshot_bytes, snapshot_of_bytes, with_version, tagged}
use Rattle.rules.proofs.SnapshotBytes.{snapshot-only, snapshot-length}

module _ (bs : List ℕ) (bytes : All IsByte bs) (s : Snapshot) (read : snapshot_of_bytes bs ≡ some s) (version : ℕ) where
  supplied : snapshot_bytes s ≡ bs
  supplied = (snapshot-only bs bytes s read).0

  pub migrated-bytes : snapshot_bytes (with_version version s) ≡ bytes_of 8 version ++ drop 8 bs
  unfolding snapshot_bytes bytes_of
  migrated-bytes = ap (λ l. bytes_of 8 version ++ drop 8 l) supplied

  -- so that whether the output has room is asked of the bytes supplied
  pub migrated-length : length (snapshot_bytes (with_version version s)) ≡ length bs
  migrated-length = snapshot-length (with_version version s) ∙ sym (snapshot-length s) ∙ ap length supplied

-- an output over whose front they are written
module _ (bs : List ℕ) (bytes : All IsByte bs) (s : Snapshot) (read : snapshot_of_bytes bs ≡ some s) (fence : ℕ) (output after : List ℕ) where
  pub front : after ≡ bytes_of 8 (tagged fence) ++ drop 8 bs ++ drop (length bs) output → take (length bs) after ≡ snapshot_bytes (with_version (tagged fence) s)
  front written =
      ap (take (length bs)) (written ∙ ap (λ l. l ++ drop (length bs) output) (sym (migrated-bytes bs bytes s read (tagged fence))))
      ∙ take_at (snapshot_bytes (with_version (tagged fence) s)) (drop (length bs) output) (length bs) (migrated-length bs bytes s read (tagged fence))
