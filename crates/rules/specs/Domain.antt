-- Document 01, section "What is carried over": what a caller can hand in at all. Amounts are signed 64-bit numbers, names any bytes; the theorems about
-- every operation suppose no more than this.
use Rattle.std.specs.Prelude.{◌≡◌, true, ℕ, ◌^◌, ◌≤◌, ◌<◌, ℤ, length}
use Rattle.rules.specs.Lists.{All}
use Rattle.rules.specs.RoomAndSoundLedger.{Name, IsByte}
use Rattle.rules.specs.AccountRules.{AccountOperation, ensure, top_up, limit, reserve, commit, release, read_remaining, read_initial, read_committed, read_reserved}
use Rattle.rules.specs.SnapshotsMigrationCertificates.{Row, Snapshot, most_rows, fits64}
use Rattle.rules.specs.Frames.{Operation, on_account, take_snapshot, certify_ledger, prove_conservation, restore_from, recover_from, judge, migrate_to, certify}

abbrev pub IsAmount : ℤ → Type 0
IsAmount z = fits64 z ≡ true

abbrev pub IsWord : ℕ → Type 0
IsWord n = n < 2 ^ 64

abbrev pub IsBytes : Name → Type 0
IsBytes a = All IsByte a

abbrev pub AccountOperationFits : {X : Type 0} → AccountOperation X → Type 0
AccountOperationFits (ensure a z) = IsBytes a × IsAmount z
AccountOperationFits (top_up a z) = IsBytes a × IsAmount z
AccountOperationFits (limit a z) = IsBytes a × IsAmount z
AccountOperationFits (reserve a z) = IsBytes a × IsAmount z
AccountOperationFits (commit x z) = IsAmount z
AccountOperationFits (release x) = Unit {0}
AccountOperationFits (read_remaining a) = IsBytes a
AccountOperationFits (read_initial a) = IsBytes a
AccountOperationFits (read_committed a) = IsBytes a
AccountOperationFits (read_reserved a) = IsBytes a

-- a snapshot that bytes can hold
pub record RowFits (r : Row) : Type 0 where
  pub bytes : IsBytes r.name
  pub size : IsByte (length r.name)
  pub initial : IsAmount r.initial
  pub remaining : IsAmount r.remaining
  pub reserved : IsAmount r.reserved
  pub committed : IsAmount r.committed

pub record SnapshotFits (s : Snapshot) : Type 0 where
  pub version : IsWord s.version
  pub active : IsWord s.active
  pub count : length s.rows ≤ most_rows
  pub rows : All RowFits s.rows

abbrev pub OperationFits : Operation → Type 0
OperationFits (on_account x) = AccountOperationFits x
OperationFits take_snapshot = Unit {0}
OperationFits certify_ledger = Unit {0}
OperationFits prove_conservation = Unit {0}
OperationFits (restore_from s) = SnapshotFits s
OperationFits (recover_from s) = SnapshotFits s
OperationFits (judge s) = SnapshotFits s
OperationFits (migrate_to fence s) = IsWord fence × SnapshotFits s
OperationFits (certify since s) = IsAmount since × SnapshotFits s
