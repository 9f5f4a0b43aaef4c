-- The answer of a migration in document 01's numbers.
use Rattle.std.specs.Prelude.{[], ◌∷◌, ℕ}
use Rattle.rules.specs.AnswerNumbers.{SnapshotBytes, Reply, done}
use Rattle.rules.specs.SnapshotsMigrationCertificates.{Snapshot, snapshot_bytes, tagged, with_version}

-- the snapshot supplied, but for its version
abbrev pub migrated_to : (fence : ℕ) → Snapshot → Reply
migrated_to fence s = done (SnapshotBytes (snapshot_bytes (with_version (tagged fence) s)) ∷ [])
