-- `restoring::recovery_restore` meets its contract: as `restore`, by the other form (Restoring).
use Rattle.rules.specs.SnapshotsMigrationCertificates.{recovery_version, recovery_restore}
use Rattle.restoring.proofs.Restoring.{recovery-keeps, form-keeps, by-its-form}
use Rattle.restoring.proofs.recovery_restore.Goals as goal

pub restore_by-requires : goal.restore_by-requires
restore_by-requires c =
    let known = c.requires in
    (known.0, known.1, form-keeps recovery_version _ c.version.ensures c.recovery_version.ensures recovery-keeps)

pub returns : goal.returns
unfolding recovery_restore
returns c = by-its-form recovery_version _ c.version.ensures c.recovery_version.ensures c.restore_by.ensures
