-- `restoring::restore` meets its contract: what `restore_by` promises of what was said of the version, read at the version of the snapshot (Restoring).
use Rattle.rules.specs.SnapshotsMigrationCertificates.{restore_version, restore}
use Rattle.restoring.proofs.Restoring.{restore-keeps, form-keeps, by-its-form}
use Rattle.restoring.proofs.restore.Goals as goal

pub restore_by-requires : goal.restore_by-requires
restore_by-requires c =
    let known = c.requires in
    (known.0, known.1, form-keeps restore_version _ c.version.ensures c.restore_version.ensures restore-keeps)

pub returns : goal.returns
unfolding restore
returns c = by-its-form restore_version _ c.version.ensures c.restore_version.ensures c.restore_by.ensures
