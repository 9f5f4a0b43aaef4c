-- `validation::tenant_at` meets its contract: no name of the snapshot is long.
use mathlib.Core.Path.{sym, subst}
use Prim.Native.Nat.{◌≤◌}
use lib.ListN.{length}
use Rattle.rules.specs.RoomAndSoundLedger.{longest_name}
use Rattle.snapshot_reader.proofs.Rows.{short_row}
use Rattle.validation.proofs.tenant_at.Goals as goal

pub name_of-requires : goal.name_of-requires
name_of-requires c =
    let here = c.requires in
    subst (λ name. length name ≤ longest_name) (sym (c.name_at.ensures here.row here.later here.from)) (short_row here.earlier here.row here.later here.short here.rows)
