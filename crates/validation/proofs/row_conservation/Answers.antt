-- `validation::row_conservation` meets its contract: what is read is the row, and `balance_of` judges its amounts.
use mathlib.Core.Path.{ap, ◌∙◌}
use Rattle.rules.specs.SnapshotsMigrationCertificates.{row_conservation}
use Rattle.validation.proofs.Standing.{read-is-row}
use Rattle.validation.proofs.row_conservation.Goals as goal

pub returns : goal.returns
returns c here = c.balance_of.ensures here.row.name ∙ ap row_conservation (read-is-row (c.read_row-row.ensures here.row here.later here.from))
