-- `reads::last_version` meets its contract: what is loaded is the ledger's head.
use Rattle.reads.proofs.Totals.{version-is}
use Rattle.reads.proofs.last_version.Goals as goal

pub returns : goal.returns
returns c L room = version-is _ L room _ c.load_head-head.ensures
