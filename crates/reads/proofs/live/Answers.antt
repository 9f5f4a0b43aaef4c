-- `reads::live` meets its contract: what is loaded are the ledger's counts.
use Rattle.reads.proofs.Totals.{live-is}
use Rattle.reads.proofs.live.Goals as goal

pub returns : goal.returns
returns c L room = live-is _ L room _ c.load_sizes-sizes.ensures
