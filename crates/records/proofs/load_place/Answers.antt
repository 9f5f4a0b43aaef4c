-- `records::load_place` meets its contract: the part is its row.
use Rattle.records.proofs.Rows.{span}
use Rattle.records.proofs.load_place.Goals as goal

pub returns : goal.returns
returns c = rw span at c.read_place.ensures
