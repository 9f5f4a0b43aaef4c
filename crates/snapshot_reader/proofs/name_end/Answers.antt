-- `snapshot_reader::name_end` meets its contract: a row's first byte is its name's length, and that the row stands there keeps the sums in range (Rows).
use Rattle.snapshot_reader.proofs.Rows.{first-row, ends_name}
use Rattle.snapshot_reader.proofs.name_end.Goals as goal

pub bounds-bytes-at : goal.bounds-bytes-at
bounds-bytes-at c = (first-row c.requires.from).starts

pub returns : goal.returns
returns c row later h = ends_name h
