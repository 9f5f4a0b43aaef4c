-- `snapshot_reader::count` meets its contract: the head's third number is how many rows follow (Header).
use mathlib.Core.Path.{◌∙◌, sym}
use native.Mathlib.Omega.{arith}
use Rattle.snapshot_reader.proofs.Header.{header, is-long}
use Rattle.snapshot_reader.proofs.count.Goals as goal

pub returns : goal.returns
returns c s e = c.read2.ensures ∙ sym (header c.args.bytes.now s e).count

pub slice_bounds-read2-end : goal.slice_bounds-read2-end
slice_bounds-read2-end c = omega (arith, is-long c.args.bytes.now c.requires)
