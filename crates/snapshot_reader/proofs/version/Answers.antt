-- `snapshot_reader::version` meets its contract: the head's first number is the version (Header).
use mathlib.Core.Path.{◌∙◌, sym}
use native.Mathlib.Omega.{arith}
use Rattle.snapshot_reader.proofs.Header.{header, is-long}
use Rattle.snapshot_reader.proofs.version.Goals as goal

pub returns : goal.returns
returns c s e = c.read8.ensures ∙ sym (header c.args.bytes.now s e).version

pub slice_bounds-read8-end : goal.slice_bounds-read8-end
slice_bounds-read8-end c = omega (arith, is-long c.args.bytes.now c.requires)
