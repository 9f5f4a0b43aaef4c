-- `big_endian::read8` meets its contract: the bytes joined are the little-endian number of the bytes backwards, by the one law that serves every size.
use mathlib.Core.Path.{◌∙◌}
use native.Mathlib.Omega.{arith}
use Rattle.numbers.proofs.LittleEndian.{read_number}
use Rattle.big_endian.proofs.BigEndian.{backwards, backwards-length, backwards-fit, backwards-number}
use Rattle.big_endian.proofs.read8.Goals as goal

pub returns : goal.returns
returns c =
    let bytes = c.args.bytes.now in
    let known = c.type_inv.bytes in
    read_number 7 (backwards 8 bytes) (backwards-fit bytes known 8) (backwards-length 8 bytes) (omega arith) ∙ backwards-number bytes known 8 c.requires
