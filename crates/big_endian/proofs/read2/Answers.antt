-- `big_endian::read2` meets its contract: as `read8`, at two bytes.
use native.Mathlib.Omega.{arith}
use mathlib.Core.Path.{◌∙◌}
use Rattle.std.proofs.lemmas.Nat.{be_bytes_2}
use Rattle.big_endian.proofs.BigEndian.{read}
use Rattle.big_endian.proofs.read2.Goals as goal

pub returns : goal.returns
returns c =
    let bytes = c.args.bytes.now in
    let n = c.from_be_bytes.result in
    c.from.ensures ∙ read 2 n bytes (omega arith) (be_bytes_2 bytes n c.requires (λ i. (c.type_inv.bytes i).fits) (cc))
