-- `numbers::read2` meets its contract: as `read8`, at two bytes.
use native.Mathlib.Omega.{arith}
use mathlib.Core.Path.{◌∙◌}
use Rattle.std.proofs.lemmas.Nat.{le_bytes_2}
use Rattle.numbers.proofs.LittleEndian.{read}
use Rattle.numbers.proofs.read2.Goals as goal

pub returns : goal.returns
returns c =
    let bytes = c.args.bytes.now in
    let n = c.from_le_bytes.result in
    c.from.ensures ∙ read 2 n bytes (omega arith) (le_bytes_2 bytes n c.requires (λ i. (c.type_inv.bytes i).fits) (cc))
