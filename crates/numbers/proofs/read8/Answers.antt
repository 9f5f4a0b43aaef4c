-- `numbers::read8` meets its contract: what std's `from_le_bytes` reads is written back as the bytes, and so is their number (LittleEndian).
use native.Mathlib.Omega.{arith}
use Rattle.std.proofs.lemmas.Nat.{le_bytes_8}
use Rattle.numbers.proofs.LittleEndian.{read}
use Rattle.numbers.proofs.read8.Goals as goal

pub returns : goal.returns
returns c =
    let bytes = c.args.bytes.now in
    let n = c.from_le_bytes.result in
    read 8 n bytes (omega arith) (le_bytes_8 bytes n c.requires (λ i. (c.type_inv.bytes i).fits) (cc))
