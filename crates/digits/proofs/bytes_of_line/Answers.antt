-- `digits::bytes_of_line`: what `front_bytes` promises is compared with the line's length. `whole` and `refused` of Decoding.antt turn it into the bytes of the
-- whole line, or none.
use native.Mathlib.Omega.{arith}
use borrow.Author.Rules.{rules}
use Rattle.digits.proofs.Decoding.{refused, whole}
use Rattle.digits.proofs.bytes_of_line.Goals as goal

pub returns-then-size-line : goal.returns-then-size-line
returns-then-size-line c = refused c.front_bytes-size.ensures (omega arith) (search rules)

pub returns : goal.returns
returns c = whole c.front_bytes-size.ensures (omega arith)
