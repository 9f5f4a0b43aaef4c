-- `numbers::write8` meets its contract: what std's `to_le_bytes` makes is `little_bytes` (LittleEndian).
use Rattle.numbers.proofs.LittleEndian.{written}
use Rattle.numbers.proofs.write8.Goals as goal

pub returns : goal.returns
returns c = cc (written 8 c.args.number)
