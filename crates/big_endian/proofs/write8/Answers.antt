-- `big_endian::write8` meets its contract: what std's `to_be_bytes` makes is `bytes_of` (BigEndian).
use Rattle.big_endian.proofs.BigEndian.{written}
use Rattle.big_endian.proofs.write8.Goals as goal

pub returns : goal.returns
returns c = cc (written 8 c.args.number)
