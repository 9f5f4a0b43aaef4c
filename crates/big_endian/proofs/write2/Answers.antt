-- `big_endian::write2` meets its contract: the last two of the bytes that std's `to_be_bytes` makes are `bytes_of 2` (BigEndian).
use mathlib.Core.Path.{◌∙◌, ap}
use lib.ListN.{take, drop}
use Rattle.big_endian.proofs.BigEndian.{written}
use Rattle.big_endian.proofs.write2.Goals as goal

pub returns : goal.returns
returns c = c.copy_from_slice.ensures.after ∙ ap (λ bytes. take 2 (drop 6 bytes)) c.to_be_bytes.ensures ∙ written 2 c.args.number
