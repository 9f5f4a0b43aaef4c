-- `numbers::write2` meets its contract: the first two of the bytes that std's `to_le_bytes` makes are `little_bytes 2` (LittleEndian).
use mathlib.Core.Path.{◌∙◌, ap}
use lib.ListN.{take}
use Rattle.numbers.proofs.LittleEndian.{written}
use Rattle.numbers.proofs.write2.Goals as goal

pub returns : goal.returns
returns c = c.copy_from_slice.ensures.after ∙ ap (take 2) c.to_le_bytes.ensures ∙ written 2 c.args.number
