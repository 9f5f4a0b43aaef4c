-- `Bytes` as a text: nothing is written where both parts do not fit (`too_short`); else the head stands at the front, the tail behind it (`two-parts`).
use mathlib.Core.Path.{refl}
use mathlib.Core.List.{◌++◌}
use native.Mathlib.Omega.{arith}
use lib.ListN.{length-append}
use Rattle.recorder.proofs.Fitting.{too_short, fits, two-parts}
use Rattle.recorder.proofs.BytesText.put.Goals as goal

pub returns-then-output-end : goal.returns-then-output-end
returns-then-output-end c =
    let args = c.args in
    too_short (args.head.now ++ args.tail.now) args.output.now _ (length-append args.head.now args.tail.now) (omega arith)

pub returns : goal.returns
returns c =
    let args = c.args in
    fits (args.head.now ++ args.tail.now) args.output.now _ (length-append args.head.now args.tail.now) (omega arith)
    (two-parts args.head.now args.tail.now args.output.now _ _ _ _ refl refl (omega arith) c.copy.ensures c.copy-2.ensures)
