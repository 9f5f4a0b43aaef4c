-- `Line` as a text: as `Bytes`, with the lines of both parts, which stand one behind the other as the line of the whole.
use mathlib.Core.Path.{◌≡◌, ◌∙◌}
use mathlib.Core.List.{List, ◌++◌}
use Prim.Native.Nat.{ℕ, ◌+◌}
use native.Mathlib.Omega.{arith}
use lib.ListN.{length, length-append}
use Rattle.rules.specs.Frames.{line_of_bytes}
use Rattle.rules.proofs.FrameBytes.{line-length, line-append}
use Rattle.recorder.proofs.Fitting.{too_short, fits, two-parts}
use Rattle.recorder.proofs.LineText.put.Goals as goal

line-size : (head tail : List ℕ) → length (line_of_bytes (head ++ tail)) ≡ length head + length head + length tail + length tail
line-size head tail = line-length (head ++ tail) ∙ omega (arith, length-append head tail)

pub returns-then-output-end : goal.returns-then-output-end
returns-then-output-end c =
    let args = c.args in
    too_short (line_of_bytes (args.head.now ++ args.tail.now)) args.output.now _ (line-size args.head.now args.tail.now) (omega arith)

pub returns : goal.returns
returns c =
    let args = c.args in
    let head = args.head.now in
    let tail = args.tail.now in
    let room = args.output.now in
    let sum : length head + length head + (length tail + length tail) ≡ length head + length head + length tail + length tail = omega arith in
    fits (line_of_bytes (head ++ tail)) room _ (line-size head tail) (omega arith)
    (two-parts (line_of_bytes head) (line_of_bytes tail) room _ _ _ _ (line-length head) (line-length tail) (omega arith) c.spell_part.ensures c.spell_part-2.ensures
    ∙ rw (sum, line-append head tail))
