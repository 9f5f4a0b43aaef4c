-- `frame_reader::read`: the definition's own test on the length is the code's; behind it the bytes' operation is what `read_operation` has promised.
use mathlib.Core.Path.{◌≡◌, sym, ◌∙◌}
use mathlib.Core.List.{List}
use mathlib.Core.Option.{none}
use Prim.Native.Nat.{ℕ, ◌≤◌, ◌<◌}
use borrow.Author.Tests.{lt-ltb, le-ltb}
use lib.ListN.{length}
use Rattle.rules.specs.Frames.{longest_frame, operation_of, operation_of_frame}
use Rattle.frame_reader.proofs.read.Goals as goal

module _ (bs : List ℕ) where
  too_long : longest_frame < length bs → operation_of_frame bs ≡ none
  unfolding operation_of_frame
  too_long long = rw (lt-ltb longest_frame (length bs) long)

  no_longer : length bs ≤ longest_frame → operation_of_frame bs ≡ operation_of bs
  unfolding operation_of_frame
  no_longer short = rw (le-ltb longest_frame (length bs) short)

pub returns-then-bytes-gt-LONGEST_FRAME : goal.returns-then-bytes-gt-LONGEST_FRAME
returns-then-bytes-gt-LONGEST_FRAME c = record { operation = sym (too_long _ c.if-bytes-gt-LONGEST_FRAME.true); parts = tt }

pub returns : goal.returns
returns c = record { operation = c.read_operation.ensures.operation ∙ sym (no_longer _ c.if-bytes-gt-LONGEST_FRAME.false); parts = c.read_operation.ensures.parts }
