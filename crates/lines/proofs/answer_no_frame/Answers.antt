-- `lines::answer_no_frame`: the answer 23 is one byte, the rules' reply to no operation whatever is lent, and `line-written` of AnswerLines.antt makes its
-- line.
use mathlib.Core.Path.{◌≡◌, refl}
use mathlib.Core.List.{[], flat_map}
use Prim.Native.Nat.{ℕ}
use native.Mathlib.Omega.{arith}
use borrow.Author.Rules.{rules}
use lib.ListN.{length}
use Rattle.rules.specs.AnswerNumbers.{reply}
use Rattle.rules.specs.SnapshotsMigrationCertificates.{bytes_of}
use Rattle.rules.specs.Frames.{reply_bytes}
use Rattle.lines.proofs.AnswerLines.{line-written}
use Rattle.lines.proofs.answer_no_frame.Goals as goal

one_byte : (number : ℕ) → length (reply_bytes (reply number [])) ≡ 1
unfolding reply_bytes flat_map bytes_of
one_byte number = refl

pub finish-requires : goal.finish-requires
finish-requires c = omega (arith, one_byte 23, c.write_refusal-size.ensures.size, c.write_refusal-size.auto, c.if-output-lt-LONGEST_OTHER_LINE.false)

pub returns : goal.returns
returns c room l is_lent =
    let written = c.write_refusal-size in
    (search rules, line-written c.finish.ensures.end c.finish.ensures.line record { writes = written.ensures; lent = is_lent; untouched = λ _. refl })
