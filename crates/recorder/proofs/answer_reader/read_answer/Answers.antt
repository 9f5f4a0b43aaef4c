-- `recorder::answer_reader::read_answer`: the lent bytes are too few, or the line is decoded into them, and then AnswerLine says what it comes to: less than a line, or what
-- `read_answer_bytes` has read of them.
use native.Mathlib.Omega.{arith}
use Rattle.recorder.proofs.AnswerLine.{broken, decoded}
use Rattle.recorder.proofs.answer_reader.read_answer.Goals as goal

pub returns-then-size-line : goal.returns-then-size-line
returns-then-size-line c =
    let a = c.args in
    let call = c.front_bytes-size in
    broken a.code a.line.now a.bytes.now _ (omega arith) call.ensures (omega arith) a.words.now

pub returns : goal.returns
returns c =
    let a = c.args in
    let call = c.front_bytes-size in
    decoded a.code a.line.now a.bytes.now _ (omega arith) call.ensures (omega arith) a.words.now _ c.read_answer_bytes.result c.read_answer_bytes.ensures
