-- `recorder::answer_reader::read_answer_bytes`: what the table and the readers promise is joined by `answered`; where there are no values there is no answer, and nothing was stored.
use native.Mathlib.Omega.{arith}
use Rattle.std.specs.Prelude.{Some, None}
use Rattle.rules.specs.Recorder.{answer_of_bytes}
use Rattle.numbers.proofs.Bytes.{all-bytes}
use Rattle.recorder.specs.Shapes.{kinds_of}
use Rattle.recorder.proofs.Answered.{empty, absent, formless, answered, no_answer, an-answer}
use Rattle.recorder.proofs.answer_reader.read_answer_bytes.Goals as goal

pub returns-then-bytes-eq0 : goal.returns-then-bytes-eq0
returns-then-bytes-eq0 c =
    let args = c.args in
    absent (answer_of_bytes args.code args.bytes.now) args.words.now (empty args.code args.bytes.now c.if-bytes-eq0.true)

pub returns-in_default : goal.returns-in_default
returns-in_default c =
    let args = c.args in
    absent (answer_of_bytes args.code args.bytes.now) args.words.now (formless args.code args.bytes.now (omega arith) c.in_default.ensures)

pub read_carried-requires : goal.read_carried-requires
read_carried-requires c = (all-bytes c.args.bytes.now c.type_inv.bytes, omega arith)

pub returns-in_default-read_carried : goal.returns-in_default-read_carried
returns-in_default-read_carried c =
    let args = c.args in
    no_answer (answer_of_bytes args.code args.bytes.now) args.words.now
    (answered args.code args.bytes.now (omega arith) (kinds_of c.in-Some.shape) c.in-Some.ensures None c.in_default-read_carried.ensures)

pub returns : goal.returns
returns c =
    let args = c.args in
    an-answer (answer_of_bytes args.code args.bytes.now) args.words.now _
    (answered args.code args.bytes.now (omega arith) (kinds_of c.in-Some.shape) c.in-Some.ensures (Some c.in-Some-read_carried.values) c.in-Some-read_carried.ensures) c.store.ensures
