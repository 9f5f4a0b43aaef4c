-- `answer_writer::write_judged`: the head's front is what `write_head` has written (`head-is`), the rest of the part is the tail, and a frame has room for both (`fits-frame` of
-- AnswerWords.antt), so what `put` promises of them is what is asked.
use mathlib.Core.Path.{◌≡◌, refl, ◌∙◌, ap, ap₂, subst}
use mathlib.Core.List.{◌++◌}
use Prim.Native.Nat.{◌-◌}
use native.Mathlib.Omega.{arith}
use lib.ListN.{length, take, drop}
use Rattle.rules.specs.Frames.{line_of_bytes}
use Rattle.rules.specs.Recorder.{fitting}
use Rattle.numbers.proofs.Bytes.{all-bytes}
use Rattle.recorder.specs.Recording.{Records}
use Rattle.recorder.specs.Shapes.{kinds_of}
use Rattle.recorder.specs.AnswerWords.{tail_of}
use Rattle.recorder.proofs.OperationFrames.{head-is, head-within}
use Rattle.recorder.proofs.AnswerWords.{fits-frame, from_is}
use Rattle.recorder.proofs.answer_writer.write_judged.Goals as goal

pub put-requires : goal.put-requires
put-requires c =
    let args = c.args in
    let part = args.part.now in
    let start = c.tail_start-start in
    let writes = c.write_head-size.ensures in
    let within = head-within writes in
    let same_size = writes.size in
    let tail : take (length part - start.result) (drop start.result part) ≡ tail_of (kinds_of args.shape) part = from_is start.result part ∙ start.ensures.1 part refl in
    let fits = fits-frame args.shape args.number args.words.now part (all-bytes part c.type_inv.part) c.requires.passes (omega arith) in
    omega (arith, ap length (head-is writes), ap length tail, fits)

pub returns : goal.returns
returns c =
    let part = c.args.part.now in
    let start = c.tail_start-start in
    let tail : take (length part - start.result) (drop start.result part) ≡ tail_of (kinds_of c.args.shape) part = from_is start.result part ∙ start.ensures.1 part refl in
    subst (λ bs. Records (fitting (line_of_bytes bs) c.args.output.now) c.put.new.output c.put.result) (ap₂ (λ a b. a ++ b) (head-is c.write_head-size.ensures) tail) c.put.ensures
