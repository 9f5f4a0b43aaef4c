-- `zatovola::zatovola_answer`: the frame read is the bytes' operation, so `room_for` is its room, and the test tells which promise is due. What `is_sound`
-- decides is what is known of the memory (`found` of lines).
use mathlib.Core.Path.{refl, ap, subst, ◌∙◌}
use native.Mathlib.Omega.{arith}
use Rattle.frames.specs.Answering.{AnswersOperation, room_for}
use Rattle.lines.proofs.AnswerLines.{found}
use Rattle.zatovola.proofs.zatovola_answer.Goals as goal

pub returns-then-output-room_for : goal.returns-then-output-room_for
returns-then-output-room_for c l is_lent =
    let read = c.read-read.ensures in
    let needed = c.room_for.ensures c.args.frame.now read.parts ∙ ap room_for read.operation in
    record { answered = λ room. absurd (omega (arith, room, needed)); too_short = λ _. (refl, refl, refl) }

pub answer-requires : goal.answer-requires
answer-requires c =
    let read = c.read-read.ensures in
    let needed = c.room_for.ensures c.args.frame.now read.parts in
    (found c.is_sound-known.result c.is_sound-known.ensures, (read.parts, omega (arith, needed)))

pub returns : goal.returns
returns c l is_lent =
    let read = c.read-read.ensures in
    let needed = c.room_for.ensures c.args.frame.now read.parts ∙ ap room_for read.operation in
    let a = c.args in
    record {
      answered = λ _. subst (λ o. AnswersOperation o l a.room.now c.answer.new.room a.output.now c.answer.new.output c.answer.result) read.operation (c.answer.ensures l is_lent);
      too_short = λ short. absurd (omega (arith, short, needed));
    }
